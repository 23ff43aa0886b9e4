-- A clip that is cut short: another goes to air while it plays.
use Rattle.std.specs.Prelude.{◌≡◌, ◌<◌, Bool, true, false, IsSome, Some, List, ◌∷◌, length}
use Rattle.std.specs.List.{list_any}
use Rattle.vdcp_words.specs.declared.command.Command.TheVariants.{Play}
use Rattle.vdcp_auto.specs.Turn.{given}
use Rattle.vdcp_world.specs.Channel.{Channel, channel_to, after_event, after_events}
use Rattle.vdcp_world.specs.declared.event.Event.{Event}
use Rattle.vdcp_world.specs.declared.event.Event.TheVariants.{Tick, Take}

abbrev pub is_take : Event → Bool
is_take Take = true
is_take _ = false

-- something plays, and the event puts another clip on air
pub record Cuts (c : Channel) (e : Event) : Type 0 where
  pub plays : IsSome c.port.state.playing
  pub airs : length c.aired < length (after_event c e).aired

-- of these events the operator takes in none, and a clip is cut short by the one after them
pub record CutsUnasked (c : Channel) (events : List Event) (e : Event) : Type 0 where
  pub no_take : list_any is_take events ≡ false
  pub cuts : Cuts (after_events c events) e

-- No clip is cut short without a take.
pub record NoCut (c : Channel) : Type 0 where
  -- from a new controller on
  pub never_taken : c ≡ channel_to c.plan c.port → (events : List Event) (e : Event) → ¬ CutsUnasked c events e
  -- and from the tick on that gives a PLAY, once that PLAY, or the same sent again, has put its clip on air
  pub not_since : given c.plan c.state ≡ Some Play
      → (events : List Event) (e : Event) → length c.aired < length (after_events c (Tick ∷ events)).aired
      → ¬ CutsUnasked c (Tick ∷ events) e
