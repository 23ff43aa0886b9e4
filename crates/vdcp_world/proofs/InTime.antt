-- A line in time on which nothing is lost: each exchange leads on, or its state says *not yet*.
use Rattle.std.proofs.Common.{ℕ, ◌≡◌, ◌⊎◌, inl, inr, false, All, List, [], ◌∷◌, refl, sym, subst}
use Rattle.std.proofs.lemmas.List.Elements.{All-head, All-tail}
use Rattle.std.specs.Prelude.{Option, None, Some}
use Rattle.vdcp_words.specs.declared.command.Command.{Command}
use Rattle.vdcp_port.specs.Clock.{ClockedPort}
use Rattle.vdcp_auto.specs.Heard.{heard_in}
use Rattle.vdcp_auto.specs.Plan.{Plan}
use Rattle.vdcp_auto.specs.State.{Stage, Ready, Awaiting, Ended, State}
use Rattle.vdcp_auto.specs.Table.{command_in}
use Rattle.vdcp_auto.specs.Turn.{given, given_in, is_awaiting, phase_to_send, tick_in, ticked}
use Rattle.vdcp_world.specs.Channel.{Channel, channel_to, after_event, after_events, answered, down_behind, state_hearing, state_waiting, up_behind}
use Rattle.vdcp_world.specs.InTime.{HasOneWay, LosesNone}
use Rattle.vdcp_world.specs.declared.event.Event.{Event}
use Rattle.vdcp_world.specs.declared.event.Event.TheVariants as event

-- ---- the line

some_byte : {byte : ℕ} {bytes : List ℕ} → byte ∷ bytes ≡ [] → ⊥
some_byte e = cc

abbrev LineAt : Stage → List ℕ → List ℕ → Type 0
LineAt (Awaiting q) down up = (down ≡ []) ⊎ (up ≡ [])
LineAt _ down up = (down ≡ []) × (up ≡ [])

line_free : (stage : Stage) → LineAt stage [] []
line_free (Awaiting q) = inl refl
line_free (Ready q) = (refl, refl)
line_free (Ended outcome) = (refl, refl)

line_ticked : (plan : Plan) (state : State) (unit : ℕ) (down up : List ℕ) → LineAt state.stage down up
    → LineAt (ticked state).stage (down_behind unit (given plan state) down) (up_behind (given plan state) up)
line_ticked plan state unit down up line = by state.stage line
  where
    still : (g : Option Command) → up ≡ [] → up_behind g up ≡ []
    still None e = e
    still (Some c) e = refl

    by : (stage : Stage) → LineAt stage down up → LineAt (tick_in stage state).stage
        (down_behind unit (given_in plan state.stop stage) down) (up_behind (given_in plan state.stop stage) up)
    by (Ready q) h = inr (still (command_in plan.list plan.port (phase_to_send state.stop q)) h.1)
    by _ h = line

line_down : (port : ClockedPort) (stage : Stage) (down up : List ℕ) → LineAt stage down up
    → LineAt stage [] (answered port down up)
line_down port (Awaiting q) down up h = inl refl
line_down port (Ready q) [] up h = (refl, h.1)
line_down port (Ready q) (byte ∷ bytes) up h = absurd (some_byte h.0)
line_down port (Ended outcome) [] up h = (refl, h.1)
line_down port (Ended outcome) (byte ∷ bytes) up h = absurd (some_byte h.0)

line_up : (plan : Plan) (state : State) (unit : ℕ) (down up : List ℕ) → LineAt state.stage down up
    → LineAt (state_hearing plan (heard_in unit up) state).stage down []
line_up plan state unit [] up line = line_free _
line_up plan state unit (byte ∷ bytes) up line = by state.stage line
  where
    none : up ≡ [] → LineAt state.stage (byte ∷ bytes) up
        → LineAt (state_hearing plan (heard_in unit up) state).stage (byte ∷ bytes) []
    none e h = subst (λ (u : List ℕ). LineAt (state_hearing plan (heard_in unit u) state).stage (byte ∷ bytes) []) (sym e)
        (subst (LineAt state.stage (byte ∷ bytes)) e h)

    by : (stage : Stage) → LineAt stage (byte ∷ bytes) up
        → LineAt (state_hearing plan (heard_in unit up) state).stage (byte ∷ bytes) []
    by (Awaiting q) (inl some) = absurd (some_byte some)
    by (Awaiting q) (inr e) = none e line
    by (Ready q) h = absurd (some_byte h.0)
    by (Ended outcome) h = absurd (some_byte h.0)

line_waits : (plan : Plan) (state : State) (down up : List ℕ) → LineAt state.stage down up
    → LineAt (state_waiting plan down up state).stage down up
line_waits plan state [] [] line = line_free _
line_waits plan state [] (byte ∷ up) line = line
line_waits plan state (byte ∷ down) up line = line

line_event : (c : Channel) (e : Event) → LosesNone e → LineAt c.state.stage c.down c.up
    → LineAt (after_event c e).state.stage (after_event c e).down (after_event c e).up
line_event c event.Tick none line = line_ticked c.plan c.state c.port.state.unit c.down c.up line
line_event c event.Down none line = line_down c.port c.state.stage c.down c.up line
line_event c event.Up none line = line_up c.plan c.state c.port.state.unit c.down c.up line
line_event c event.Timeout none line = line_waits c.plan c.state c.down c.up line
line_event c event.DownCopy none line = absurd none
line_event c event.UpCopy none line = absurd none
line_event c event.LoseDown none line = absurd none
line_event c event.LoseUp none line = absurd none
line_event c (event.AlterDown bytes) none line = absurd none
line_event c (event.AlterUp bytes) none line = absurd none
line_event c event.StrayAck none line = absurd none
line_event c (event.StrayNak byte) none line = absurd none
line_event c _ none line = line

line_events : (c : Channel) (es : List Event) → All LosesNone es → LineAt c.state.stage c.down c.up
    → LineAt (after_events c es).state.stage (after_events c es).down (after_events c es).up
line_events c [] none line = line
line_events c (e ∷ es) none line =
    line_events (after_event c e) es (All-tail LosesNone e es none) (line_event c e (All-head LosesNone e es none) line)

line_one : (c : Channel) → LineAt c.state.stage c.down c.up → HasOneWay c
line_one c line = record { one = one c.state.stage line; rests = rests c.state.stage line }
  where
    one : (stage : Stage) → LineAt stage c.down c.up → (c.down ≡ []) ⊎ (c.up ≡ [])
    one (Awaiting q) h = h
    one (Ready q) h = inl h.0
    one (Ended outcome) h = inl h.0

    rests : (stage : Stage) → LineAt stage c.down c.up → is_awaiting stage ≡ false → (c.down ≡ []) × (c.up ≡ [])
    rests (Awaiting q) h e = cc
    rests (Ready q) h e = h
    rests (Ended outcome) h e = h

pub has_one_way : (plan : Plan) (port : ClockedPort) (es : List Event) → All LosesNone es
    → HasOneWay (after_events (channel_to plan port) es)
has_one_way plan port es none = line_one _ (line_events (channel_to plan port) es none (refl, refl))
