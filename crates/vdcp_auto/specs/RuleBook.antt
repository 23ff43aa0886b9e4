-- Which command may follow a log. A rule is decided by what stands where in the log alone.
use Rattle.std.specs.Prelude.{◌≡◌, ℕ, false, IsTrue, ◌||◌, ◌⊎◌, List, ◌∷◌, ◌++◌, length, slice_get, IsSomeAnd}
use Rattle.std.specs.List.{list_any}
use Rattle.vdcp_value.specs.declared.part.Item.{Item}
use Rattle.vdcp_words.specs.declared.command.Command.{Command}
use Rattle.vdcp_words.specs.declared.command.Command.TheVariants as command
use Rattle.vdcp_auto.specs.declared.exchange.Exchange.{Exchange}
use Rattle.vdcp_auto.specs.declared.phase.Mode.{Mode}
use Rattle.vdcp_auto.specs.declared.phase.Mode.TheVariants.{Plain, Confirming}
use Rattle.vdcp_auto.specs.Commands.{cue_of, is_stop_command, is_close_command}
use Rattle.vdcp_auto.specs.Log.{is_acked, is_cue, is_play, is_stop, is_close, is_grant, is_done_status}
use Rattle.vdcp_auto.specs.Settled.{has_open_play, settled}

-- the command cues the list's item at this place
abbrev pub CuesItemAt : List Item → ℕ → Command → Type 0
CuesItemAt list place c = IsSomeAnd (slice_get list place) (λ item. c ≡ cue_of item)

-- the cue is known to be executed, as far as the mode asks for it
abbrev pub IsTaken : Mode → Exchange → Type 0
IsTaken Plain cue = IsTrue (is_acked cue)
IsTaken Confirming cue = Unit {0}

-- the next item that isn't settled may be cued, unless a PLAY is open
pub record MayCue (mode : Mode) (list : List Item) (log : List Exchange) (c : Command) : Type 0 where
  pub cues_next : CuesItemAt list (settled mode log) c
  pub no_open_play : has_open_play log ≡ false

-- the last cue that was sent is the next item's, and it was taken; since then nothing has settled, a
-- done status has come, and after that no PLAY was sent
pub record MayPlay (mode : Mode) (list : List Item) (log : List Exchange) : Type 0 where
  pub before : List Exchange
  pub cue : Exchange
  pub between : List Exchange
  pub status : Exchange
  pub after : List Exchange
  pub in_order : log ≡ before ++ (cue ∷ (between ++ (status ∷ after)))
  pub cues_next : CuesItemAt list (settled mode log) cue.command
  pub taken : IsTaken mode cue
  pub last_cue : list_any is_cue (between ++ (status ∷ after)) ≡ false
  pub none_settles : settled mode before ≡ settled mode log
  pub done : IsTrue (is_done_status status)
  pub no_play : list_any is_play after ≡ false

-- a STOP stands before, or every item is settled and no PLAY is open
abbrev pub MayClose : Mode → List Item → List Exchange → Type 0
MayClose mode list log =
    IsTrue (list_any is_stop log) ⊎ ((settled mode log ≡ length list) × (has_open_play log ≡ false))

-- the rule of each command
abbrev pub Rule : Mode → List Item → List Exchange → Command → Type 0
Rule mode list log (command.PlayCue id) = MayCue mode list log (command.PlayCue id)
Rule mode list log (command.CueData id start duration) = MayCue mode list log (command.CueData id start duration)
Rule mode list log command.Play = MayPlay mode list log
Rule mode list log (command.Select port) = IsTrue (list_any is_grant log)
Rule mode list log (command.Close port) = MayClose mode list log
Rule mode list log command.Stop = Unit {0}
Rule mode list log (command.Open port lock) = Unit {0}
Rule mode list log (command.Status groups) = Unit {0}
Rule mode list log command.ActiveId = Unit {0}
Rule mode list log (command.IdRequest id) = Unit {0}
Rule mode list log (command.IdSize id) = Unit {0}

-- the rule book: for a list and a log, the command may be sent next
pub record May (mode : Mode) (list : List Item) (log : List Exchange) (c : Command) : Type 0 where
  pub rule : Rule mode list log c
  -- once a STOP was sent: STOP or CLOSE
  pub after_stop : IsTrue (list_any is_stop log) → IsTrue (is_stop_command c || is_close_command c)
  -- once a CLOSE was sent: CLOSE
  pub after_close : IsTrue (list_any is_close log) → IsTrue (is_close_command c)

-- each command of the log may follow what stands before it
abbrev pub KeepsRules : Mode → List Item → List Exchange → Type 0
KeepsRules mode list log =
    (before : List Exchange) (e : Exchange) (after : List Exchange)
    → log ≡ before ++ (e ∷ after) → May mode list before e.command
