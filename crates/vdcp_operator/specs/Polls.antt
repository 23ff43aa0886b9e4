-- How soon the state is asked again.
use Rattle.std.specs.Prelude.{ℕ, ◌≡◌, ◌<◌, ◌≤◌, ◌+◌, ◌-◌, ◌^◌, min, Option, Some}
use Rattle.vdcp_operator.specs.declared.polling.Polling.{Polling}
use Rattle.vdcp_words.specs.declared.command.Command.{Command}
use Rattle.vdcp_words.specs.declared.command.Command.TheVariants as command

-- a STATUS goes out once it is due, by the run's own stopwatch, which a sleep sets forward
abbrev pub IsDue : Option Command → (due now : ℕ) → Type 0
IsDue (Some (command.Status groups)) due now = due ≤ now
IsDue _ due now = Unit {0}

-- and the next one is due that long after it
abbrev pub due_after : Option Command → (least due now : ℕ) → ℕ
due_after (Some (command.Status groups)) least due now = min (now + least) (2 ^ 64 - 1)
due_after _ least due now = due

-- this command goes out, or none: a STATUS once it is due. The stopwatch never goes back; and where no time has to pass it
-- isn't read, and nothing is waited
pub record Paces {R : Type 0} (command : Option Command) (old new : Polling R) : Type 0 where
  pub waits : 0 < old.least → IsDue command old.due new.stopwatch.now
  pub due : 0 < old.least → new.due ≡ due_after command old.least old.due new.stopwatch.now
  pub least : new.least ≡ old.least
  pub later : old.stopwatch.now ≤ new.stopwatch.now
  pub unpaced : old.least ≡ 0 → old.due ≡ 0 → new ≡ old
