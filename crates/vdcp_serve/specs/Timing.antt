-- When a frame passes on a line, and when the line is given up.
use Rattle.std.specs.Prelude.{ℕ, ◌≡◌, ◌≤◌, ◌+◌, ◌-◌, ◌*◌, ◌^◌, Bool, true, false, Option, None, Some, Result, Ok, Err, min, nat_le, nat_lt, if◌then◌else◌, zero, suc}
use Rattle.vdcp_drive.specs.declared.line.DriveFault.{DriveFault}
use Rattle.vdcp_drive.specs.declared.server_hooks.Due.{Due}
use Rattle.vdcp_drive.specs.declared.server_hooks.Due.TheVariants as due
use Rattle.vdcp_drive.specs.declared.server_hooks.Turned.{Turned}
use Rattle.vdcp_drive.specs.declared.server_hooks.Turned.TheVariants as turns
use Rattle.vdcp_serve.specs.declared.frame_clock.FrameClock.{FrameClock}
use Rattle.vdcp_serve.specs.declared.serve.ServeSettings.{ServeSettings}
use Rattle.vdcp_serve.specs.declared.timing.Patience.{Patience}
use Rattle.vdcp_serve.specs.declared.timing.Timing.{Timing}
use Rattle.vdcp_value.specs.Clock.{frames_after}
use Rattle.vdcp_wire.specs.declared.wire.Came.{Came}
use Rattle.vdcp_wire.specs.declared.wire.Came.TheVariants as came

-- Frames by the clock.

-- at this time one more is over than have passed
abbrev pub is_frame_over : ℕ → FrameClock → Bool
is_frame_over now c = nat_lt c.frames (frames_after c.rate (now - c.began))

abbrev pub is_one_over : ℕ → Option FrameClock → Bool
is_one_over now None = false
is_one_over now (Some c) = is_frame_over now c

-- one more has passed, or none
abbrev pub counted : Bool → FrameClock → FrameClock
counted true c = record c { frames = c.frames + 1 }
counted false c = c

-- The patience with a line.

-- nothing has come for more seconds than it may
abbrev pub is_longer : Option ℕ → ℕ → Bool
is_longer None nanoseconds = false
is_longer (Some seconds) nanoseconds = nat_le (seconds * 1000000000) nanoseconds

abbrev pub is_too_long : ℕ → Patience → Bool
is_too_long time p = is_longer p.seconds (time - p.heard)

-- with the next line, which waited if the one before it was given up
abbrev pub with_next_line : Option ℕ → ℕ → Patience → Patience
with_next_line seconds now p =
    record { seconds = seconds; heard = if p.gives_up then p.heard else now; gives_up = false }

-- after a listen: in vain, the line is given up if nothing had come for too long when it began
abbrev pub after_listen : Came → (began ended : ℕ) → Patience → Patience
after_listen (came.Bytes zero) began ended p = record p { gives_up = is_too_long began p }
after_listen (came.Bytes (suc n)) began ended p = record p { heard = ended }
after_listen came.Silence began ended p = record p { gives_up = is_too_long began p }
after_listen came.Closed began ended p = p

abbrev pub after_turn : Result Turned DriveFault → (began ended : ℕ) → Patience → Patience
after_turn (Ok (turns.Listen what)) began ended p = after_listen what began ended p
after_turn (Ok turns.Frame) began ended p = p
after_turn (Err fault) began ended p = p

-- Both.

-- the frames of a line that begins now, if they pass by the clock
abbrev pub frames_of : ServeSettings → ℕ → Option FrameClock
frames_of s now = if s.by_clock then Some (record { rate = s.rate; began = now; frames = 0 }) else None

-- a line begins
pub record LineBegins {R : Type 0} (settings : ServeSettings) (before begun : Timing R) : Type 0 where
  pub later : before.stopwatch.now ≤ begun.stopwatch.now
  pub frames : begun.frames ≡ frames_of settings begun.stopwatch.now
  pub patience : begun.patience ≡ with_next_line settings.idle begun.stopwatch.now before.patience
  pub turns : begun.turns ≡ 0

-- no line was waiting while the last one was idle
abbrev pub begun_anew : {R : Type 0} → Timing R → Timing R
begun_anew t = record t { patience = record t.patience { gives_up = false } }

-- what is due
abbrev pub due_at : ℕ → Option FrameClock → Patience → Due
due_at now frames p = if p.gives_up then due.GiveUp else (if is_one_over now frames then due.Frame else due.Listen)

abbrev pub frames_by : Due → Option FrameClock → Option FrameClock
frames_by due.Frame (Some c) = Some (counted true c)
frames_by _ frames = frames

-- it was asked what is due: a turn more
pub record WasAsked {R : Type 0} (answer : Due) (old new : Timing R) : Type 0 where
  pub later : old.stopwatch.now ≤ new.stopwatch.now
  pub is_due : answer ≡ due_at new.stopwatch.now old.frames old.patience
  pub frames : new.frames ≡ frames_by answer old.frames
  pub patience : new.patience ≡ old.patience
  pub turns : new.turns ≡ min (old.turns + 1) (2 ^ 64 - 1)

-- and told what the turn was
pub record WasTold {R : Type 0} (turned : Result Turned DriveFault) (old new : Timing R) : Type 0 where
  pub later : old.stopwatch.now ≤ new.stopwatch.now
  pub frames : new.frames ≡ old.frames
  pub patience : new.patience ≡ after_turn turned old.stopwatch.now new.stopwatch.now old.patience
  pub turns : new.turns ≡ old.turns
