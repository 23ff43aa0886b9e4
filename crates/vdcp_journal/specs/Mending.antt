-- What a killed run may have sent and heard since its journal's last row, and what is written of that before anything goes on.
use Rattle.std.specs.Prelude.{Bool, true, false, List, [], ◌∷◌, ◌++◌, Option, None, Some, bit_and, if◌then◌else◌, map}
use Rattle.vdcp_auto.specs.Plan.{Plan}
use Rattle.vdcp_auto.specs.Replies.{is_done}
use Rattle.vdcp_auto.specs.State.{Stage, Ready, Awaiting, State}
use Rattle.vdcp_auto.specs.Turn.{awaited, given, outcome_of, start}
use Rattle.vdcp_auto.specs.declared.exchange.Heard.{Heard}
use Rattle.vdcp_auto.specs.declared.exchange.Heard.TheVariants as heard
use Rattle.vdcp_auto.specs.declared.outcome.Outcome.{Outcome}
use Rattle.vdcp_auto.specs.declared.outcome.Outcome.TheVariants as outcomes
use Rattle.vdcp_auto.specs.declared.phase.Phase.TheVariants as phase
use Rattle.vdcp_journal.specs.Resume.{after_call_if, after_rows, call_of, timed_out}
use Rattle.vdcp_journal.specs.Thinned.{heard_last, notes_in}
use Rattle.vdcp_journal.specs.declared.moment.Moment.{Moment}
use Rattle.vdcp_journal.specs.declared.row.Note.{Note}
use Rattle.vdcp_journal.specs.declared.row.Note.TheVariants as note
use Rattle.vdcp_journal.specs.declared.row.Row.{Row}
use Rattle.vdcp_words.specs.declared.command.Command.{Command}
use Rattle.vdcp_words.specs.declared.command.Command.TheVariants as command
use Rattle.vdcp_words.specs.declared.reply.Reply.TheVariants as reply

-- ---- what may have gone out without a row

-- the state after which an announced PLAY goes out, if the cue is done by what was heard last: that, but that nothing plays
abbrev pub free_state : Option Heard → Option Heard
free_state (Some (heard.Reply (reply.State groups (Some state)))) =
    if is_done (reply.State groups (Some state)) then Some (heard.Reply (reply.State groups (Some (bit_and state 0xFB))))
    else None
free_state heard = None

-- if the controller waits for the clip before to end
abbrev pub announced_state : Option Heard → Stage → Option Heard
announced_state heard (Ready (phase.Wait k)) = free_state heard
announced_state heard (Awaiting (phase.Wait k)) = free_state heard
announced_state heard stage = None

-- by the command that is open, the one that is given next, and that state: what may have been sent and heard since the rows
abbrev pub unkept_notes : (asked next : Option Command) → Option Heard → List Note
unkept_notes (Some asks) next (Some state) = note.Heard state ∷ note.Sent command.Play ∷ []
unkept_notes (Some asks) next None = []
unkept_notes None (Some (command.Status groups)) (Some state) =
    note.Sent (command.Status groups) ∷ note.Heard state ∷ note.Sent command.Play ∷ []
unkept_notes None (Some (command.Status groups)) None = note.Sent (command.Status groups) ∷ []
unkept_notes None (Some command.Play) announced = note.Sent command.Play ∷ []
unkept_notes None next announced = []

abbrev pub unkept_at : Plan → State → Option Heard → List Note
unkept_at plan state heard = unkept_notes (awaited plan state) (given plan state) (announced_state heard state.stage)

-- ---- a loss that no row says

-- what the last of these rows notes, if there is one
abbrev pub last_note : List Row → Option Note
last_note [] = None
last_note (row ∷ []) = Some row.note
last_note (row ∷ next ∷ rows) = last_note (next ∷ rows)

-- a journal's last row says how the controller ended
abbrev pub is_end : Option Note → Bool
is_end (Some (note.End outcome)) = true
is_end _ = false

abbrev pub after_notes : Plan → State → List Note → State
after_notes plan state [] = state
after_notes plan state (n ∷ notes) = after_notes plan (after_call_if plan (call_of n) state) notes

-- the journal's last row says how the controller ended, and nothing comes behind it
abbrev pub is_said : List Note → Option Note → Bool
is_said [] last = is_end last
is_said (n ∷ notes) last = false

-- if the run was lost that is said, and before it that nothing came for the command that is open
abbrev pub loss_notes : Option Outcome → (said : Bool) → (asked : Option Command) → List Note
loss_notes (Some outcomes.Lost) false None = note.End outcomes.Lost ∷ []
loss_notes (Some outcomes.Lost) false (Some asks) = note.Silence ∷ note.End outcomes.Lost ∷ []
loss_notes outcome said asked = []

abbrev pub loss_at : Plan → State → (said : Bool) → List Note
loss_at plan state said = loss_notes (outcome_of (timed_out plan state).stage) said (awaited plan state)

-- ---- what is written

-- behind rows after which the controller of the last run stands so, the journal's last note is this, and that was heard last
abbrev pub mended_at : Plan → State → Option Note → Option Heard → List Note
mended_at plan state last heard = unkept_at plan state heard
    ++ loss_at plan (after_notes plan state (unkept_at plan state heard)) (is_said (unkept_at plan state heard) last)

-- behind all rows of a journal, of whose last run these are
abbrev pub mended : Plan → (all rows : List Row) → List Note
mended plan all rows = mended_at plan (after_rows plan start rows) (last_note all) (heard_last (notes_in all))

abbrev pub rows_at : Moment → List Note → List Row
rows_at time notes = map (λ n. record { time = time; note = n }) notes
