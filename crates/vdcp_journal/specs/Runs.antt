-- The runs of a journal, one after another. Each has a controller of its own, which begins with an event of the list.
use Rattle.std.specs.Prelude.{ℕ, ◌+◌, Bool, true, false, List, [], ◌∷◌, ◌++◌, Option, None, Some, length}
use Rattle.vdcp_journal.specs.declared.row.Note.{Note}
use Rattle.vdcp_journal.specs.declared.row.Note.TheVariants as note
use Rattle.vdcp_journal.specs.declared.row.Row.{Row}

pub record Run : Type 0 where
  -- the event that its controller begins with
  pub from : ℕ
  -- where its rows begin among those of the journal
  pub begin : ℕ
  pub rows : List Row
  -- its operator left it, and another one began
  pub left : Bool

-- the event with which a run begins after this note, if one does
abbrev pub begins_at : Note → Option ℕ
begins_at (note.From k) = Some k
begins_at (note.Left k) = Some k
begins_at n = None

-- the operator left the run that ends before this note
abbrev pub leaves : Note → Bool
leaves (note.Left k) = true
leaves n = false

-- the run that ends before a row, if one does
abbrev pub ended_runs : Option ℕ → (left : Bool) → Run → List Run
ended_runs None left run = []
ended_runs (Some k) left run = record run { left = left } ∷ []

-- the run after a row: the one before it goes on, with that row, or another one begins
abbrev pub run_after : Option ℕ → Row → Run → Run
run_after None row run = record run { rows = run.rows ++ row ∷ [] }
run_after (Some k) row run = record { from = k; begin = run.begin + length run.rows + 1; rows = []; left = false }

-- this run as it goes on with these rows, and those after it
abbrev pub runs_after : Run → List Row → List Run
runs_after run [] = run ∷ []
runs_after run (row ∷ rows) =
    ended_runs (begins_at row.note) (leaves row.note) run ++ runs_after (run_after (begins_at row.note) row run) rows

-- the run that goes on after them
abbrev pub last_after : Run → List Row → Run
last_after run [] = run
last_after run (row ∷ rows) = last_after (run_after (begins_at row.note) row run) rows

-- the runs before that
abbrev pub ended_after : Run → List Row → List Run
ended_after run [] = []
ended_after run (row ∷ rows) =
    ended_runs (begins_at row.note) (leaves row.note) run ++ ended_after (run_after (begins_at row.note) row run) rows

-- the first run begins with event 0
abbrev pub first_run : Run
first_run = record { from = 0; begin = 0; rows = []; left = false }

-- the runs of a journal's rows; the last of them; and those before that
abbrev pub runs_of : List Row → List Run
runs_of rows = runs_after first_run rows

abbrev pub last_run : List Row → Run
last_run rows = last_after first_run rows

abbrev pub ended_in : List Row → List Run
ended_in rows = ended_after first_run rows
