-- The runs of a journal, row by row.
use Rattle.std.proofs.Common.{◌≡◌, ℕ, ◌+◌, List, [], ◌∷◌, ◌++◌, length, length-append, refl, sym, ap, ◌∙◌, append_assoc, arith}
use Rattle.std.proofs.lemmas.List.{append-nil}
use Rattle.std.specs.Prelude.{false, Option, None, Some}
use Rattle.vdcp_journal.specs.Runs.{Run, begins_at, ended_after, ended_runs, last_after, leaves, run_after, runs_after}
use Rattle.vdcp_journal.specs.declared.row.Row.{Row}

pub all_runs : (run : Run) (rows : List Row) → runs_after run rows ≡ ended_after run rows ++ last_after run rows ∷ []
all_runs run [] = refl
all_runs run (row ∷ rows) =
    let next : Run = run_after (begins_at row.note) row run in
    let ended : List Run = ended_runs (begins_at row.note) (leaves row.note) run in
    ap (λ (rs : List Run). ended ++ rs) (all_runs next rows)
    ∙ sym (append_assoc ended (ended_after next rows) (last_after next rows ∷ []))

pub last_more : (run : Run) (rows : List Row) (row : Row)
    → last_after run (rows ++ row ∷ []) ≡ run_after (begins_at row.note) row (last_after run rows)
last_more run [] row = refl
last_more run (first ∷ rows) row = last_more (run_after (begins_at first.note) first run) rows row

pub ended_more : (run : Run) (rows : List Row) (row : Row)
    → ended_after run (rows ++ row ∷ []) ≡ ended_after run rows ++ ended_runs (begins_at row.note) (leaves row.note) (last_after run rows)
ended_more run [] row = append-nil (ended_runs (begins_at row.note) (leaves row.note) run)
ended_more run (first ∷ rows) row =
    let next : Run = run_after (begins_at first.note) first run in
    let ended : List Run = ended_runs (begins_at first.note) (leaves first.note) run in
    ap (λ (rs : List Run). ended ++ rs) (ended_more next rows row)
    ∙ sym (append_assoc ended (ended_after next rows) (ended_runs (begins_at row.note) (leaves row.note) (last_after next rows)))

-- how many rows there are with those before the last run
counted_by : (run : Run) (row : Row) (begins : Option ℕ) (more : ℕ)
    → (run_after begins row run).begin + length (run_after begins row run).rows + more
    ≡ run.begin + length run.rows + (more + 1)
counted_by run row None more = omega (arith, length-append run.rows (row ∷ []))
counted_by run row (Some event) more = omega arith

pub counted : (run : Run) (rows : List Row)
    → (last_after run rows).begin + length (last_after run rows).rows ≡ run.begin + length run.rows + length rows
counted run [] = omega arith
counted run (row ∷ rows) =
    let next : Run = run_after (begins_at row.note) row run in
    omega (arith, counted next rows, counted_by run row (begins_at row.note) (length rows))

-- nobody has left the last run
stays_by : (run : Run) (row : Row) (begins : Option ℕ) → run.left ≡ false → (run_after begins row run).left ≡ false
stays_by run row None is = is
stays_by run row (Some event) is = refl

pub stays : (run : Run) (rows : List Row) → run.left ≡ false → (last_after run rows).left ≡ false
stays run [] is = is
stays run (row ∷ rows) is =
    stays (run_after (begins_at row.note) row run) rows (stays_by run row (begins_at row.note) is)
