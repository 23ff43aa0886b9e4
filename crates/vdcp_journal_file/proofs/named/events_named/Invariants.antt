-- A row can be asked for.
use Rattle.vdcp_journal.specs.Journals.{IsReading}
use Rattle.vdcp_journal_file.proofs.named.events_named.Given as goal

abbrev pub invariant-loop-read : goal.invariant-loop-read
invariant-loop-read g l = IsReading l.rows
