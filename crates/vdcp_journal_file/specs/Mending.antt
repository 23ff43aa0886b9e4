-- What becomes of the file of a journal in which a killed run left something undone.
use Rattle.std.specs.Io.KnownBytes.{Appends}
use Rattle.std.specs.Prelude.{◌≡◌, [], IfSome, option_map, take}
use Rattle.vdcp_journal.specs.Journals.{IsJournal, Journal}
use Rattle.vdcp_journal.specs.Mending.{mended, rows_at}
use Rattle.vdcp_journal.specs.Reading.{whole_lines}
use Rattle.vdcp_journal.specs.Rows.{fields_text, heading_fields, rows_text}
use Rattle.vdcp_journal.specs.Runs.{Run}
use Rattle.vdcp_journal.specs.Times.{moment_text, no_clock}
use Rattle.vdcp_journal.specs.declared.moment.Moment.{Moment}
use Rattle.vdcp_journal.specs.declared.row.Heading.{Heading}
use Rattle.vdcp_journal_file.specs.Resuming.{IsLastRun, plan_of_run}
use Rattle.vdcp_journal_file.specs.Torn.{closed}
use Rattle.vdcp_list.specs.Rows.{FileBytes}
use Rattle.vdcp_value.specs.declared.part.Item.{Item}
use Rattle.std.specs.Prelude.{List}

-- the whole lines of a file, with a last one that lacks only its line feed if that may have put a clip to air
abbrev pub lines_of : FileBytes → FileBytes
lines_of known = option_map whole_lines (option_map closed known)

-- a file is as it was, or has just the first row of a journal if it had no whole line: nothing was sent then
pub data IsHeaded (wanted : Heading) (old new : FileBytes) : Type 0 where
  as_it_was : new ≡ old → IsHeaded wanted old new
  anew : (time : Moment) → IfSome old (λ text. whole_lines (closed text) ≡ [])
      → Appends (option_map (take 0) old) new (fields_text (heading_fields time wanted)) → IsHeaded wanted old new

-- whole lines are those of a journal, and behind them stands what its rows make of it. No clock gave the time
pub record IsMended (items : List Item) (wanted : Heading) (old new : FileBytes) : Type 0 where
  pub journal : Journal
  pub reads : IsJournal old journal
  pub run : Run
  pub last : IsLastRun journal.rows run
  pub time : Moment
  pub unclocked : moment_text time ≡ no_clock
  pub adds : Appends old new
      (rows_text wanted.unit (rows_at time (mended (plan_of_run wanted items run) journal.rows run.rows)))
