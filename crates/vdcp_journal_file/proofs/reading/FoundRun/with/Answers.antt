use Rattle.std.proofs.Common.{arith, sym}
use Rattle.vdcp_journal_file.proofs.RowSteps.{last_of}
use Rattle.vdcp_journal_file.proofs.reading.FoundRun.with.Goals as goal

pub returns : goal.returns
returns g c = λ heading list run number found. record {
  begin_is = found.begin_is;
  from_is = found.from_is;
  is = c.followed.ensures heading list run number found.is;
  airings = c.in_ok-add.ensures heading.mode run.rows found.airings (omega (arith, number));
  last_is = sym (last_of run.rows c.args.row.now);
}
