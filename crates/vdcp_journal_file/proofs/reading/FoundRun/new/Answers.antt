use Rattle.std.proofs.Common.{refl, sym}
use Rattle.vdcp_journal_file.proofs.reading.FoundRun.new.Goals as goal

pub returns : goal.returns
returns g c = λ run from none begin. record {
  begin_is = sym begin;
  from_is = sym from;
  is = c.begun.ensures run from none begin;
  airings = rw none c.new.ensures;
  last_is = rw none refl;
}
