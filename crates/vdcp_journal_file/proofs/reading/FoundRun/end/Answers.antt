use Rattle.std.proofs.Common.{refl, sym}
use Rattle.vdcp_journal_file.proofs.RowSteps.{alone, made_left}
use Rattle.vdcp_journal_file.proofs.reading.FoundRun.end.Goals as goal

pub returns-clause-shows : goal.returns-clause-shows
returns-clause-shows g c = λ heading list run found. record {
  begin_is = found.begin_is;
  from_is = found.from_is;
  own = c.finish-airings.result.airings.items;
  are = c.finish-airings.ensures.are heading.mode run.rows found.airings;
  airings_are = sym (alone c.finish-airings.result.airings.items);
  besides = c.finish-airings.ensures.unsettled heading.mode (record run { left = c.args.left }) found.airings refl;
  left_is = refl;
  last_is = found.last_is;
  first_end_is = c.finish-airings.ensures.first_end heading.mode run.rows found.airings;
  ends_so = c.resumed-resumed.ensures.ends heading list (record run { left = c.args.left })
      (made_left (λ s. g.S.Source.items s.now) heading list run c.args.left _ found.is);
}

pub returns-clause-goes_on : goal.returns-clause-goes_on
returns-clause-goes_on g c = λ heading list run found left.
    c.resumed-resumed.ensures.goes_on heading list run _ found.is (c.finish-airings.ensures.unsettled heading.mode run found.airings left)
