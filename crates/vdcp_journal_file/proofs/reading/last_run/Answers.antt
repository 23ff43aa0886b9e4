use Rattle.std.proofs.Common.{refl, subst, sym, ◌∙◌}
use Rattle.vdcp_journal.specs.Runs.{last_run}
use Rattle.vdcp_journal.specs.declared.row.Heading.{Heading}
use Rattle.vdcp_journal_file.proofs.reading.last_run.Goals as goal
use Rattle.vdcp_journal_file.specs.Resuming.{Differs, GoesOnOrNot, bad_run, no_journal, of_other}

pub returns-in-Err-clause-refused : goal.returns-in-Err-clause-refused
returns-in-Err-clause-refused g c = no_journal c.in-Err.fault c.in-Err.ensures.refused c.read_refusal.ensures

pub returns-in-Some-clause-refused : goal.returns-in-Some-clause-refused
returns-in-Some-clause-refused g c =
    let found = c.in_ok-runs.ensures.found _ c.in-Ok.ensures.begun in
    of_other found.journal found.reads c.in-Some.fault
    (subst (λ (h : Heading). Differs h c.args.wanted.now c.in-Some.fault) (c.in_ok-runs.ensures.heading ∙ sym found.read_is)
    c.in-Some.ensures.differs) refl

pub returns-in-Ok-last-clause-replayed : goal.returns-in-Ok-last-clause-replayed
returns-in-Ok-last-clause-replayed g c =
    let found = c.in_ok-runs.ensures.found _ c.in-Ok.ensures.begun in
    let goes_on = subst (λ r. GoesOnOrNot (λ s. g.S.Source.items s.now) c.args.wanted.now (g.S.Source.items c.args.source.now)
    (last_run found.journal.rows) c.in_ok-runs.field-0.unsettled r) c.in-Ok-last.is found.goes_on in
    record {
      journal = found.journal;
      reads = found.reads;
      wanted_is = found.read_is ∙ sym c.in_ok-runs.ensures.heading ∙ c.in_default.ensures.same;
      run = last_run found.journal.rows;
      last = (_, c.runs_follow_one_another.ensures.all found.journal.rows);
      on = goes_on.0;
      has_stood = goes_on.1;
      noted_is = found.noted_is;
      heard_is = found.heard_is;
      show = found.show;
      calls_are = found.calls_are;
    }

pub returns-clause-refused : goal.returns-clause-refused
returns-clause-refused g c =
    let found = c.in_ok-runs.ensures.found _ c.in-Ok.ensures.begun in
    bad_run found.journal found.reads (last_run found.journal.rows) (_, c.runs_follow_one_another.ensures.all found.journal.rows)
    (subst (λ r. GoesOnOrNot (λ s. g.S.Source.items s.now) c.args.wanted.now (g.S.Source.items c.args.source.now)
    (last_run found.journal.rows) c.in_ok-runs.field-0.unsettled r) c.in-Err-last.is found.goes_on)
