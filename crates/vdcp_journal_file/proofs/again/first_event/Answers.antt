use Rattle.std.proofs.Common.{refl}
use Rattle.std.proofs.lemmas.Result.{IfErr-weaker, IfOk-weaker}
use Rattle.vdcp_journal_file.proofs.OpenedAgain.{both, next_begins, none_next}
use Rattle.vdcp_journal_file.proofs.again.first_event.Goals as goal
use Rattle.vdcp_journal_file.specs.Resuming.{not_listed}

pub returns-in-Some-clause-begins : goal.returns-in-Some-clause-begins
returns-in-Some-clause-begins g c = λ wanted run on.
    rw c.in-Some.is (both c.listed.result _ _ c.listed.ensures.event c.listed.ensures.listed)

pub returns-in-Some-clause-none : goal.returns-in-Some-clause-none
returns-in-Some-clause-none g c = λ wanted run on.
    rw c.in-Some.is (IfErr-weaker c.listed.result _ _ (λ failure p. not_listed c.in-Some.event refl p.1 p.0) c.listed.ensures.none)

pub returns-in-None-clause-begins : goal.returns-in-None-clause-begins
returns-in-None-clause-begins g c = λ wanted run on.
    rw c.in-None.is (IfOk-weaker c.next_event.result _ _ (λ k p. next_begins (λ s. g.S.Source.items s.now) wanted
    (g.S.Source.items c.args.source.now) run _ _ _ k on p.0.0 p.0.1 p.1)
    (both c.next_event.result _ _ c.next_event.ensures.next c.next_event.ensures.within))

pub returns-in-None-clause-none : goal.returns-in-None-clause-none
returns-in-None-clause-none g c = λ wanted run on.
    rw c.in-None.is (IfErr-weaker c.next_event.result _ _ (λ failure p. none_next (λ s. g.S.Source.items s.now) wanted
    (g.S.Source.items c.args.source.now) run _ _ _ failure on p.0 p.1) c.next_event.ensures.none)
