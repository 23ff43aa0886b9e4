-- The message that a step finds is the next one to come, and its end is the computed one.
use Rattle.std.proofs.Common.{sym, ap, ◌∙◌}
use Rattle.vdcp_frame.specs.Burst.{end_of}
use Rattle.vdcp_frame.specs.Message.{content_of}
use Rattle.vdcp_frame.specs.Reading.{clean, cut, fault}
use Rattle.vdcp_frame.specs.Walk.{Walk, coming}
use Rattle.vdcp_frame.proofs.SpellingLemmas.{reads_as_computed}
use Rattle.vdcp_frame.proofs.WalkLemmas.{next_coming, none_coming}
use Rattle.vdcp_frame.proofs.walk.Messages.step.Goals as goal

pub returns-in-Message-clause-some : goal.returns-in-Message-clause-some
returns-in-Message-clause-some c =
    let all = c.self.invariant.0.whole in
    ap coming (sym c.self.view_is)
    ∙ next_coming 4096 c.self.inside.place c.in-Message.next c.self.inside.burst.now all.0
    (content_of c.in-Message.message) c.self.invariant.0.limit
    c.in-Message.ensures.further.1 c.self.invariant.0.fits all.1 (c.in-Message.ensures.next all.0 all.1)

pub returns-in-Clean-clause-none : goal.returns-in-Clean-clause-none
returns-in-Clean-clause-none c =
    let all = c.self.invariant.0.whole in
    ap coming (sym c.self.view_is)
    ∙ none_coming c.self.inside.place c.self.inside.burst.now all.0 clean c.self.invariant.0.limit
    c.self.invariant.0.fits all.1 (c.in-Clean.ensures.end all.0 all.1)

pub returns-in-Clean-clause-end : goal.returns-in-Clean-clause-end
returns-in-Clean-clause-end c =
    let all = c.self.invariant.0.whole in
    (reads_as_computed c.self.inside.burst.now all.0 clean c.self.invariant.0.fits
    (c.in-Clean.ensures.end all.0 all.1)).1 ∙ ap (λ (w : Walk). end_of w.burst) c.self.view_is

pub returns-in-Cut-clause-none : goal.returns-in-Cut-clause-none
returns-in-Cut-clause-none c =
    let all = c.self.invariant.0.whole in
    ap coming (sym c.self.view_is)
    ∙ none_coming c.self.inside.place c.self.inside.burst.now all.0 (cut c.in-Cut.count) c.self.invariant.0.limit
    c.self.invariant.0.fits all.1 (c.in-Cut.ensures.end all.0 all.1)

pub returns-in-Cut-clause-end : goal.returns-in-Cut-clause-end
returns-in-Cut-clause-end c =
    let all = c.self.invariant.0.whole in
    (reads_as_computed c.self.inside.burst.now all.0 (cut c.in-Cut.count) c.self.invariant.0.fits
    (c.in-Cut.ensures.end all.0 all.1)).1 ∙ ap (λ (w : Walk). end_of w.burst) c.self.view_is

pub returns-in-Fault-clause-none : goal.returns-in-Fault-clause-none
returns-in-Fault-clause-none c =
    let all = c.self.invariant.0.whole in
    ap coming (sym c.self.view_is)
    ∙ none_coming c.self.inside.place c.self.inside.burst.now all.0 (fault c.in-Fault.fault c.in-Fault.place)
    c.self.invariant.0.limit
    c.self.invariant.0.fits all.1 (c.in-Fault.ensures.end all.0 all.1)

pub returns-in-Fault-clause-end : goal.returns-in-Fault-clause-end
returns-in-Fault-clause-end c =
    let all = c.self.invariant.0.whole in
    (reads_as_computed c.self.inside.burst.now all.0 (fault c.in-Fault.fault c.in-Fault.place) c.self.invariant.0.fits
    (c.in-Fault.ensures.end all.0 all.1)).1 ∙ ap (λ (w : Walk). end_of w.burst) c.self.view_is
