use Rattle.std.proofs.Common.{take, sym, ap, subst, ◌∙◌, arith}
use Rattle.vdcp_world.specs.BoundedEnd.{IsDone}
use Rattle.vdcp_world.specs.Channel.{IsReached, after_event, make_of}
use Rattle.vdcp_world.proofs.Reached.{one_more, in_part, all_happened, make_after_all, events_reached}
use Rattle.vdcp_world.proofs.world.World.run.Goals as goal

pub returns-in_err-step-clause-front : goal.returns-in_err-step-clause-front
returns-in_err-step-clause-front g c =
    in_part c.from_residual.result c.args.self.now _ c.args.events.now c.loop-event.event-index c.event-item.result
    (omega (arith, c.loop-event-test.true)) c.event-item.is (c.in_err-step.ensures.refused ∙ c.loop-event.invariant)

pub loop-event-preserved : goal.loop-event-preserved
loop-event-preserved g c =
    c.in_ok-step.ensures.step
    ∙ ap (λ w. after_event w c.event-item.result) c.loop-event.invariant
    ∙ sym (one_more c.args.self.now c.args.events.now c.loop-event.event-index c.event-item.result
    (omega (arith, c.loop-event-test.true)) c.event-item.is)

pub returns-in_err-step-clause-make : goal.returns-in_err-step-clause-make
returns-in_err-step-clause-make g c =
    c.in_err-step.ensures.make ∙ ap make_of c.loop-event.invariant
    ∙ make_after_all c.args.self.now (take c.loop-event.event-index c.args.events.now)

pub returns-clause-make : goal.returns-clause-make
returns-clause-make g c =
    ap make_of c.loop-event.invariant ∙ make_after_all c.args.self.now (take c.loop-event.event-index c.args.events.now)

pub returns-clause-headline : goal.returns-clause-headline
returns-clause-headline g c =
    let reached : IsReached c.args.self.now = rw (← c.self.view_is) c.self.invariant in
    c.reached_keeps_the_headline.ensures c.loop-event.self
    (subst IsReached (sym c.loop-event.invariant) (events_reached c.args.self.now
    (take c.loop-event.event-index c.args.events.now) reached))

pub returns-clause-plain_end : goal.returns-clause-plain_end
returns-clause-plain_end g c = λ n is can enough.
    let reached : IsReached c.args.self.now = rw (← c.self.view_is) c.self.invariant in
    all_happened IsDone c.args.self.now c.loop-event.self c.args.events.now _ c.loop-event.event-index
    c.loop-event-test.false c.loop-event.auto.event-index-end c.loop-event.invariant is
    ((c.good_rounds_bring_all_to_air.ensures c.args.self.now reached).plain can n enough)

pub returns-clause-confirming_end : goal.returns-clause-confirming_end
returns-clause-confirming_end g c = λ n is can enough.
    let reached : IsReached c.args.self.now = rw (← c.self.view_is) c.self.invariant in
    all_happened IsDone c.args.self.now c.loop-event.self c.args.events.now _ c.loop-event.event-index
    c.loop-event-test.false c.loop-event.auto.event-index-end c.loop-event.invariant is
    ((c.good_rounds_bring_all_to_air.ensures c.args.self.now reached).confirming can n enough)

pub returns-clause-in_step_end : goal.returns-clause-in_step_end
returns-clause-in_step_end g c = λ n is can enough.
    let reached : IsReached c.args.self.now = rw (← c.self.view_is) c.self.invariant in
    all_happened IsDone c.args.self.now c.loop-event.self c.args.events.now _ c.loop-event.event-index
    c.loop-event-test.false c.loop-event.auto.event-index-end c.loop-event.invariant is
    ((c.good_rounds_bring_the_rest_to_air.ensures c.args.self.now reached).in_step can n enough)

pub returns-clause-catch_up_end : goal.returns-clause-catch_up_end
returns-clause-catch_up_end g c = λ n is can enough.
    let reached : IsReached c.args.self.now = rw (← c.self.view_is) c.self.invariant in
    all_happened IsDone c.args.self.now c.loop-event.self c.args.events.now _ c.loop-event.event-index
    c.loop-event-test.false c.loop-event.auto.event-index-end c.loop-event.invariant is
    ((c.good_rounds_bring_the_rest_to_air.ensures c.args.self.now reached).catches_up can n enough)
