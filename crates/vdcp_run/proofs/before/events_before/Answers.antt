use Rattle.std.proofs.Common.{[], ◌∷◌, subst, sym}
use Rattle.std.proofs.lemmas.List.Elements.{All-append, All-cons, All-nil}
use Rattle.std.specs.Prelude.{All}
use Rattle.vdcp_run.proofs.before.events_before.Goals as goal
use Rattle.vdcp_run.specs.Before.{IsSaidBy}

pub loop-event-preserved : goal.loop-event-preserved
loop-event-preserved g c =
    subst (All (IsSaidBy c.args.runs.now)) (sym c.in-Ok.ensures.items)
    (All-append (IsSaidBy c.args.runs.now) c.loop-event.events.items (c.event_before.result ∷ []) c.loop-event.invariant
    (All-cons (IsSaidBy c.args.runs.now) c.event_before.result [] c.event_before.ensures
    (All-nil (IsSaidBy c.args.runs.now))))
