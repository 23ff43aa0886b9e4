use Rattle.std.proofs.lemmas.Result.{IfOk-weaker}
use Rattle.vdcp_list.specs.List.{items_of}
use Rattle.vdcp_run.proofs.Begun.{both}
use Rattle.vdcp_run.proofs.Tries.{came_so, tried_so, untried_so}
use Rattle.vdcp_run.proofs.session.Session.try_events.Goals as goal
use Rattle.vdcp_run.specs.Asking.{start_of}
use Rattle.vdcp_run.specs.Run.{not_kept}

pub returns-in-Err-clause-came : goal.returns-in-Err-clause-came
returns-in-Err-clause-came g c = (not_kept c.in-Err.ensures.refused, c.unconnected.ensures)

pub returns-clause-came : goal.returns-clause-came
returns-clause-came g c =
    let begun = c.in-Ok.begun in
    let end = c.play_at-end in
    came_so g.row.R-Stream.Denot c.args.settings (items_of c.args.events.now) c.args.self.line end.result.0 end.result.1.line
    (IfOk-weaker end.result.0 _ _ (λ e h. tried_so c.args.settings (items_of c.args.events.now)
    (items_of begun.controller.source.source.now) c.args.self.line e end.result.1.line
    (start_of (λ list. items_of list.now) begun.controller) begun.recorder c.in-Ok.ensures.begun c.in-Ok.ensures.kept h.0.0
    begun.calls.items c.in-Ok.ensures.calls c.args.self.console.hand.list h.0.1 h.0.2 c.in-Ok.ensures.list h.1)
    (both end.result.0 _ _ end.ensures.session end.ensures.asrun))
    (untried_so c.args.settings (items_of c.args.events.now) end.result.0 end.result.1.line end.ensures.refused end.ensures.none)
