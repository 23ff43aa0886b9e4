use Rattle.std.proofs.Common.{ap, rules, ◌∙◌}
use Rattle.vdcp_auto.specs.Plan.{plan_of}
use Rattle.vdcp_drive.proofs.Running.{turn_called, turn_ended, turn_heard, turn_left, turn_missed, turn_unheard, turn_unsent}
use Rattle.vdcp_drive.proofs.driver.run_turn.Goals as goal

pub returns-then-is_some-clause-runs : goal.returns-then-is_some-clause-runs
returns-then-is_some-clause-runs g c = turn_ended _ g.E.Ear.fold _ c.args.unit _ _ (search rules)

pub returns-in-Err-clause-runs : goal.returns-in-Err-clause-runs
returns-in-Err-clause-runs g c =
    turn_missed _ g.E.Ear.fold _ c.args.unit _ c.in-Call.call _ _ _ _ (search rules) c.in-Call.ensures c.in-Err.ensures.missed

pub returns-in-Call-clause-runs : goal.returns-in-Call-clause-runs
returns-in-Call-clause-runs g c = rw c.give.ensures
    (turn_called _ g.E.Ear.fold _ c.args.unit _ c.in-Call.call _ _ _ _ (search rules) c.in-Call.ensures
    c.in_default.ensures.called)

pub returns-in-Leave-clause-runs : goal.returns-in-Leave-clause-runs
returns-in-Leave-clause-runs g c = turn_left _ g.E.Ear.fold _ c.args.unit _ _ _ _ (search rules) c.in-Leave.ensures

pub returns-in-Err-send_next-clause-runs : goal.returns-in-Err-send_next-clause-runs
returns-in-Err-send_next-clause-runs g c =
    turn_unsent _ g.E.Ear.fold _ c.args.unit _ _ _ _ _ _ _ c.in-Err-send_next.fault c.in-GoOn.ensures
    c.in-Err-send_next.ensures.sends

pub returns-in-Ok-clause-runs : goal.returns-in-Ok-clause-runs
returns-in-Ok-clause-runs g c =
    let out = c.in_default-send_next.ensures.sends in
    turn_heard _ g.E.Ear.fold _ c.args.unit _ _ _ _ c.in-Ok.line _ _ _ _ _ _ _ c.in-GoOn.ensures out.0 out.2 out.3
    (rw (ap (plan_of g.S.Source.items) c.in_default-send_next.ensures.controller, c.see.ensures) at c.in-Ok.ensures.hears)
    c.ran_of.result c.ran_of.ensures

pub returns-in-Err-hear-clause-runs : goal.returns-in-Err-hear-clause-runs
returns-in-Err-hear-clause-runs g c =
    let out = c.in_default-send_next.ensures.sends in
    let h = c.in-Err-hear.ensures in
    turn_unheard _ g.E.Ear.fold _ c.args.unit _ _ _ _ _ _ _ _ _ _ _ c.in-GoOn.ensures out.0 out.2 out.3 h.hears
    (h.unnoted ∙ c.see.ensures)
