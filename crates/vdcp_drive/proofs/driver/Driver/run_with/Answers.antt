use Rattle.std.proofs.Common.{◌≡◌, ap, sym, ◌∙◌, arith, if◌then◌else◌, ℕ}
use Rattle.std.proofs.lemmas.Grind.{common_steps}
use Rattle.std.specs.Prelude.{Ok, Option, Result}
use Rattle.vdcp_auto.specs.Plan.{View, plan_of}
use Rattle.vdcp_auto.specs.Turn.{outcome_of}
use Rattle.vdcp_auto.specs.declared.outcome.Outcome.{Outcome}
use Rattle.vdcp_drive.specs.Lines.{is_broken, ran_unless_ended}
use Rattle.vdcp_drive.specs.declared.hooks.BrokenOff.{BrokenOff}
use Rattle.vdcp_drive.specs.declared.line.Ran.{Ran}
use Rattle.vdcp_drive.specs.declared.line.Ran.TheVariants as ran
use Rattle.vdcp_drive.proofs.Reaching.{run_leaves}
use Rattle.vdcp_drive.proofs.Running.{run_over, run_spent, stands_more}
use Rattle.vdcp_drive.proofs.driver.Driver.run_with.Goals as goal
use Rattle.vdcp_drive.proofs.driver.Driver.run_with.Goals.{in-Some, in-None}

pub turns-preserved : goal.turns-preserved
turns-preserved g c =
    let e = c.run_turn-ran.ensures in
    let inv = c.turns.invariant in
    let n = c.run_turn-ran.new in
    let spent = c.is_spent.ensures.spent c.if-not-is_spent.false in record {
      within = omega (arith, c.turns-test.true);
      works = e.failures ∙ ap {B = ℕ} (λ (r : Result Ran BrokenOff). if is_broken r then 1 else 0) spent;
      going = c.is_broken-self-inside.ensures ∙ ap is_broken spent;
      controller = e.controller ∙ ap (λ (v : View _). record v { state = n.controller.state }) inv.controller;
      unit = inv.unit;
      stands = stands_more _ g.E.Ear.fold _ c.args.self.now.unit c.turns.made _ _ _ _ _ _ c.run_turn-ran.result inv.stands
          spent (rw (ap (plan_of g.S.Source.items) inv.controller, inv.unit) at e.runs);
    }

pub returns-then-not-is_spent : goal.returns-then-not-is_spent
returns-then-not-is_spent g c =
    let e = c.run_turn-ran.ensures in
    let inv = c.turns.invariant in
    let n = c.run_turn-ran.new in
    let worked : g.W.Wire.failures c.args.self.now.wire ≡ 0 = grind (arith, common_steps) in
    record {
      leaves = run_leaves g.S.Source.items _ g.E.Ear.fold g.W.Wire.failures c.args.turns _ _ _ _ c.run_turn-ran.result
          worked (run_over _ g.E.Ear.fold _ c.args.self.now.unit c.turns.made c.args.turns _ _ _ _ _ _ c.run_turn-ran.result
          inv.stands c.turns-test.true (c.is_spent.ensures.not c.if-not-is_spent.true)
          (rw (ap (plan_of g.S.Source.items) inv.controller, inv.unit) at e.runs))
          (e.controller ∙ ap (λ (v : View _). record v { state = n.controller.state }) inv.controller) inv.unit e.failures;
    }

pub returns : goal.returns
returns g c =
    let inv = c.turns.invariant in
    let worked : g.W.Wire.failures c.args.self.now.wire ≡ 0 = grind (arith, common_steps) in
    let answer = λ (o : Option Outcome). Ok (ran_unless_ended o ran.Spent) in
    let is : c.match-outcome.result ≡ answer (outcome_of c.turns.self-inside.controller.state.stage) = elim c.match-outcome.branch [
      | in-Some w ↦ w.result-is ∙ ap answer (sym w.in-Some.is ∙ c.outcome.ensures)
      | in-None w ↦ w.result-is ∙ ap answer (sym w.in-None.is ∙ c.outcome.ensures)
    ] in
    record {
      leaves = run_leaves g.S.Source.items _ g.E.Ear.fold g.W.Wire.failures c.args.turns _ _ _ _ c.match-outcome.result worked
          (run_spent _ g.E.Ear.fold _ c.args.self.now.unit c.turns.made c.args.turns _ _ _ _ c.match-outcome.result inv.stands
          (omega (arith, inv.within, c.turns-test.false)) is) inv.controller inv.unit
          (inv.works ∙ sym (ap {B = ℕ} (λ (r : Result Ran BrokenOff). if is_broken r then 1 else 0) is));
    }
