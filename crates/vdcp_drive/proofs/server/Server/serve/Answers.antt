use Rattle.std.proofs.Common.{◌+◌, Bool, refl, sym, subst, ◌∙◌, arith, rules}
use Rattle.std.proofs.lemmas.Grind.{common_steps}
use Rattle.vdcp_drive.specs.Serving.{Serving, lent}
use Rattle.vdcp_drive.specs.declared.line.TurnsEnd.TheVariants as ends
use Rattle.vdcp_drive.proofs.Serving.{HasMade, breaks_so, ends_so, goes_on}
use Rattle.vdcp_drive.proofs.server.Server.serve.Goals as goal

pub turns-preserved : goal.turns-preserved
turns-preserved g c =
    let n = c.turn_due.new.self in
    let e = rw c.in_ok-turned.was at c.in-Some.ensures in
    let seen = rw c.in_ok-turned.was at (subst (λ (v : Serving _). g.H.ServerHooks.does
    (lent (record { port = v.port; aired = v.aired; turned = c.in-Some.turned })) c.turn_due.new.hooks c.look.new.self)
    c.self-in-turns.view_is c.look.ensures) in
    record {
      within = omega (arith, c.turns-test.true);
      made = subst (λ (b : Bool). HasMade g.W.Wire.does g.H.ServerHooks.can_act g.H.ServerHooks.does g.W.Wire.failures
          (c.turns.made + 1) c.args.self.now n c.args.hooks.now c.look.new.self b) (sym c.if-closes.ensures)
          (goes_on c.in_ok-turned.field-0 c.turns.invariant.made e.serves e.asks e.hears e.works seen);
    }

pub returns-then-closes : goal.returns-then-closes
returns-then-closes g c =
    let e = rw c.in_ok-turned.was at c.in-Some.ensures in
    let seen = rw c.in_ok-turned.was at (subst (λ (v : Serving _). g.H.ServerHooks.does
    (lent (record { port = v.port; aired = v.aired; turned = c.in-Some.turned })) c.turn_due.new.hooks c.look.new.self)
    c.self-in-turns.view_is c.look.ensures) in
    record {
      leaves = ends_so c.args.turns ends.Closed
          (goes_on c.in_ok-turned.field-0 c.turns.invariant.made e.serves e.asks e.hears e.works seen)
          (grind (arith, common_steps))
          (λ turns count closed. (closed ∙ sym c.if-closes.ensures, omega (arith, count, c.turns-test.true))) refl;
    }

pub returns-in_err-turned : goal.returns-in_err-turned
returns-in_err-turned g c =
    let e = rw c.in_err-turned.was at c.in-Some.ensures in
    let seen = rw c.in_err-turned.was at (subst (λ (v : Serving _). g.H.ServerHooks.does
    (lent (record { port = v.port; aired = v.aired; turned = c.in-Some.turned })) c.turn_due.new.hooks c.look.new.self)
    c.self-in-turns.view_is c.look.ensures) in
    record {
      leaves = breaks_so c.args.turns c.from_residual.result _ (search rules) c.turns.invariant.made
          (grind (arith, common_steps)) e.serves e.asks e.hears e.device seen;
    }

pub returns-in_default : goal.returns-in_default
returns-in_default g c =
    let up = c.turn_due.ensures.gives_up c.in_default.is in
    record {
      leaves = rw up.0 (ends_so c.args.turns ends.GivenUp c.turns.invariant.made (grind (arith, common_steps))
          (λ turns count still. (still, omega (arith, count, c.turns-test.true), up.1))
          (c.turn_due.new.hooks, rw c.in_default.is at c.turn_due.ensures.asks, refl));
    }

pub returns : goal.returns
returns g c =
    record {
      leaves = ends_so c.args.turns ends.Spent c.turns.invariant.made (grind (arith, common_steps))
          (λ turns count still. (still, omega (arith, count, c.turns.invariant.within, c.turns-test.false))) refl;
    }
