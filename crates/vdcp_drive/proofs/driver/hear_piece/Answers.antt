use Rattle.std.proofs.Common.{◌≡◌, ℕ, List, length, ap, ◌∙◌, arith, refl}
use Rattle.std.proofs.lemmas.List.{take_rest, length-drop}
use Rattle.vdcp_auto.specs.Plan.{View, plan_of}
use Rattle.vdcp_drive.proofs.Chains.{hears_further}
use Rattle.vdcp_drive.proofs.Taking.{fitting}
use Rattle.vdcp_drive.proofs.driver.hear_piece.Goals as goal

pub piece-preserved-in_default : goal.piece-preserved-in_default
piece-preserved-in_default g c =
    let inv = c.piece.invariant in
    let e = c.read-taken.ensures in
    let xs : List ℕ = c.args.piece.now in record {
      within = omega (arith, e.within, ap (length {A = ℕ}) (take_rest xs c.piece.at), length-drop c.piece.at xs);
      controller = inv.controller;
      hears = hears_further g.E.Ear.fold g.H.Hooks.adds _ c.args.unit g.met.E.Ear.pieces xs c.piece.at _ _ _ _ _ _ _ _ _ _ _
          inv.hears (rw c.in_default.is at e.hears) e.takes refl refl;
    }

pub piece-preserved : goal.piece-preserved
piece-preserved g c =
    let inv = c.piece.invariant in
    let e = c.read-taken.ensures in
    let r = c.receive.ensures in
    let xs : List ℕ = c.args.piece.now in
    let planned : plan_of g.S.Source.items c.piece.controller ≡ plan_of g.S.Source.items c.args.controller.now =
    ap (plan_of g.S.Source.items) inv.controller in record {
      within = omega (arith, e.within, ap (length {A = ℕ}) (take_rest xs c.piece.at), length-drop c.piece.at xs);
      controller = r.controller ∙ ap (λ (v : View _). record v { state = c.receive.new.controller.state }) inv.controller;
      hears = rw planned at (hears_further g.E.Ear.fold g.H.Hooks.adds _ c.args.unit g.met.E.Ear.pieces xs c.piece.at _ _ _ _ _
          _ _ _ _ _ _ (rw (← planned) at inv.hears) (rw c.in-Some.is at e.hears) e.takes r.state r.noted);
    }

pub returns-clause-octets : goal.returns-clause-octets
returns-clause-octets g c = fitting c.args.piece.now (λ i. omega (arith, c.type_inv.piece i))
