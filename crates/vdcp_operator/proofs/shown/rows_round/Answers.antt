use Rattle.std.proofs.Common.{ℕ, [], ◌∷◌, map, ap, subst, sym, ◌∙◌, arith}
use Rattle.std.proofs.lemmas.List.Elements.{All-append, All-cons, All-nil}
use Rattle.std.specs.Prelude.{All}
use Rattle.std.proofs.lemmas.Grind.{common_steps}
use Rattle.vdcp_operator.proofs.Rounds.{round_pushed}
use Rattle.vdcp_operator.proofs.shown.rows_round.Goals as goal
use Rattle.vdcp_operator.proofs.Rows.{has_number, is_row}
use Rattle.vdcp_operator.specs.Rows.{IsRow}
use Rattle.vdcp_operator.specs.Seen.{with_number}
use Rattle.vdcp_operator.specs.declared.seen.EventSeen.{EventSeen}

pub loop-k-preserved : goal.loop-k-preserved
loop-k-preserved g c = record {
  after = omega (arith, c.loop-k.invariant.after);
  few = grind (arith, common_steps);
  rows =
      ap (map with_number) c.in-Ok.ensures.items
      ∙ round_pushed (g.S.Source.items c.args.list.now) c.saturating_sub-first.result c.loop-k.k c.at.result
      c.loop-k.rows.items _ c.loop-k.invariant.after c.at.ensures
      (has_number c.args.news c.args.older.now c.args.said.now c.number.result c.at.result c.row-row.result c.row-row.ensures
      ∙ ap (λ (n : ℕ). (n, c.at.result)) c.number.ensures) c.loop-k.invariant.rows;
  are =
      let is : EventSeen → Type 0 = IsRow c.args.news c.args.older.now c.args.said.now in
      subst (All is) (sym c.in-Ok.ensures.items)
      (All-append is c.loop-k.rows.items (c.row-row.result ∷ []) c.loop-k.invariant.are
      (All-cons is c.row-row.result [] (is_row c.args.news c.args.older.now c.args.said.now c.number.result c.at.result c.row-row.result c.row-row.ensures) (All-nil is)));
}
