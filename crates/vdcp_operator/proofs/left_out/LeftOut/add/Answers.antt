use Rattle.std.proofs.Common.{ap, refl, ◌∙◌}
use Rattle.vdcp_operator.proofs.LeavingOut.{any, merged_has, spans_are}
use Rattle.vdcp_operator.proofs.left_out.LeftOut.add.Goals as goal
use Rattle.std.specs.Prelude.{length, nat_le}
use Rattle.vdcp_operator.specs.LeftOut.{merged}

pub returns-in-Some-clause-adds : goal.returns-in-Some-clause-adds
returns-in-Some-clause-adds c = λ done.
    let all = merged c.args.self.now.spans.items c.args.more in (
      refl,
      λ k. ap (λ spans. any spans k) (spans_are (nat_le (length all) 512) all c.in-Some.spans.items c.in-Some.ensures)
          ∙ merged_has c.args.self.now.spans.items c.args.more k,
    )
