use Rattle.std.proofs.Common.{◌≡◌, ◌||◌, true, false, refl, arith, ap₂, sym, ◌∙◌}
use Rattle.std.proofs.lemmas.Grind.{common_steps}
use Rattle.vdcp_list.proofs.Events.{lawful_more, parts_more}
use Rattle.vdcp_list.proofs.asrun.check_parts.Goals as goal
use Rattle.vdcp_list.specs.Asrun.{is_lawful_event}

pub returns-then-not-is_lawful_event-clause-unlawful :
    goal.returns-then-not-is_lawful_event-clause-unlawful
returns-then-not-is_lawful_event-clause-unlawful g c =
    let unlawful : is_lawful_event c.args.rate c.at-item.result.part ≡ false = grind (arith, common_steps) in (
      c.loop-k.k,
      refl,
      record {
        reported_is = c.loop-k-test.true;
        before = c.loop-k.invariant.0;
        item = c.at-item.result;
        at_k = c.at-item.ensures;
        unlawful = unlawful;
      },
    )

pub loop-k-preserved : goal.loop-k-preserved
loop-k-preserved g c =
    let items = g.S.Source.items c.args.source.now in
    let item = c.at-item.result in
    let lawful : is_lawful_event c.args.rate item.part ≡ true = grind (arith, common_steps) in (
      lawful_more c.args.rate items c.loop-k.k c.at-item.result c.at-item.ensures c.loop-k.invariant.0 lawful,
      ap₂ (λ a b. a || b) c.loop-k.invariant.1 c.is_some-with_parts.ensures
          ∙ sym (parts_more items c.loop-k.k item c.at-item.ensures),
    )
