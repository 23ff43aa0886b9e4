use Rattle.std.proofs.Common.{sym, ◌∙◌}
use Rattle.vdcp_list.proofs.Events.{no_part_more, part_among, part_at}
use Rattle.vdcp_list.proofs.asrun.has_part.Goals as goal

pub returns-then-among : goal.returns-then-among
returns-then-among g c =
    sym (part_among (g.S.Source.items c.args.source.now) c.args.from (sym c.requires.among ∙ c.if-among.true))

pub returns-then-is_some : goal.returns-then-is_some
returns-then-is_some g c =
    sym (part_at (g.S.Source.items c.args.source.now) c.loop-k.k c.at.result c.at.ensures
    (sym c.is_some.ensures ∙ c.if-is_some.true))

pub loop-k-preserved : goal.loop-k-preserved
loop-k-preserved g c =
    no_part_more (g.S.Source.items c.args.source.now) c.loop-k.k c.at.result c.at.ensures c.loop-k.invariant
    (sym c.is_some.ensures ∙ c.if-is_some.false)
