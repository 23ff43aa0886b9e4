-- All rows ascend if each pair does.
use Rattle.std.proofs.Common.{refl, arith}
use Rattle.vdcp_c.specs.Clips.{keys_of}
use Rattle.vdcp_c.proofs.Places.{ascends_on, key_count}
use Rattle.vdcp_c.proofs.clips.ascends.Goals as goal

pub loop-k-preserved : goal.loop-k-preserved
loop-k-preserved c =
    ascends_on (keys_of c.args.rows.now) c.loop-k.k c.loop-k.auto.k c.loop-k.invariant
    (omega (arith, c.if-key_at.false, c.key_at.ensures, c.key_at-in-loop-k.ensures))

pub returns : goal.returns
returns c =
    ((λ _ i less. c.loop-k.invariant i (omega (arith, less, c.loop-k-test.false, key_count c.args.rows.now))), λ _. refl)
