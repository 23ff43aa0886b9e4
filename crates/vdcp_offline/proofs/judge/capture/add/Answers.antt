use Rattle.std.proofs.Common.{◌++◌, append-nil, arith, subst, sym, take_all}
use Rattle.vdcp_offline.proofs.JudgeSteps.{numbered_more}
use Rattle.vdcp_offline.proofs.judge.capture.add.Goals as goal
use Rattle.vdcp_offline.specs.Found.{HasFound}
use Rattle.vdcp_offline.specs.Rows.{numbered}

pub loop-k-init : goal.loop-k-init
loop-k-init g c = λ settings items pieces found.
    subst (λ l. HasFound g.S.Source.items settings items l c.args.found.now) (sym (append-nil pieces)) found

pub loop-k-preserved : goal.loop-k-preserved
loop-k-preserved g c = λ settings items pieces found.
    let here = c.loop-k.invariant settings items pieces found in
    subst (λ l. HasFound g.S.Source.items settings items l c.add.new.self)
    (numbered_more pieces c.args.number c.args.said.now c.loop-k.k c.index-said-k.result c.index-said-k.is (omega arith))
    (c.in_ok-add.ensures settings items _ here)

pub returns : goal.returns
returns g c = λ settings items pieces found.
    subst (λ l. HasFound g.S.Source.items settings items (pieces ++ numbered c.args.number l) c.loop-k.found)
    (take_all c.loop-k.k c.args.said.now c.loop-k-test.false) (c.loop-k.invariant settings items pieces found)
