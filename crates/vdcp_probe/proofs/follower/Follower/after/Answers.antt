use Rattle.std.proofs.Common.{rules, ◌∷◌, [], ◌≡◌, arith}
use Rattle.std.proofs.lemmas.List.Elements.{All-more}
use Rattle.std.specs.Prelude.{◌≢◌, All}
use Rattle.vdcp_probe.specs.Following.{answer_after}
use Rattle.vdcp_probe.specs.declared.follower.Meanwhile.{Meanwhile}
use Rattle.vdcp_probe.specs.declared.follower.Meanwhile.TheVariants.{Nothing, CueDone, ClipEnded, Both}
use Rattle.vdcp_probe.proofs.follower.Follower.after.Goals as goal

every : (P : Meanwhile → Type 0) → All P (Nothing ∷ CueDone ∷ ClipEnded ∷ Both ∷ []) → (m : Meanwhile) → P m
every P all Nothing = all 0 Nothing (omega arith)
every P all CueDone = all 1 Nothing (omega arith)
every P all ClipEnded = all 2 Nothing (omega arith)
every P all Both = all 3 Nothing (omega arith)

pub loop-meanwhile-preserved : goal.loop-meanwhile-preserved
loop-meanwhile-preserved g c =
    All-more (λ m. c.args.came.now ≢ answer_after m c.args.self.now c.args.burst.now) (Nothing ∷ CueDone ∷ ClipEnded ∷ Both ∷ [])
    c.loop-meanwhile.meanwhile-index Nothing (search rules) c.loop-meanwhile.invariant (search rules)

pub returns-clause-unforeseen : goal.returns-clause-unforeseen
returns-clause-unforeseen g c =
    let all : c.loop-meanwhile.meanwhile-index ≡ 4 = search rules in
    every (λ m. c.args.came.now ≢ answer_after m c.args.self.now c.args.burst.now) (rw all at c.loop-meanwhile.invariant)
