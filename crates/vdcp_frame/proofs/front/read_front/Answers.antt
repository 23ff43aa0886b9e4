-- What stands at the front is what a reader gives.
use Rattle.std.proofs.Common.{◌≡◌, ◌+◌, ◌-◌, ℕ, length, take, subst, arith}
use Rattle.vdcp_frame.specs.declared.message.Fault.TheVariants.{Long}
use Rattle.vdcp_frame.specs.Message.{content_of}
use Rattle.vdcp_frame.specs.Progress.{reading}
use Rattle.vdcp_frame.specs.Reader.{Gives, more, wrong}
use Rattle.vdcp_frame.proofs.FeedLemmas.{found_after, message_gives, wrong_after, wrong_gives, more_gives, long_gives}
use Rattle.vdcp_frame.proofs.front.read_front.Goals as goal

pub overflow_sub-result : goal.overflow_sub-result
overflow_sub-result c =
    omega (arith, found_after c.requires.1 (content_of c.in-Found.message) c.in-Found.size c.in-Found.ensures)

pub overflow_sub-result-in-Wrong : goal.overflow_sub-result-in-Wrong
overflow_sub-result-in-Wrong c =
    omega (arith, wrong_after c.requires.1 c.in-Wrong.fault c.in-Wrong.size c.in-Wrong.ensures)

pub overflow_sub-result-in-Wrong-2 : goal.overflow_sub-result-in-Wrong-2
overflow_sub-result-in-Wrong-2 c =
    omega (arith, wrong_after c.requires.1 c.in-Wrong.fault c.in-Wrong.size c.in-Wrong.ensures)

pub returns-in-Found-clause-gives : goal.returns-in-Found-clause-gives
returns-in-Found-clause-gives c =
    message_gives c.requires.1 (content_of c.in-Found.message) c.in-Found.size c.in-Found.ensures

pub returns-in-Wrong-clause-gives : goal.returns-in-Wrong-clause-gives
returns-in-Wrong-clause-gives c = wrong_gives c.requires.1 c.in-Wrong.fault c.in-Wrong.size c.in-Wrong.ensures

pub returns-in-Part-clause-gives : goal.returns-in-Part-clause-gives
returns-in-Part-clause-gives c =
    let i = c.requires.1 in
    let all : c.requires.0 ≡ length c.args.piece.now = omega (arith, i.size, c.if-front-held.true) in
    subst (λ (n : ℕ). Gives (reading c.args.taken (take c.args.held c.args.front.now)) c.args.piece.now n more) all
    (more_gives i c.in-Part.field-0 c.in-Part.ensures all)

pub returns-in-Part-2-clause-gives : goal.returns-in-Part-2-clause-gives
returns-in-Part-2-clause-gives c =
    let i = c.requires.1 in
    let n : c.requires.0 ≡ length c.args.front.now - c.args.held = omega (arith, i.size) in
    subst (λ (k : ℕ). Gives (reading c.args.taken (take c.args.held c.args.front.now)) c.args.piece.now (k + 1) (wrong Long 4097)) n
    (long_gives i c.in-Part-2.field-0 c.in-Part-2.ensures (λ e. c.if-front-held.false (omega (arith, n, e))))
