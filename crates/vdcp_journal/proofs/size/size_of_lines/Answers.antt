use Rattle.std.proofs.Common.{ℕ, List, ◌++◌, Option, None, Some, ap, append_assoc, arith, length-append, length-take, sym, take, ◌∙◌}
use Rattle.std.specs.Io.KnownBytes.{Consumes}
use Rattle.vdcp_journal.proofs.size.size_of_lines.Goals as goal

-- one piece, and then another
both : (old mid new : Option (List ℕ)) (a b : List ℕ) → Consumes old mid a → Consumes mid new b
    → Consumes old new (a ++ b)
both None mid new a b one two = tt
both (Some xs) None new a b one two = absurd one
both (Some xs) (Some ys) None a b one two = absurd two
both (Some xs) (Some ys) (Some zs) a b one two =
    one ∙ ap (λ (l : List ℕ). a ++ l) two ∙ sym (append_assoc a b zs)

pub loop-preserved : goal.loop-preserved
loop-preserved g c =
    let given : List ℕ = c.loop.invariant.0 in
    let piece : List ℕ = take c.in_ok-count.count c.read.new.buffer in (
      given ++ piece,
      omega (
        arith,
        length-append given piece,
        length-take c.in_ok-count.count c.read.new.buffer,
        c.loop.invariant.1,
        c.in_ok-count.ensures.bound,
        c.in-Some.ensures,
      ),
      both _ _ _ given piece c.loop.invariant.2 c.in_ok-count.ensures.bytes.0,
    )
