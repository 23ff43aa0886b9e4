-- What is left to read is a slice of the burst.
use Rattle.std.proofs.Common.{◌≡◌, ◌≤◌, ℕ, ◌+◌, ◌-◌, List, length, take, drop, min, sym, ap, ◌∙◌, arith}
use Rattle.std.proofs.lemmas.List.{drop-take, take_min}
use Rattle.vdcp_frame.proofs.burst.left.Goals as goal

left_is : (limit n from : ℕ) (burst : List ℕ) → from ≤ limit → from ≤ length burst → n ≡ min (length burst) limit
    → take (n - from) (drop from burst) ≡ drop from (take limit burst)
left_is limit n from burst fits within is =
    let whole : from + (n - from) ≡ min limit (length burst) = omega arith in
    sym (drop-take from (n - from) burst) ∙ ap (λ (k : ℕ). drop from (take k burst)) whole
    ∙ ap (λ (b : List ℕ). drop from b) (take_min limit burst)

pub returns : goal.returns
returns c = left_is 4096 c.min.result c.args.from c.args.burst.now c.requires.limit c.requires.within c.min.ensures
