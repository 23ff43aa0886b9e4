-- The message that a walk gives first is the first of the burst.
use Rattle.std.proofs.Common.{◌≡◌, List, ◌∷◌, sym, ◌∙◌}
use Rattle.std.specs.Prelude.{Option, Some, None, IfSome, is_some, true}
use Rattle.vdcp_frame.specs.declared.message.Message.{Message}
use Rattle.vdcp_frame.specs.Message.{Content, content_of}
use Rattle.vdcp_frame.specs.Walk.{Walk, coming}
use Rattle.vdcp_lossy.proofs.doing.begins_with_message.Goals as goal

begins : (o : Option Message) (ms : List Content) (walk : Walk) → IfSome o (λ m. ms ≡ content_of m ∷ coming walk)
    → is_some o ≡ true → (m : Content) × (more : List Content) × (ms ≡ m ∷ more)
begins (Some m) ms walk first is = (content_of m, coming walk, first)
begins None ms walk first is = absurd cc

pub returns : goal.returns
returns c = λ is.
    let first = begins c.next.result (coming c.of.result) c.next.new.self c.next.ensures.some
    (sym c.is_some.ensures ∙ is) in
    (first.0, first.1, sym c.of.ensures.all ∙ first.2)
