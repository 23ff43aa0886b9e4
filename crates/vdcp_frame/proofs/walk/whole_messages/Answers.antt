-- If none is still to come, the bytes passed spell all messages.
use Rattle.std.proofs.Common.{◌≡◌, ℕ, List, take, subst, sym, ap, ◌∙◌}
use Rattle.vdcp_frame.specs.Burst.{messages_of}
use Rattle.vdcp_frame.specs.Reading.{SpellsAll}
use Rattle.vdcp_frame.specs.Walk.{Walk, coming}
use Rattle.vdcp_frame.proofs.WalkLemmas.{whole_spelt, none_left}
use Rattle.vdcp_frame.proofs.walk.whole_messages.Goals as goal

pub returns-clause-spelt : goal.returns-clause-spelt
returns-clause-spelt c =
    let place : ℕ = c.messages-2.inside.place in
    let walk : Walk = record { burst = c.messages-2.inside.burst.now; place = place } in
    let same : walk.burst ≡ c.args.burst.now = ap (λ (w : Walk). w.burst) c.messages-2.view_is ∙ c.next.ensures.burst
    ∙ c.messages.invariant in
    let none = none_left c.next.result c.messages.messages c.next.new.self (sym c.is_some.ensures
    ∙ c.messages-test.false) c.next.ensures.none c.next.ensures.rest in
    subst (λ (b : List ℕ). SpellsAll (messages_of b) (take place b)) same
    (whole_spelt walk c.messages-2.invariant.0 (ap coming c.messages-2.view_is ∙ none))
