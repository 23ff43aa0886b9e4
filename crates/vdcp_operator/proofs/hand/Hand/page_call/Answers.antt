use Rattle.std.proofs.Common.{◌∙◌, ap, refl}
use Rattle.vdcp_operator.proofs.hand.Hand.page_call.Goals as goal
use Rattle.vdcp_operator.specs.Waiting.{will_hold}

pub returns-clause-page : goal.returns-clause-page
returns-clause-page g c =
    rw c.in-Some.is
    (_, c.will_hold.ensures ∙ ap (λ calls. will_hold calls c.args.self.now.list.holds) c.as_slice.ensures.value, refl, c.show.new.self, c.show.ensures, c.next_call.ensures.rest, c.next_call.ensures.calls, c.next_call.ensures.none)
