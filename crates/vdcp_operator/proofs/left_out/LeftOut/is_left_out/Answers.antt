use Rattle.std.proofs.Common.{◌≡◌, ap, ◌∙◌}
use Rattle.std.specs.Prelude.{is_some}
use Rattle.vdcp_operator.proofs.LeavingOut.{first_with, is_found}
use Rattle.vdcp_operator.proofs.left_out.LeftOut.is_left_out.Goals as goal

pub returns : goal.returns
returns c =
    let found : c.with_event.result ≡ first_with c.args.self.now.spans.items c.args.event =
    c.with_event.ensures ∙ ap (λ xs. first_with xs c.args.event) c.as_slice.ensures.value in
    c.is_some.ensures ∙ ap is_some found ∙ is_found c.args.self.now.spans.items c.args.event
