-- A head means what it says.
use Rattle.std.proofs.Common.{arith, ◌<◌, subst, sym}
use Rattle.std.proofs.lemmas.List.Elements.{All-from_get_or}
use Rattle.vdcp_frame.specs.Message.{AreOctets}
use Rattle.vdcp_frame.specs.Head.{HeadIs}
use Rattle.vdcp_frame.proofs.HeadLemmas.{head_is}
use Rattle.vdcp_frame.proofs.head.Head.at.Goals as goal

pub returns : goal.returns
returns c =
    let fits : AreOctets c.args.bytes.now =
    All-from_get_or (λ b. b < 256) c.args.bytes.now 0 (λ i h. omega (arith, c.type_inv.bytes i)) in
    subst (HeadIs c.args.bytes.now) (sym c.of.ensures) (head_is c.args.bytes.now fits)
