-- A part is part of a message.
use Rattle.std.proofs.Common.{◌<◌, arith, subst, sym}
use Rattle.std.specs.Prelude.{Bool, IsTrue, ◌↔◌}
use Rattle.std.proofs.lemmas.List.Elements.{All-from_get_or}
use Rattle.vdcp_frame.specs.Message.{AreOctets}
use Rattle.vdcp_frame.specs.Reading.{IsUnfinished}
use Rattle.vdcp_frame.proofs.FeedLemmas.{unfinished_is}
use Rattle.vdcp_frame.proofs.front.is_part.Goals as goal

pub returns : goal.returns
returns c =
    let fits : AreOctets c.args.bytes.now =
    All-from_get_or (λ b. b < 256) c.args.bytes.now 0 (λ i h. omega (arith, c.type_inv.bytes i)) in
    subst (λ (b : Bool). IsTrue b ↔ IsUnfinished c.args.bytes.now) (sym c.needs_more.ensures)
    (unfinished_is c.args.bytes.now fits)
