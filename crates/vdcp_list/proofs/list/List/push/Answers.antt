use Rattle.std.proofs.Common.{arith}
use Rattle.std.proofs.lemmas.Grind.{common_steps}
use Rattle.vdcp_list.proofs.Listings.{pushed_keeps}
use Rattle.vdcp_list.proofs.list.List.push.Goals as goal

pub invariant_of-self-2 : goal.invariant_of-self-2
invariant_of-self-2 c =
    let k = pushed_keeps c.args.self.now c.args.item c.extend_from_slice.new.self.items c.push.new.self.items
    c.push-2.new.self.items (grind (arith, common_steps)) (grind (arith, common_steps))
    (grind (arith, common_steps)) c.requires.of_bytes in
    record { text_is = k.text_is; ends_are = k.ends_are; of_bytes = k.of_bytes }
