use Rattle.std.proofs.Common.{arith}
use Rattle.vdcp_list.proofs.slots.SlotDefault.default.Goals as goal

pub unwrap-requires : goal.unwrap-requires
unwrap-requires c = c.from_frames.ensures.within.1 (omega (arith, c.a_day_has_its_lawful_labels.ensures.number))
