use Rattle.std.proofs.Common.{◌≡◌, take}
use Rattle.std.specs.Prelude.{None}
use Rattle.vdcp_list.proofs.SlotClips.{clips_of}
use Rattle.vdcp_list.proofs.slots.SlotsCatalogue.length.Given as goal
use Rattle.vdcp_port.specs.Clips.{length_of}

abbrev pub invariant-loop-slot : goal.invariant-loop-slot
invariant-loop-slot g l = length_of (clips_of (take l.slot-index l.slot-items)) l.id ≡ None
