-- What the port makes of a command, and that it makes no false answer.
use Rattle.std.proofs.Common.{◌≡◌, Bool, true, false, not, ◌&&◌, List}
use Rattle.std.specs.Prelude.{slice_get}
use Rattle.vdcp_value.specs.declared.clip_id.ClipId.{ClipId}
use Rattle.vdcp_value.specs.declared.part.Item.{Item}
use Rattle.vdcp_value.specs.declared.timecode.Timecode.{Timecode}
use Rattle.vdcp_words.specs.declared.reply.Reply.{Reply}
use Rattle.vdcp_port.specs.Port.{Cued}
use Rattle.vdcp_auto.specs.Commands.{is_presence}
use Rattle.vdcp_auto.specs.Replies.{is_present}
use Rattle.vdcp_auto.specs.declared.phase.Phase.{Phase}
use Rattle.vdcp_auto.specs.declared.phase.Phase.TheVariants as phase
use Rattle.vdcp_world.proofs.LateLine.Executed.{Executed}
use Rattle.vdcp_world.proofs.LateLine.Places.{Answer}
use Rattle.vdcp_world.proofs.PhaseTable.{knows}

-- a presence that is said wrongly
abbrev pub differs : Bool → Bool → Bool
differs true b = not b
differs false b = b

abbrev pub misleads_at : List Item → List (ClipId × Timecode) → Phase → Reply → Bool
misleads_at list clips (phase.Exists k) r = is_presence r && differs (is_present r) (knows clips (slice_get list k))
misleads_at list clips _ r = false

abbrev pub misleads : List Item → List (ClipId × Timecode) → Answer → Bool
misleads list clips a = misleads_at list clips a.to a.reply

-- it makes no false answer
pub record Reads (list : List Item) (clips : List (ClipId × Timecode)) (d : Phase) (s : Bool) (a : Cued) (r : Reply)
    (t : Bool) (b : Cued) (airs : List Item)
    : Type 0 where
  pub executed : Executed list d s a r t b airs
  pub true_told : misleads_at list clips d r ≡ false
