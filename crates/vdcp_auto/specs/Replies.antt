-- What a reply says to the controller.
use Rattle.std.specs.Prelude.{Bool, true, false, not, ◌&&◌, ◌==◌, Some, ℕ, bit_and}
use Rattle.vdcp_words.specs.declared.reply.Reply.{Reply}
use Rattle.vdcp_words.specs.declared.reply.Reply.TheVariants as reply

abbrev pub is_ack : Reply → Bool
is_ack reply.Ack = true
is_ack _ = false

-- an ACK or a NAK
abbrev pub is_receipt : Reply → Bool
is_receipt reply.Ack = true
is_receipt (reply.Nak e) = true
is_receipt _ = false

-- NAK 01, the only refusal
abbrev pub is_refusal : Reply → Bool
is_refusal (reply.Nak e) = e == 1
is_refusal _ = false

abbrev pub is_granted : Reply → Bool
is_granted (reply.Opened granted) = granted
is_granted _ = false

abbrev pub is_present : Reply → Bool
is_present (reply.Present present) = present
is_present _ = false

-- the reply has a state byte, in which the bit of this weight is on
abbrev pub has_on : ℕ → Reply → Bool
has_on weight (reply.State groups (Some byte)) = not (bit_and byte weight == 0)
has_on weight _ = false

-- the reply has a state byte, in which the bit of this weight is off
abbrev pub has_off : ℕ → Reply → Bool
has_off weight (reply.State groups (Some byte)) = bit_and byte weight == 0
has_off weight _ = false

-- bit 7: the cue is done
abbrev pub is_done : Reply → Bool
is_done r = has_on 128 r

-- bit 1: something is being cued
abbrev pub is_cueing : Reply → Bool
is_cueing r = has_on 2 r

-- bit 2: a clip plays
abbrev pub is_playing : Reply → Bool
is_playing r = has_on 4 r

-- bits 1 and 7 off: nothing is cued, nor being cued
abbrev pub is_empty : Reply → Bool
is_empty r = has_off 2 r && has_off 128 r
