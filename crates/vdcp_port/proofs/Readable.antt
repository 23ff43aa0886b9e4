-- Each command has an answer in the table, and each answer is read back.
use Rattle.std.proofs.Common.{ℕ, ◌≡◌, ◌<◌, ◌&&◌, Bool, true, false, nat_eq, refl, List, lit<}
use Rattle.std.specs.Prelude.{Option, None, Some, IfSome, is_some, if◌then◌else◌}
use Rattle.vdcp_value.specs.declared.clip_id.ClipId.{ClipId}
use Rattle.vdcp_value.specs.declared.part.Item.{Item}
use Rattle.vdcp_value.specs.declared.timecode.Timecode.{Timecode}
use Rattle.vdcp_words.specs.Replies.{has_bit_0, IsWritableReply}
use Rattle.vdcp_words.specs.declared.command.Command.{Command}
use Rattle.vdcp_words.specs.declared.command.Command.TheVariants.{Open, Close, Select, PlayCue, CueData, Play, Stop, Status, ActiveId, IdRequest, IdSize}
use Rattle.vdcp_words.specs.declared.reply.Reply.{Reply}
use Rattle.vdcp_words.specs.declared.reply.Reply.TheVariants as reply
use Rattle.vdcp_port.specs.Clips.{length_of, is_playable, whole, part_of}
use Rattle.vdcp_port.specs.Port.{Cued, empty, cueing, done, PortState, is_open, is_selected, state_byte_of, state_byte}
use Rattle.vdcp_port.specs.Row.{Row, refused, play_row, size_row, state_reply, command_row}
use Rattle.vdcp_port.proofs.LawsBelow.{FourBytes}

state_byte_below : (cued : Cued) (playing : Option Item) → state_byte_of cued playing < 256
state_byte_below empty None = lit< tt
state_byte_below empty (Some clip) = lit< tt
state_byte_below (cueing item) None = lit< tt
state_byte_below (cueing item) (Some clip) = lit< tt
state_byte_below (done item) None = lit< tt
state_byte_below (done item) (Some clip) = lit< tt

readable_state : (bitmap byte : ℕ) → byte < 256 → IsWritableReply (state_reply bitmap byte)
readable_state bitmap byte below =
    elim (has_bit_0 bitmap) as (λ b. IsWritableReply (if b then reply.State 1 (Some byte) else reply.State 0 None)) [
      | true ↦ (lit< tt, refl, below)
      | false ↦ (lit< tt, refl)
    ]

-- the row's answer, if it has one, is read back
abbrev IsReadable : Row → Type 0
IsReadable r = IfSome r.answer IsWritableReply

readable_if : (b : Bool) (r s : Row) → IsReadable r → IsReadable s → IsReadable (if b then r else s)
readable_if true r s p q = p
readable_if false r s p q = q

refusal : IsReadable refused
refusal = lit< tt

readable_size : FourBytes → (length : Option Timecode) → IsReadable (size_row length)
readable_size four None = refusal
readable_size four (Some length) = four length

readable_play : (cued : Cued) → IsReadable (play_row cued)
readable_play empty = tt
readable_play other = tt

pub readable_row : FourBytes → (clips : List (ClipId × Timecode)) (p : PortState) (command : Command)
    → IsReadable (command_row clips p command)
readable_row four clips p (Open number lock) = readable_if (nat_eq number p.number) _ _ tt tt
readable_row four clips p (Close number) = readable_if (nat_eq number p.number) _ _ tt refusal
readable_row four clips p (Select number) = readable_if (nat_eq number p.number && is_open p) _ _ tt refusal
readable_row four clips p (PlayCue id) = readable_if (is_selected p && is_playable clips (whole id)) _ _ tt refusal
readable_row four clips p (CueData id start duration) =
    readable_if (is_selected p && is_playable clips (part_of id start duration)) _ _ tt refusal
readable_row four clips p Play = readable_if (is_selected p) _ _ (readable_play p.cued) refusal
readable_row four clips p Stop = readable_if (is_selected p) _ _ tt refusal
readable_row four clips p (Status bitmap) =
    readable_if (is_selected p) _ _ (readable_state bitmap (state_byte p) (state_byte_below p.cued p.playing)) refusal
readable_row four clips p ActiveId = readable_if (is_selected p) _ _ tt refusal
readable_row four clips p (IdRequest id) = tt
readable_row four clips p (IdSize id) = readable_size four (length_of clips id)

-- each command's row has an answer

has_if : (b : Bool) (r s : Row) → is_some r.answer ≡ true → is_some s.answer ≡ true
    → is_some (if b then r else s).answer ≡ true
has_if true r s p q = p
has_if false r s p q = q

has_play : (cued : Cued) → is_some (play_row cued).answer ≡ true
has_play empty = refl
has_play other = refl

has_size : (length : Option Timecode) → is_some (size_row length).answer ≡ true
has_size None = refl
has_size (Some length) = refl

has_answer : (clips : List (ClipId × Timecode)) (p : PortState) (command : Command)
    → is_some (command_row clips p command).answer ≡ true
has_answer clips p (Open number lock) = has_if (nat_eq number p.number) _ _ refl refl
has_answer clips p (Close number) = has_if (nat_eq number p.number) _ _ refl refl
has_answer clips p (Select number) = has_if (nat_eq number p.number && is_open p) _ _ refl refl
has_answer clips p (PlayCue id) = has_if (is_selected p && is_playable clips (whole id)) _ _ refl refl
has_answer clips p (CueData id start duration) =
    has_if (is_selected p && is_playable clips (part_of id start duration)) _ _ refl refl
has_answer clips p Play = has_if (is_selected p) _ _ (has_play p.cued) refl
has_answer clips p (IdRequest id) = refl
has_answer clips p (IdSize id) = has_size (length_of clips id)
has_answer clips p other = has_if (is_selected p) _ _ refl refl

readable_one : (answer : Option Reply) → is_some answer ≡ true → IfSome answer IsWritableReply
    → (reply : Reply) × (answer ≡ Some reply) × IsWritableReply reply
readable_one None e w = cc
readable_one (Some reply) e w = (reply, refl, w)

pub answered_row : FourBytes → (clips : List (ClipId × Timecode)) (p : PortState) (command : Command)
    → (reply : Reply) × ((command_row clips p command).answer ≡ Some reply) × IsWritableReply reply
answered_row four clips p command =
    readable_one (command_row clips p command).answer (has_answer clips p command) (readable_row four clips p command)
