-- A port that says that it is idle.
use Rattle.std.proofs.Common.{ℕ, ◌≡◌, ◌&&◌, Bool, true, false, nat_eq, arith, refl, List, ap}
use Rattle.std.specs.Prelude.{Option, None, Some, bit_and, if◌then◌else◌}
use Rattle.vdcp_value.specs.declared.clip_id.ClipId.{ClipId}
use Rattle.vdcp_value.specs.declared.part.Item.{Item}
use Rattle.vdcp_value.specs.declared.timecode.Timecode.{Timecode}
use Rattle.vdcp_frame.specs.Message.{Content}
use Rattle.vdcp_words.specs.Replies.{has_bit_0}
use Rattle.vdcp_words.specs.declared.command.Command.{Command}
use Rattle.vdcp_words.specs.declared.command.Command.TheVariants.{Open, Close, Select, PlayCue, CueData, Play, Stop, Status, ActiveId, IdRequest, IdSize}
use Rattle.vdcp_words.specs.declared.reply.Reply.{Reply}
use Rattle.vdcp_words.specs.declared.reply.Reply.TheVariants as reply
use Rattle.vdcp_port.specs.declared.asked.Asked.{Asked}
use Rattle.vdcp_port.specs.declared.asked.Asked.TheVariants as asked
use Rattle.vdcp_port.specs.Asked.{asked_of}
use Rattle.vdcp_port.specs.Clips.{length_of, is_playable, whole, part_of}
use Rattle.vdcp_port.specs.Clock.{ClockedPort, answer_to, after_message}
use Rattle.vdcp_port.specs.Kept.{HasSlotsOf}
use Rattle.vdcp_port.specs.Port.{Cued, empty, cueing, done, PortState, is_open, is_selected, state_byte, state_byte_of}
use Rattle.vdcp_port.specs.Row.{Row, play_row, size_row, state_reply, command_row, asked_row, changed, row, refused, keeps, opens, selects}

-- a row whose answer has the idle state is that of a port whose state byte is this
abbrev Tells : PortState → Option Reply → Type 0
Tells p answer = (groups : ℕ) → answer ≡ Some (reply.State groups (Some 1)) → state_byte p ≡ 1

tells_if : (p : PortState) (b : Bool) (r s : Row) → Tells p r.answer → Tells p s.answer
    → Tells p (if b then r else s).answer
tells_if p true r s x y = x
tells_if p false r s x y = y

tells_play : (p : PortState) (cued : Cued) → Tells p (play_row cued).answer
tells_play p empty groups e = cc
tells_play p other groups e = cc

tells_size : (p : PortState) (length : Option Timecode) → Tells p (size_row length).answer
tells_size p None groups e = cc
tells_size p (Some length) groups e = cc

state_of : Option Reply → ℕ
state_of (Some (reply.State groups (Some state))) = state
state_of _ = 0

tells_state : (p : PortState) (b : Bool) (groups : ℕ)
    → Some (if b then reply.State 1 (Some (state_byte p)) else reply.State 0 None) ≡ Some (reply.State groups (Some 1))
    → state_byte p ≡ 1
unfolding state_of
tells_state p true groups e = ap state_of e
tells_state p false groups e = cc

tells_command : (clips : List (ClipId × Timecode)) (p : PortState) (c : Command)
    → Tells p (command_row clips p c).answer
tells_command clips p (Open number lock) = tells_if p (nat_eq number p.number) _ _ (λ groups e. cc) (λ groups e. cc)
tells_command clips p (Close number) = tells_if p (nat_eq number p.number) _ _ (λ groups e. cc) (λ groups e. cc)
tells_command clips p (Select number) =
    tells_if p (nat_eq number p.number && is_open p) _ _ (λ groups e. cc) (λ groups e. cc)
tells_command clips p (PlayCue id) =
    tells_if p (is_selected p && is_playable clips (whole id)) _ _ (λ groups e. cc) (λ groups e. cc)
tells_command clips p (CueData id start duration) =
    tells_if p (is_selected p && is_playable clips (part_of id start duration)) _ _ (λ groups e. cc) (λ groups e. cc)
tells_command clips p Play = tells_if p (is_selected p) _ _ (tells_play p p.cued) (λ groups e. cc)
tells_command clips p Stop = tells_if p (is_selected p) _ _ (λ groups e. cc) (λ groups e. cc)
tells_command clips p (Status bitmap) =
    tells_if p (is_selected p) _ _ (tells_state p (has_bit_0 bitmap)) (λ groups e. cc)
tells_command clips p ActiveId = tells_if p (is_selected p) _ _ (λ groups e. cc) (λ groups e. cc)
tells_command clips p (IdRequest id) = λ groups e. cc
tells_command clips p (IdSize id) = tells_size p (length_of clips id)

tells_asked : (clips : List (ClipId × Timecode)) (p : PortState) (a : Asked) → Tells p (asked_row clips p a).answer
tells_asked clips p asked.Nothing = λ groups e. cc
tells_asked clips p asked.NoCommand = λ groups e. cc
tells_asked clips p (asked.Command c) = tells_command clips p c

pub tells_byte : (p : ClockedPort) (m : Content) (groups : ℕ) → answer_to p m ≡ Some (reply.State groups (Some 1))
    → state_byte p.state ≡ 1
tells_byte p m = tells_asked p.clips p.state (asked_of p.state.unit m)

empty_slots : (cued : Cued) (playing : Option Item) → state_byte_of cued playing ≡ 1 → (cued ≡ empty) × (playing ≡ None)
empty_slots empty None e = (refl, refl)
empty_slots empty (Some clip) e = absurd (omega (arith, e))
empty_slots (cueing item) None e = absurd (omega (arith, e))
empty_slots (cueing item) (Some clip) e = absurd (omega (arith, e))
empty_slots (done item) None e = absurd (omega (arith, e))
empty_slots (done item) (Some clip) e = absurd (omega (arith, e))

pub idle_is_empty : (p : PortState) → state_byte p ≡ 1 → (p.cued ≡ empty) × (p.playing ≡ None)
idle_is_empty p = empty_slots p.cued p.playing

pub none_cued : (p : PortState) → state_byte p ≡ 1 → bit_and (state_byte p) 0x82 ≡ 0
none_cued p e = ap (λ b. bit_and b 0x82) e

-- what OPEN, SELECT and STATUS leave
slots_if : (p : PortState) (b : Bool) (r s : Row) → HasSlotsOf p (changed r.change p)
    → HasSlotsOf p (changed s.change p)
    → HasSlotsOf p (changed (if b then r else s).change p)
slots_if p true r s x y = x
slots_if p false r s x y = y

pub open_leaves : (p : ClockedPort) (m : Content) (number lock : ℕ)
    → asked_of p.state.unit m ≡ asked.Command (Open number lock)
    → HasSlotsOf p.state (after_message p m).state
open_leaves p m number lock is =
    rw is (slots_if p.state (nat_eq number p.state.number) (row (reply.Opened true) opens)
    (row (reply.Opened false) keeps) (refl, refl) (refl, refl))

pub select_leaves : (p : ClockedPort) (m : Content) (number : ℕ)
    → asked_of p.state.unit m ≡ asked.Command (Select number)
    → HasSlotsOf p.state (after_message p m).state
select_leaves p m number is =
    rw is (slots_if p.state (nat_eq number p.state.number && is_open p.state) (row reply.Ack selects) refused
    (refl, refl) (refl, refl))

pub status_leaves : (p : ClockedPort) (m : Content) (bitmap : ℕ)
    → asked_of p.state.unit m ≡ asked.Command (Status bitmap)
    → HasSlotsOf p.state (after_message p m).state
status_leaves p m bitmap is =
    rw is (slots_if p.state (is_selected p.state) (row (state_reply bitmap (state_byte p.state)) keeps) refused
    (refl, refl) (refl, refl))
