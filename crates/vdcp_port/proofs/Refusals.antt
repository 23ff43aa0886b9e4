-- What is refused changes nothing.
use Rattle.std.proofs.Common.{◌≡◌, ◌&&◌, Bool, true, false, nat_eq, refl, List, ap, ◌∙◌}
use Rattle.std.specs.Prelude.{Option, None, Some, if◌then◌else◌}
use Rattle.vdcp_value.specs.declared.clip_id.ClipId.{ClipId}
use Rattle.vdcp_value.specs.declared.timecode.Timecode.{Timecode}
use Rattle.vdcp_frame.specs.Message.{Content}
use Rattle.vdcp_words.specs.declared.command.Command.{Command}
use Rattle.vdcp_words.specs.declared.command.Command.TheVariants.{Open, Close, Select, PlayCue, CueData, Play, Stop, Status, ActiveId, IdRequest, IdSize}
use Rattle.vdcp_words.specs.declared.reply.Reply.{Reply}
use Rattle.vdcp_words.specs.declared.reply.Reply.TheVariants as reply
use Rattle.vdcp_port.specs.declared.asked.Asked.{Asked}
use Rattle.vdcp_port.specs.declared.asked.Asked.TheVariants as asked
use Rattle.vdcp_port.specs.Asked.{asked_of}
use Rattle.vdcp_port.specs.Clips.{length_of, is_playable, whole, part_of}
use Rattle.vdcp_port.specs.Clock.{ClockedPort, answer_to, after_change, after_message}
use Rattle.vdcp_port.specs.Port.{Cued, empty, cueing, done, PortState, is_open, is_selected}
use Rattle.vdcp_port.specs.Row.{Row, Change, keeps, play_row, size_row, command_row, asked_row}

-- an answer that says no, or none
abbrev pub says_no : Option Reply → Bool
says_no None = true
says_no (Some (reply.Nak byte)) = true
says_no (Some (reply.Opened granted)) = if granted then false else true
says_no (Some _) = false

-- the row changes nothing if its answer says no
abbrev Spares : Row → Type 0
Spares r = says_no r.answer ≡ true → r.change ≡ keeps

spares_if : (b : Bool) (r s : Row) → Spares r → Spares s → Spares (if b then r else s)
spares_if true r s p q = p
spares_if false r s p q = q

spares_play : (cued : Cued) → Spares (play_row cued)
spares_play empty = λ e. refl
spares_play (cueing item) = λ e. refl
spares_play (done item) = λ e. cc

spares_size : (length : Option Timecode) → Spares (size_row length)
spares_size None = λ e. refl
spares_size (Some length) = λ e. refl

command_spares : (clips : List (ClipId × Timecode)) (p : PortState) (command : Command)
    → Spares (command_row clips p command)
command_spares clips p (Open number lock) = spares_if (nat_eq number p.number) _ _ (λ e. cc) (λ e. refl)
command_spares clips p (Close number) = spares_if (nat_eq number p.number) _ _ (λ e. cc) (λ e. refl)
command_spares clips p (Select number) = spares_if (nat_eq number p.number && is_open p) _ _ (λ e. cc) (λ e. refl)
command_spares clips p (PlayCue id) =
    spares_if (is_selected p && is_playable clips (whole id)) _ _ (λ e. cc) (λ e. refl)
command_spares clips p (CueData id start duration) =
    spares_if (is_selected p && is_playable clips (part_of id start duration)) _ _ (λ e. cc) (λ e. refl)
command_spares clips p Play = spares_if (is_selected p) _ _ (spares_play p.cued) (λ e. refl)
command_spares clips p Stop = spares_if (is_selected p) _ _ (λ e. cc) (λ e. refl)
command_spares clips p (Status bitmap) = spares_if (is_selected p) _ _ (λ e. refl) (λ e. refl)
command_spares clips p ActiveId = spares_if (is_selected p) _ _ (λ e. refl) (λ e. refl)
command_spares clips p (IdRequest id) = λ e. refl
command_spares clips p (IdSize id) = spares_size (length_of clips id)

asked_spares : (clips : List (ClipId × Timecode)) (p : PortState) (a : Asked) → Spares (asked_row clips p a)
asked_spares clips p asked.Nothing = λ e. refl
asked_spares clips p asked.NoCommand = λ e. refl
asked_spares clips p (asked.Command command) = command_spares clips p command

pub refusal_keeps : (p : ClockedPort) (m : Content) (answer : Option Reply) → says_no answer ≡ true
    → answer_to p m ≡ answer → after_message p m ≡ p
refusal_keeps p m answer says e =
    ap (λ (change : Change). after_change change p)
    (asked_spares p.clips p.state (asked_of p.state.unit m) (ap says_no e ∙ says))
