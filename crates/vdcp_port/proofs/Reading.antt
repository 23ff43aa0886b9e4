-- Answers to many messages are read back; a command's message asks for it.
use Rattle.std.proofs.Common.{ℕ, ◌≡◌, Bool, true, false, nat_eq, arith, List, [], ◌∷◌, ◌++◌, All, ap, lit<, if◌then◌else◌}
use Rattle.std.proofs.lemmas.List.Elements.{All-append, All-cons, All-nil}
use Rattle.std.specs.Option.{option_to_list}
use Rattle.std.specs.Prelude.{Option, None, Some, IfSome}
use Rattle.vdcp_value.specs.declared.clip_id.ClipId.{ClipId}
use Rattle.vdcp_value.specs.declared.timecode.Timecode.{Timecode}
use Rattle.vdcp_frame.specs.Message.{Content}
use Rattle.vdcp_frame.specs.Reading.{End, clean, cut, fault}
use Rattle.vdcp_words.specs.Commands.{command_message, IsWritableCommand}
use Rattle.vdcp_words.specs.Computed.{command_of}
use Rattle.vdcp_words.specs.Replies.{IsWritableReply}
use Rattle.vdcp_words.specs.declared.command.Command.{Command}
use Rattle.vdcp_words.specs.declared.reply.Reply.{Reply}
use Rattle.vdcp_port.specs.declared.asked.Asked.{Asked}
use Rattle.vdcp_port.specs.declared.asked.Asked.TheVariants as asked
use Rattle.vdcp_port.specs.Answers.{answers_to, end_answers}
use Rattle.vdcp_port.specs.Asked.{asked_of, asked_by}
use Rattle.vdcp_port.specs.Clock.{ClockedPort, answer_to, after_message}
use Rattle.vdcp_port.specs.Port.{PortState}
use Rattle.vdcp_port.specs.Row.{asked_row}
use Rattle.vdcp_port.proofs.LawsBelow.{FourBytes, ReadBack}
use Rattle.vdcp_port.proofs.Readable.{readable_row}

asked_readable : FourBytes → (clips : List (ClipId × Timecode)) (p : PortState) (a : Asked)
    → IfSome (asked_row clips p a).answer IsWritableReply
asked_readable four clips p asked.Nothing = tt
asked_readable four clips p asked.NoCommand = lit< tt
asked_readable four clips p (asked.Command command) = readable_row four clips p command

one_readable : (answer : Option Reply) → IfSome answer IsWritableReply → All IsWritableReply (option_to_list answer)
one_readable None w = All-nil IsWritableReply
one_readable (Some reply) w = All-cons IsWritableReply reply [] w (All-nil IsWritableReply)

all_readable : FourBytes → (p : ClockedPort) (ms : List Content) → All IsWritableReply (answers_to p ms)
all_readable four p [] = All-nil IsWritableReply
all_readable four p (m ∷ ms) =
    All-append IsWritableReply (option_to_list (answer_to p m)) (answers_to (after_message p m) ms)
    (one_readable (answer_to p m) (asked_readable four p.clips p.state (asked_of p.state.unit m)))
    (all_readable four (after_message p m) ms)

end_readable : (end : End) → All IsWritableReply (end_answers end)
end_readable clean = All-nil IsWritableReply
end_readable (cut count) = All-cons IsWritableReply _ [] (lit< tt) (All-nil IsWritableReply)
end_readable (fault which place) = All-cons IsWritableReply _ [] (lit< tt) (All-nil IsWritableReply)

pub burst_readable : FourBytes → (p : ClockedPort) (ms : List Content) (end : End)
    → All IsWritableReply (answers_to p ms ++ end_answers end)
burst_readable four p ms end =
    All-append IsWritableReply (answers_to p ms) (end_answers end) (all_readable four p ms) (end_readable end)

-- ---- a command's message asks for it

asks_if : ReadBack → (same : Bool) (unit : ℕ) (command : Command) → IsWritableCommand command → same ≡ true
    → (if same then asked_by (command_of (command_message unit command)) else asked.Nothing) ≡ asked.Command command
asks_if law true unit command w e = ap asked_by (law unit command w)
asks_if law false unit command w e = cc

pub asks_own_unit : ReadBack → (unit : ℕ) (command : Command) → IsWritableCommand command
    → asked_of unit (command_message unit command) ≡ asked.Command command
asks_own_unit law unit command w = asks_if law (nat_eq unit unit) unit command w (grind arith)
