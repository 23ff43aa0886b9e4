-- What a port answers to a whole burst.
use Rattle.std.specs.List.{flat_map}
use Rattle.std.specs.Option.{option_to_list}
use Rattle.std.specs.Prelude.{ℕ, ◌+◌, ◌*◌, ◌/◌, min, List, [], ◌∷◌, ◌++◌, length, Option, None, Some}
use Rattle.vdcp_value.specs.declared.part.Item.{Item}
use Rattle.vdcp_frame.specs.Burst.{messages_of, end_of}
use Rattle.vdcp_frame.specs.Message.{Content, spelling}
use Rattle.vdcp_frame.specs.Reading.{End, clean, cut, fault, burst_limit}
use Rattle.vdcp_frame.specs.declared.got.Ended.{Ended}
use Rattle.vdcp_frame.specs.declared.got.Ended.TheVariants as silence
use Rattle.vdcp_words.specs.Replies.{reply_message}
use Rattle.vdcp_words.specs.declared.reply.Reply.{Reply}
use Rattle.vdcp_words.specs.declared.reply.Reply.TheVariants.{Nak}
use Rattle.vdcp_port.specs.Clock.{ClockedPort, answer_to, after_message, aired_by}

-- the answers to messages, in order: each message finds the port that those before it have left
abbrev pub answers_to : ClockedPort → List Content → List Reply
answers_to p [] = []
answers_to p (m ∷ ms) = option_to_list (answer_to p m) ++ answers_to (after_message p m) ms

-- the items that go to air on the way
abbrev pub aired_on_way : ClockedPort → List Content → List Item
aired_on_way p [] = []
aired_on_way p (m ∷ ms) = option_to_list (aired_by p m) ++ aired_on_way (after_message p m) ms

-- the port that they leave
abbrev pub after_messages : ClockedPort → List Content → ClockedPort
after_messages p [] = p
after_messages p (m ∷ ms) = after_messages (after_message p m) ms

-- what is answered, after the other answers, to how a burst ends
abbrev pub end_answers : End → List Reply
end_answers clean = []
end_answers (cut count) = Nak 0x80 ∷ []
end_answers (fault which place) = Nak 0x04 ∷ []

-- the same of a burst that a silence ends
abbrev pub reply_at_end : Ended → Option Reply
reply_at_end silence.Clean = None
reply_at_end (silence.Cut count) = Some (Nak 0x80)
reply_at_end silence.AfterFault = Some (Nak 0x04)

-- the bytes of answers from a unit
abbrev pub reply_bytes : ℕ → Reply → List ℕ
reply_bytes unit reply = spelling (reply_message unit reply)

abbrev pub answer_bytes : ℕ → List Reply → List ℕ
answer_bytes unit replies = flat_map (reply_bytes unit) replies

-- the bytes that go out for one message, and the items that go to air by it
abbrev pub bytes_for : ClockedPort → Content → List ℕ
bytes_for p m = answer_bytes p.state.unit (option_to_list (answer_to p m))

abbrev pub items_for : ClockedPort → Content → List Item
items_for p m = option_to_list (aired_by p m)

-- the bytes that go out for messages one after another, and then at the burst's end
abbrev pub bytes_for_all : ClockedPort → List Content → List ℕ
bytes_for_all p ms = answer_bytes p.state.unit (answers_to p ms)

abbrev pub bytes_at_end : ℕ → Ended → List ℕ
bytes_at_end unit ended = answer_bytes unit (option_to_list (reply_at_end ended))

-- the bytes that a port sends for a burst of these messages and this end
abbrev pub sent_bytes : ClockedPort → List Content → End → List ℕ
sent_bytes p ms end = answer_bytes p.state.unit (answers_to p ms ++ end_answers end)

-- the bytes that a port sends for a burst, the items that go to air, and the port that the burst leaves
abbrev pub sent_for : ClockedPort → List ℕ → List ℕ
sent_for p burst = sent_bytes p (messages_of burst) (end_of burst)

abbrev pub aired_for : ClockedPort → List ℕ → List Item
aired_for p burst = aired_on_way p (messages_of burst)

abbrev pub after_burst : ClockedPort → List ℕ → ClockedPort
after_burst p burst = after_messages p (messages_of burst)

-- as many bytes as a burst's answers have at most, and as many items as it airs at most
abbrev pub most_sent : List ℕ → ℕ
most_sent burst = 3 * min (length burst) burst_limit + 2

abbrev pub most_aired : List ℕ → ℕ
most_aired burst = min (length burst / 5) 1
