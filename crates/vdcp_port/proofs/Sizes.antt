-- How long the answers to a message and to a burst are at most.
use Rattle.std.proofs.Common.{ℕ, sum, min, take, ◌∙◌, ◌≡◌, ◌+◌, ◌*◌, ◌≤◌, List, [], ◌∷◌, ◌++◌, length, arith, lit≤, length-append, ap}
use Rattle.std.proofs.lemmas.List.{length-take}
use Rattle.std.specs.Option.{option_to_list}
use Rattle.std.specs.Prelude.{Option, None, Some, IfSome}
use Rattle.vdcp_value.specs.Ids.{id_bytes}
use Rattle.vdcp_value.specs.declared.clip_id.ClipId.{ClipId}
use Rattle.vdcp_value.specs.declared.timecode.Timecode.{Timecode}
use Rattle.vdcp_frame.specs.Burst.{messages_of, end_of}
use Rattle.vdcp_frame.specs.Message.{Content, ack, nak, framed, AreOctets, Spells, check_byte}
use Rattle.vdcp_frame.specs.Reading.{SpellsAll, End, clean, cut, fault, burst_limit}
use Rattle.vdcp_words.specs.Replies.{IsWritableReply}
use Rattle.vdcp_words.specs.declared.reply.Reply.{Reply}
use Rattle.vdcp_words.specs.declared.reply.Reply.TheVariants.{Ack, Nak, Opened, State, Active, Present, Size}
use Rattle.vdcp_port.specs.Answers.{aired_on_way, end_answers, reply_bytes, answer_bytes, bytes_for, bytes_for_all, sent_for, aired_for, most_sent, most_aired}
use Rattle.vdcp_port.specs.Asked.{asked_of}
use Rattle.vdcp_port.specs.Clock.{ClockedPort, answer_to, after_message, aired_by}
use Rattle.vdcp_port.specs.Port.{PortState}
use Rattle.vdcp_port.specs.Row.{Row, Change, keeps, opens, closes, selects, cues, airs, stops, asked_row, message_row, on_air}
use Rattle.vdcp_port.specs.declared.asked.Asked.{Asked}
use Rattle.vdcp_port.specs.declared.asked.Asked.TheVariants as asked
use Rattle.vdcp_port.proofs.Answering.{bytes_for_first, sent_in_parts}
use Rattle.vdcp_port.proofs.Bursts.{one_at_most}
use Rattle.vdcp_port.proofs.LawsBelow.{ValueBytes, SomeReading}
use Rattle.vdcp_port.proofs.Readable.{readable_row}

-- a frame is five bytes longer than its data
frame_size : (rest : List ℕ) (check : ℕ) → length (rest ++ check ∷ []) ≡ length rest + 1
frame_size rest check = length-append rest (check ∷ [])

-- no answer is longer than one with an ID
short_reply : ValueBytes → (unit : ℕ) (reply : Reply) → IsWritableReply reply → length (reply_bytes unit reply) ≤ 14
short_reply law unit (Active (Some id)) w =
    omega (
      arith,
      law.counted 8 (id_bytes id) (law.eight id),
      frame_size (id_bytes id) (check_byte (16 * 3 + unit + 0x87 + sum (1 ∷ id_bytes id))),
    )
short_reply law unit (Size time) w = omega (arith, law.counted 4 time w, frame_size)
short_reply law unit (Present there) w = lit≤ tt
short_reply law unit (State bitmap None) w = lit≤ tt
short_reply law unit other w = lit≤ tt

-- the answer, and the item, of a row
abbrev IsShort : ℕ → Row → Type 0
IsShort unit r = length (answer_bytes unit (option_to_list r.answer)) ≤ 14

short_answer : ValueBytes → (unit : ℕ) (answer : Option Reply) → IfSome answer IsWritableReply
    → length (answer_bytes unit (option_to_list answer)) ≤ 14
short_answer law unit None w = lit≤ tt
short_answer law unit (Some reply) w =
    omega (arith, short_reply law unit reply w, length-append (reply_bytes unit reply) [])

short_row : ValueBytes → (clips : List (ClipId × Timecode)) (p : PortState) (a : Asked)
    → IsShort p.unit (asked_row clips p a)
short_row law clips p asked.Nothing = lit≤ tt
short_row law clips p asked.NoCommand = lit≤ tt
short_row law clips p (asked.Command command) = short_answer law p.unit _ (readable_row law.four clips p command)

-- an answer has at most three bytes for each byte of its message
pub short_for_message : ValueBytes → (p : ClockedPort) (m : Content) (bytes : List ℕ) → Spells m bytes
    → length (answer_bytes p.state.unit (option_to_list (answer_to p m))) ≤ 3 * length bytes
short_for_message law p ack bytes h = omega arith
short_for_message law p (nak byte) bytes h = omega arith
short_for_message law p (framed kind unit code rest) bytes h =
    let short = short_row law p.clips p.state (asked_of p.state.unit (framed kind unit code rest)) in
    omega (arith, short, ap length h.spelt, frame_size rest h.check)

one_item : (change : Change) → length (option_to_list (on_air change)) ≤ 1
one_item keeps = lit≤ tt
one_item other = lit≤ tt

-- at most one item airs for five bytes of a message
pub one_item_for_five : (p : ClockedPort) (m : Content) (bytes : List ℕ) → Spells m bytes
    → 5 * length (option_to_list (aired_by p m)) ≤ length bytes
one_item_for_five p ack bytes h = omega arith
one_item_for_five p (nak byte) bytes h = omega arith
one_item_for_five p (framed kind unit code rest) bytes h =
    let one = one_item (message_row p.clips p.state (framed kind unit code rest)).change in
    omega (arith, one, ap length h.spelt, frame_size rest h.check)

-- ---- of messages one after another, and of a burst

abbrev pub ShortAnswers : Type 0
ShortAnswers =
    (p : ClockedPort) (m : Content) (bytes : List ℕ) → Spells m bytes → length (bytes_for p m) ≤ 3 * length bytes

pub size_of_first : (p : ClockedPort) (m : Content) (ms : List Content)
    → length (bytes_for_all p (m ∷ ms)) ≡ length (bytes_for p m) + length (bytes_for_all (after_message p m) ms)
size_of_first p m ms =
    ap length (bytes_for_first p m ms) ∙ length-append (bytes_for p m) (bytes_for_all (after_message p m) ms)

pub short_for_all : ShortAnswers → (p : ClockedPort) (ms : List Content) (bytes : List ℕ) → SpellsAll ms bytes
    → length (bytes_for_all p ms) ≤ 3 * length bytes
short_for_all law p [] bytes spelt = omega arith
short_for_all law p (m ∷ ms) bytes (first, others, spells, spelt, parts) =
    let now = after_message p m in
    let one = law p m first spells in
    let more = short_for_all law now ms others spelt in
    omega (arith, one, more, size_of_first p m ms, ap length parts, length-append first others)

items_for_five : (p : ClockedPort) (ms : List Content) (bytes : List ℕ) → SpellsAll ms bytes
    → 5 * length (aired_on_way p ms) ≤ length bytes
items_for_five p [] bytes spelt = omega arith
items_for_five p (m ∷ ms) bytes (first, others, spells, spelt, parts) =
    let now = after_message p m in
    let one = one_item_for_five p m first spells in
    let more = items_for_five now ms others spelt in
    omega (
      arith,
      one,
      more,
      length-append (option_to_list (aired_by p m)) (aired_on_way now ms),
      ap length parts,
      length-append first others,
    )

short_end : (unit : ℕ) (end : End) → length (answer_bytes unit (end_answers end)) ≤ 2
short_end unit clean = lit≤ tt
short_end unit other = lit≤ tt

size_of_front : (limit : ℕ) (burst whole others : List ℕ) → take limit burst ≡ whole ++ others
    → length whole ≤ min (length burst) limit
size_of_front limit burst whole others parts =
    omega (arith, ap length parts, length-append whole others, length-take limit burst)

pub fits_most : ShortAnswers → SomeReading → (p : ClockedPort) (burst : List ℕ) → AreOctets burst
    → length (sent_for p burst) ≤ most_sent burst
fits_most law reading p burst fits =
    let front = (reading burst fits).front in
    let ms = messages_of burst in
    let size = size_of_front burst_limit burst front.whole front.remainder front.parts in
    let all = short_for_all law p ms front.whole front.spelt in
    let last = short_end p.state.unit (end_of burst) in
    omega (
      arith,
      size,
      all,
      last,
      ap length (sent_in_parts p ms (end_of burst)),
      length-append (bytes_for_all p ms) (answer_bytes p.state.unit (end_answers (end_of burst))),
    )

pub airs_most : SomeReading → (p : ClockedPort) (burst : List ℕ) → AreOctets burst
    → length (aired_for p burst) ≤ most_aired burst
airs_most reading p burst fits =
    let front = (reading burst fits).front in
    let ms = messages_of burst in
    let size = size_of_front burst_limit burst front.whole front.remainder front.parts in
    omega (arith, size, items_for_five p ms front.whole front.spelt, one_at_most p ms)
