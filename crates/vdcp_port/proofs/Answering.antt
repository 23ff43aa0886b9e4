-- Answers to messages after messages, and to a burst as it is read.
use Rattle.std.proofs.Common.{ℕ, ◌≤◌, ◌≡◌, List, [], ◌∷◌, ◌++◌, length, arith, refl, sym, ap, ap₂, ◌∙◌, append_assoc, append-nil, length-append}
use Rattle.std.proofs.lemmas.Grind.{flat_map-append}
use Rattle.std.specs.Option.{option_or, option_to_list}
use Rattle.std.specs.Prelude.{Option, None, Some}
use Rattle.vdcp_value.specs.declared.part.Item.{Item}
use Rattle.vdcp_frame.specs.Message.{Content}
use Rattle.vdcp_frame.specs.Message.{AreOctets}
use Rattle.vdcp_frame.specs.Reader.{IsEnd, ReadsAs}
use Rattle.vdcp_frame.specs.Reading.{Reads, End, clean, cut, fault}
use Rattle.vdcp_frame.specs.declared.got.Ended.{Ended}
use Rattle.vdcp_frame.specs.declared.got.Ended.TheVariants as silence
use Rattle.vdcp_words.specs.declared.reply.Reply.{Reply}
use Rattle.vdcp_port.specs.Answers.{answers_to, aired_on_way, after_messages, end_answers, reply_at_end, reply_bytes, answer_bytes, bytes_for, bytes_for_all, bytes_at_end, items_for, sent_bytes, sent_for, aired_for, after_burst}
use Rattle.vdcp_port.specs.Clock.{ClockedPort, answer_to, after_message, aired_by}
use Rattle.vdcp_port.proofs.Bursts.{one_at_most}
use Rattle.vdcp_port.proofs.LawsBelow.{OneReading}
use Rattle.vdcp_port.proofs.Units.{unit_of_after}

-- messages after messages

pub answers_to_both : (p : ClockedPort) (ms ns : List Content)
    → answers_to p (ms ++ ns) ≡ answers_to p ms ++ answers_to (after_messages p ms) ns
answers_to_both p [] ns = refl
answers_to_both p (m ∷ ms) ns =
    ap (λ (later : List Reply). option_to_list (answer_to p m) ++ later) (answers_to_both (after_message p m) ms ns)
    ∙ sym (append_assoc (option_to_list (answer_to p m)) _ _)

pub aired_by_both : (p : ClockedPort) (ms ns : List Content)
    → aired_on_way p (ms ++ ns) ≡ aired_on_way p ms ++ aired_on_way (after_messages p ms) ns
aired_by_both p [] ns = refl
aired_by_both p (m ∷ ms) ns =
    ap (λ (later : List Item). option_to_list (aired_by p m) ++ later) (aired_by_both (after_message p m) ms ns)
    ∙ sym (append_assoc (option_to_list (aired_by p m)) _ _)

pub after_both : (p : ClockedPort) (ms ns : List Content)
    → after_messages p (ms ++ ns) ≡ after_messages (after_messages p ms) ns
after_both p [] ns = refl
after_both p (m ∷ ms) ns = after_both (after_message p m) ms ns

pub bytes_for_both : (p : ClockedPort) (ms ns : List Content)
    → bytes_for_all p (ms ++ ns) ≡ bytes_for_all p ms ++ bytes_for_all (after_messages p ms) ns
bytes_for_both p ms ns =
    ap (answer_bytes p.state.unit) (answers_to_both p ms ns)
    ∙ flat_map-append (reply_bytes p.state.unit) (answers_to p ms) (answers_to (after_messages p ms) ns)
    ∙ ap (λ unit. bytes_for_all p ms ++ answer_bytes unit (answers_to (after_messages p ms) ns))
    (sym (unit_of_after p ms))

-- one more message

pub bytes_for_alone : (p : ClockedPort) (m : Content) → bytes_for_all p (m ∷ []) ≡ bytes_for p m
bytes_for_alone p m = ap (answer_bytes p.state.unit) (append-nil (option_to_list (answer_to p m)))

pub aired_by_alone : (p : ClockedPort) (m : Content) → aired_on_way p (m ∷ []) ≡ items_for p m
aired_by_alone p m = append-nil (items_for p m)

-- a message's answer goes before those to the messages after it
pub bytes_for_first : (p : ClockedPort) (m : Content) (ms : List Content)
    → bytes_for_all p (m ∷ ms) ≡ bytes_for p m ++ bytes_for_all (after_message p m) ms
bytes_for_first p m ms =
    bytes_for_both p (m ∷ []) ms
    ∙ ap (λ (bytes : List ℕ). bytes ++ bytes_for_all (after_message p m) ms) (bytes_for_alone p m)

-- if one item at most airs, the first one that airs is all of them
first_of_one : (a b : Option Item) → length (option_to_list a ++ option_to_list b) ≤ 1
    → option_to_list (option_or a b) ≡ option_to_list a ++ option_to_list b
first_of_one None b most = refl
first_of_one (Some a) None most = refl
first_of_one (Some a) (Some b) most = absurd (omega (arith, most))

-- Some of a burst's messages are answered, and others are still to come: with the answers to these the port has
-- written, aired and become what it does for all of them.
pub record Walked (old now : ClockedPort) (all coming : List Content) (out_old out_new : List ℕ)
    (aired : Option Item) : Type 0 where
  pub sent : out_new ++ bytes_for_all now coming ≡ out_old ++ bytes_for_all old all
  pub airs : option_to_list aired ++ aired_on_way now coming ≡ aired_on_way old all
  pub leaves : after_messages now coming ≡ after_messages old all

-- one more message is answered
pub walks_on : (old now next : ClockedPort) (all ms : List Content) (m : Content) (out_0 out_1 out_2 : List ℕ)
    (aired more both : Option Item)
    → Walked old now all (m ∷ ms) out_0 out_1 aired
    → out_2 ≡ out_1 ++ bytes_for now m
    → more ≡ aired_by now m
    → next ≡ after_message now m
    → both ≡ option_or aired more
    → Walked old next all ms out_0 out_2 both
walks_on old now next all ms m out_0 out_1 out_2 aired more both h sent item leaves first =
    let rest : List Item = aired_on_way next ms in
    let items : (option_to_list aired ++ option_to_list more) ++ rest ≡ aired_on_way old all =
    append_assoc (option_to_list aired) (option_to_list more) rest
    ∙ ap (λ (airs : List Item). option_to_list aired ++ airs)
    (ap₂ (λ (a b : List Item). a ++ b) (ap option_to_list item) (ap (λ (p : ClockedPort). aired_on_way p ms) leaves))
    ∙ h.airs in
    let one : length (option_to_list aired ++ option_to_list more) ≤ 1 =
    omega (
      arith,
      length-append (option_to_list aired ++ option_to_list more) rest,
      ap length items,
      one_at_most old all,
    ) in
    record {
      sent = ap₂ (λ (a b : List ℕ). a ++ b) sent (ap (λ (p : ClockedPort). bytes_for_all p ms) leaves)
          ∙ append_assoc out_1 (bytes_for now m) (bytes_for_all (after_message now m) ms)
          ∙ ap (λ (bytes : List ℕ). out_1 ++ bytes) (sym (bytes_for_first now m ms))
          ∙ h.sent;
      airs = ap (λ (airs : List Item). airs ++ rest) (ap option_to_list first ∙ first_of_one aired more one) ∙ items;
      leaves = ap (λ (p : ClockedPort). after_messages p ms) leaves ∙ h.leaves;
    }

-- the bytes of one reply
pub bytes_of_one : (unit : ℕ) (reply : Reply) → answer_bytes unit (reply ∷ []) ≡ reply_bytes unit reply
bytes_of_one unit reply = append-nil (reply_bytes unit reply)

-- how a burst ends, as a reader tells it, is answered as the end of its reading is
pub ends_alike : (ended : Ended) (end : End) → IsEnd ended end → end_answers end ≡ option_to_list (reply_at_end ended)
ends_alike silence.Clean end e = ap end_answers e
ends_alike (silence.Cut count) end e = ap end_answers e
ends_alike silence.AfterFault end e = ap end_answers e.2

-- ---- a burst that is read so is answered so

-- how the reader ends it, and how the reading does
pub ends_as : (burst : List ℕ) (ms : List Content) (ended : Ended) → ReadsAs burst ms ended
    → (end : End) × Reads burst ms end × (end_answers end ≡ option_to_list (reply_at_end ended))
ends_as burst ms silence.Clean reads = (clean, reads, refl)
ends_as burst ms (silence.Cut count) reads = (cut count, reads, refl)
ends_as burst ms silence.AfterFault reads = (fault reads.0 reads.1, reads.2, refl)

pub sent_in_parts : (p : ClockedPort) (ms : List Content) (end : End)
    → sent_bytes p ms end ≡ bytes_for_all p ms ++ answer_bytes p.state.unit (end_answers end)
sent_in_parts p ms end = flat_map-append (reply_bytes p.state.unit) (answers_to p ms) (end_answers end)

pub sent_as_read : OneReading → (p : ClockedPort) (burst : List ℕ) (ms : List Content) (end : End) → AreOctets burst
    → Reads burst ms end
    → sent_for p burst ≡ bytes_for_all p ms ++ answer_bytes p.state.unit (end_answers end)
sent_as_read law p burst ms end fits reads =
    let one = law burst ms end fits reads in
    ap₂ (sent_bytes p) (sym one.0) (sym one.1) ∙ sent_in_parts p ms end

pub aired_as_read : OneReading → (p : ClockedPort) (burst : List ℕ) (ms : List Content) (end : End) → AreOctets burst
    → Reads burst ms end
    → aired_for p burst ≡ aired_on_way p ms
aired_as_read law p burst ms end fits reads = ap (aired_on_way p) (sym (law burst ms end fits reads).0)

pub after_as_read : OneReading → (p : ClockedPort) (burst : List ℕ) (ms : List Content) (end : End) → AreOctets burst
    → Reads burst ms end
    → after_burst p burst ≡ after_messages p ms
after_as_read law p burst ms end fits reads = ap (after_messages p) (sym (law burst ms end fits reads).0)

-- the same by how the reader ends it

pub sent_as_ended : OneReading → (p : ClockedPort) (burst : List ℕ) (ms : List Content) (ended : Ended)
    → AreOctets burst → ReadsAs burst ms ended
    → sent_for p burst ≡ bytes_for_all p ms ++ bytes_at_end p.state.unit ended
sent_as_ended law p burst ms ended fits reads =
    let as_ended = ends_as burst ms ended reads in
    sent_as_read law p burst ms as_ended.0 fits as_ended.1
    ∙ ap (λ (replies : List Reply). bytes_for_all p ms ++ answer_bytes p.state.unit replies) as_ended.2

pub aired_as_ended : OneReading → (p : ClockedPort) (burst : List ℕ) (ms : List Content) (ended : Ended)
    → AreOctets burst → ReadsAs burst ms ended
    → aired_for p burst ≡ aired_on_way p ms
aired_as_ended law p burst ms ended fits reads =
    let as_ended = ends_as burst ms ended reads in
    aired_as_read law p burst ms as_ended.0 fits as_ended.1

pub after_as_ended : OneReading → (p : ClockedPort) (burst : List ℕ) (ms : List Content) (ended : Ended)
    → AreOctets burst → ReadsAs burst ms ended
    → after_burst p burst ≡ after_messages p ms
after_as_ended law p burst ms ended fits reads =
    let as_ended = ends_as burst ms ended reads in
    after_as_read law p burst ms as_ended.0 fits as_ended.1
