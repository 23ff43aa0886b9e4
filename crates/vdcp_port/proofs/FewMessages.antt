-- Bursts without a message, and with one.
use Rattle.std.proofs.Common.{ℕ, ◌⊎◌, inl, inr, refl, ◌≡◌, List, [], ◌∷◌, ◌++◌, sym, ap, ◌∙◌, subst, append-nil}
use Rattle.vdcp_frame.specs.Burst.{messages_of, end_of}
use Rattle.vdcp_frame.specs.Message.{Content}
use Rattle.vdcp_frame.specs.Reading.{End, clean, cut, fault}
use Rattle.vdcp_port.specs.Answers.{aired_on_way, answer_bytes, bytes_for, items_for, end_answers, sent_bytes, sent_for, aired_for, after_burst, after_messages}
use Rattle.vdcp_port.specs.Clock.{ClockedPort, after_message}
use Rattle.vdcp_port.proofs.Answering.{sent_in_parts, bytes_for_alone, aired_by_alone}

-- nothing, or a NAK for how a burst ends
abbrev pub IsNoneOrNak : List ℕ → Type 0
IsNoneOrNak bytes = (bytes ≡ []) ⊎ (bytes ≡ 0x05 ∷ 0x04 ∷ []) ⊎ (bytes ≡ 0x05 ∷ 0x80 ∷ [])

-- ---- a burst without a message, and one with one

no_answers : (unit : ℕ) (end : End) → IsNoneOrNak (answer_bytes unit (end_answers end))
no_answers unit clean = inl refl
no_answers unit (cut count) = inr (inr refl)
no_answers unit (fault which place) = inr (inl refl)

pub sent_for_none : (p : ClockedPort) (burst : List ℕ) → messages_of burst ≡ [] → IsNoneOrNak (sent_for p burst)
sent_for_none p burst none =
    subst IsNoneOrNak (sym (ap (λ (ms : List Content). sent_bytes p ms (end_of burst)) none))
    (no_answers p.state.unit (end_of burst))

pub sent_with_one : (p : ClockedPort) (m : Content) (burst : List ℕ) → messages_of burst ≡ m ∷ []
    → sent_for p burst ≡ bytes_for p m ++ answer_bytes p.state.unit (end_answers (end_of burst))
sent_with_one p m burst one =
    let last = answer_bytes p.state.unit (end_answers (end_of burst)) in
    ap (λ (ms : List Content). sent_bytes p ms (end_of burst)) one
    ∙ sent_in_parts p (m ∷ []) (end_of burst)
    ∙ ap (λ (bytes : List ℕ). bytes ++ last) (bytes_for_alone p m)

pub aired_with_one : (p : ClockedPort) (m : Content) (burst : List ℕ) → messages_of burst ≡ m ∷ []
    → aired_for p burst ≡ items_for p m
aired_with_one p m burst one = ap (aired_on_way p) one ∙ aired_by_alone p m

pub after_with_one : (p : ClockedPort) (m : Content) (burst : List ℕ) → messages_of burst ≡ m ∷ []
    → after_burst p burst ≡ after_message p m
after_with_one p m burst one = ap (after_messages p) one

-- ---- a burst that is one message

pub sent_for_one : (p : ClockedPort) (m : Content) (burst : List ℕ) → messages_of burst ≡ m ∷ [] → end_of burst ≡ clean
    → sent_for p burst ≡ bytes_for p m
sent_for_one p m burst one ends =
    sent_with_one p m burst one
    ∙ ap (λ (end : End). bytes_for p m ++ answer_bytes p.state.unit (end_answers end)) ends
    ∙ append-nil (bytes_for p m)
