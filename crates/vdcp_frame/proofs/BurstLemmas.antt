-- The computed reading is the reading.
use Rattle.std.proofs.Common.{◌≡◌, ℕ, zero, suc, ◌-◌, ◌<◌, ◌≤◌, cond, ltb, List, [], ◌++◌, length, take, drop, refl, sym, ap, subst, ◌∙◌}
use Rattle.std.proofs.Common.{append_assoc, arith, length-append}
use Rattle.std.proofs.lemmas.List.{take-append-drop, length-drop, nil_from_length}
use Rattle.std.proofs.lemmas.List.Elements.{All-take, All-drop}
use Rattle.vdcp_frame.specs.Message.{Content, AreOctets}
use Rattle.vdcp_frame.specs.Reading.{SpellsAll, HasNoFront, Ends, long_end, ReadsShort, ReadsUpTo}
use Rattle.vdcp_frame.specs.Head.{Head, part, wrong, found, head_of, HeadIs}
use Rattle.vdcp_frame.specs.Burst.{messages_at, left_at, messages_within, left_within, end_at, short_end}
use Rattle.vdcp_frame.proofs.HeadLemmas.{head_is, part_unfinished, Unfinished-nil}
use Rattle.vdcp_frame.proofs.ReadingLemmas.{ends_unfinished}

-- messages, and a remainder that begins with none
record Split (bytes : List ℕ) (ms : List Content) (remainder : List ℕ) : Type 0 where
  whole : List ℕ
  parts : bytes ≡ whole ++ remainder
  spelt : SpellsAll ms whole
  fits : AreOctets remainder
  none : HasNoFront remainder

at_once : (bytes : List ℕ) → AreOctets bytes → HasNoFront bytes → Split bytes [] bytes
at_once bytes fits none = record { whole = []; parts = refl; spelt = refl; fits = fits; none = none }

split_at : (n : ℕ) (bytes : List ℕ) (head : Head) → length bytes ≤ suc n → AreOctets bytes → HeadIs bytes head →
    ((remainder : List ℕ) → length remainder ≤ n → AreOctets remainder
    → Split remainder (messages_within n remainder) (left_within n remainder)) →
    Split bytes (messages_at head (λ size. messages_within n (drop size bytes)))
    (left_at head bytes (λ size. left_within n (drop size bytes)))
split_at n bytes (part needs) le fits is more = at_once bytes fits (part_unfinished bytes needs is).no_front
split_at n bytes (wrong which size) le fits is more = at_once bytes fits is.no_front
split_at n bytes (found m size) le fits is more =
    let tail : List ℕ = drop size bytes in
    let s = more tail (omega (arith, is.some, is.within, length-drop size bytes))
    (All-drop (λ b. b < 256) size bytes fits) in
    record {
      whole = take size bytes ++ s.whole;
      parts = sym (take-append-drop size bytes) ∙ ap (λ (t : List ℕ). take size bytes ++ t) s.parts
          ∙ sym (append_assoc (take size bytes) s.whole (left_within n tail));
      spelt = (take size bytes, s.whole, is.spelt, s.spelt, refl);
      fits = s.fits;
      none = s.none;
    }

split_within : (n : ℕ) (bytes : List ℕ) → length bytes ≤ n → AreOctets bytes
    → Split bytes (messages_within n bytes) (left_within n bytes)
split_within zero bytes le fits =
    at_once bytes fits (subst HasNoFront (sym (nil_from_length bytes (omega arith))) Unfinished-nil.no_front)
split_within (suc n) bytes le fits = split_at n bytes (head_of bytes) le fits (head_is bytes fits) (split_within n)

ends_at : (before : ℕ) (remainder : List ℕ) (head : Head) → HeadIs remainder head → HasNoFront remainder
    → Ends before remainder (end_at before remainder head)
ends_at before remainder (part needs) is none = ends_unfinished before remainder (part_unfinished remainder needs is)
ends_at before remainder (wrong which size) is none = (size, is.first, refl, is.fault_is)
ends_at before remainder (found m size) is none =
    absurd (none m (take size remainder) (drop size remainder) is.spelt (sym (take-append-drop size remainder)))

pub reads_short_computed : (bytes : List ℕ) → AreOctets bytes
    → ReadsShort bytes (messages_within (length bytes) bytes) (short_end bytes)
reads_short_computed bytes fits =
    let s = split_within (length bytes) bytes (omega arith) fits in
    let remainder : List ℕ = left_within (length bytes) bytes in
    let before : length s.whole ≡ length bytes - length remainder =
    omega (arith, ap (length {A = ℕ}) s.parts, length-append s.whole remainder) in
    record {
      whole = s.whole;
      remainder = remainder;
      parts = s.parts;
      spelt = s.spelt;
      no_front = s.none;
      ends = subst (λ (n : ℕ). Ends n remainder (short_end bytes)) (sym before)
          (ends_at (length bytes - length remainder) remainder (head_of remainder) (head_is remainder s.fits) s.none);
    }

pub reads_computed : (limit : ℕ) (burst : List ℕ) → AreOctets burst
    → ReadsUpTo limit burst (messages_within (length (take limit burst)) (take limit burst))
    (cond (ltb limit (length burst)) (long_end limit (short_end (take limit burst))) (short_end (take limit burst)))
reads_computed limit burst fits = record {
  short = short_end (take limit burst);
  front = reads_short_computed (take limit burst) (All-take (λ b. b < 256) limit burst fits);
  long = refl;
}
