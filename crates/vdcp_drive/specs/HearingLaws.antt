-- It doesn't matter to either ear into which pieces bytes are cut.
use Rattle.std.proofs.Common.{ℕ, ◌≡◌, List, [], ◌∷◌, ◌++◌, map, refl, sym, ap, ap₂, ◌∙◌, append_assoc}
use Rattle.std.proofs.lemmas.List.{map-append}
use Rattle.vdcp_frame.specs.Message.{Content}
use Rattle.vdcp_auto.specs.Heard.{heard_as}
use Rattle.vdcp_auto.specs.declared.exchange.Heard.{Heard}
use Rattle.vdcp_drive.specs.Ears.{IsPiecewise}
use Rattle.vdcp_drive.specs.Hearing.{Burst, begun, said, at_once, at_silences, burst_with, burst_after, heard_by}
use Rattle.vdcp_drive.specs.Reading.{Held, completed, completed_by, held_after, held_after_byte}

pub completed_both : (at : Held) (xs ys : List ℕ) → completed at (xs ++ ys)
    ≡ completed at xs ++ completed (held_after at xs) ys
completed_both at [] ys = refl
completed_both at (x ∷ xs) ys =
    ap (λ (l : List Content). completed_by at x ++ l) (completed_both (held_after_byte at x) xs ys)
    ∙ sym (append_assoc (completed_by at x) (completed (held_after_byte at x) xs)
    (completed (held_after (held_after_byte at x) xs) ys))

pub held_both : (at : Held) (xs ys : List ℕ) → held_after at (xs ++ ys) ≡ held_after (held_after at xs) ys
held_both at [] ys = refl
held_both at (x ∷ xs) ys = held_both (held_after_byte at x) xs ys

pub heard_both : (unit : ℕ) (at : Held) (xs ys : List ℕ) → heard_by unit at (xs ++ ys)
    ≡ heard_by unit at xs ++ heard_by unit (held_after at xs) ys
heard_both unit at xs ys = ap (map (heard_as unit)) (completed_both at xs ys)
    ∙ map-append (heard_as unit) (completed at xs) (completed (held_after at xs) ys)

pub at_once_in_pieces : IsPiecewise at_once
at_once_in_pieces = record {
  hears_none = λ unit ear. refl;
  takes_none = λ unit ear. refl;
  hears_both = λ unit xs ys ear. heard_both unit ear xs ys;
  takes_both = λ unit xs ys ear. held_both ear xs ys;
}

burst_with_both : (unit : ℕ) (held : Held) (hs : List Heard) (ys : List ℕ)
    → burst_with (held_after held ys) (hs ++ heard_by unit held ys) ≡ burst_after unit ys (burst_with held hs)
burst_with_both unit held [] ys = refl
burst_with_both unit held (h ∷ hs) ys = refl

burst_both : (unit : ℕ) (xs ys : List ℕ) (burst : Burst)
    → burst_after unit (xs ++ ys) burst ≡ burst_after unit ys (burst_after unit xs burst)
burst_both unit xs ys (begun held) =
    ap₂ burst_with (held_both held xs ys) (heard_both unit held xs ys)
    ∙ burst_with_both unit (held_after held xs) (heard_by unit held xs) ys
burst_both unit xs ys (said h) = refl

burst_none : (unit : ℕ) (burst : Burst) → burst_after unit [] burst ≡ burst
burst_none unit (begun held) = refl
burst_none unit (said h) = refl

pub at_silences_in_pieces : IsPiecewise at_silences
at_silences_in_pieces = record {
  hears_none = λ unit ear. refl;
  takes_none = burst_none;
  hears_both = λ unit xs ys ear. refl;
  takes_both = burst_both;
}
