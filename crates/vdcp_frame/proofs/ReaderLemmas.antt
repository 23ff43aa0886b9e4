-- A call of feed goes on the reading of the burst, and a silence ends it.
use Rattle.std.proofs.Common.{◌≡◌, ℕ, ◌+◌, ◌-◌, ◌<◌, ◌≤◌, List, [], ◌∷◌, ◌++◌, length, take, drop, refl, sym, ap, subst, ◌∙◌}
use Rattle.std.proofs.Common.{append_assoc, arith, length-append}
use Rattle.std.proofs.lemmas.List.{take-append-drop, take_at, take_all, take-take, length-take, length-drop, append-nil}
use Rattle.vdcp_frame.specs.declared.message.Fault.{Fault}
use Rattle.vdcp_frame.specs.declared.message.Fault.TheVariants.{BadStart, BadCount, BadSum, Long}
use Rattle.vdcp_frame.specs.Message.{Content}
use Rattle.vdcp_frame.specs.Reading.{fault, Reads}
use Rattle.vdcp_frame.specs.Burst.{unfinished_end}
use Rattle.vdcp_frame.specs.Progress.{Progress, reading, failed}
use Rattle.vdcp_frame.specs.Reader.{Answer, message, more, wrong, TakesMessage, TakesAll, TakesWrong, TakesLong, TakesFault, Gives, fed}
use Rattle.vdcp_frame.specs.Reader.{ended_of, FollowsReading, FollowsFault, Follows, FollowsNext, ReadsAs}
use Rattle.vdcp_frame.proofs.HeadLemmas.{Unfinished-nil}
use Rattle.vdcp_frame.proofs.ReadingLemmas.{SpellsAll-push, reads_short, reads_long, wrong_reads}

-- ---- one call of feed

joined : (whole held piece : List ℕ) → (whole ++ held) ++ piece ≡ whole ++ (held ++ piece)
joined whole held piece = append_assoc whole held piece

grown : (burst piece : List ℕ) (taken n : ℕ) → length burst ≡ taken → n ≤ length piece
    → length (burst ++ take n piece) ≡ taken + n
grown burst piece taken n size within = omega (arith, length-append burst (take n piece), length-take n piece)

pub follows_message : (burst : List ℕ) (ms : List Content) (taken : ℕ) (held piece : List ℕ) (n : ℕ) (m : Content)
    → FollowsReading burst ms taken held → TakesMessage taken held piece n m
    → FollowsReading (burst ++ take n piece) (ms ++ m ∷ []) (taken + n) []
follows_message burst ms taken held piece n m f t =
    let front : burst ++ take n piece ≡ f.whole ++ (held ++ take n piece) =
    ap (λ (b : List ℕ). b ++ take n piece) f.parts
    ∙ joined f.whole held (take n piece) in
    record {
      whole = f.whole ++ (held ++ take n piece);
      parts = front ∙ sym (append-nil (f.whole ++ (held ++ take n piece)));
      spelt = SpellsAll-push ms m f.whole (held ++ take n piece) f.spelt t.spelt;
      unfinished = Unfinished-nil;
      count = grown burst piece taken n f.count t.within;
      limit = t.limit;
    }

pub follows_more : (burst : List ℕ) (ms : List Content) (taken : ℕ) (held piece : List ℕ) (n : ℕ)
    → FollowsReading burst ms taken held
    → TakesAll taken held piece n → FollowsReading (burst ++ take n piece) ms (taken + n) (held ++ take n piece)
follows_more burst ms taken held piece n f t = record {
  whole = f.whole;
  parts = ap (λ (b : List ℕ). b ++ take n piece) f.parts ∙ joined f.whole held (take n piece);
  spelt = f.spelt;
  unfinished = t.unfinished;
  count = grown burst piece taken n f.count (omega (arith, t.all));
  limit = t.limit;
}

follows_wrong : (burst : List ℕ) (ms : List Content) (taken : ℕ) (held piece : List ℕ) (n : ℕ) (which : Fault)
    → FollowsReading burst ms taken held
    → TakesWrong taken held piece n which → FollowsFault (burst ++ take n piece) ms which (taken + n)
follows_wrong burst ms taken held piece n which f t remainder =
    let w : List ℕ = held ++ take n piece in
    let front : burst ++ take n piece ≡ f.whole ++ w = ap (λ (b : List ℕ). b ++ take n piece) f.parts
    ∙ joined f.whole held (take n piece) in
    let size : length f.whole + length w ≡ taken + n = omega (
      arith,
      grown burst piece taken n f.count t.within,
      ap (length {A = ℕ}) front,
      length-append f.whole w,
    ) in
    subst (λ (p : ℕ). Reads ((burst ++ take n piece) ++ remainder) ms (fault which p)) size
    (subst (λ (b : List ℕ). Reads (b ++ remainder) ms (fault which (length f.whole + length w))) (sym front)
    (wrong_reads 4096 ms f.whole w remainder which f.spelt t.first (omega (arith, t.limit))))

follows_long : (burst : List ℕ) (ms : List Content) (taken : ℕ) (held piece : List ℕ) (n : ℕ)
    → FollowsReading burst ms taken held
    → TakesLong taken held piece n → FollowsFault (burst ++ take n piece) ms Long (taken + n)
follows_long burst ms taken held piece n f t remainder =
    let w : List ℕ = held ++ take (n - 1) piece in
    let last : List ℕ = drop (n - 1) (take n piece) in
    let split : take n piece ≡ take (n - 1) piece ++ last =
    sym (take-append-drop (n - 1) (take n piece))
    ∙ ap (λ (p : List ℕ). p ++ last) (take-take (n - 1) n piece (omega arith)) in
    let front : burst ++ take n piece ≡ (f.whole ++ w) ++ last =
    ap (λ (b : List ℕ). b ++ take n piece) f.parts ∙ ap (λ (p : List ℕ). (f.whole ++ held) ++ p) split
    ∙ sym (append_assoc (f.whole ++ held) (take (n - 1) piece) last)
    ∙ ap (λ (b : List ℕ). b ++ last) (joined f.whole held (take (n - 1) piece)) in
    let size : length (f.whole ++ w) ≡ 4096 =
    omega (
      arith,
      f.count,
      t.past,
      t.some,
      t.within,
      ap (length {A = ℕ}) f.parts,
      length-append f.whole held,
      length-append f.whole w,
      length-append held (take (n - 1) piece),
      length-take (n - 1) piece,
    ) in
    let some : 0 < length (last ++ remainder) = omega (
      arith,
      t.some,
      t.within,
      length-append last remainder,
      length-drop (n - 1) (take n piece),
      length-take n piece,
    ) in
    let past : 4096 < length ((f.whole ++ w) ++ (last ++ remainder)) =
    omega (arith, length-append (f.whole ++ w) (last ++ remainder)) in
    let long : Reads ((f.whole ++ w) ++ (last ++ remainder)) ms (fault Long 4097) =
    reads_long 4096 ((f.whole ++ w) ++ (last ++ remainder)) ms f.whole w
    (take_at (f.whole ++ w) (last ++ remainder) 4096 size) f.spelt t.unfinished past in
    subst (λ (p : ℕ). Reads ((burst ++ take n piece) ++ remainder) ms (fault Long p)) (sym t.past)
    (subst (λ (b : List ℕ). Reads b ms (fault Long 4097))
    (sym (ap (λ (b : List ℕ). b ++ remainder) front ∙ append_assoc (f.whole ++ w) last remainder)) long)

pub follows_fault : (burst : List ℕ) (ms : List Content) (taken : ℕ) (held piece : List ℕ) (n : ℕ) (which : Fault)
    → FollowsReading burst ms taken held → TakesFault taken held piece n which
    → FollowsFault (burst ++ take n piece) ms which (taken + n)
follows_fault burst ms taken held piece n BadStart f t = follows_wrong burst ms taken held piece n BadStart f t
follows_fault burst ms taken held piece n (BadCount count) f t =
    follows_wrong burst ms taken held piece n (BadCount count) f t
follows_fault burst ms taken held piece n BadSum f t = follows_wrong burst ms taken held piece n BadSum f t
follows_fault burst ms taken held piece n Long f t = follows_long burst ms taken held piece n f t

-- what follows the burst so far follows it with the bytes of one more call
pub gives_follows : (burst : List ℕ) (ms : List Content) (old : Progress) (piece : List ℕ) (n : ℕ) (answer : Answer)
    → Gives old piece n answer
    → Follows burst ms old → FollowsNext (burst ++ take n piece) ms answer (fed old piece n answer)
gives_follows burst ms (reading taken held) piece n (message m) g f = follows_message burst ms taken held piece n m f g
gives_follows burst ms (reading taken held) piece n more g f = follows_more burst ms taken held piece n f g
gives_follows burst ms (reading taken held) piece n (wrong which place) g f = (
  subst (FollowsFault (burst ++ take n piece) ms which) (sym g.1)
      (follows_fault burst ms taken held piece n which f g.0),
  refl,
)
gives_follows burst ms failed piece n (message m) g f = absurd g
gives_follows burst ms failed piece n more g f = (
  f.0,
  f.1,
  λ remainder. subst (λ (b : List ℕ). Reads b ms (fault f.0 f.1)) (sym (append_assoc burst (take n piece) remainder))
      (f.2 (take n piece ++ remainder)),
)
gives_follows burst ms failed piece n (wrong which place) g f = absurd g

-- ---- a silence

pub ends_follows : (burst : List ℕ) (ms : List Content) (taken : ℕ) (held : List ℕ) → FollowsReading burst ms taken held
    → Reads burst ms (unfinished_end held)
ends_follows burst ms taken held f =
    let size : length (f.whole ++ held) ≤ 4096 = omega (arith, f.count, f.limit, ap (length {A = ℕ}) f.parts) in
    subst (λ (b : List ℕ). Reads b ms (unfinished_end held)) (sym f.parts)
    (reads_short 4096 (f.whole ++ held) ms f.whole held
    (take_all 4096 (f.whole ++ held) size) f.spelt f.unfinished size)

pub silence_reads : (burst : List ℕ) (ms : List Content) (old : Progress) → Follows burst ms old
    → ReadsAs burst ms (ended_of old)
silence_reads burst ms (reading taken []) f = ends_follows burst ms taken [] f
silence_reads burst ms (reading taken (byte ∷ bytes)) f = ends_follows burst ms taken (byte ∷ bytes) f
silence_reads burst ms failed f =
    (f.0, f.1, subst (λ (b : List ℕ). Reads b ms (fault f.0 f.1)) (append-nil burst) (f.2 []))

-- nothing has come yet
pub follows_none : Follows [] [] (reading 0 [])
follows_none = record {
  whole = [];
  parts = refl;
  spelt = refl;
  unfinished = Unfinished-nil;
  count = refl;
  limit = omega
      arith;
}
