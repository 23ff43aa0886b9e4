-- The messages that are still to come after those that were passed.
use Rattle.std.proofs.Common.{◌≡◌, ℕ, ◌<◌, ◌≤◌, List, [], ◌∷◌, ◌++◌, length, take, drop, Option, Some, None, false, sym, ap, subst, ◌∙◌, append_assoc}
use Rattle.std.specs.Prelude.{IfNone, is_some}
use Rattle.std.proofs.lemmas.List.{append-nil, append_cancel_left}
use Rattle.std.proofs.lemmas.List.Elements.{All-take, All-drop}
use Rattle.vdcp_frame.specs.Message.{Content, AreOctets}
use Rattle.vdcp_frame.specs.Reading.{SpellsAll, End, Reads}
use Rattle.vdcp_frame.specs.Burst.{messages_of, messages_within}
use Rattle.vdcp_frame.specs.Walk.{Walk, IsWalk, coming}
use Rattle.vdcp_frame.proofs.BurstLemmas.{reads_computed, reads_short_computed}
use Rattle.vdcp_frame.proofs.ReadingLemmas.{SpellsAll-append, same_whole, left_parts}
use Rattle.vdcp_frame.proofs.SpellingLemmas.{reads_as_computed}

-- the messages of a burst are those passed and those to come
pub passed_and_coming : (limit from : ℕ) (burst : List ℕ) (ms : List Content) → from ≤ limit → AreOctets burst
    → SpellsAll ms (take from burst)
    → messages_within (length (take limit burst)) (take limit burst)
    ≡ ms ++ messages_within (length (drop from (take limit burst))) (drop from (take limit burst))
passed_and_coming limit from burst ms within octets all =
    let rest : List ℕ = drop from (take limit burst) in
    let fits : AreOctets (take limit burst) = All-take (λ b. b < 256) limit burst octets in
    let later = reads_short_computed rest (All-drop (λ b. b < 256) from (take limit burst) fits) in
    let whole = (reads_computed limit burst octets).front in
    let parts : take limit burst ≡ (take from burst ++ later.whole) ++ later.remainder =
    left_parts limit burst from within
    ∙ ap (λ (l : List ℕ). take from burst ++ l) later.parts
    ∙ sym (append_assoc (take from burst) later.whole later.remainder) in
    sym (same_whole (ms ++ messages_within (length rest) rest)
    (messages_within (length (take limit burst)) (take limit burst))
    (take from burst ++ later.whole) whole.whole later.remainder whole.remainder
    (SpellsAll-append ms (messages_within (length rest) rest)
    (take from burst) later.whole all later.spelt) whole.spelt later.no_front whole.no_front
    (sym parts ∙ whole.parts)).0

-- a message that is passed was the next one to come
pub next_coming : (limit from next : ℕ) (burst : List ℕ) (ms : List Content) (m : Content) → from ≤ limit → next ≤ limit
    → AreOctets burst
    → SpellsAll ms (take from burst) → SpellsAll (ms ++ m ∷ []) (take next burst)
    → messages_within (length (drop from (take limit burst))) (drop from (take limit burst))
    ≡ m ∷ messages_within (length (drop next (take limit burst))) (drop next (take limit burst))
next_coming limit from next burst ms m within further octets all more =
    let later : List Content = messages_within (length (drop next (take limit burst))) (drop next (take limit burst)) in
    append_cancel_left ms (messages_within (length (drop from (take limit burst))) (drop from (take limit burst)))
    (m ∷ later)
    (sym (passed_and_coming limit from burst ms within octets all)
    ∙ passed_and_coming limit next burst (ms ++ m ∷ []) further octets more
    ∙ append_assoc ms (m ∷ []) later)

-- at the end none is still to come
pub none_coming : (from : ℕ) (burst : List ℕ) (ms : List Content) (end : End) → from ≤ 4096 → AreOctets burst
    → SpellsAll ms (take from burst)
    → Reads burst ms end → coming (record { burst = burst; place = from }) ≡ []
none_coming from burst ms end within octets all reads =
    append_cancel_left ms (coming (record { burst = burst; place = from })) []
    (sym (passed_and_coming 4096 from burst ms within octets all) ∙ sym (reads_as_computed burst ms end octets reads).0
    ∙ sym (append-nil ms))

-- if none is still to come all were passed
pub all_passed : (from : ℕ) (burst : List ℕ) (ms : List Content) → from ≤ 4096 → AreOctets burst
    → SpellsAll ms (take from burst)
    → coming (record { burst = burst; place = from }) ≡ [] → ms ≡ messages_of burst
all_passed from burst ms within octets all none =
    sym (passed_and_coming 4096 from burst ms within octets all ∙ ap (λ (l : List Content). ms ++ l) none
    ∙ append-nil ms)

pub whole_spelt : (walk : Walk) → IsWalk walk → coming walk ≡ []
    → SpellsAll (messages_of walk.burst) (take walk.place walk.burst)
whole_spelt walk w none =
    subst (λ (ms : List Content). SpellsAll ms (take walk.place walk.burst))
    (all_passed walk.place walk.burst w.whole.0 w.limit w.fits w.whole.1 none) w.whole.1

-- a call that gave no message
pub none_left : {A : Type 0} (o : Option A) (old new : Walk) → is_some o ≡ false → IfNone o (coming old ≡ [])
    → IfNone o (new ≡ old) → coming new ≡ []
none_left None old new e none rest = ap coming rest ∙ none
none_left (Some x) old new e none rest = absurd cc
