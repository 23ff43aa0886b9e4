-- What a wire tells that was sent, once something went on of a burst.
use Rattle.std.proofs.Common.{ℕ, ◌≡◌, ◌⊎◌, List, [], ◌++◌, refl, sym, ap, ◌∙◌, inl, inr, subst}
use Rattle.std.proofs.lemmas.List.{append_assoc, append-nil}
use Rattle.std.specs.Io.KnownBytes.{Appends, Keeps}
use Rattle.std.specs.Prelude.{Option, None, Some, OnOk, Result, Ok, Err}
use Rattle.vdcp_wire.specs.Wires.{Told, adds_drop, adds_sent}
use Rattle.vdcp_lossy.specs.Carried.{PassesOn, sent_by}
use Rattle.vdcp_lossy.specs.Doings.{CanBe, adds_part, goes_on, joined, part_on}
use Rattle.vdcp_lossy.specs.declared.doing.Doing.{Doing}
use Rattle.vdcp_lossy.specs.declared.doing.Doing.TheVariants as doing
use Rattle.vdcp_auto.specs.declared.burst.Way.{Way}

-- what is sent in place of a burst: a copy's first one is the burst itself
abbrev pub once : Doing → Doing
once doing.Copied = doing.Through
once d = d

can_once : (w : Way) (came : List ℕ) (d : Doing) → CanBe w came d → CanBe w came (once d)
can_once w came doing.Copied can = tt
can_once w came d can = can

adds : (bytes : List ℕ) (told : Option Told) → Appends (sent_by told) (sent_by (adds_sent bytes told)) bytes
adds bytes None = tt
adds bytes (Some t) = refl

adds_none : (told : Option Told) → Appends (sent_by told) (sent_by told) []
adds_none None = tt
adds_none (Some t) = sym (append-nil t.sent)

part : (came : List ℕ) (d : Doing) (told : Option Told)
    → Appends (sent_by told) (sent_by (adds_part (part_on d came) told)) (joined (goes_on (once d) came))
part came doing.Through told = adds came told
part came doing.Lost told = adds_none told
part came doing.Late told = adds_none told
part came doing.Copied told = adds came told
part came other told = adds _ told

drops : (told : Option Told) → sent_by (adds_drop told) ≡ sent_by told
drops None = refl
drops (Some t) = refl

kept_since : (old new later : Option (List ℕ)) (bytes : List ℕ) → Appends old new bytes → Keeps new later
    → Appends old later bytes
kept_since None new later bytes gained keeps = tt
kept_since (Some xs) None later bytes gained keeps = absurd gained
kept_since (Some xs) (Some ys) None bytes gained keeps = absurd keeps
kept_since (Some xs) (Some ys) (Some zs) bytes gained keeps = keeps ∙ gained

gained_since : (old new later : Option (List ℕ)) (bytes more : List ℕ) → Appends old new bytes → Appends new later more
    → Appends old later (bytes ++ more)
gained_since None new later bytes more gained gains = tt
gained_since (Some xs) None later bytes more gained gains = absurd gained
gained_since (Some xs) (Some ys) None bytes more gained gains = absurd gains
gained_since (Some xs) (Some ys) (Some zs) bytes more gained gains =
    gains ∙ ap (λ (b : List ℕ). b ++ more) gained ∙ append_assoc xs bytes more

-- once what waited is dropped and something has gone on
sent_first : (came : List ℕ) (d : Doing) (old dropped new : Option Told) → dropped ≡ adds_drop old
    → new ≡ adds_part (part_on d came) dropped
    → Appends (sent_by old) (sent_by new) (joined (goes_on (once d) came))
sent_first came d old dropped new is_dropped is_sent =
    rw is_sent (rw is_dropped (rw (sym (drops old)) (part came d (adds_drop old))))

pub goes_once : (w : Way) (came : List ℕ) (d : Doing) (old dropped new later : Option Told)
    → CanBe w came d
    → dropped ≡ adds_drop old → new ≡ adds_part (part_on d came) dropped → Keeps (sent_by new) (sent_by later)
    → PassesOn w came old later
goes_once w came d old dropped new later can is_dropped is_sent keeps = record {
  doing = once d;
  can = can_once w came d can;
  sent = kept_since (sent_by old) (sent_by new) (sent_by later) (joined (goes_on (once d) came))
      (sent_first came d old dropped new is_dropped is_sent) keeps;
}

pub goes_twice : (w : Way) (came : List ℕ) (old dropped new later : Option Told)
    → CanBe w came doing.Copied
    → dropped ≡ adds_drop old → new ≡ adds_part (Some came) dropped
    → Keeps (sent_by new) (sent_by later) ⊎ Appends (sent_by new) (sent_by later) came
    → PassesOn w came old later
goes_twice w came old dropped new later can is_dropped is_sent (inl keeps) =
    goes_once w came doing.Copied old dropped new later can is_dropped is_sent keeps
goes_twice w came old dropped new later can is_dropped is_sent (inr gains) = record {
  doing = doing.Copied;
  can = can;
  sent = gained_since (sent_by old) (sent_by new) (sent_by later) came came
      (sent_first came doing.Copied old dropped new is_dropped is_sent) gains;
}

-- if the second copy was asked for
pub asked_twice : {A E : Type 0} (result : Result A E) (w : Way) (came sent : List ℕ) (d : Doing)
    (old dropped new later : Option Told)
    → d ≡ doing.Copied → CanBe w came d → dropped ≡ adds_drop old → sent ≡ came
    → new ≡ adds_part (part_on d sent) dropped
    → OnOk result (Keeps (sent_by new) (sent_by later) ⊎ Appends (sent_by new) (sent_by later) came)
    → OnOk result (PassesOn w came old later)
asked_twice (Ok x) w came sent d old dropped new later is can is_dropped same is_sent h =
    let copied : new ≡ adds_part (Some sent) dropped = subst (λ (a : Doing). new ≡ adds_part (part_on a sent) dropped)
    is is_sent in
    goes_twice w came old dropped new later (subst (λ (a : Doing). CanBe w came a) is can)
    is_dropped
    (subst (λ (b : List ℕ). new ≡ adds_part (Some b) dropped) same copied) h
asked_twice (Err e) w came sent d old dropped new later is can is_dropped same is_sent h = tt
