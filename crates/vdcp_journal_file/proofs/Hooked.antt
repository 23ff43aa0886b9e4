-- What hooks have kept that may have a recorder.
use Rattle.std.proofs.Common.{ℕ, ◌≡◌, List, [], ◌∷◌, ap, refl, subst}
use Rattle.std.specs.Prelude.{Option, None, Some, Result, Ok, Err}
use Rattle.vdcp_auto.specs.Plan.{Plan}
use Rattle.vdcp_auto.specs.State.{State}
use Rattle.vdcp_drive.specs.Auto.{Auto, Event}
use Rattle.vdcp_drive.specs.Ears.{Fold}
use Rattle.vdcp_drive.specs.Hooked.{MayKeep, MayLose}
use Rattle.vdcp_drive.specs.Keeping.{HasKept, KeepsRun}
use Rattle.vdcp_drive.specs.Steps.{Chain, Happens, Rules, Step, World, acts, asks, keeps, misses}
use Rattle.vdcp_drive.specs.Traces.{kept_in}
use Rattle.vdcp_drive.specs.declared.hooks.Kept.{Kept}
use Rattle.vdcp_drive.specs.declared.hooks.Next.{Next}
use Rattle.vdcp_drive.specs.declared.hooks.BrokenOff.{BrokenOff}
use Rattle.vdcp_drive.specs.declared.hooks.BrokenOff.TheVariants as fault
use Rattle.vdcp_drive.specs.declared.line.Ran.{Ran}
use Rattle.vdcp_journal_file.specs.Recorded.{AreKept}
use Rattle.vdcp_wire.specs.Wires.{Told}

-- With a journal, it stays one, and keeps all.

kept_on : {J : Type 0} (adds : Kept → J → J → Type 0) (one : Kept) (more : List Kept) (k : J) (next new : Option J)
    → MayKeep adds one (Some k) next → Chain (MayKeep adds) more next new
    → ((l : J) → Chain (MayKeep adds) more (Some l) new → (m : J) × (new ≡ Some m) × Chain adds more l m)
    → (m : J) × (new ≡ Some m) × Chain adds (one ∷ more) k m
kept_on adds one more k None new kept chain goes = absurd kept
kept_on adds one more k (Some l) new kept chain goes =
    let rest = goes l chain in (rest.0, rest.1, (l, kept, rest.2))

pub all_kept : {J : Type 0} (adds : Kept → J → J → Type 0) (notes : List Kept) (k : J) (new : Option J)
    → Chain (MayKeep adds) notes (Some k) new → (m : J) × (new ≡ Some m) × Chain adds notes k m
all_kept adds [] k new chain = (k, chain, refl)
all_kept adds (one ∷ more) k new chain =
    kept_on adds one more k chain.0 new chain.1 chain.2 (λ l. all_kept adds more l new)

one_lost : {J : Type 0} (loses : Kept → J → J → Type 0) (one : Kept) (k : J) (new : Option J)
    → MayLose loses one (Some k) new → (m : J) × (new ≡ Some m) × loses one k m
one_lost loses one k None lost = absurd lost
one_lost loses one k (Some m) lost = (m, refl, lost)

has_kept : {J : Type 0} (adds loses : Kept → J → J → Type 0) (answer : Result Ran BrokenOff) (notes : List Kept) (k : J)
    (new : Option J) → HasKept (MayKeep adds) (MayLose loses) answer notes (Some k) new
    → (m : J) × (new ≡ Some m) × HasKept adds loses answer notes k m
has_kept adds loses (Ok ran) notes k new kept = all_kept adds notes k new kept
has_kept adds loses (Err fault.Device) notes k new kept = all_kept adds notes k new kept
has_kept adds loses (Err fault.Left) notes k new kept = all_kept adds notes k new kept
has_kept {J} adds loses (Err fault.Unkept) notes k new kept =
    let all = all_kept adds notes k kept.0 kept.2 in
    let lost = one_lost loses kept.1 all.0 new
    (subst (λ (o : Option J). MayLose loses kept.1 o new) all.1 kept.3) in
    (lost.0, lost.1, (all.0, kept.1, all.2, lost.2))

pub keeps_by_one : {E W J : Type 0} (adds loses : Kept → J → J → Type 0) (told : W → Option Told) (fold : Fold E)
    (plan : Plan) (unit : ℕ) (a a' : Auto E) (wire wire' : W) (answer : Result Ran BrokenOff) (k : J) (old new : Option J)
    (events : List Event) (notes : List Kept) → old ≡ Some k
    → KeepsRun (MayKeep adds) (MayLose loses) told fold plan unit a a' wire wire' answer old new events notes
    → (m : J) × (new ≡ Some m) × KeepsRun adds loses told fold plan unit a a' wire wire' answer k m events notes
keeps_by_one {J = J} adds loses told fold plan unit a a' wire wire' answer k old new events notes is n =
    let kept = has_kept adds loses answer notes k new
    (subst (λ (o : Option J). HasKept (MayKeep adds) (MayLose loses) answer notes o new) is n.noted) in
    (kept.0, kept.1, record { noted = kept.2; shows = n.shows; sends = n.sends; comes = n.comes })

-- what was kept in steps in which nothing failed to be, if to be asked changes nothing in it
pub notes_happen : {W J : Type 0} (rules : Rules W J) → ((s : State) (n : Next) (old new : J) → rules.asks s n old new → new ≡ old)
    → (steps : List Step) (old new : World W J) → AreKept steps
    → Happens rules steps old new → Chain rules.adds (kept_in steps) old.keep new.keep
notes_happen {W} {J} rules still [] old new kept is = ap (λ (w : World W J). w.keep) is
notes_happen {W} {J} rules still (acts a ∷ later) old new kept (next, (done, is), rest) =
    subst (λ (j : J). Chain rules.adds (kept_in later) j new.keep) (ap (λ (w : World W J). w.keep) is)
    (notes_happen rules still later next new kept rest)
notes_happen {W} {J} rules still (asks s n ∷ later) old new kept (next, (asked, is), rest) =
    subst (λ (j : J). Chain rules.adds (kept_in later) j new.keep) (still s n old.keep next.keep asked)
    (notes_happen rules still later next new kept rest)
notes_happen rules still (keeps r ∷ later) old new kept (next, (adds, is), rest) =
    (next.keep, adds, notes_happen rules still later next new kept rest)
notes_happen rules still (misses r ∷ later) old new kept happened = absurd kept

-- Without one, there is none.

none_kept : {J : Type 0} (adds : Kept → J → J → Type 0) (notes : List Kept) (old new : Option J) → old ≡ None
    → Chain (MayKeep adds) notes old new → new ≡ None
none_kept adds [] old new is chain = subst (λ o. new ≡ o) is chain
none_kept {J} adds (one ∷ more) old new is chain =
    none_kept adds more chain.0 new (subst (λ (o : Option J). MayKeep adds one o chain.0) is chain.1) chain.2

pub keeps_none : {J : Type 0} (adds loses : Kept → J → J → Type 0) (answer : Result Ran BrokenOff) (notes : List Kept)
    (old new : Option J) → old ≡ None → HasKept (MayKeep adds) (MayLose loses) answer notes old new → new ≡ None
keeps_none adds loses (Ok ran) notes old new is kept = none_kept adds notes old new is kept
keeps_none adds loses (Err fault.Device) notes old new is kept = none_kept adds notes old new is kept
keeps_none adds loses (Err fault.Left) notes old new is kept = none_kept adds notes old new is kept
keeps_none {J} adds loses (Err fault.Unkept) notes old new is kept =
    absurd (subst (λ (o : Option J). MayLose loses kept.1 o new) (none_kept adds notes old kept.0 is kept.2) kept.3)
