-- The parts that a playlist can name can be written.
use Rattle.std.proofs.Common.{◌≡◌, ℕ, Bool, true, List, [], ◌∷◌, refl, sym, ap, ◌∙◌, zero, suc, true≢false, All}
use Rattle.std.proofs.lemmas.List.Elements.{All-head, All-tail}
use Rattle.std.specs.Prelude.{Option, None, Some, slice_get}
use Rattle.vdcp_list.specs.Asrun.{IsUnlawful, are_lawful, is_lawful_event}
use Rattle.vdcp_list.specs.Playlists.{CanName}
use Rattle.vdcp_value.specs.declared.part.Item.{Item}
use Rattle.vdcp_value.specs.declared.part.Part.{Part}
use Rattle.vdcp_value.specs.declared.rate.Rate.{Rate}

named_is_lawful : (rate : Rate) (with_parts : Bool) (part : Option Part) → CanName rate with_parts part
    → is_lawful_event rate part ≡ true
named_is_lawful rate with_parts None can = refl
named_is_lawful rate with_parts (Some part) can = can.2

abbrev AllNamed : Rate → Bool → List Item → Type 0
AllNamed rate with_parts items = All (λ (item : Item). CanName rate with_parts item.part) items

pub can_be_written : (rate : Rate) (with_parts : Bool) (items : List Item) → AllNamed rate with_parts items
    → are_lawful rate items ≡ true
can_be_written rate with_parts [] can = refl
can_be_written rate with_parts (item ∷ items) can =
    rw (
      named_is_lawful rate with_parts item.part (All-head (λ (i : Item). CanName rate with_parts i.part) item items
          can),
      can_be_written rate with_parts items (All-tail (λ (i : Item). CanName rate with_parts i.part) item items can),
    ) refl

lawful_at : (rate : Rate) (with_parts : Bool) (items : List Item) (k : ℕ) (item : Item) → AllNamed rate with_parts items
    → slice_get items k ≡ Some item
    → is_lawful_event rate item.part ≡ true
lawful_at rate with_parts [] k item can e = cc e
lawful_at rate with_parts (first ∷ items) zero item can e =
    let same : first ≡ item = cc e in
    sym (ap (λ (i : Item). is_lawful_event rate i.part) same)
    ∙ named_is_lawful rate with_parts first.part (All-head (λ (i : Item). CanName rate with_parts i.part) first items
    can)
lawful_at rate with_parts (first ∷ items) (suc k) item can e =
    lawful_at rate with_parts items k item (All-tail (λ (i : Item). CanName rate with_parts i.part) first items can) e

pub none_unlawful : (rate : Rate) (with_parts : Bool) (items : List Item) (reported k : ℕ)
    → AllNamed rate with_parts items
    → IsUnlawful rate items reported k → ⊥
none_unlawful rate with_parts items reported k can h =
    true≢false (sym (lawful_at rate with_parts items k h.item can h.at_k) ∙ h.unlawful)
