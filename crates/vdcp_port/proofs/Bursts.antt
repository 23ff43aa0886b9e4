-- What airs in a burst.
use Rattle.std.proofs.Common.{◌≤◌, ◌≡◌, length, arith, true, false, refl, List, [], ◌∷◌, ◌++◌, ap, ◌∙◌, inl, inr}
use Rattle.std.specs.Option.{option_to_list}
use Rattle.std.specs.Prelude.{◌⊎◌, Option, None, Some}
use Rattle.vdcp_value.specs.declared.part.Item.{Item}
use Rattle.vdcp_frame.specs.Message.{Content}
use Rattle.vdcp_port.specs.Answers.{aired_on_way}
use Rattle.vdcp_port.specs.Clock.{ClockedPort, row_at, aired_by, after_message}
use Rattle.vdcp_port.specs.Port.{done, PortState, is_done}
use Rattle.vdcp_port.specs.Row.{Change, keeps, opens, closes, selects, cues, airs, stops, changed}
use Rattle.vdcp_port.proofs.TableLaws.{message_airs, message_airing}

-- a message leaves no cue done that wasn't
stays_undone : (change : Change) (p : PortState) → is_done p.cued ≡ false → is_done (changed change p).cued ≡ false
stays_undone keeps p e = e
stays_undone opens p e = e
stays_undone closes p e = refl
stays_undone selects p e = e
stays_undone other p e = refl

was_done : (change : Change) (p : PortState) (item : Item) → (changed change p).cued ≡ done item → p.cued ≡ done item
was_done keeps p item e = e
was_done opens p item e = e
was_done closes p item e = cc
was_done selects p item e = e
was_done change p item e = cc

undone_airs_nothing : (p : ClockedPort) (m : Content) (aired : Option Item) → aired_by p m ≡ aired
    → is_done p.state.cued ≡ false → aired_by p m ≡ None
undone_airs_nothing p m None e undone = e
undone_airs_nothing p m (Some item) e undone =
    let cued = (message_airs p m item e).cued in
    let is : is_done p.state.cued ≡ true = ap is_done cued in
    cc

undone_burst : (p : ClockedPort) (ms : List Content) → is_done p.state.cued ≡ false → aired_on_way p ms ≡ []
undone_burst p [] undone = refl
undone_burst p (m ∷ ms) undone =
    ap (λ (aired : Option Item). option_to_list aired ++ aired_on_way (after_message p m) ms)
    (undone_airs_nothing p m (aired_by p m) refl undone)
    ∙ undone_burst (after_message p m) ms (stays_undone (row_at p m).change p.state undone)

-- nothing, or the item that is cued
abbrev pub AirsAtMostTheCued : ClockedPort → List Item → Type 0
AirsAtMostTheCued p aired = (aired ≡ []) ⊎ ((item : Item) × (p.state.cued ≡ done item) × (aired ≡ item ∷ []))

at_most_later : (p : ClockedPort) (m : Content) (rest : List Item) → AirsAtMostTheCued (after_message p m) rest
    → AirsAtMostTheCued p rest
at_most_later p m rest (inl e) = inl e
at_most_later p m rest (inr found) = inr (found.0, was_done (row_at p m).change p.state found.0 found.1, found.2)

at_most_first : (p : ClockedPort) (m : Content) (ms : List Content) (aired : Option Item) → aired_by p m ≡ aired
    → AirsAtMostTheCued (after_message p m) (aired_on_way (after_message p m) ms)
    → AirsAtMostTheCued p (option_to_list aired ++ aired_on_way (after_message p m) ms)
at_most_first p m ms None e later = at_most_later p m (aired_on_way (after_message p m) ms) later
at_most_first p m ms (Some item) e later =
    let emptied = (message_airing p m item e).1 in
    let undone : is_done (after_message p m).state.cued ≡ false = ap is_done emptied in
    inr (
      item,
      (message_airs p m item e).cued,
      ap (λ (rest : List Item). item ∷ rest) (undone_burst (after_message p m) ms undone),
    )

pub at_most_the_cued : (p : ClockedPort) (ms : List Content) → AirsAtMostTheCued p (aired_on_way p ms)
at_most_the_cued p [] = inl refl
at_most_the_cued p (m ∷ ms) = at_most_first p m ms (aired_by p m) refl (at_most_the_cued (after_message p m) ms)

pub one_at_most : (p : ClockedPort) (ms : List Content) → length (aired_on_way p ms) ≤ 1
one_at_most p ms = at (at_most_the_cued p ms)
  where
    at : AirsAtMostTheCued p (aired_on_way p ms) → length (aired_on_way p ms) ≤ 1
    at (inl none) = omega (arith, ap length none)
    at (inr (item, cued, one)) = omega (arith, ap length one)
