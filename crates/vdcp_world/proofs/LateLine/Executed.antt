-- What a port does where it reads the command that a phase sent.
use Rattle.std.proofs.Common.{◌≡◌, ◌⊎◌, Bool, true, false, List, [], ◌∷◌}
use Rattle.std.specs.Prelude.{slice_get}
use Rattle.vdcp_value.specs.declared.part.Item.{Item}
use Rattle.vdcp_words.specs.declared.reply.Reply.{Reply}
use Rattle.vdcp_port.specs.Port.{Cued, empty, cueing, done, is_empty as is_empty_slot, is_done as is_done_cue}
use Rattle.vdcp_auto.specs.Replies.{is_ack, is_done, is_empty}
use Rattle.vdcp_auto.specs.declared.phase.Phase.{Phase}
use Rattle.vdcp_auto.specs.declared.phase.Phase.TheVariants as phase
use Rattle.vdcp_world.proofs.LateLine.Places.{fits_phase}
use Rattle.vdcp_world.proofs.PhaseTable.{cued_item}

-- Of a port: whether it is selected, and its cued slot. Before and after; and what aired.
abbrev Stays : Bool → Cued → Bool → Cued → List Item → Type 0
Stays selected cued selected_after cued_after airs = (selected_after ≡ selected) × (cued_after ≡ cued) × (airs ≡ [])

-- what is cued once the port was made to play, and what aired
abbrev pub left_cued : Cued → Cued
left_cued empty = empty
left_cued (cueing item) = cueing item
left_cued (done item) = empty

abbrev pub put_on_air : Cued → List Item
put_on_air empty = []
put_on_air (cueing item) = []
put_on_air (done item) = item ∷ []

-- a state reply is true, and comes from a selected port alone
pub record Shows (selected : Bool) (cued : Cued) (r : Reply) : Type 0 where
  pub shows_done : is_done r ≡ true → is_done_cue cued ≡ true
  pub shows_empty : is_empty r ≡ true → is_empty_slot cued ≡ true
  pub is_selected : is_empty r ≡ true → selected ≡ true

abbrev pub Does : List Item → Phase → Bool → Cued → Reply → Bool → Cued → List Item → Type 0
Does list phase.Open selected cued r selected_after cued_after airs = Stays selected cued selected_after cued_after airs
Does list phase.Select selected cued r selected_after cued_after airs = (cued_after ≡ cued) × (airs ≡ [])
Does list phase.Seen selected cued r selected_after cued_after airs = Stays selected cued selected_after cued_after airs
Does list (phase.Exists k) selected cued r selected_after cued_after airs =
    Stays selected cued selected_after cued_after airs
Does list (phase.Cue k) selected cued r selected_after cued_after airs =
    (selected_after ≡ selected) × (airs ≡ [])
    × (((cued_after ≡ cued) × (is_ack r ≡ false)) ⊎ (cued_item cued_after ≡ slice_get list k))
Does list (phase.Wait k) selected cued r selected_after cued_after airs =
    Stays selected cued selected_after cued_after airs × Shows selected cued r
Does list (phase.Play k) selected cued r selected_after cued_after airs =
    (selected_after ≡ selected)
    × (((selected ≡ false) × (cued_after ≡ cued) × (airs ≡ []) × (is_ack r ≡ false))
    ⊎ ((selected ≡ true) × (cued_after ≡ left_cued cued) × (airs ≡ put_on_air cued)))
Does list (phase.Probe k) selected cued r selected_after cued_after airs =
    Stays selected cued selected_after cued_after airs × Shows selected cued r
Does list (phase.Check k) selected cued r selected_after cued_after airs =
    Stays selected cued selected_after cued_after airs
Does list phase.Drain selected cued r selected_after cued_after airs =
    Stays selected cued selected_after cued_after airs
Does list phase.Close selected cued r selected_after cued_after airs =
    (selected_after ≡ true → selected ≡ true) × (airs ≡ []) × ((cued_after ≡ empty) ⊎ (cued_after ≡ cued))
Does list phase.Halt selected cued r selected_after cued_after airs =
    (selected_after ≡ true → selected ≡ true) × (airs ≡ []) × ((cued_after ≡ empty) ⊎ (cued_after ≡ cued))
Does list phase.HaltClose selected cued r selected_after cued_after airs =
    (selected_after ≡ true → selected ≡ true) × (airs ≡ []) × ((cued_after ≡ empty) ⊎ (cued_after ≡ cued))

pub record Executed (list : List Item) (q : Phase) (selected : Bool) (cued : Cued) (r : Reply) (selected_after : Bool)
    (cued_after : Cued)
    (airs : List Item) : Type 0 where
  pub fits : fits_phase q r ≡ true
  pub does : Does list q selected cued r selected_after cued_after airs
