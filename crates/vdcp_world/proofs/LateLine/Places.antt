-- Where the port is in each phase of the controller, in plain mode, and what the answers on the way up tell of it.
use Rattle.std.proofs.Common.{◌≡◌, ℕ, ◌+◌, ◌<◌, ◌≤◌, ◌⊎◌, Bool, true, false, not, ◌&&◌, ◌||◌, List, [], ◌∷◌, length, take}
use Rattle.std.specs.List.{list_any}
use Rattle.std.specs.Prelude.{slice_get}
use Rattle.vdcp_value.specs.declared.part.Item.{Item}
use Rattle.vdcp_words.specs.declared.reply.Reply.{Reply}
use Rattle.vdcp_port.specs.Port.{Cued, empty, is_done as is_done_cue}
use Rattle.vdcp_auto.specs.Replies.{is_ack, is_refusal, is_done, is_empty}
use Rattle.vdcp_auto.specs.declared.phase.Phase.{Phase}
use Rattle.vdcp_auto.specs.declared.phase.Phase.TheVariants as phase
use Rattle.vdcp_world.proofs.PhaseTable.{is_asked, Near, cued_item}

-- ---- the pipe

-- the answer to what a phase sent
pub record Answer : Type 0 where
  pub to : Phase
  pub reply : Reply

-- what was sent and is on the way, or its answer is
abbrev pub pipe_of : List Answer → List Phase → List Phase
pipe_of [] downs = downs
pipe_of (a ∷ ups) downs = a.to ∷ pipe_of ups downs

-- a refusal, or a reply of that kind
abbrev pub fits_phase : Phase → Reply → Bool
fits_phase q r = is_refusal r || is_asked q r

abbrev pub misfits : Answer → Bool
misfits a = not (fits_phase a.to a.reply)

abbrev pub says_ack : Answer → Bool
says_ack a = is_ack a.reply

abbrev pub says_done : Answer → Bool
says_done a = is_done a.reply

abbrev pub says_empty : Answer → Bool
says_empty a = is_empty a.reply

abbrev pub plays : Phase → Bool
plays (phase.Play k) = true
plays _ = false

abbrev pub waits : Phase → Bool
waits (phase.Wait k) = true
waits _ = false

-- what could put something into the cued slot, or make the port play what is there
abbrev pub arms : Phase → Bool
arms phase.Select = true
arms (phase.Cue k) = true
arms _ = false

-- a state that was asked for in Wait, and shows that nothing is cued
abbrev pub shows_no_cue : Answer → Bool
shows_no_cue a = waits a.to && is_empty a.reply

-- ---- the port

-- of a port that can be made to play: it has the item of this event in its cued slot; that cue is done; it has none
abbrev pub HasItem : List Item → Bool → Cued → ℕ → Type 0
HasItem list selected cued k = selected ≡ true → cued_item cued ≡ slice_get list k

abbrev pub HasDone : Bool → Cued → Type 0
HasDone selected cued = selected ≡ true → is_done_cue cued ≡ true

abbrev pub HasNone : Bool → Cued → Type 0
HasNone selected cued = selected ≡ true → cued ≡ empty

-- the first k events were aired, and are settled
pub record At (list aired : List Item) (settled k : ℕ) : Type 0 where
  pub aired_is : aired ≡ take k list
  pub within : k ≤ length list
  pub settled_is : settled ≡ k

-- ---- the phases

pub record Cueing (list : List Item) (settled : ℕ) (selected : Bool) (cued : Cued) (aired : List Item)
    (ups : List Answer) (k : ℕ) : Type 0 where
  pub at : At list aired settled k
  pub within : k < length list
  pub taken : list_any says_ack ups ≡ true → HasItem list selected cued k

pub record Waiting (list : List Item) (settled : ℕ) (selected : Bool) (cued : Cued) (aired : List Item)
    (ups : List Answer) (k : ℕ) : Type 0 where
  pub at : At list aired settled k
  pub within : k < length list
  pub has_item : HasItem list selected cued k
  pub shown : list_any says_done ups ≡ true → HasDone selected cued
  pub never_none : list_any shows_no_cue ups ≡ false

-- the event isn't aired yet, and its cue is done; no answer on the way up says that it was
pub record ToAir (list : List Item) (selected : Bool) (cued : Cued) (aired : List Item) (ups : List Answer)
    (k : ℕ) : Type 0 where
  pub aired_is : aired ≡ take k list
  pub has_item : HasItem list selected cued k
  pub has_done : HasDone selected cued
  pub no_ack : list_any says_ack ups ≡ false
  pub no_empty : list_any says_empty ups ≡ false

-- it was aired, and nothing was cued since
pub record OnAir (list : List Item) (selected : Bool) (cued : Cued) (aired : List Item) (downs : List Phase)
    (k : ℕ) : Type 0 where
  pub aired_is : aired ≡ take (k + 1) list
  pub has_none : HasNone selected cued
  pub none_waits : list_any waits downs ≡ false

pub record Playing (list : List Item) (settled : ℕ) (selected : Bool) (cued : Cued) (aired : List Item)
    (ups : List Answer) (downs : List Phase)
    (k : ℕ) : Type 0 where
  pub settled_is : settled ≡ k
  pub within : k < length list
  pub never_none : list_any shows_no_cue ups ≡ false
  pub stands : ToAir list selected cued aired ups k ⊎ OnAir list selected cued aired downs k

pub record Checking (list : List Item) (settled : ℕ) (selected : Bool) (cued : Cued) (aired : List Item)
    (k : ℕ) : Type 0 where
  pub at : At list aired settled (k + 1)
  pub within : k < length list
  pub has_none : HasNone selected cued

-- ---- in the halt, and after an end

-- nothing is cued, or the first event that isn't settled
abbrev pub LastCue : List Item → ℕ → Bool → Cued → List Item → Type 0
LastCue list settled selected cued aired =
    HasNone selected cued ⊎ ((aired ≡ take settled list) × (settled < length list) × HasItem list selected cued settled)

-- what is on the way down airs no more than that event
pub record Unarmed (list : List Item) (settled : ℕ) (selected : Bool) (cued : Cued) (aired : List Item)
    (downs : List Phase) : Type 0 where
  pub none_arms : list_any arms downs ≡ false
  pub last : LastCue list settled selected cued aired

pub record Safe (list : List Item) (settled : ℕ) (selected : Bool) (cued : Cued) (aired : List Item)
    (downs : List Phase) : Type 0 where
  pub near : Near list aired settled
  pub calm : (list_any plays downs ≡ false) ⊎ Unarmed list settled selected cued aired downs

-- nothing that is on the way down airs: there is no PLAY, or nothing is cued nor will be
abbrev pub Still : Bool → Cued → List Phase → Type 0
Still selected cued downs =
    (list_any plays downs ≡ false) ⊎ (HasNone selected cued × (list_any arms downs ≡ false))

-- what was aired is settled, all of it, and no more airs
pub record Exact (list : List Item) (settled : ℕ) (selected : Bool) (cued : Cued) (aired : List Item)
    (downs : List Phase) : Type 0 where
  pub at : At list aired settled settled
  pub still : Still selected cued downs

abbrev pub Place : List Item → ℕ → Bool → Cued → List Item → List Answer → List Phase → Phase → Type 0
Place list settled selected cued aired ups downs phase.Open = At list aired settled 0
Place list settled selected cued aired ups downs phase.Select = At list aired settled 0
Place list settled selected cued aired ups downs phase.Seen = At list aired settled 0
Place list settled selected cued aired ups downs (phase.Exists k) = At list aired settled k × (k < length list)
Place list settled selected cued aired ups downs (phase.Cue k) = Cueing list settled selected cued aired ups k
Place list settled selected cued aired ups downs (phase.Wait k) = Waiting list settled selected cued aired ups k
Place list settled selected cued aired ups downs (phase.Play k) = Playing list settled selected cued aired ups downs k
Place list settled selected cued aired ups downs (phase.Probe k) = Playing list settled selected cued aired ups downs k
Place list settled selected cued aired ups downs (phase.Check k) = Checking list settled selected cued aired k
Place list settled selected cued aired ups downs phase.Drain = At list aired settled (length list)
Place list settled selected cued aired ups downs phase.Close = At list aired settled (length list)
Place list settled selected cued aired ups downs phase.Halt = Safe list settled selected cued aired downs
Place list settled selected cued aired ups downs phase.HaltClose = Safe list settled selected cued aired downs
