-- Where the port is in each phase of the controller, in confirm mode, and what the answers on the way up tell of it.
use Rattle.std.proofs.Common.{◌≡◌, ℕ, ◌+◌, ◌<◌, ◌⊎◌, inl, inr, Bool, true, false, List, [], ◌∷◌, ◌++◌, length, take, refl, ◌∙◌}
use Rattle.std.proofs.lemmas.Bool.{or_from, or_left, or_parts, or_right}
use Rattle.std.specs.List.{list_any}
use Rattle.std.specs.Prelude.{slice_get}
use Rattle.vdcp_value.specs.declared.part.Item.{Item}
use Rattle.vdcp_port.specs.Port.{Cued, empty}
use Rattle.vdcp_auto.specs.declared.phase.Phase.{Phase}
use Rattle.vdcp_auto.specs.declared.phase.Phase.TheVariants as phase
use Rattle.vdcp_world.proofs.LateLine.Delivering.{clash, none_pushed}
use Rattle.vdcp_world.proofs.LateLine.Places.{Answer, plays, says_done, says_empty, shows_no_cue, HasItem, At}
use Rattle.vdcp_world.proofs.LateLine.Thinning.{any_push}
use Rattle.vdcp_world.proofs.PhaseTable.{cued_item, Near}
use Rattle.vdcp_world.proofs.LateLine.Lessening.{Ages, FullAfterDone, LastOf, Lessens, cues, cues_other, item_ages}

-- ---- what is sent

-- sent to cue an event
abbrev pub tries : Phase → Bool
tries (phase.Cue k) = true
tries (phase.Wait k) = true
tries _ = false

-- ---- the port

-- nothing is cued but the item of this event
abbrev pub Owns : List Item → Cued → ℕ → Type 0
Owns list a k = (a ≡ empty) ⊎ (cued_item a ≡ slice_get list k)

-- ---- the phases

pub record Trying (list : List Item) (settled : ℕ) (s : Bool) (a : Cued) (aired : List Item) (ups : List Answer)
    (k : ℕ) : Type 0 where
  pub at : At list aired settled k
  pub within : k < length list
  pub owns : Owns list a k
  pub shown : list_any says_done ups ≡ true → HasItem list s a k
  pub full : FullAfterDone ups

-- the event isn't aired yet, and no state on the way up says that it was
pub record ToSound (list : List Item) (s : Bool) (a : Cued) (aired : List Item) (ups : List Answer)
    (k : ℕ) : Type 0 where
  pub aired_is : aired ≡ take k list
  pub owns : Owns list a k
  pub has_item : HasItem list s a k
  pub no_empty : list_any says_empty ups ≡ false

-- it was aired, and nothing was cued since, nor will be
pub record Sounded (list : List Item) (a : Cued) (aired : List Item) (downs : List Phase) (k : ℕ) : Type 0 where
  pub aired_is : aired ≡ take (k + 1) list
  pub is_empty : a ≡ empty
  pub none_tries : list_any tries downs ≡ false

pub record Sounding (list : List Item) (settled : ℕ) (s : Bool) (a : Cued) (aired : List Item) (ups : List Answer)
    (downs : List Phase) (k : ℕ) : Type 0 where
  pub settled_is : settled ≡ k
  pub within : k < length list
  pub never_none : list_any shows_no_cue ups ≡ false
  pub stands : ToSound list s a aired ups k ⊎ Sounded list a aired downs k

-- ---- in the halt, and after an end

-- nothing is cued, nor will be
pub record Spent (a : Cued) (downs : List Phase) : Type 0 where
  pub is_empty : a ≡ empty
  pub none_cues : list_any cues downs ≡ false

-- the first event that isn't settled may air yet
pub record Last (list : List Item) (settled : ℕ) (a : Cued) (aired : List Item) (downs : List Phase) : Type 0 where
  pub aired_is : aired ≡ take settled list
  pub within : settled < length list
  pub owns : Owns list a settled
  pub last : LastOf settled downs

pub record Secure (list : List Item) (settled : ℕ) (a : Cued) (aired : List Item) (downs : List Phase) : Type 0 where
  pub near : Near list aired settled
  pub calm : (list_any plays downs ≡ false) ⊎ Spent a downs ⊎ Last list settled a aired downs

-- whatever is selected
abbrev pub Secured : List Item → ℕ → Bool → Cued → List Item → List Phase → Type 0
Secured list settled s a aired downs = Secure list settled a aired downs

-- the first k events were aired and are settled, and nothing is cued
abbrev pub Idle : List Item → ℕ → Cued → List Item → ℕ → Type 0
Idle list settled a aired k = At list aired settled k × (a ≡ empty)

abbrev pub Spot : List Item → ℕ → Bool → Cued → List Item → List Answer → List Phase → Phase → Type 0
Spot list settled s a aired ups downs phase.Open = Idle list settled a aired 0
Spot list settled s a aired ups downs phase.Select = Idle list settled a aired 0
Spot list settled s a aired ups downs phase.Seen = Idle list settled a aired 0
Spot list settled s a aired ups downs (phase.Exists k) = Idle list settled a aired k × (k < length list)
Spot list settled s a aired ups downs (phase.Cue k) = Trying list settled s a aired ups k
Spot list settled s a aired ups downs (phase.Wait k) = Trying list settled s a aired ups k
Spot list settled s a aired ups downs (phase.Play k) = Sounding list settled s a aired ups downs k
Spot list settled s a aired ups downs (phase.Probe k) = Sounding list settled s a aired ups downs k
Spot list settled s a aired ups downs (phase.Check k) = Idle list settled a aired (k + 1) × (k < length list)
Spot list settled s a aired ups downs phase.Drain = At list aired settled (length list)
Spot list settled s a aired ups downs phase.Close = At list aired settled (length list)
Spot list settled s a aired ups downs phase.Halt = Secure list settled a aired downs
Spot list settled s a aired ups downs phase.HaltClose = Secure list settled a aired downs

-- ---- one answer more, and one command

pub full_pushed : (ups : List Answer) (x : Answer) → (list_any says_done ups ≡ true → says_empty x ≡ false)
    → FullAfterDone ups
    → FullAfterDone (ups ++ x ∷ [])
full_pushed [] x f h = (λ _. refl, tt)
full_pushed (y ∷ ups) x f h = (
  λ e. none_pushed says_empty ups x (h.0 e) (f (or_left (says_done y) (list_any says_done ups) e)),
  full_pushed ups x (λ e. f (or_right (says_done y) (list_any says_done ups) e)) h.1,
)

-- none shows a cue to be done
pub full_none : (ups : List Answer) → list_any says_done ups ≡ false → FullAfterDone ups
full_none [] e = tt
full_none (x ∷ ups) e = (
  λ t. clash (says_done x) t (or_parts (says_done x) (list_any says_done ups) e).0,
  full_none ups (or_parts (says_done x) (list_any says_done ups) e).1,
)

pub none_sent : (test : Phase → Bool) (downs : List Phase) (q : Phase) → list_any test downs ≡ false → test q ≡ false
    → list_any test (downs ++ q ∷ []) ≡ false
none_sent test downs q e f = any_push test downs q ∙ or_from (list_any test downs) (test q) e f

pub last_sent : (s : ℕ) (downs : List Phase) (q : Phase) → cues q ≡ false → cues_other s q ≡ false → LastOf s downs
    → LastOf s (downs ++ q ∷ [])
last_sent s [] q e o h = (o, λ _. refl, tt)
last_sent s (d ∷ downs) q e o h = (h.0, λ p. none_sent cues downs q (h.1 p) e, last_sent s downs q e o h.2)

-- ---- less of all

pub owns_ages : (list : List Item) (s : Bool) (a : Cued) (t : Bool) (b : Cued) (k : ℕ) → Ages s a t b → Owns list a k
    → Owns list b k
owns_ages list s a t b k g h = by g.nothing_else h
  where
    by : (b ≡ empty) ⊎ (cued_item b ≡ cued_item a) → (a ≡ empty) ⊎ (cued_item a ≡ slice_get list k) → Owns list b k
    by (inl none) h = inl none
    by (inr same) (inl none) = inl (g.still_empty none)
    by (inr same) (inr is) = inr (same ∙ is)

module _ (list : List Item) (settled : ℕ) (s : Bool) (a : Cued) (aired : List Item) (ups : List Answer)
    (downs : List Phase) (t : Bool) (b : Cued) (others : List Answer) (left : List Phase)
    (g : Lessens s a ups downs t b others left) where
  trying_lessens : (k : ℕ) → Trying list settled s a aired ups k → Trying list settled t b aired others k
  trying_lessens k h = record {
    at = h.at;
    within = h.within;
    owns = owns_ages list s a t b k g.ages h.owns;
    shown = λ e. item_ages list s a t b k g.ages (h.shown (g.ups_any says_done e));
    full = g.full h.full;
  }

  sounding_lessens : (k : ℕ) → Sounding list settled s a aired ups downs k
      → Sounding list settled t b aired others left k
  sounding_lessens k h = record {
    settled_is = h.settled_is;
    within = h.within;
    never_none = g.ups_none shows_no_cue h.never_none;
    stands = by h.stands;
  }
    where
      by : ToSound list s a aired ups k ⊎ Sounded list a aired downs k
          → ToSound list t b aired others k ⊎ Sounded list b aired left k
      by (inl q) = inl (record {
        aired_is = q.aired_is;
        owns = owns_ages list s a t b k g.ages q.owns;
        has_item = item_ages list s a t b k g.ages q.has_item;
        no_empty = g.ups_none says_empty q.no_empty;
      })
      by (inr q) = inr (record {
        aired_is = q.aired_is;
        is_empty = g.ages.still_empty q.is_empty;
        none_tries = g.downs_none tries q.none_tries;
      })

  pub secure_lessens : Secure list settled a aired downs → Secure list settled b aired left
  secure_lessens h = record { near = h.near; calm = by h.calm }
    where
      by : (list_any plays downs ≡ false) ⊎ Spent a downs ⊎ Last list settled a aired downs
          → (list_any plays left ≡ false) ⊎ Spent b left ⊎ Last list settled b aired left
      by (inl e) = inl (g.downs_none plays e)
      by (inr (inl q)) = inr (inl (record {
        is_empty = g.ages.still_empty q.is_empty;
        none_cues = g.downs_none cues q.none_cues;
      }))
      by (inr (inr q)) = inr (inr (record {
        aired_is = q.aired_is;
        within = q.within;
        owns = owns_ages list s a t b settled g.ages q.owns;
        last = g.last settled q.last;
      }))

  pub spot_lessens : (q : Phase) → Spot list settled s a aired ups downs q → Spot list settled t b aired others left q
  spot_lessens (phase.Exists k) h = ((h.0.0, g.ages.still_empty h.0.1), h.1)
  spot_lessens (phase.Cue k) h = trying_lessens k h
  spot_lessens (phase.Wait k) h = trying_lessens k h
  spot_lessens (phase.Play k) h = sounding_lessens k h
  spot_lessens (phase.Probe k) h = sounding_lessens k h
  spot_lessens (phase.Check k) h = ((h.0.0, g.ages.still_empty h.0.1), h.1)
  spot_lessens phase.Drain h = h
  spot_lessens phase.Close h = h
  spot_lessens phase.Halt h = secure_lessens h
  spot_lessens phase.HaltClose h = secure_lessens h
  spot_lessens _ h = (h.0, g.ages.still_empty h.1)
