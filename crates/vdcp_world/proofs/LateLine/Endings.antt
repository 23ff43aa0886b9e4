-- After an end: how many events are settled then, where that is known, and that it stays so.
use Rattle.std.proofs.Common.{◌≡◌, ℕ, ◌+◌, ◌<◌, inl, Bool, true, false, List, ◌∷◌, ◌++◌, length, Option, Some, None, subst}
use Rattle.std.specs.Prelude.{IfSome, IsTrue, slice_get}
use Rattle.vdcp_value.specs.declared.clip_id.ClipId.{ClipId}
use Rattle.vdcp_value.specs.declared.part.Item.{Item}
use Rattle.vdcp_value.specs.declared.timecode.Timecode.{Timecode}
use Rattle.vdcp_words.specs.declared.reply.Reply.{Reply}
use Rattle.vdcp_port.specs.Port.{Cued}
use Rattle.vdcp_auto.specs.declared.outcome.Outcome.{Outcome}
use Rattle.vdcp_auto.specs.declared.outcome.Outcome.TheVariants as outcome
use Rattle.vdcp_auto.specs.declared.phase.Mode.{Mode}
use Rattle.vdcp_auto.specs.declared.phase.Mode.TheVariants.{Plain, Confirming}
use Rattle.vdcp_auto.specs.declared.phase.Phase.{Phase}
use Rattle.vdcp_world.specs.LateLine.LateHeadline.{is_late_complete}
use Rattle.vdcp_world.proofs.LateLine.Exactness.{exact_at, exact_reads, exact_lessens}
use Rattle.vdcp_world.proofs.LateLine.Executed.{Executed}
use Rattle.vdcp_world.specs.LateLine.Pipe.{IsPipe}
use Rattle.vdcp_world.proofs.LateLine.Places.{Answer, At, Exact, Still, pipe_of}
use Rattle.vdcp_world.proofs.LateLine.Safety.{is_silent, none_plays}
use Rattle.vdcp_world.proofs.PhaseTable.{knows}
use Rattle.vdcp_world.proofs.LateLine.Lessening.{Lessens}

-- so many events of a list of n
abbrev pub settled_at : Mode → ℕ → Outcome → Option ℕ
settled_at mode n outcome.Done = Some n
settled_at mode n outcome.Denied = Some 0
settled_at mode n (outcome.Missing k) = Some k
settled_at mode n (outcome.Foreign k) = Some (k + 1)
settled_at mode n (outcome.Strange k) = Some k
settled_at Plain n (outcome.Refused k) = None
settled_at Confirming n (outcome.Refused k) = Some k
settled_at mode n outcome.Lost = None
settled_at mode n outcome.Stopped = None

-- an event that is missing is on the list, and its clip isn't in the catalogue
abbrev pub Misses : List Item → List (ClipId × Timecode) → Outcome → Type 0
Misses list clips (outcome.Missing k) = (k < length list) × (knows clips (slice_get list k) ≡ false)
Misses list clips _ = Unit {0}

-- all that aired is settled, and no more airs; or else this holds
abbrev pub EndedAt : Type 0 → List Item → ℕ → Bool → Cued → List Item → List Phase → Option ℕ → Type 0
EndedAt Else list settled s a aired downs None = Else
EndedAt Else list settled s a aired downs (Some k) = Exact list settled s a aired downs × (settled ≡ k)

module _ (Else : Type 0) where
  pub settles_at : (list : List Item) (settled : ℕ) (s : Bool) (a : Cued) (aired : List Item) (downs : List Phase)
      (k : ℕ) → At list aired settled k → Still s a downs → EndedAt Else list settled s a aired downs (Some k)
  settles_at list settled s a aired downs k h still = (exact_at list settled s a aired downs k h still, h.settled_is)

  -- an end from a phase in which no PLAY is on the way
  pub silent_end : (mode : Mode) (list : List Item) (settled : ℕ) (s : Bool) (a : Cued) (aired : List Item)
      (ups : List Answer) (downs : List Phase) (k : ℕ) (q : Phase) → is_silent q ≡ true
      → IsPipe mode (length list) q (pipe_of ups downs) → At list aired settled k
      → EndedAt Else list settled s a aired downs (Some k)
  silent_end mode list settled s a aired ups downs k q e c h =
      settles_at list settled s a aired downs k h (inl (none_plays mode (length list) ups downs q e c))

pub ended_lessens : {Else Left : Type 0} → (Else → Left) → (list : List Item) (settled : ℕ) (s : Bool) (a : Cued)
    (aired : List Item) (ups : List Answer) (downs : List Phase) (t : Bool) (b : Cued) (others : List Answer)
    (left : List Phase) (o : Option ℕ) → Lessens s a ups downs t b others left
    → EndedAt Else list settled s a aired downs o → EndedAt Left list settled t b aired left o
ended_lessens f list settled s a aired ups downs t b others left None g h = f h
ended_lessens f list settled s a aired ups downs t b others left (Some k) g h =
    (exact_lessens list settled s a aired ups downs t b others left g h.0, h.1)

pub ended_reads : {Else Left : Type 0} → (Else → Left) → (list : List Item) (settled : ℕ) (s : Bool) (a : Cued)
    (aired : List Item) (d : Phase) (downs : List Phase) (o : Option ℕ) (r : Reply) (t : Bool) (b : Cued)
    (airs : List Item) → Executed list d s a r t b airs → EndedAt Else list settled s a aired (d ∷ downs) o
    → EndedAt Left list settled t b (aired ++ airs) downs o
ended_reads f list settled s a aired d downs None r t b airs x h = f h
ended_reads f list settled s a aired d downs (Some k) r t b airs x h =
    (exact_reads list settled s a aired d downs r t b airs h.0 x, h.1)

-- what is said of a settled end and what isn't, taken together
pub ended_either : (Else Both : Type 0) (list : List Item) (settled : ℕ) (s : Bool) (a : Cued) (aired : List Item)
    (downs : List Phase) (o : Option ℕ) → (Else → Both) → (Exact list settled s a aired downs → Both)
    → EndedAt Else list settled s a aired downs o → Both
ended_either Else Both list settled s a aired downs None f g h = f h
ended_either Else Both list settled s a aired downs (Some k) f g h = g h.0

-- that many events are settled
pub ended_settles : (Else : Type 0) (list : List Item) (settled : ℕ) (s : Bool) (a : Cued) (aired : List Item)
    (downs : List Phase) (o : Option ℕ) → EndedAt Else list settled s a aired downs o → IfSome o (At list aired settled)
ended_settles Else list settled s a aired downs None h = tt
ended_settles Else list settled s a aired downs (Some k) h = subst (At list aired settled) h.1 h.0.at

-- a complete end says how many
pub complete_settles : {P : ℕ → Type 0} → (mode : Mode) (n : ℕ) (o : Outcome) → IsTrue (is_late_complete mode o)
    → IfSome (settled_at mode n o) P → (k : ℕ) × P k
complete_settles mode n outcome.Done e h = (n, h)
complete_settles mode n outcome.Denied e h = (0, h)
complete_settles mode n (outcome.Missing k) e h = (k, h)
complete_settles mode n (outcome.Foreign k) e h = (k + 1, h)
complete_settles mode n (outcome.Strange k) e h = (k, h)
complete_settles Plain n (outcome.Refused k) e h = cc
complete_settles Confirming n (outcome.Refused k) e h = (k, h)
complete_settles mode n _ e h = cc
