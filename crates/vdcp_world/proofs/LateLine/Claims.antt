-- What may be claimed of a late channel in one mode, and how a claim has to be closed so that every event keeps it.
use Rattle.std.proofs.Common.{◌≡◌, ℕ, ◌⊎◌, Bool, true, false, List, [], ◌∷◌, ◌++◌, length, Option, Some}
use Rattle.std.specs.List.{list_any}
use Rattle.std.specs.Prelude.{IfSome}
use Rattle.vdcp_value.specs.declared.clip_id.ClipId.{ClipId}
use Rattle.vdcp_value.specs.declared.part.Item.{Item}
use Rattle.vdcp_value.specs.declared.timecode.Timecode.{Timecode}
use Rattle.vdcp_words.specs.declared.reply.Reply.{Reply}
use Rattle.vdcp_port.specs.Port.{Cued, empty}
use Rattle.vdcp_auto.specs.Plan.{Plan}
use Rattle.vdcp_auto.specs.Turn.{came_to, phase_to_send}
use Rattle.vdcp_auto.specs.declared.exchange.Heard.{Heard}
use Rattle.vdcp_auto.specs.declared.exchange.Heard.TheVariants as heard
use Rattle.vdcp_auto.specs.declared.outcome.Outcome.{Outcome}
use Rattle.vdcp_auto.specs.declared.phase.Mode.{Mode}
use Rattle.vdcp_auto.specs.declared.phase.Mode.TheVariants.{Confirming}
use Rattle.vdcp_auto.specs.declared.phase.Phase.{Phase}
use Rattle.vdcp_auto.specs.declared.phase.Phase.TheVariants as phase
use Rattle.vdcp_auto.specs.State.{Stage, Ready, Awaiting, Ended, State}
use Rattle.vdcp_world.specs.LateLine.Asking.{asked_by}
use Rattle.vdcp_world.specs.LateLine.Asking.{Question}
use Rattle.vdcp_world.specs.LateLine.Damage.{is_no_answer}
use Rattle.vdcp_world.specs.LateLine.Pipe.{IsPipe}
use Rattle.vdcp_world.proofs.LateLine.Endings.{Misses, settled_at}
use Rattle.vdcp_world.proofs.LateLine.Exactness.{exact_reads, is_exact_at, exact_lessens}
use Rattle.vdcp_world.proofs.LateLine.Places.{Answer, At, Exact, misfits, pipe_of}
use Rattle.vdcp_world.proofs.LateLine.Thinning.{Thins}
use Rattle.vdcp_world.proofs.PhaseTable.{Near}
use Rattle.vdcp_world.proofs.LateLine.Reads.{Reads, misleads}
use Rattle.vdcp_world.proofs.LateLine.Lessening.{Lessens, thinned}

-- of the playlist, the catalogue, how many events are settled, whether the port is selected, its cued slot, what was
-- aired, the
-- answers on the way up, what is on the way down, and where the controller is
abbrev pub Claim : Type 1
Claim =
    List Item → List (ClipId × Timecode) → ℕ → Bool → Cued → List Item → List Answer → List Phase → Stage → Type 0

-- what comes is no answer, or the oldest one that is on the way
abbrev pub Comes : Mode → List Answer → Option Heard → Type 0
Comes mode ups came =
    (is_no_answer mode came ≡ true) ⊎ ((x : Answer) × (rest : List Answer) × (ups ≡ x ∷ rest) ×
    (came ≡ Some (heard.Reply x.reply)))

-- each event keeps it that leaves the controller as it is
pub record Steady (S : Claim) : Type 0 where
  -- there is less on the way and of the port, or the same
  pub lessens : (list : List Item) (clips : List (ClipId × Timecode)) (settled : ℕ) (s : Bool) (a : Cued)
      (aired : List Item) (ups : List Answer) (downs : List Phase) (t : Bool) (b : Cued) (others : List Answer)
      (left : List Phase) (stage : Stage) → Lessens s a ups downs t b others left
      → S list clips settled s a aired ups downs stage → S list clips settled t b aired others left stage
  -- the port reads the oldest command
  pub reads : (list : List Item) (clips : List (ClipId × Timecode)) (settled : ℕ) (s : Bool) (a : Cued)
      (aired : List Item) (ups : List Answer) (d : Phase)
      (downs : List Phase) (stage : Stage) (r : Reply) (t : Bool) (b : Cued) (airs : List Item)
      → S list clips settled s a aired ups (d ∷ downs) stage → Reads list clips d s a r t b airs
      → S list clips settled t b (aired ++ airs) (ups ++ record { to = d; reply = r } ∷ []) downs stage

-- and the others do
pub record Closed (mode : Mode) (S : Claim) : Type 0 where
  pub steady : Steady S
  -- the controller sends
  pub sends : (list : List Item) (clips : List (ClipId × Timecode)) (settled : ℕ) (s : Bool) (a : Cued)
      (aired : List Item) (ups : List Answer)
      (downs : List Phase) (stop : Bool) (q : Phase) → S list clips settled s a aired ups downs (Ready q)
      → S list clips settled s a aired ups (downs ++ phase_to_send stop q ∷ []) (Awaiting (phase_to_send stop q))
  -- the automation asks beside it
  pub asks : (list : List Item) (clips : List (ClipId × Timecode)) (settled : ℕ) (s : Bool) (a : Cued)
      (aired : List Item) (ups : List Answer)
      (downs : List Phase) (asked : Question) (q d : Phase) → asked_by asked q ≡ Some d
      → S list clips settled s a aired ups downs (Ready q)
      → S list clips settled s a aired ups (downs ++ d ∷ []) (Ready q)
  -- something comes to it, or nothing in time
  pub comes : (plan : Plan) (clips : List (ClipId × Timecode)) (s : Bool) (a : Cued) (aired : List Item)
      (ups : List Answer) (downs : List Phase)
      (state : State) (came : Option Heard) → plan.mode ≡ mode → Comes mode ups came
      → S plan.list clips state.settled s a aired ups downs state.stage
      → S plan.list clips (came_to plan came state).settled s a aired ups downs (came_to plan came state).stage
  -- where no PLAY is on the way, or the port has nothing that it could play
  pub exact : (list : List Item) (clips : List (ClipId × Timecode)) (settled : ℕ) (s : Bool) (a : Cued)
      (aired : List Item) (ups : List Answer)
      (downs : List Phase) (stage : Stage) → is_exact_at stage ≡ true
      → S list clips settled s a aired ups downs stage → Exact list settled s a aired downs

-- and it holds of what a run may begin with, and says what went to air
pub record Covers (mode : Mode) (S : Claim) : Type 0 where
  pub closed : Closed mode S
  pub begins : (list : List Item) (clips : List (ClipId × Timecode)) (s : Bool) (a : Cued) (ups : List Answer)
      (downs : List Phase) → (mode ≡ Confirming → a ≡ empty) → list_any misfits ups ≡ false
      → list_any (misleads list clips) ups ≡ false → IsPipe mode (length list) phase.Open (pipe_of ups downs)
      → S list clips 0 s a [] ups downs (Ready phase.Open)
  pub near : (list : List Item) (clips : List (ClipId × Timecode)) (settled : ℕ) (s : Bool) (a : Cued)
      (aired : List Item) (ups : List Answer) (downs : List Phase) (stage : Stage)
      → S list clips settled s a aired ups downs stage → Near list aired settled
  pub ends : (list : List Item) (clips : List (ClipId × Timecode)) (settled : ℕ) (s : Bool) (a : Cued)
      (aired : List Item) (ups : List Answer) (downs : List Phase) (o : Outcome)
      → S list clips settled s a aired ups downs (Ended o)
      → IfSome (settled_at mode (length list) o) (At list aired settled) × Misses list clips o

-- the claim, and where no event more than are settled may have aired, that none has
pub record Exactly (S : Claim) (may : Bool) (list : List Item) (clips : List (ClipId × Timecode)) (settled : ℕ)
    (s : Bool)
    (a : Cued) (aired : List Item) (ups : List Answer) (downs : List Phase) (stage : Stage) : Type 0 where
  pub stands : S list clips settled s a aired ups downs stage
  pub exact : may ≡ false → Exact list settled s a aired downs

pub exactly : (S : Claim) (may : Bool) → Steady S → Steady (Exactly S may)
exactly S may h = record {
  lessens = λ list clips settled s a aired ups downs t b others left stage g k.
      record {
        stands = h.lessens list clips settled s a aired ups downs t b others left stage g k.stands;
        exact = λ e. exact_lessens list settled s a aired ups downs t b others left g (k.exact e);
      };
  reads = λ list clips settled s a aired ups d downs stage r t b airs k x.
      record {
        stands = h.reads list clips settled s a aired ups d downs stage r t b airs k.stands x;
        exact = λ e. exact_reads list settled s a aired d downs r t b airs (k.exact e) x.executed;
      };
}

-- something on the way is left out
pub thins : {S : Claim} → Steady S → (list : List Item) (clips : List (ClipId × Timecode)) (settled : ℕ) (s : Bool)
    (a : Cued) (aired : List Item) (ups others : List Answer) (downs left : List Phase) (stage : Stage)
    → Thins ups others → Thins downs left → S list clips settled s a aired ups downs stage
    → S list clips settled s a aired others left stage
thins h list clips settled s a aired ups others downs left stage u d =
    h.lessens list clips settled s a aired ups downs s a others left stage (thinned s a ups others downs left u d)
