-- What holds of a controller and its log, and that each call keeps it.
use Rattle.std.proofs.Common.{◌≡◌, ℕ, ◌+◌, ◌≤◌, ◌<◌, Bool, true, false, List, length}
use Rattle.vdcp_value.specs.declared.part.Item.{Item}
use Rattle.vdcp_auto.specs.declared.outcome.Outcome.{Outcome}
use Rattle.vdcp_auto.specs.declared.outcome.Outcome.TheVariants.{Done, Lost, Missing, Refused}
use Rattle.vdcp_auto.specs.declared.phase.Mode.{Mode}
use Rattle.vdcp_auto.specs.declared.phase.Mode.TheVariants.{Plain, Confirming}
use Rattle.vdcp_auto.specs.declared.phase.Phase.{Phase}
use Rattle.vdcp_auto.specs.declared.phase.Phase.TheVariants as phase
use Rattle.vdcp_auto.specs.State.{Stage}
use Rattle.vdcp_auto.specs.State.{Ready, Awaiting, Ended}
use Rattle.vdcp_auto.specs.State.{State}
use Rattle.vdcp_auto.specs.RuleBook.{CuesItemAt}
use Rattle.vdcp_auto.specs.Plan.{Plan}
use Rattle.vdcp_auto.proofs.Memo.{Memo}

-- the last cue is one of item k, and taken
abbrev pub CueIs : Mode → List Item → ℕ → Memo → Type 0
CueIs Plain list k m = CuesItemAt list k m.cue × (m.acked ≡ true)
CueIs Confirming list k m = CuesItemAt list k m.cue

-- item k was cued, and at least this number of empty statuses came since
abbrev pub TrialIs : List Item → ℕ → ℕ → Memo → Type 0
TrialIs list k tries m = (m.cued ≡ true) × CuesItemAt list k m.first × (tries ≤ m.empties)

-- neither STOP nor CLOSE stands in the log
abbrev pub IsGoing : Memo → Type 0
IsGoing m = (m.stopped ≡ false) × (m.closed ≡ false)

-- what holds in each phase
abbrev pub InPhase : Mode → List Item → Memo → Bool → Bool → ℕ → Phase → Type 0
InPhase mode list m awaiting stop tries phase.Open = IsGoing m × (m.count ≡ 0) × (m.opened ≡ false) × (m.cued ≡ false)
InPhase mode list m awaiting stop tries phase.Select =
    IsGoing m × (m.count ≡ 0) × (m.opened ≡ false) × (m.cued ≡ false) × (m.granted ≡ true)
InPhase mode list m awaiting stop tries phase.Seen = IsGoing m × (m.count ≡ 0) × (m.opened ≡ false) × (m.cued ≡ false)
    × (m.granted ≡ true)
InPhase mode list m awaiting stop tries (phase.Exists k) =
    IsGoing m × (m.count ≡ k) × (k < length list) × (m.opened ≡ false) × (m.cued ≡ false) × (tries ≡ 0)
InPhase mode list m awaiting stop tries (phase.Cue k) =
    IsGoing m × (m.count ≡ k) × (k < length list) × (m.opened ≡ false) × (m.cued ≡ false → tries ≡ 0)
    × (m.cued ≡ true → TrialIs list k tries m)
InPhase mode list m awaiting stop tries (phase.Wait k) =
    IsGoing m × (m.count ≡ k) × (k < length list) × (m.opened ≡ false) × TrialIs list k tries m × CueIs mode list k m
InPhase mode list m awaiting stop tries (phase.Play k) =
    IsGoing m × (m.count ≡ k) × (k < length list) × (m.done ≡ true) × TrialIs list k tries m × CueIs mode list k m
InPhase mode list m awaiting stop tries (phase.Probe k) =
    IsGoing m × (m.count ≡ k) × (k < length list) × (m.opened ≡ true) × TrialIs list k tries m × CueIs mode list k m
InPhase mode list m awaiting stop tries (phase.Check k) =
    IsGoing m × (m.count ≡ k + 1) × (k < length list) × (m.opened ≡ false) × (m.cued ≡ false)
InPhase mode list m awaiting stop tries phase.Drain = IsGoing m × (m.count ≡ length list) × (m.opened ≡ false)
InPhase mode list m awaiting stop tries phase.Close =
    (m.count ≡ length list) × (m.opened ≡ false) × (m.closed ≡ true → stop ≡ false) × (awaiting ≡ true → stop ≡ false)
InPhase mode list m awaiting stop tries phase.Halt = (m.closed ≡ false) × (stop ≡ false)
    × (awaiting ≡ false → m.stopped ≡ true)
InPhase mode list m awaiting stop tries phase.HaltClose = (m.stopped ≡ true) × (stop ≡ false)

-- what an end means
abbrev pub AtEnd : Mode → List Item → ℕ → Memo → Outcome → Type 0
AtEnd mode list limit m Done = m.count ≡ length list
AtEnd mode list limit m (Missing k) = m.count ≡ k
AtEnd mode list limit m (Refused k) = mode ≡ Confirming → TrialIs list k limit m
AtEnd mode list limit m _ = Unit {0}

abbrev pub AtStage : Mode → List Item → ℕ → Memo → Bool → ℕ → Stage → Type 0
AtStage mode list limit m stop tries (Ready p) = InPhase mode list m false stop tries p
AtStage mode list limit m stop tries (Awaiting p) = InPhase mode list m true stop tries p
AtStage mode list limit m stop tries (Ended outcome) = AtEnd mode list limit m outcome

-- fewer exchanges in a row than the limit are unanswered, unless that ended the controller
abbrev pub RowIs : ℕ → ℕ → ℕ → Stage → Type 0
RowIs limit row unanswered (Ready p) = (unanswered ≡ row) × (row < limit)
RowIs limit row unanswered (Awaiting p) = (unanswered ≡ row) × (row < limit)
RowIs limit row unanswered (Ended Lost) = limit ≤ row
RowIs limit row unanswered (Ended _) = row < limit

-- a controller and what its log leaves behind
pub record Holds (plan : Plan) (m : Memo) (state : State) : Type 0 where
  pub settled : state.settled ≡ m.count
  pub not_early : m.early ≡ false
  pub row : RowIs plan.limit m.row state.unanswered state.stage
  pub stage : AtStage plan.mode plan.list plan.limit m state.stop state.tries state.stage
