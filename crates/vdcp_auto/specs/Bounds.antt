-- What holds of every controller.
use Rattle.std.specs.Prelude.{◌≡◌, ℕ, ◌+◌, ◌<◌, Some, List, length}
use Rattle.vdcp_value.specs.declared.part.Item.{Item}
use Rattle.vdcp_words.specs.Commands.{IsWritableCommand}
use Rattle.vdcp_auto.specs.declared.phase.Phase.{Phase}
use Rattle.vdcp_auto.specs.declared.phase.Phase.TheVariants as phase
use Rattle.vdcp_auto.specs.State.{Stage}
use Rattle.vdcp_auto.specs.State.{Ready, Awaiting, Ended}
use Rattle.vdcp_auto.specs.declared.phase.Transition.{Transition}
use Rattle.vdcp_auto.specs.declared.phase.Transition.TheVariants.{Goes, Settles, Retries, Ends}
use Rattle.vdcp_auto.specs.declared.phase.Position.{Position}
use Rattle.vdcp_auto.specs.declared.phase.Position.TheVariants as position
use Rattle.vdcp_auto.specs.Plan.{View}
use Rattle.vdcp_auto.specs.Table.{command_in}

-- the phase's event is one of the n events
abbrev pub IsPhaseOf : ℕ → Phase → Type 0
IsPhaseOf n (phase.Exists k) = k < n
IsPhaseOf n (phase.Cue k) = k < n
IsPhaseOf n (phase.Wait k) = k < n
IsPhaseOf n (phase.Play k) = k < n
IsPhaseOf n (phase.Probe k) = k < n
IsPhaseOf n (phase.Check k) = k < n
IsPhaseOf n _ = Unit {0}

-- a transition leads to such a phase, and tries stay below the limit
abbrev pub IsTransitionOf : ℕ → ℕ → ℕ → Transition → Type 0
IsTransitionOf n limit tries (Goes p) = IsPhaseOf n p
IsTransitionOf n limit tries (Settles k) = k < n
IsTransitionOf n limit tries (Retries k) = (k < n) × (tries + 1 < limit)
IsTransitionOf n limit tries (Ends outcome) = Unit {0}

-- a controller that goes on is in such a phase, and fewer exchanges in a row than the limit are
-- unanswered
abbrev pub IsStageOf : ℕ → ℕ → ℕ → Stage → Type 0
IsStageOf n limit unanswered (Ready p) = IsPhaseOf n p × (unanswered < limit)
IsStageOf n limit unanswered (Awaiting p) = IsPhaseOf n p × (unanswered < limit)
IsStageOf n limit unanswered (Ended outcome) = Unit {0}

-- the command that is kept is the one that is awaited, and can be written
abbrev pub KeepsCommand : List Item → ℕ → Position → Type 0
KeepsCommand list port (position.Awaiting p c) = (command_in list port p ≡ Some c) × IsWritableCommand c
KeepsCommand list port _ = Unit {0}

-- the same for a controller as callers see it, if items gives a source's list

abbrev pub IsPhaseIn : {S : Type 0} → (S → List Item) → View S → Phase → Type 0
IsPhaseIn items view p = IsPhaseOf (length (items view.source)) p

abbrev pub IsTransitionIn : {S : Type 0} → (S → List Item) → View S → Transition → Type 0
IsTransitionIn items view transition =
    IsTransitionOf (length (items view.source)) view.limit view.state.tries transition
