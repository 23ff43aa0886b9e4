-- What can be on the way in each phase of the controller. The pipe is, the oldest first, the commands whose answers
-- are on the way up, and then those on the way down; each is named by the phase that sent it.
use Rattle.std.specs.Prelude.{ℕ, ◌+◌, ◌*◌, ◌≤◌, List, [], ◌∷◌}
use Rattle.vdcp_auto.specs.declared.phase.Mode.{Mode}
use Rattle.vdcp_auto.specs.declared.phase.Mode.TheVariants.{Plain, Confirming}
use Rattle.vdcp_auto.specs.declared.phase.Phase.{Phase}
use Rattle.vdcp_auto.specs.declared.phase.Phase.TheVariants as phase

-- The stretches of a playlist of n events, in order: phases of one stretch take turns, and once an answer leads
-- from a stretch to the next one, the controller never comes back to it. What asks about the port is one stretch, since
-- it may have been asked before the run too. In confirm mode a cue is tried again from Wait, and so its two phases are
-- one stretch.
abbrev pub stretch : Mode → ℕ → Phase → ℕ
stretch mode n phase.Open = 1
stretch mode n phase.Select = 1
stretch mode n phase.Seen = 1
stretch mode n (phase.Exists k) = 5 * k + 2
stretch Plain n (phase.Cue k) = 5 * k + 3
stretch Confirming n (phase.Cue k) = 5 * k + 4
stretch mode n (phase.Wait k) = 5 * k + 4
stretch mode n (phase.Play k) = 5 * k + 5
stretch mode n (phase.Probe k) = 5 * k + 5
stretch mode n (phase.Check k) = 5 * k + 6
stretch mode n phase.Drain = 5 * n + 2
stretch mode n phase.Close = 5 * n + 3
stretch mode n phase.Halt = 5 * n + 4
stretch mode n phase.HaltClose = 5 * n + 4

-- The oldest stretch of which something can be in the pipe: the one before the phase's own, if any, and in
-- Close, where nothing can air any more, the one before that.
abbrev pub oldest_stretch : Mode → ℕ → Phase → ℕ
oldest_stretch mode n phase.Open = 1
oldest_stretch mode n phase.Select = 1
oldest_stretch mode n phase.Seen = 1
oldest_stretch mode n (phase.Exists k) = 5 * k + 1
oldest_stretch mode n (phase.Cue k) = 5 * k + 2
oldest_stretch Plain n (phase.Wait k) = 5 * k + 3
oldest_stretch Confirming n (phase.Wait k) = 5 * k + 2
oldest_stretch mode n (phase.Play k) = 5 * k + 4
oldest_stretch mode n (phase.Probe k) = 5 * k + 4
oldest_stretch mode n (phase.Check k) = 5 * k + 5
oldest_stretch mode n phase.Drain = 5 * n + 1
oldest_stretch mode n phase.Close = 5 * n + 1
oldest_stretch mode n phase.Halt = 0
oldest_stretch mode n phase.HaltClose = 0

-- numbers from one to another, none below one that stands before it
abbrev pub Climbs : ℕ → ℕ → List ℕ → Type 0
Climbs low high [] = Unit {0}
Climbs low high (x ∷ xs) = (low ≤ x) × (x ≤ high) × Climbs x high xs

abbrev pub stretches : Mode → ℕ → List Phase → List ℕ
stretches mode n [] = []
stretches mode n (q ∷ qs) = stretch mode n q ∷ stretches mode n qs

-- The pipe of a phase: commands of its own stretch after those of the one before it. In the halt it may hold
-- anything.
abbrev pub IsPipe : Mode → ℕ → Phase → List Phase → Type 0
IsPipe mode n phase.Halt pipe = Unit {0}
IsPipe mode n phase.HaltClose pipe = Unit {0}
IsPipe mode n q pipe = Climbs (oldest_stretch mode n q) (stretch mode n q) (stretches mode n pipe)
