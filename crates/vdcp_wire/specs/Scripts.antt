-- What a wire in memory tells.
use Rattle.std.specs.Prelude.{ℕ, ◌≤◌, ◌+◌, Bool, true, false, List, [], ◌∷◌, drop, if◌then◌else◌}
use Rattle.std.proofs.Common.{rules}
use Rattle.vdcp_wire.specs.declared.wire.Came.{Came}
use Rattle.vdcp_wire.specs.declared.wire.Came.TheVariants as came
use Rattle.vdcp_wire.specs.Wires.{Arrival, arrival_of, brought, Told}

-- a wire that tells its bytes, and whether it failed
pub record Script : Type 0 where
  pub told : Told
  pub failed : Bool

abbrev pub brought_in_all : List Came → ℕ
brought_in_all [] = 0
brought_in_all (c ∷ later) = brought c + brought_in_all later

-- what came, by what each listen gave and all bytes of these, one after another
abbrev pub arrivals : List Came → List ℕ → List Arrival
arrivals [] all = []
arrivals (c ∷ later) all = arrival_of c all ∷ arrivals later (drop (brought c) all)

abbrev pub closes : Came → Bool
closes (came.Bytes n) = false
closes came.Silence = false
closes came.Closed = true

pub fails_at_most_once : (failed : Bool) → (if failed then 1 else 0) ≤ 1
fails_at_most_once true = search rules
fails_at_most_once false = search rules
