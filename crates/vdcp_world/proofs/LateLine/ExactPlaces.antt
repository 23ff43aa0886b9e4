-- In which phases all that aired is settled, in either mode.
use Rattle.std.proofs.Common.{◌≡◌, ℕ, inl, inr, Bool, true, List, length, refl}
use Rattle.vdcp_value.specs.declared.part.Item.{Item}
use Rattle.vdcp_port.specs.Port.{Cued}
use Rattle.vdcp_auto.specs.declared.phase.Mode.{Mode}
use Rattle.vdcp_auto.specs.declared.phase.Phase.{Phase}
use Rattle.vdcp_auto.specs.declared.phase.Phase.TheVariants as phase
use Rattle.vdcp_world.specs.LateLine.Pipe.{IsPipe}
use Rattle.vdcp_world.proofs.LateLine.Exactness.{exact_at, is_exact_in}
use Rattle.vdcp_world.proofs.LateLine.Places.{Answer, At, Exact, HasNone, pipe_of}
use Rattle.vdcp_world.proofs.LateLine.Safety.{none_arms_in, none_plays}

pub exact_in : (mode : Mode) (list : List Item) (settled : ℕ) (s : Bool) (a : Cued) (aired : List Item)
    (ups : List Answer) (downs : List Phase) (q : Phase) → is_exact_in q ≡ true
    → (n : ℕ) → At list aired settled n → ((k : ℕ) → q ≡ phase.Check k → HasNone s a)
    → IsPipe mode (length list) q (pipe_of ups downs) → Exact list settled s a aired downs
exact_in mode list settled s a aired ups downs (phase.Check k) e n h none c =
    exact_at list settled s a aired downs n h (inr (none k refl, none_arms_in mode (length list) k ups downs c))
exact_in mode list settled s a aired ups downs (phase.Play k) e n h none c = cc
exact_in mode list settled s a aired ups downs (phase.Probe k) e n h none c = cc
exact_in mode list settled s a aired ups downs phase.Halt e n h none c = cc
exact_in mode list settled s a aired ups downs phase.HaltClose e n h none c = cc
exact_in mode list settled s a aired ups downs q e n h none c =
    exact_at list settled s a aired downs n h (inl (none_plays mode (length list) ups downs q refl c))
