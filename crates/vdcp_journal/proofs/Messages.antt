-- A step along a burst that found no message found its end.
use Rattle.std.proofs.Common.{◌≡◌, ℕ, refl, inl, inr}
use Rattle.std.specs.Prelude.{◌⊎◌}
use Rattle.vdcp_frame.specs.Reading.{End, clean, cut, fault}
use Rattle.vdcp_frame.specs.Step.{IfEnd}
use Rattle.vdcp_frame.specs.declared.burst.Step.{Step}
use Rattle.vdcp_frame.specs.declared.burst.Step.TheVariants as step
use Rattle.vdcp_frame.specs.declared.message.Fault.{Fault}
use Rattle.vdcp_frame.specs.declared.message.Message.{Message}

abbrev pub IsNone : Step → Type 0
IsNone s = (m : Message) (n : ℕ) → s ≡ step.Message m n → ⊥

pub ended : (s : Step) (P : End → Type 0) → IsNone s → IfEnd s P → (end : End) × P end
ended (step.Message m n) P other h = absurd (other m n refl)
ended step.Clean P other h = (clean, h)
ended (step.Cut n) P other h = (cut n, h)
ended (step.Fault which place) P other h = (fault which place, h)

pub not_message : (s : Step)
    → (s ≡ step.Clean) ⊎ (((x : ℕ) × (s ≡ step.Cut x)) ⊎ ((x : Fault) × (y : ℕ) × (s ≡ step.Fault x y))) → IsNone s
not_message s (inl e) m n is = cc (e, is)
not_message s (inr (inl (x, e))) m n is = cc (e, is)
not_message s (inr (inr (x, y, e))) m n is = cc (e, is)
