-- What a step along a burst found.
use Rattle.std.specs.Prelude.{ℕ}
use Rattle.vdcp_frame.specs.declared.burst.Step.{Step}
use Rattle.vdcp_frame.specs.declared.burst.Step.TheVariants as step
use Rattle.vdcp_frame.specs.Message.{Content, content_of}
use Rattle.vdcp_frame.specs.Reading.{End, clean, cut, fault}

-- a fact of the message that a step found, and of where the next one begins
abbrev pub IfMessage : Step → (Content → ℕ → Type 0) → Type 0
IfMessage (step.Message m next) P = P (content_of m) next
IfMessage step.Clean P = Unit {0}
IfMessage (step.Cut n) P = Unit {0}
IfMessage (step.Fault which place) P = Unit {0}

-- a fact of the end that a step found
abbrev pub IfEnd : Step → (End → Type 0) → Type 0
IfEnd (step.Message m next) P = Unit {0}
IfEnd step.Clean P = P clean
IfEnd (step.Cut n) P = P (cut n)
IfEnd (step.Fault which place) P = P (fault which place)
