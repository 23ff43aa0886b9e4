-- The port that a server is held against. It gets the bursts that the server gets; between them what is cued may have
-- got done, and what plays may have ended.
use Rattle.std.specs.Prelude.{ℕ, ◌≡◌, ◌≢◌, List, [], ◌∷◌, ◌++◌}
use Rattle.vdcp_port.specs.Answers.{after_burst, sent_for}
use Rattle.vdcp_port.specs.Clock.{ClockedPort, after_ended, after_ready}
use Rattle.vdcp_probe.specs.declared.follower.Meanwhile.{Meanwhile}
use Rattle.vdcp_probe.specs.declared.follower.Meanwhile.TheVariants.{Nothing, CueDone, ClipEnded, Both}

abbrev pub changed_by : Meanwhile → ClockedPort → ClockedPort
changed_by Nothing p = p
changed_by CueDone p = after_ready p
changed_by ClipEnded p = after_ended p
changed_by Both p = after_ended (after_ready p)

-- what the port sends for a burst, if this happened before
abbrev pub answer_after : Meanwhile → ClockedPort → List ℕ → List ℕ
answer_after m p burst = sent_for (changed_by m p) burst

-- the port after it
abbrev pub port_after : Meanwhile → ClockedPort → List ℕ → ClockedPort
port_after m p burst = after_burst (changed_by m p) burst

-- what came for a burst is what the port may answer, and leaves it so
pub record IsForeseen (p : ClockedPort) (burst came : List ℕ) (next : ClockedPort) : Type 0 where
  pub meanwhile : Meanwhile
  pub answers : came ≡ answer_after meanwhile p burst
  pub leaves : next ≡ port_after meanwhile p burst

-- what came for a burst is what the port may answer, but for a NAK 80h that lacks at its end
pub record LacksCut (p : ClockedPort) (burst came : List ℕ) : Type 0 where
  pub meanwhile : Meanwhile
  pub answers : came ++ 0x05 ∷ 0x80 ∷ [] ≡ answer_after meanwhile p burst

-- what came for a burst is none of what the port may answer
abbrev pub IsUnforeseen : ClockedPort → List ℕ → List ℕ → Type 0
IsUnforeseen p burst came = (meanwhile : Meanwhile) → came ≢ answer_after meanwhile p burst
