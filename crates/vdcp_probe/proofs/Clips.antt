-- The clips of a port stay, whatever happened at it and whatever it answered.
use Rattle.std.proofs.Common.{◌≡◌, ℕ, List, [], ◌∷◌, refl}
use Rattle.vdcp_frame.specs.Burst.{messages_of}
use Rattle.vdcp_frame.specs.Message.{Content}
use Rattle.vdcp_port.specs.Answers.{after_messages}
use Rattle.vdcp_port.specs.Clock.{ClockedPort, after_ended, after_message, after_ready}
use Rattle.vdcp_probe.specs.Following.{port_after}
use Rattle.vdcp_probe.specs.declared.follower.Meanwhile.{Meanwhile}
use Rattle.vdcp_probe.specs.declared.follower.Meanwhile.TheVariants.{Nothing, CueDone, ClipEnded, Both}

messages_clips : (p : ClockedPort) (ms : List Content) → (after_messages p ms).clips ≡ p.clips
messages_clips p [] = refl
messages_clips p (m ∷ ms) = messages_clips (after_message p m) ms

pub next_clips : (meanwhile : Meanwhile) (p : ClockedPort) (burst : List ℕ) → (port_after meanwhile p burst).clips ≡ p.clips
next_clips Nothing p burst = messages_clips p (messages_of burst)
next_clips CueDone p burst = messages_clips (after_ready p) (messages_of burst)
next_clips ClipEnded p burst = messages_clips (after_ended p) (messages_of burst)
next_clips Both p burst = messages_clips (after_ended (after_ready p)) (messages_of burst)
