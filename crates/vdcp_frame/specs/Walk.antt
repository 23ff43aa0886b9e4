-- A walk along a burst.
use Rattle.std.specs.Prelude.{ℕ, ◌≤◌, List, length, take, drop}
use Rattle.vdcp_frame.specs.declared.walk.End.{End}
use Rattle.vdcp_frame.specs.declared.walk.End.TheVariants as end
use Rattle.vdcp_frame.specs.Message.{Content, AreOctets}
use Rattle.vdcp_frame.specs.Reading as spec
use Rattle.vdcp_frame.specs.Reading.{AreMessages, burst_limit}
use Rattle.vdcp_frame.specs.Burst.{messages_within}

-- the burst, and how many bytes of it the messages have that were passed
pub record Walk : Type 0 where
  pub burst : List ℕ
  pub place : ℕ

-- the bytes that are left to read
abbrev pub unread : Walk → List ℕ
unread walk = drop walk.place (take burst_limit walk.burst)

-- the messages that are still to come
abbrev pub coming : Walk → List Content
coming walk = messages_within (length (unread walk)) (unread walk)

pub record IsWalk (walk : Walk) : Type 0 where
  pub limit : walk.place ≤ burst_limit
  pub within : walk.place ≤ length walk.burst
  pub whole : AreMessages (take walk.place walk.burst)
  pub fits : AreOctets walk.burst

-- an end, as the definitions have it
abbrev pub end_seen : End → spec.End
end_seen end.Clean = spec.clean
end_seen (end.Cut count) = spec.cut count
end_seen (end.Fault which place) = spec.fault which place
