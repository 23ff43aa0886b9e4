-- What changes in a controller, as callers see it.
use Rattle.std.specs.Prelude.{ℕ, Bool}
use Rattle.vdcp_auto.specs.declared.outcome.Outcome.{Outcome}
use Rattle.vdcp_auto.specs.declared.phase.Phase.{Phase}
use Rattle.vdcp_auto.specs.declared.phase.Position.{Position}
use Rattle.vdcp_auto.specs.declared.phase.Position.TheVariants as position

pub data Stage : Type 0 where
  -- the next tick gives this phase's command, or STOP if the operator wants to stop
  Ready : Phase → Stage
  -- this phase's command was given, and its exchange hasn't ended
  Awaiting : Phase → Stage
  Ended : Outcome → Stage

pub record State : Type 0 where
  pub stage : Stage
  -- the wish to take: the next event is to be played though the last one still plays
  pub take : Bool
  -- the wish to stop: the next command is to be STOP
  pub stop : Bool
  -- how many exchanges in a row were unanswered (in confirm mode, of those that ask for a reply)
  pub unanswered : ℕ
  -- how many events it takes for aired
  pub settled : ℕ
  -- how often the event's cue was lost (confirm mode)
  pub tries : ℕ

-- the stage of a position: the command that is awaited is left out, since the phase says which it is
abbrev pub stage_of : Position → Stage
stage_of (position.Ready p) = Ready p
stage_of (position.Awaiting p c) = Awaiting p
stage_of (position.Ended outcome) = Ended outcome
