-- Both ends of a run whose limit of unanswered exchanges is raised, as where a lost one is gone on with.
use Rattle.std.specs.Prelude.{◌≡◌, List, None}
use Rattle.vdcp_words.specs.declared.command.Command.{Command}
use Rattle.vdcp_port.specs.Clock.{ClockedPort}
use Rattle.vdcp_auto.specs.Plan.{Plan}
use Rattle.vdcp_auto.specs.State.{State}
use Rattle.vdcp_auto.specs.Turn.{awaited, outcome_of}
use Rattle.vdcp_laws.specs.TwoEnds.{AreJoined, Ends, wishing}

-- the same ends, with this controller
abbrev pub with_state : State → Ends → Ends
with_state state e = record e { automation = wishing state e.automation }

-- Under this plan, too, these ends are joined: with the same controller, or, if that has ended, with one that awaits nothing.
pub record AreAlsoJoined (plan : Plan) (port : ClockedPort) (asked : List Command) (e : Ends) : Type 0 where
  pub state : State
  pub joined : AreJoined plan port asked (with_state state e)
  pub same : outcome_of e.automation.state.stage ≡ None → state ≡ e.automation.state
  pub ready : awaited plan e.automation.state ≡ None → awaited plan state ≡ None
