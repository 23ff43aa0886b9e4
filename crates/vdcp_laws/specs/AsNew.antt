-- Two ends of which nothing is on its way, over a connection that is then as a new one.
use Rattle.std.specs.Prelude.{ℕ, ◌≡◌, ◌≤◌, List, [], length}
use Rattle.vdcp_frame.specs.Message.{Content}
use Rattle.vdcp_drive.specs.Reading.{completed, holds}
use Rattle.vdcp_drive.specs.Serving.{begins}
use Rattle.vdcp_drive.specs.declared.hearing.Hearing.TheVariants as hearing
use Rattle.vdcp_laws.specs.InTime.{HasCome}
use Rattle.vdcp_laws.specs.TwoEnds.{Ends, port_now, server_now}

-- the messages that are whole in these bytes
abbrev pub messages_in : List ℕ → List Content
messages_in came = completed (holds []) came

-- over their connection as many messages came up whole as commands were sent, and so no more than these
abbrev pub AreAnswered : Ends → Type 0
AreAnswered e = length e.sent ≤ length (messages_in e.ups)

-- All that either end has sent has come, the automation holds nothing, and the server is one that begins with its port.
pub record IsAsNew (e : Ends) : Type 0 where
  pub come : HasCome (port_now e).state.unit e
  pub holds_none : e.automation.held ≡ holds []
  pub server_is : server_now e ≡ begins hearing.AtOnce (port_now e)
