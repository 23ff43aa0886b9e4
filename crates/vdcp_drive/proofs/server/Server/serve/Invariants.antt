use Rattle.std.proofs.Common.{◌-◌, ◌≤◌, false}
use Rattle.vdcp_drive.proofs.Serving.{HasMade}
use Rattle.vdcp_drive.proofs.server.Server.serve.Given as goal

abbrev pub invariant-turns : goal.invariant-turns
invariant-turns g l =
    record {
      within : l.made ≤ l.turns;
      made : HasMade g.W.Wire.does g.H.ServerHooks.can_act g.H.ServerHooks.does g.W.Wire.failures l.made l.fn.self l.self
          l.fn.hooks l.hooks false;
    }

abbrev pub decreases-turns : goal.decreases-turns
decreases-turns g l = l.turns - l.made
