use Rattle.std.proofs.Common.{◌≡◌}
use Rattle.vdcp_serve.specs.Stay.{IsKept}
use Rattle.vdcp_serve.proofs.stay.stay.Given as goal

abbrev pub invariant-turns : goal.invariant-turns
invariant-turns g l =
    record {
      kept : IsKept g.W.Wire.does g.W.Wire.failures (g.D.Connections.is_line l.fn.settings) l.fn.settings l.fn.port l.fn.hooks l.port
          l.left l.hooks;
      made : g.D.Connections.made_with l.connections ≡ l.fn.settings;
    }

abbrev pub decreases-turns : goal.decreases-turns
decreases-turns g l = l.left
