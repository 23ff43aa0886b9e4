use Rattle.std.proofs.Common.{◌-◌, ◌≡◌, ◌≤◌, false}
use Rattle.vdcp_auto.specs.Plan.{plan_of}
use Rattle.vdcp_drive.specs.Auto.{auto_of}
use Rattle.vdcp_drive.proofs.Chains.{at}
use Rattle.vdcp_drive.proofs.Running.{Stands}
use Rattle.vdcp_drive.proofs.driver.Driver.run_with.Given as goal

abbrev pub invariant-turns : goal.invariant-turns
invariant-turns g l =
    let now = l.self-inside in record {
      within : l.made ≤ l.turns;
      works : g.W.Wire.failures now.wire ≡ 0;
      going : now.failed ≡ false;
      controller : now.controller ≡ record l.fn.self.controller { state = now.controller.state };
      unit : now.unit ≡ l.fn.self.unit;
      stands : Stands (record {
        does = g.W.Wire.does;
        asks = g.H.Hooks.asks (plan_of g.S.Source.items l.fn.self.controller);
        adds = g.H.Hooks.adds;
        loses = g.H.Hooks.loses;
      }) g.E.Ear.fold (plan_of g.S.Source.items l.fn.self.controller) l.fn.self.unit l.made (auto_of l.fn.self)
          (record { ear = now.ear; state = now.controller.state }) (at l.fn.self.wire (g.H.Hooks.journal l.fn.hooks))
          (at now.wire (g.H.Hooks.journal l.hooks));
    }

abbrev pub decreases-turns : goal.decreases-turns
decreases-turns g l = l.turns - l.made
