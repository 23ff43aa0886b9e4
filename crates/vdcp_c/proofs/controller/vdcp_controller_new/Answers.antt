-- A new controller stands at its start, whatever its list.
use Rattle.std.proofs.Common.{length, refl, sym, ap, ◌∙◌}
use Rattle.vdcp_c.specs.Controllers.{mode_code, plan_in}
use Rattle.vdcp_c.specs.Lists.{items_of}
use Rattle.vdcp_c.proofs.controller.vdcp_controller_new.Goals as goal

pub returns-clause-new : goal.returns-clause-new
returns-clause-new c _ rows =
    let s = c.new.result in (
      plan_in (items_of rows) s,
      record {
        snapshot = s;
        stands = c.put_snapshot.ensures;
        can = c.new.ensures.can (length rows);
        plan_is = refl;
        state_is = sym c.new.ensures.start;
      },
      ap mode_code c.new.ensures.made.0 ∙ c.in-Some.ensures.some,
      refl,
      c.new.ensures.made.1,
      c.new.ensures.made.2,
    )
