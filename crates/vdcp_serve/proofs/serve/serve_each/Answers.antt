use Rattle.std.proofs.Common.{rules}
use Rattle.vdcp_serve.proofs.serve.serve_each.Goals as goal
use Rattle.vdcp_serve.proofs.serve.serve_each.Goals.{in-Some+in_ok-new-in-Some, in-None}

pub returns-in-Ok-stay-clause-served : goal.returns-in-Ok-stay-clause-served
returns-in-Ok-stay-clause-served g c =
    let made = c.new-hooks.ensures in (
      c.new-hooks.result,
      c.stay.new.hooks,
      c.in-Ok-stay.field-0,
      record {
        patient = made.patient;
        none_aired = made.none_aired;
        page = rw made.page elim c.match-panel-4.branch [
          | in-Some+in_ok-new-in-Some w ↦ rw w.panel-is w.in_ok-new-in-Some.ensures
          | in-None w ↦ rw w.panel-is (search rules)
        ];
      },
      record { listener = c.in-Ok.listener; kept = c.in-Ok-stay.ensures },
    )
