use Rattle.std.proofs.Common.{rules}
use Rattle.vdcp_serve.proofs.serve.serve_first.Goals as goal

pub returns-in_default-Ok-clause-served : goal.returns-in_default-Ok-clause-served
returns-in_default-Ok-clause-served g c =
    let made = c.new-hooks.ensures in
    let turns = rw c.from-turns.ensures at c.serve_over.ensures in
    let done = rw c.in_default-Ok.is-1 at turns in (
      c.new-hooks.result,
      c.serve_over.new.hooks,
      c.serve_over.result.0,
      record { patient = made.patient; none_aired = made.none_aired; page = rw made.page (search rules) },
      record {
        line = c.in-Ok-line_over.line;
        taken = c.in-Ok-line_over.ensures.taken;
        end = c.in_default-Ok.end;
        served = done;
      },
    )
