use Rattle.std.proofs.Common.{rules}
use Rattle.vdcp_run.proofs.stretch.close.Goals as goal

pub returns-in-Ok-2 : goal.returns-in-Ok-2
returns-in-Ok-2 g c =
    let written = c.in-Ok-2.ensures.written in
    rw c.in-Some.is (
      search rules,
      c.end_open.new.recorder,
      c.end_open.ensures,
      written.0,
      c.finish.new.self,
      rw c.outcome.ensures at written.1,
    )
