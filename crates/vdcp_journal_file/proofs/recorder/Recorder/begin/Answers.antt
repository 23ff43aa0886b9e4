use Rattle.std.proofs.Common.{ap}
use Rattle.vdcp_journal_file.proofs.Began.{began_with, begun_new}
use Rattle.vdcp_journal_file.proofs.recorder.Recorder.begin.Goals as goal
use Rattle.vdcp_journal_file.specs.Recording.{Recording}

pub returns-clause-begun : goal.returns-clause-begun
returns-clause-begun g c =
    let safe = c.in_ok-keep_from.ensures.safe in (
      c.now.result,
      safe.0,
      begun_new g.F.Disk.safe (g.F.Disk.written c.args.file) _ c.after-recorder.result c.keep_from.new.self safe.0 c.args.from
          c.args.heading.now.unit (rw c.after-recorder.ensures c.in_default.ensures.first)
          (ap (λ (r : Recording _). r.unit) c.after-recorder.ensures) safe.1,
    )

pub returns-clause-from : goal.returns-clause-from
returns-clause-from g c =
    began_with c.after-recorder.result c.keep_from.new.self c.args.from
    (ap (λ (r : Recording _). r.pending) c.after-recorder.ensures) c.in_ok-keep_from.ensures.rest
