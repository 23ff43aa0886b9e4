use Rattle.std.proofs.Common.{subst, sym}
use Rattle.vdcp_journal_file.proofs.Began.{saved}
use Rattle.vdcp_journal_file.proofs.recorder.Recorder.keep_from.Goals as goal
use Rattle.vdcp_journal_file.specs.Recording.{MakesSafe, Recording, from_rows}

pub returns-clause-safe : goal.returns-clause-safe
returns-clause-safe g c =
    let rows = from_rows c.now-time.result c.args.from in (
      c.now-time.result,
      subst (λ (r : Recording _). MakesSafe g.F.Disk.safe c.args.self.now r rows) (sym c.self-2.view_is)
          (saved g.F.Disk.safe c.args.self.now c.write.new.self c.now-time.result c.args.from _ c.requires
          c.from_row.ensures c.in_default.ensures.written),
    )
