use Rattle.std.proofs.Common.{sym, ◌∙◌}
use Rattle.std.proofs.lemmas.Result.{IfErr-weaker}
use Rattle.vdcp_journal_file.proofs.Mended.{lines_on, same_so}
use Rattle.vdcp_journal_file.proofs.mending.with_rows.Goals as goal
use Rattle.vdcp_journal_file.specs.Mending.{lines_of}
use Rattle.vdcp_journal_file.specs.Resuming.{bad}

pub returns-then-is_empty-clause-on : goal.returns-then-is_empty-clause-on
returns-then-is_empty-clause-on g c = λ on whole.
    rw (sym (same_so (lines_of (g.F.Disk.written c.args.file.now)) c.args.rows.now (sym c.is_empty.ensures ∙ c.if-is_empty.true)))
    on

pub returns-clause-on : goal.returns-clause-on
returns-clause-on g c = λ on whole.
    rw (
      c.chain.ensures.bytes,
      c.in-Ok.ensures,
      c.new.ensures,
      c.in_ok-reader_of.ensures.all,
      lines_on (g.F.Disk.written c.args.file.now) c.args.rows.now whole,
    ) at c.replay.ensures.replayed

pub returns-clause-unresumed : goal.returns-clause-unresumed
returns-clause-unresumed g c = IfErr-weaker c.replay.result _ _ (λ failure p. bad _ p.0 p.2 p.1) c.replay.ensures.refused
