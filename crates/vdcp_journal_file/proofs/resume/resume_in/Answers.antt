use Rattle.std.proofs.Common.{subst}
use Rattle.std.proofs.lemmas.Option.{IfSome_then}
use Rattle.std.proofs.lemmas.Result.{IfOk-weaker}
use Rattle.std.specs.Prelude.{IfSome, Option}
use Rattle.vdcp_journal_file.proofs.OpenedAgain.{both, replayed_of, shown_of}
use Rattle.vdcp_journal_file.proofs.resume.resume_in.Goals as goal
use Rattle.vdcp_journal_file.specs.Recording.{IsTimedOut}
use Rattle.vdcp_words.specs.declared.command.Command.{Command}

pub returns-clause-resumed : goal.returns-clause-resumed
returns-clause-resumed g c =
    let (lines, mends, just, replayed) = c.in_ok-run.ensures.mended in
    IfOk-weaker c.go_on.result _ _ (λ r p. (
      g.F.Disk.written c.mend_heading.new.file,
      lines,
      replayed.run,
      c.in_ok-mend_heading.ensures.headed,
      mends,
      rw p.0 (replayed_of _ _ _ _ _ replayed),
      rw p.0 replayed.on.from_is,
      subst (λ (o : Option Command). IfSome r.recorder (λ recorder. IsTimedOut o recorder.pending)) replayed.on.asked_is
          p.1.0,
      IfSome_then r.recorder p.1.1.0 (λ recorder is. rw is just),
      rw (p.1.1.1.0, p.1.1.1.1) (shown_of _ _ _ _ _ replayed),
    )) (both c.go_on.result _ _ c.go_on.ensures.controller
    (both c.go_on.result _ _ c.go_on.ensures.pending
    (both c.go_on.result _ _ c.go_on.ensures.file c.go_on.ensures.shows)))

pub returns-clause-list : goal.returns-clause-list
returns-clause-list g c =
    let (lines, mends, just, replayed) = c.in_ok-run.ensures.mended in
    IfOk-weaker c.go_on.result _ _ (λ r p. rw p replayed.on.list_is) c.go_on.ensures.controller
