use Rattle.std.proofs.Common.{ap, refl, sym}
use Rattle.std.proofs.lemmas.Result.{IfOk-weaker, err_from_is_err_and}
use Rattle.vdcp_auto.specs.Turn.{outcome_of}
use Rattle.vdcp_journal_file.proofs.Began.{began_with, has_begun, unrecorded}
use Rattle.vdcp_journal_file.proofs.Mended.{none_more}
use Rattle.vdcp_journal_file.proofs.OpenedAgain.{both, not_begun, replayed_of, shown_of, unended}
use Rattle.vdcp_journal_file.proofs.again.begin_in.Goals as goal
use Rattle.vdcp_journal_file.specs.Mending.{lines_of}
use Rattle.vdcp_journal_file.specs.Recording.{Recording}
use Rattle.vdcp_journal_file.specs.Resuming.{begins, is_over, unresumed}

pub returns-in_err-run-clause-unopened : goal.returns-in_err-run-clause-unopened
returns-in_err-run-clause-unopened g c =
    let p = err_from_is_err_and c.from_residual-in_err-run.result c.from_residual-in_err-run.ensures.1 in
    rw (p.1, p.2) (unresumed c.in_err-run.ensures.unresumed)

pub returns-in_err-end_with-clause-unopened : goal.returns-in_err-end_with-clause-unopened
returns-in_err-end_with-clause-unopened g c =
    let p = err_from_is_err_and c.from_residual-in_err-end_with.result c.from_residual-in_err-end_with.ensures.1 in
    rw (p.1, p.2) (unended _ _ _ _ _ c.in_err-end_with.ensures.unended)

pub returns-in_err-event-clause-unopened : goal.returns-in_err-event-clause-unopened
returns-in_err-event-clause-unopened g c =
    let p = err_from_is_err_and c.from_residual-in_err-event.result c.from_residual-in_err-event.ensures.1 in
    let replayed = c.in_ok-run.ensures.replayed in
    rw (p.1, p.2, sym c.said-word.ensures) (not_begun _ _ _ _ _ _ _ _ _ (replayed_of _ _ _ _ _ replayed) (c.in_err-event.ensures.none _ _ replayed.on))

pub returns-then-is_told_again-clause-opened : goal.returns-then-is_told_again-clause-opened
returns-then-is_told_again-clause-opened g c =
    let replayed = c.in_ok-run.ensures.replayed in
    let ended = c.is_told_again.ensures.is_over c.if-is_told_again.true in
    let over = is_over (c.is_told_again.ensures.unsaid c.if-is_told_again.true) replayed.run
    (replayed_of _ _ _ _ _ replayed) replayed.on.from_is ended in
    IfOk-weaker c.go_on.result _ _ (λ r p. (
      g.F.Disk.written c.mend_heading.new.file,
      c.in_ok-mend_heading.ensures.headed,
      rw (p.0, sym c.said-word.ensures) over,
      unrecorded r.recorder _ _ _ (ap (λ controller. outcome_of controller.state.stage) p.0) ended p.1.0,
      rw (p.1.1.0, p.1.1.1) (shown_of _ _ _ _ _ replayed),
    )) (both c.go_on.result _ _ c.go_on.ensures.controller
    (both c.go_on.result _ _ c.go_on.ensures.goes_on c.go_on.ensures.shows))

pub returns-clause-opened : goal.returns-clause-opened
returns-clause-opened g c =
    let begun = g.F.Disk.written c.mend_heading.new.file in
    let replayed = c.in_ok-run.ensures.replayed in
    let event = c.in_ok-event.ensures.begins _ _ replayed.on in (
      begun,
      c.in_ok-mend_heading.ensures.headed,
      rw (c.new_controller.ensures, sym c.said-word.ensures)
          (begins replayed.run _ _ (replayed_of _ _ _ _ _ replayed) event.1 event.0 refl refl),
      has_begun g.F.Disk.safe g.F.Disk.written _ c.after-recorder.result c.keep_from.new.self _
          (rw c.after-recorder.ensures (rw (none_more (lines_of begun)) at c.in_ok-end_with-2.ensures.ends))
          c.in_ok-keep_from.ensures.safe c.in_ok-keep_from.ensures.synced c.in_ok-keep_from.ensures.rest,
      shown_of _ _ _ _ _ replayed,
    )

pub returns-clause-from : goal.returns-clause-from
returns-clause-from g c =
    rw (c.new_controller.ensures, sym c.note.ensures) (began_with c.after-recorder.result c.keep_from.new.self _
    (ap (λ (r : Recording _). r.pending) c.after-recorder.ensures) c.in_ok-keep_from.ensures.rest)

pub returns-then-is_told_again-clause-list : goal.returns-then-is_told_again-clause-list
returns-then-is_told_again-clause-list g c =
    IfOk-weaker c.go_on.result _ _ (λ r same. rw same c.in_ok-run.ensures.replayed.on.list_is) c.go_on.ensures.controller

pub returns-clause-list : goal.returns-clause-list
returns-clause-list g c = rw c.new_controller.ensures refl
