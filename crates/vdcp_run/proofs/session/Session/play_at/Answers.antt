use Rattle.std.proofs.Common.{◌∙◌, Bool, ap, inl, subst}
use Rattle.std.proofs.lemmas.Result.{IfErr-weaker, IfOk-weaker}
use Rattle.std.specs.Prelude.{None, Some, length}
use Rattle.vdcp_run.proofs.KeptLine.{unkept_line, works_on}
use Rattle.vdcp_run.proofs.session.Session.play_at.Goals as goal
use Rattle.vdcp_run.specs.Run.{keeps_line, line_left}
use Rattle.vdcp_operator.specs.OnList.{list_by, sparing_each}
use Rattle.vdcp_operator.specs.declared.on_list.OnList.{OnList}
use Rattle.vdcp_run.specs.Asking.{start_of}
use Rattle.vdcp_run.specs.Session.{TriesOver, had_ended, tried, unwired}
use Rattle.vdcp_wire.specs.Streams.{StreamDoes}

pub returns-then-is_some-clause-session : goal.returns-then-is_some-clause-session
returns-then-is_some-clause-session g c =
    let e = c.end_again-end.ensures.ended in
    unkept_line c.args.settings _ c.end_again-end.result.0 c.end_again-end.result.1.line _ _ _ c.args.self.line
    c.end_again-end.ensures.line (had_ended e.0 e.1 e.2)

pub returns-in-Err-clause-session : goal.returns-in-Err-clause-session
returns-in-Err-clause-session g c =
    IfOk-weaker c.end_unwired.result.0 _ _
    (λ end e. unkept_line c.args.settings _ end c.end_unwired.result.1.line _ _ _ c.args.self.line c.end_unwired.ensures.line
    (unwired c.in-Err.line e.0 e.1 e.2)) c.end_unwired.ensures.ended

pub returns-in-Err-clause-refused : goal.returns-in-Err-clause-refused
returns-in-Err-clause-refused g c = IfErr-weaker c.end_unwired.result.0 _ _ (λ failure e. inl e) c.end_unwired.ensures.refused

pub returns-clause-session : goal.returns-clause-session
returns-clause-session g c =
    let end = c.play_over-end.result.0 in
    let last = c.play_over-end.result.2 in
    let count = c.len-count.ensures ∙ ap (λ r. length (g.S.Source.items r)) (c.whole.ensures ∙ ap (λ v. v.source) c.source.ensures) in (
      Some last,
      tried c.in-Ok.wire last c.in-Ok.ensures.wire (subst (λ (list : OnList). TriesOver StreamDoes (λ file. None) c.args.settings
          (start_of g.S.Source.items c.args.begun.controller) list c.in-Ok.wire last c.args.begun.recorder end)
          (c.wire_after.ensures.list ∙ ap (λ hand. hand.list) c.set_before.ensures ∙ c.set_list_calls.ensures.list
          ∙ ap (λ calls. list_by (sparing_each c.args.settings.wanted calls) c.args.self.console.hand.list) c.as_slice.ensures.value)
          c.play_over-end.ensures.session),
      c.line_left-line.ensures ∙ ap (λ (b : Bool). line_left b (Some last))
          (c.keeps_line.ensures ∙ ap (λ n. keeps_line c.args.settings n end) count),
    )

pub returns-clause-works : goal.returns-clause-works
returns-clause-works g c = works_on _ _ _ c.play_over-end.result.0 c.play_over-end.result.2 _ c.keeps_line.ensures
    c.line_left-line.ensures c.play_over-end.ensures.works
