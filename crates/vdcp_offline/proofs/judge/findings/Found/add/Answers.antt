use Rattle.std.proofs.Common.{ap, subst, sym, ◌∙◌}
use Rattle.std.specs.Prelude.{◌||◌}
use Rattle.vdcp_offline.proofs.JudgeSteps.{Ends, message_more, shows_more}
use Rattle.vdcp_offline.proofs.judge.findings.Found.add.Goals as goal
use Rattle.vdcp_offline.specs.Findings.{is_message}
use Rattle.vdcp_offline.specs.declared.judge.settings.JudgeSettings.{JudgeSettings}

pub returns : goal.returns
returns g c = λ settings items pieces found.
    let added = c.in_ok-add_ended.ensures settings items found.findings found.tells in
    let old = c.args.self.now in
    let p = c.args.piece.now in
    let call = c.exchange_ended-ended in
    let ends = subst (λ (s : JudgeSettings). Ends s.mode old.awaited p.captured call.result call.new.awaited)
    found.tells.settings_are (call.ensures.ended, call.ensures.awaited, call.ensures.more) in
    record {
      findings = added.0;
      tells = added.2;
      shows = rw c.line_after-self.ensures
          (shows_more settings.mode pieces p found.findings added.0 old.awaited call.new.awaited
          call.result old.line found.shows ends added.1);
      some_message = ap (λ b. old.has_message || b) c.is_message.ensures
          ∙ ap (λ b. b || is_message p.captured) found.some_message ∙ sym (message_more pieces p);
    }
