use Rattle.std.proofs.Common.{subst}
use Rattle.std.proofs.lemmas.Result.{IfErr-weaker, IfOk-weaker}
use Rattle.std.specs.Prelude.{Bool, IfErr, IfOk, None}
use Rattle.vdcp_drive.specs.Auto.{Driving}
use Rattle.vdcp_operator.specs.Hands.{holds_back}
use Rattle.vdcp_operator.specs.declared.on_list.OnList.{OnList}
use Rattle.vdcp_run.proofs.stretch.Stretch.play.Goals as goal
use Rattle.vdcp_run.specs.Asking.{over, start_of}
use Rattle.vdcp_run.specs.Session.{AsksFirst, HasHeld, Onset, Plays, onset_of, played, unbegun}
use Rattle.vdcp_run.specs.declared.run_end.Signs.{Signs}

pub returns-in-Some-clause-ended : goal.returns-in-Some-clause-ended
returns-in-Some-clause-ended g c =
    let self = c.args.self in
    let asked = c.ask_first-line.result in
    unbegun (holds_back self.playing.console.hand.list.holds self.controller.state) asked.ear asked.left asked.signs c.in-Some.line
    (rw c.in-Some.is at c.ask_first-line.ensures.asks)
    (c.end-end.ensures.line, c.end-end.ensures.signs, c.end-end.ensures.left) c.end-end.ensures.reports

pub returns-clause-held : goal.returns-clause-held
returns-clause-held g c =
    let self = c.args.self in
    let first = c.ask_first-line.ensures.asks in
    IfOk-weaker c.play.result _ _
    (λ next h z later. h (holds_back self.playing.console.hand.list.holds self.controller.state) self.ear self.wire self.playing.signs z
    (rw c.in_default.is at first) later)
    (subst (λ (list : OnList). IfOk c.play.result (λ next. (is_held : Bool) (ear : _) (wire : _) (signs : Signs) (z : Onset _ _ _)
    → AsksFirst g.W.Wire.does g.E.Ear.fold c.args.settings is_held (onset_of (start_of g.S.Source.items self.controller) ear
    (over wire self.playing.recorder) self.playing.left signs list) c.ask_first-line.result.ear c.ask_first-line.result.wire
    c.ask_first-line.result.left c.ask_first-line.result.signs None
    → HasHeld g.W.Wire.does g.F.Disk.safe g.E.Ear.fold c.args.settings z (onset_of (start_of g.S.Source.items next.controller) next.ear
    (over next.wire next.playing.recorder) next.playing.left next.playing.signs next.playing.console.hand.list)
    → HasHeld g.W.Wire.does g.F.Disk.safe g.E.Ear.fold c.args.settings z (onset_of (start_of g.S.Source.items self.controller) ear
    (over wire self.playing.recorder) self.playing.left signs list))) c.ask_first-line.ensures.list
    (subst (λ (d : Driving _ _ _). IfOk c.play.result (λ next. (is_held : Bool) (ear : _) (wire : _) (signs : Signs) (z : Onset _ _ _)
    → AsksFirst g.W.Wire.does g.E.Ear.fold c.args.settings is_held (onset_of (start_of g.S.Source.items d.controller) ear
    (over wire self.playing.recorder) self.playing.left signs c.ask_first-line.result.console.hand.list) d.ear d.wire
    c.ask_first-line.result.left
    c.ask_first-line.result.signs None
    → HasHeld g.W.Wire.does g.F.Disk.safe g.E.Ear.fold c.args.settings z (onset_of (start_of g.S.Source.items next.controller) next.ear
    (over next.wire next.playing.recorder) next.playing.left next.playing.signs next.playing.console.hand.list)
    → HasHeld g.W.Wire.does g.F.Disk.safe g.E.Ear.fold c.args.settings z (onset_of (start_of g.S.Source.items d.controller) ear
    (over wire self.playing.recorder) self.playing.left signs c.ask_first-line.result.console.hand.list))) c.with_ear-driver.ensures
    c.play.ensures.held))

pub returns-clause-ended : goal.returns-clause-ended
returns-clause-ended g c =
    let self = c.args.self in
    let asked = c.ask_first-line.result in
    let first = c.ask_first-line.ensures.asks in
    IfErr-weaker c.play.result _ _
    (λ end plays. played (holds_back self.playing.console.hand.list.holds self.controller.state) asked.ear asked.wire asked.left asked.signs
    (rw c.in_default.is at first) plays)
    (subst (λ (list : OnList). IfErr c.play.result (λ end. Plays g.W.Wire.does g.F.Disk.safe g.E.Ear.fold asked.ear c.args.settings.unit
    asked.left asked.signs list (start_of g.S.Source.items self.controller) (over asked.wire self.playing.recorder) end.2 end.0))
    c.ask_first-line.ensures.list
    (subst (λ (d : Driving _ _ _). IfErr c.play.result (λ end. Plays g.W.Wire.does g.F.Disk.safe g.E.Ear.fold d.ear d.unit asked.left
    asked.signs asked.console.hand.list (start_of g.S.Source.items d.controller) (over d.wire self.playing.recorder) end.2 end.0))
    c.with_ear-driver.ensures c.play.ensures.ended))
