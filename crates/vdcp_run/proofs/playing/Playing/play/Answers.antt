use Rattle.std.proofs.Common.{◌∙◌, ◌≡◌, ◌+◌, refl, subst, sym}
use Rattle.std.specs.Prelude.{IsTrue, None}
use Rattle.vdcp_operator.specs.Hands.{holds_back}
use Rattle.vdcp_run.proofs.Driven.{holds_on, least_left, plays_so, unkept_so}
use Rattle.vdcp_run.proofs.playing.Playing.play.Goals as goal
use Rattle.vdcp_run.specs.Ends.{is_unplayed, line_end_of}
use Rattle.vdcp_run.specs.Asking.{over, start_of}
use Rattle.vdcp_run.specs.Session.{AsksFirst, HasHeld, IsClosed, Keeping, Plays, onset_of}

pub returns-then-most-eq0-clause-ended : goal.returns-then-most-eq0-clause-ended
returns-then-most-eq0-clause-ended g c =
    let end = c.end.result.0 in
    let run = c.run_with-ran in
    let before : Keeping _ = record {
      recorder = c.args.self.recorder;
      signs = c.args.self.signs;
      left = c.args.self.left;
      list = c.args.self.console.hand.list;
    } in
    let after : Keeping _ = record {
      recorder = run.new.hooks.recorder;
      signs = run.new.hooks.signs;
      left = run.new.hooks.left;
      list = run.new.hooks.console.hand.list;
    } in
    let line = c.line_of-line.ensures in
    subst (λ last. Plays g.W.Wire.does g.F.Disk.safe g.E.Ear.fold c.args.driver.ear c.args.driver.unit c.args.self.left
    c.args.self.signs c.args.self.console.hand.list (start_of g.S.Source.items c.args.driver.controller) (over c.args.driver.wire c.args.self.recorder) last end)
    (sym c.end.ensures.wire) (plays_so g.S.Source.items g.W.Wire.does g.F.Disk.safe g.E.Ear.fold g.W.Wire.failures c.from.result
    c.args.self.left c.args.driver run.new.self before
    after run.result
    (record { listens = c.from.ensures; leaves = run.ensures.leaves; works = c.requires.works }) refl end c.end.ensures.signs c.end.ensures.left line.0
    (c.end.ensures.line ∙ subst (λ v. c.line_of-line.result ≡ line_end_of run.result (is_unplayed v.mode run.new.hooks.signs v.state)
    (v.source.from + v.state.settled) line.0)
    c.controller.ensures line.1) c.end.ensures.reports
    (subst (λ v. IsClosed g.F.Disk.safe v.state.stage end.line end.unkept run.new.hooks.recorder)
    c.controller-then-most-eq0.ensures (rw (c.end.ensures.kept, c.end.ensures.line) c.close-unkept.ensures)))

pub returns-in-Some-clause-ended : goal.returns-in-Some-clause-ended
returns-in-Some-clause-ended g c =
    let end = c.end-in-Some.result.0 in
    let run = c.run_with-ran in
    let before : Keeping _ = record {
      recorder = c.args.self.recorder;
      signs = c.args.self.signs;
      left = c.args.self.left;
      list = c.args.self.console.hand.list;
    } in
    let after : Keeping _ = record {
      recorder = run.new.hooks.recorder;
      signs = run.new.hooks.signs;
      left = run.new.hooks.left;
      list = run.new.hooks.console.hand.list;
    } in
    let line = c.line_of-line.ensures in
    subst (λ last. Plays g.W.Wire.does g.F.Disk.safe g.E.Ear.fold c.args.driver.ear c.args.driver.unit c.args.self.left
    c.args.self.signs c.args.self.console.hand.list (start_of g.S.Source.items c.args.driver.controller) (over c.args.driver.wire c.args.self.recorder) last end)
    (sym c.end-in-Some.ensures.wire) (plays_so g.S.Source.items g.W.Wire.does g.F.Disk.safe g.E.Ear.fold g.W.Wire.failures c.from.result
    c.args.self.left c.args.driver run.new.self before
    after run.result
    (record { listens = c.from.ensures; leaves = run.ensures.leaves; works = c.requires.works }) refl end c.end-in-Some.ensures.signs c.end-in-Some.ensures.left line.0
    (c.end-in-Some.ensures.line ∙ subst (λ v. c.line_of-line.result ≡ line_end_of run.result (is_unplayed v.mode run.new.hooks.signs v.state)
    (v.source.from + v.state.settled) line.0)
    c.controller.ensures line.1) c.end-in-Some.ensures.reports
    (subst (λ lack. IsClosed g.F.Disk.safe run.new.self.controller.state.stage end.line lack run.new.hooks.recorder)
    (sym c.end-in-Some.ensures.kept)
    (unkept_so g.F.Disk.safe run.new.self.controller.state.stage end.line c.in-Some.lack run.new.hooks.recorder c.in-Some.ensures.unkept)))

pub returns-clause-held : goal.returns-clause-held
returns-clause-held g c is_held ear wire signs z first later =
    let run = c.run_with-ran in
    let before : Keeping _ = record {
      recorder = c.args.self.recorder;
      signs = c.args.self.signs;
      left = c.args.self.left;
      list = c.args.self.console.hand.list;
    } in
    let after : Keeping _ = record {
      recorder = run.new.hooks.recorder;
      signs = run.new.hooks.signs;
      left = run.new.hooks.left;
      list = run.new.hooks.console.hand.list;
    } in
    let left = c.if-not-is_held.ensures refl in
    subst (λ unit. AsksFirst g.W.Wire.does g.E.Ear.fold (record c.args.settings { unit = unit }) is_held
    (onset_of (start_of g.S.Source.items c.args.driver.controller) ear (over wire c.args.self.recorder) c.args.most signs
    c.args.self.console.hand.list) c.args.driver.ear c.args.driver.wire c.args.self.left c.args.self.signs None
    → HasHeld g.W.Wire.does g.F.Disk.safe g.E.Ear.fold (record c.args.settings { unit = unit }) z
    (onset_of (start_of g.S.Source.items run.new.self.controller) run.new.self.ear (over run.new.self.wire c.write_out.new.recorder)
    c.min.result run.new.hooks.signs run.new.hooks.console.hand.list)
    → HasHeld g.W.Wire.does g.F.Disk.safe g.E.Ear.fold (record c.args.settings { unit = unit }) z
    (onset_of (start_of g.S.Source.items c.args.driver.controller) ear (over wire c.args.self.recorder) c.args.most signs
    c.args.self.console.hand.list))
    c.requires.unit (holds_on g.S.Source.items g.W.Wire.does g.F.Disk.safe g.E.Ear.fold g.W.Wire.failures c.from.result
    c.args.self.left c.args.driver run.new.self before
    after run.result
    (record { listens = c.from.ensures; leaves = run.ensures.leaves; works = c.requires.works }) refl c.args.settings is_held ear wire
    c.args.most signs left.0 (subst (λ v. IsTrue (holds_back run.new.hooks.console.hand.list.holds v.state)) c.controller-else-most-eq0.ensures left.1)
    c.write_out.new.recorder c.in_default.ensures.written c.min.result (least_left _ _ c.min.result c.min.ensures) z) first
    (subst (λ parts. HasHeld g.W.Wire.does g.F.Disk.safe g.E.Ear.fold c.args.settings z
    (onset_of (start_of g.S.Source.items parts.0) parts.1 (over parts.2 c.write_out.new.recorder) c.min.result run.new.hooks.signs
    run.new.hooks.console.hand.list))
    c.into_parts-controller.ensures later)
