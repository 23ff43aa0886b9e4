use Rattle.std.proofs.Common.{subst, sym}
use Rattle.vdcp_drive.specs.Hearing as ears
use Rattle.vdcp_run.proofs.Seen.{tries_by_seen}
use Rattle.vdcp_run.proofs.console.Console.play_over.Goals as goal
use Rattle.vdcp_run.specs.Asking.{over, start_of}
use Rattle.vdcp_run.specs.Session.{HasTried, TriesBy, TriesOver, onset_of, signs_at_first}

pub returns-in-AtSilences-clause-session : goal.returns-in-AtSilences-clause-session
returns-in-AtSilences-clause-session g c =
    let start = start_of g.S.Source.items c.args.controller in
    let world = over c.new-wire.result c.args.recorder in
    let list = c.args.self.hand.list in
    let done = c.play_on-end.result in
    subst (λ w. TriesOver g.W.Wire.does g.F.Disk.safe c.args.settings start list w done.2.wire c.args.recorder done.0) c.new-wire.ensures
    (tries_by_seen (λ a old new. g.W.Wire.does a old.wire new.wire) g.W.Wire.does (λ w. w.wire) (λ a old new h. h) g.F.Disk.safe
    c.args.settings.hearing c.args.settings start list world done.2 done.0
    (subst (λ hearing. TriesBy hearing (λ a old new. g.W.Wire.does a old.wire new.wire) g.F.Disk.safe c.args.settings start list world done.2
    done.0) (sym c.in-AtSilences.is)
    (subst (λ ear. HasTried (λ a old new. g.W.Wire.does a old.wire new.wire) g.F.Disk.safe ears.at_silences c.args.settings
    (onset_of start ear world c.args.settings.listens signs_at_first list) done.2 done.0) c.new.ensures
    (subst (λ signs. HasTried (λ a old new. g.W.Wire.does a old.wire new.wire) g.F.Disk.safe ears.at_silences c.args.settings
    (onset_of start c.new.result world c.args.settings.listens signs list) done.2 done.0) c.at_first.ensures c.play_on-end.ensures.session))))

pub returns-in-AtOnce-clause-session : goal.returns-in-AtOnce-clause-session
returns-in-AtOnce-clause-session g c =
    let start = start_of g.S.Source.items c.args.controller in
    let world = over c.new-wire.result c.args.recorder in
    let list = c.args.self.hand.list in
    let done = c.play_on-end-in-AtOnce.result in
    subst (λ w. TriesOver g.W.Wire.does g.F.Disk.safe c.args.settings start list w done.2.wire c.args.recorder done.0) c.new-wire.ensures
    (tries_by_seen (λ a old new. g.W.Wire.does a old.wire new.wire) g.W.Wire.does (λ w. w.wire) (λ a old new h. h) g.F.Disk.safe
    c.args.settings.hearing c.args.settings start list world done.2 done.0
    (subst (λ hearing. TriesBy hearing (λ a old new. g.W.Wire.does a old.wire new.wire) g.F.Disk.safe c.args.settings start list world done.2
    done.0) (sym c.in-AtOnce.is)
    (subst (λ ear. HasTried (λ a old new. g.W.Wire.does a old.wire new.wire) g.F.Disk.safe ears.at_once c.args.settings
    (onset_of start ear world c.args.settings.listens signs_at_first list) done.2 done.0) c.new-in-AtOnce.ensures
    (subst (λ signs. HasTried (λ a old new. g.W.Wire.does a old.wire new.wire) g.F.Disk.safe ears.at_once c.args.settings
    (onset_of start c.new-in-AtOnce.result world c.args.settings.listens signs list) done.2 done.0) c.at_first.ensures c.play_on-end-in-AtOnce.ensures.session))))
