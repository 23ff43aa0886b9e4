use Rattle.std.proofs.Common.{◌≡◌, ◌∙◌, ap, refl, sym}
use Rattle.std.specs.Prelude.{Some}
use Rattle.vdcp_operator.proofs.Showing.{shows}
use Rattle.vdcp_operator.proofs.shown.RunPage.show.Goals as goal
use Rattle.vdcp_operator.specs.declared.shown.RunPage.{RunPage}

pub returns : goal.returns
returns g c =
    let from : c.number.result ≡ c.args.controller.now.source.from =
    cc (c.number.ensures, c.from.ensures.from, c.source.ensures) in
    shows g.S.Source.items c.args.controller.now c.args.self.now c.follow-event.new.self _ c.args.«end» c.args.hand _
    c.follow-event.ensures.rest
    (record {
      names = ap (λ (p : RunPage). p.names) c.follow-event.ensures.rest;
      clips = ap (λ (p : RunPage). p.clips) c.follow-event.ensures.rest;
      rate = ap (λ (p : RunPage). p.rate) c.follow-event.ensures.rest;
      all = c.snapshot-snapshot.ensures.seen;
      is_over = c.is_some.ensures;
      outcome = c.flatten.ensures;
      from = from;
      event = c.follow-event.ensures.event;
      events = cc (c.number-2.ensures, c.len.ensures, c.whole.ensures, c.source-2.ensures);
      round = rw c.as_slice.ensures.value c.follow-event.ensures.round;
      rows = rw c.as_slice.ensures.value c.follow-event.ensures.rows;
      hand_is = refl;
      ahead = c.ahead_of.ensures;
      down = ap (λ (p : RunPage). p.down) c.follow-event.ensures.rest;
      alarm = c.as_str.ensures.value ∙ ap (λ (p : RunPage). p.alarm.bytes) c.follow-event.ensures.rest;
      alarms = ap (λ (p : RunPage). p.alarms) c.follow-event.ensures.rest;
    })
    (record {
      rows = sym c.as_slice.ensures.value;
      event = c.follow-event.ensures.noted.0 ∙ ap Some (sym c.follow-event.ensures.event);
      standing = c.follow-event.ensures.noted.1;
      rest =
          ap (λ (p : RunPage). record p { panel = c.serve_some.new.self; calls = c.serve_some.new.calls })
          c.follow-event.ensures.rest;
    })
    c.serve_some.ensures.serves
