use Rattle.csv.specs.Writing.{text_written}
use Rattle.std.proofs.Common.{◌≡◌, ◌+◌, ◌<◌, false, drop, length, sym, ◌∙◌, arith}
use Rattle.std.specs.Prelude.{Some, decimal, is_err}
use Rattle.vdcp_list.proofs.Events.{at_left, lawful_at, on_ok}
use Rattle.vdcp_list.proofs.Timings.{timed_step}
use Rattle.vdcp_list.proofs.timed.write_rows.Goals as goal
use Rattle.vdcp_list.specs.Timed.{times_of}

pub write_event-requires-clause-lawful : goal.write_event-requires-clause-lawful
write_event-requires-clause-lawful g c =
    let below : c.args.from + c.loop-k.k < c.args.from + length c.args.times.now = omega (arith, c.loop-k-test.true) in
    lawful_at c.args.rate (g.S.Source.items c.args.source.now) (c.args.from + c.loop-k.k)
    (c.args.from + length c.args.times.now) c.at-item.result c.at-item.ensures below c.requires.lawful

pub loop-k-preserved : goal.loop-k-preserved
loop-k-preserved g c =
    let items = g.S.Source.items c.args.source.now in
    let good : is_err c.write_event.result ≡ false = sym c.is_err-in-loop-k.ensures.value ∙ c.if-is_err-2.false in
    let shown : is_err c.show_number.result ≡ false = sym c.is_err.ensures.value ∙ c.if-is_err.false in
    let number : c.as_str.result.now ≡ decimal (c.args.from + c.loop-k.k) =
    c.as_str.ensures.value ∙ on_ok c.show_number.result shown c.show_number.ensures in
    record {
      text =
          timed_step (times_of g.T.Timed.played g.T.Timed.known g.T.Timed.ended g.T.Timed.end) c.args.rate c.args.with_parts c.args.from
          (drop c.args.from items) c.args.times.now c.loop-k.k c.at-item.result c.index-times-k.result
          c.as_str.result.now
          (text_written (λ text. Some text.items) c.loop-k.rows)
          (text_written (λ text. Some text.items) c.write_event.new.rows)
          (at_left items c.args.from c.loop-k.k c.at-item.result c.at-item.ensures) c.loop-k-test.true
          c.index-times-k.is number c.loop-k.invariant.text
          (on_ok c.write_event.result good c.write_event.ensures.text);
      setup = on_ok c.write_event.result good c.write_event.ensures.setup;
      ended = on_ok c.write_event.result good c.write_event.ensures.ended;
      clean = on_ok c.write_event.result good c.write_event.ensures.clean;
    }
