use Rattle.std.proofs.Common.{◌∙◌, sym}
use Rattle.vdcp_serve.proofs.Kept.{begun_so, same_timing}
use Rattle.vdcp_serve.proofs.stay.serve_over.Goals as goal

pub returns : goal.returns
returns g c =
    let made = c.with_hearing-server.ensures in
    let timing = same_timing c.args.from c.args.hooks.now c.connected.new.self c.connected.ensures in record {
      begun = record c.connected.new.self { timing = c.begin_line.new.self };
      ended = c.serve-end.new.hooks;
      old = c.with_hearing-server.result;
      new = c.serve-end.new.self;
      begins = rw (sym timing) c.begin_line.ensures;
      begun_is = begun_so c.begin_line.new.self c.connected.new.self _ c.connected.ensures;
      is_new = record {
        port_is = made.port;
        wire_is = made.wire;
        hearing_is = made.hearing ∙ c.hearing_of.ensures;
        at_start = made.reader;
      };
      leaves = c.serve-end.ensures.leaves;
      port_is = c.into_parts-port.ensures.port;
      after_is = c.connected-2.ensures;
    }
