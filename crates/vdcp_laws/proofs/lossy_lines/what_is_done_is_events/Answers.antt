use Rattle.vdcp_laws.proofs.LossyGoings.{down, up}
use Rattle.vdcp_laws.proofs.lossy_lines.what_is_done_is_events.Goals as goal

pub returns-clause-down : goal.returns-clause-down
returns-clause-down c = down

pub returns-clause-up : goal.returns-clause-up
returns-clause-up c =
    up (record {
      some = c.one_reading.ensures.some;
      size = c.what_is_spelt_is_bytes.ensures.size;
      first = c.written_is_read.ensures.first;
    })
