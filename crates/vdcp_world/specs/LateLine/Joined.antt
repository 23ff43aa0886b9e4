-- A line that holds one burst each way, seen as one that keeps order: each way a queue of that burst, or of none.
use Rattle.vdcp_world.specs.Channel.{Channel}
use Rattle.vdcp_world.specs.LateLine.LateChannel.{LateChannel, bursts_of}

abbrev pub late_of : Channel → LateChannel
late_of c =
    record {
      plan = c.plan;
      state = c.state;
      port = c.port;
      down = bursts_of c.down;
      up = bursts_of c.up;
      aired = c.aired;
      log = c.log;
    }
