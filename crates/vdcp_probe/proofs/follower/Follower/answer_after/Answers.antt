use Rattle.vdcp_probe.proofs.Clips.{next_clips}
use Rattle.vdcp_probe.proofs.follower.Follower.answer_after.Goals as goal

pub moved_to-requires : goal.moved_to-requires
moved_to-requires g c =
    rw (c.in_ok-burst_answer.ensures.next, c.change.ensures, c.port-port.ensures)
    (next_clips c.args.meanwhile c.args.self.now c.args.burst.now)
