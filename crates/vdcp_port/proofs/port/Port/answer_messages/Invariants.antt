-- The walk along a burst: what is answered so far, and the room for what is still to come.
use Rattle.std.proofs.Common.{◌≡◌, ◌≤◌, ◌+◌, ℕ, List, length}
use Rattle.vdcp_frame.specs.Burst.{messages_of}
use Rattle.vdcp_frame.specs.Walk.{coming}
use Rattle.vdcp_port.specs.Answers.{bytes_for_all}
use Rattle.vdcp_port.proofs.Answering.{Walked}
use Rattle.vdcp_port.proofs.port.Port.answer_messages.Given as goal

abbrev pub invariant-messages : goal.invariant-messages
invariant-messages g l =
    let written = g.S.Sink.written in
    let all = messages_of l.burst in
    record {
      burst : ◌≡◌ {A = List ℕ} l.messages.burst l.burst;
      walked : Walked l.fn.self l.self all (coming l.messages) (written l.fn.out) (written l.out) l.aired;
      room : g.S.Sink.room l.fn.out + length (bytes_for_all l.self (coming l.messages))
          ≤ g.S.Sink.room l.out + length (bytes_for_all l.fn.self all);
    }

abbrev pub decreases-messages : goal.decreases-messages
decreases-messages g l = length (coming l.messages)
