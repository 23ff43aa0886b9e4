-- One more message of a burst is answered.
use Rattle.std.proofs.Common.{List, length, arith, ap, subst, ◌∙◌}
use Rattle.vdcp_frame.specs.Message.{Content, content_of}
use Rattle.vdcp_frame.specs.Burst.{messages_of}
use Rattle.vdcp_frame.specs.Walk.{coming}
use Rattle.vdcp_port.specs.Answers.{bytes_for_all}
use Rattle.vdcp_port.specs.Clock.{ClockedPort}
use Rattle.vdcp_port.proofs.Answering.{Walked, walks_on}
use Rattle.vdcp_port.proofs.Sizes.{size_of_first}
use Rattle.vdcp_port.proofs.port.Port.answer_messages.Goals as goal

pub messages-preserved : goal.messages-preserved
messages-preserved g c =
    let written = g.S.Sink.written in
    let all = messages_of c.args.burst.now in
    let now = c.messages.self in
    let message = content_of c.in-Some.message in
    let rest = coming c.next.new.self in
    let next_is = c.in-Some.ensures.some in
    record {
      burst = c.next.ensures.burst ∙ c.messages.invariant.burst;
      walked = walks_on c.args.self.now now c.answer_message.new.self all rest message
          (written c.args.out.now) (written c.messages.out) (written c.answer_message.new.out)
          c.messages.aired c.answer_message.result c.or-aired.result
          (subst (λ (ms : List Content). Walked c.args.self.now now all ms (written c.args.out.now)
          (written c.messages.out) c.messages.aired)
          next_is c.messages.invariant.walked)
          c.answer_message.ensures.sent c.answer_message.ensures.aired c.answer_message.ensures.next c.or-aired.ensures;
      room = omega (
        arith,
        c.messages.invariant.room,
        c.answer_message.ensures.room,
        ap (λ (ms : List Content). length (bytes_for_all now ms)) next_is,
        size_of_first now message rest,
        ap (λ (p : ClockedPort). length (bytes_for_all p rest)) c.answer_message.ensures.next,
      );
    }
