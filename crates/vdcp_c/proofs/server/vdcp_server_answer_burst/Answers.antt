-- What is refused is no port, and what is answered is the burst.
use Rattle.std.proofs.Common.{◌≡◌, ℕ, List, refl, ap, subst, ◌∙◌, arith}
use Rattle.vdcp_frame.specs.Burst.{messages_of}
use Rattle.vdcp_port.specs.Answers.{aired_for, sent_for}
use Rattle.vdcp_port.specs.Clock.{ClockedPort}
use Rattle.vdcp_c.specs.Ports.{IsPort}
use Rattle.vdcp_c.specs.Rooms.{Fits}
use Rattle.vdcp_c.proofs.Aired.{aired_list, burst_clips}
use Rattle.vdcp_c.proofs.server.vdcp_server_answer_burst.Goals as goal

pub returns-in_default-clause-accepts : goal.returns-in_default-clause-accepts
returns-in_default-clause-accepts c port is _ = cc (c.in_default.ensures.accepts port is)

pub returns-clause-answered : goal.returns-clause-answered
returns-clause-answered c _ =
    let port : ClockedPort = c.in-Some.port in
    let burst : List ℕ = c.args.burst.now in
    let next = c.answer_into-item.ensures.next in
    let sent : c.as_slice.result.now ≡ sent_for port burst =
    grind (arith, c.as_slice.ensures.value, c.answer_into-item.ensures.sent, c.new-sent.ensures) in (
      port,
      c.in-Some.ensures.some,
      (
        (λ _. subst (λ (l : List ℕ). Fits l c.put_all.new.written c.put_all.new.out) sent c.put_all.ensures),
        λ other. absurd (other refl),
      ),
      (λ _. (
        subst (λ (q : ClockedPort). IsPort c.put.new.p c.args.clips.now q) next
            (c.put.ensures c.args.clips.now port c.in-Some.ensures.some
            (ap (λ (q : ClockedPort). q.clips) next ∙ burst_clips port (messages_of burst))),
        aired_list c.put_aired.new.a c.answer_into-item.result (aired_for port burst) c.answer_into-item.ensures.aired
            c.put_aired.ensures,
      )),
      λ other. absurd (other refl),
    )
