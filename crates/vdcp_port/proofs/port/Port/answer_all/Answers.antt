-- The messages and the end of a burst are the burst.
use Rattle.std.proofs.Common.{List, ◌≤◌, ◌<◌, arith, length, length-append, sym, ap, subst}
use Rattle.std.proofs.lemmas.List.Elements.{All-from_get_or}
use Rattle.vdcp_value.specs.declared.part.Item.{Item}
use Rattle.vdcp_frame.specs.Burst.{messages_of, end_of}
use Rattle.vdcp_frame.specs.Message.{AreOctets}
use Rattle.vdcp_words.specs.declared.reply.Reply.{Reply}
use Rattle.vdcp_port.specs.Answers.{answer_bytes, bytes_for_all, bytes_at_end, end_answers, most_aired}
use Rattle.vdcp_port.proofs.Answering.{ends_alike, sent_in_parts}
use Rattle.vdcp_port.proofs.port.Port.answer_all.Goals as goal

pub answer_messages-aired-requires : goal.answer_messages-aired-requires
answer_messages-aired-requires g c =
    let p = c.args.self.now in
    let burst = c.args.burst.now in
    let fits : AreOctets burst =
    All-from_get_or (λ byte. byte < 256) burst 0 (λ i _. omega (arith, c.type_inv.burst i)) in
    omega (
      arith,
      c.requires,
      c.what_a_burst_needs.ensures.sent p burst fits,
      ap length (sent_in_parts p (messages_of burst) (end_of burst)),
      length-append (bytes_for_all p (messages_of burst)) (answer_bytes p.state.unit (end_answers (end_of burst))),
    )

pub returns-clause-read : goal.returns-clause-read
returns-clause-read g c =
    c.one_reading.ensures.some c.args.burst.now
    (All-from_get_or (λ byte. byte < 256) c.args.burst.now 0 (λ i _. omega (arith, c.type_inv.burst i)))

pub append_end-requires-clause-room : goal.append_end-requires-clause-room
append_end-requires-clause-room g c =
    let p = c.args.self.now in
    let burst = c.args.burst.now in
    let fits : AreOctets burst =
    All-from_get_or (λ byte. byte < 256) burst 0 (λ i _. omega (arith, c.type_inv.burst i)) in
    let alike = ends_alike c.answer_messages-aired.result.1 (end_of burst) c.answer_messages-aired.ensures.ended in
    omega (
      arith,
      c.requires,
      c.what_a_burst_needs.ensures.sent p burst fits,
      ap length (sent_in_parts p (messages_of burst) (end_of burst)),
      length-append (bytes_for_all p (messages_of burst)) (answer_bytes p.state.unit (end_answers (end_of burst))),
      c.answer_messages-aired.ensures.room,
      ap (λ (replies : List Reply). length (answer_bytes p.state.unit replies)) alike,
      ap (λ unit. length (bytes_at_end unit c.answer_messages-aired.result.1)) c.unit-unit.ensures.unit,
    )

pub returns-clause-most : goal.returns-clause-most
returns-clause-most g c =
    let p = c.args.self.now in
    let burst = c.args.burst.now in
    let fits : AreOctets burst =
    All-from_get_or (λ byte. byte < 256) burst 0 (λ i _. omega (arith, c.type_inv.burst i)) in
    subst (λ (items : List Item). length items ≤ most_aired burst) (sym c.answer_messages-aired.ensures.aired)
    (c.what_a_burst_needs.ensures.aired p burst fits)
