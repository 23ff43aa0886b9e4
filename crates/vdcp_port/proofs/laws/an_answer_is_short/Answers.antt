-- How long an answer is at most.
use Rattle.vdcp_port.proofs.LawsBelow.{ValueBytes}
use Rattle.vdcp_port.proofs.Sizes.{short_for_message}
use Rattle.vdcp_port.proofs.laws.an_answer_is_short.Goals as goal

pub returns : goal.returns
returns c =
    let law : ValueBytes = record {
      four = c.a_time_code_has_lawful_bytes.ensures.four;
      eight = c.an_id_is_its_bytes.ensures.eight;
      counted = λ n bytes are. ((c.bytes_are_counted.ensures n bytes).0 are).0;
    } in
    short_for_message law
