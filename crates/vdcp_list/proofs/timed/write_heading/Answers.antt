use Rattle.std.proofs.lemmas.Result.{on_ok_weaker}
use Rattle.vdcp_list.proofs.timed.write_heading.Goals as goal

pub returns-then-with_parts-clause-text : goal.returns-then-with_parts-clause-text
returns-then-with_parts-clause-text g c =
    rw c.if-with_parts.true (on_ok_weaker c.write_fields.result
    (λ f. (rw c.requires.setup at f) c.requires.ended c.requires.clean (λ e. cc e)) c.write_fields.ensures.bytes)

pub returns-clause-text : goal.returns-clause-text
returns-clause-text g c =
    rw c.if-with_parts.false (on_ok_weaker c.write_fields-2.result
    (λ f. (rw c.requires.setup at f) c.requires.ended c.requires.clean (λ e. cc e)) c.write_fields-2.ensures.bytes)
