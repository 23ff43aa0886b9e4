use Rattle.std.proofs.Common.{◌≡◌, ◌∙◌, arith}
use Rattle.std.specs.Prelude.{codes}
use Rattle.vdcp_journal.proofs.HexTexts.{same_unless}
use Rattle.vdcp_journal.proofs.read.heading_of.Goals as goal

pub returns-clause-heading : goal.returns-clause-heading
returns-clause-heading c =
    let word : c.args.word.now ≡ codes "list" =
    same_unless _ _ c.ne.result c.if-ne.false c.ne.ensures ∙ c.as_slice.ensures in
    let unit = c.in-Some-number_up_to.ensures.some in
    let port = c.in-Some-number_up_to-2.ensures.some in
    let limit = c.in-Some-number_up_to-3.ensures.some in
    record {
      writable = record {
        digest = c.in-Some-digest_in.ensures.bytes;
        unit = omega (arith, unit.1);
        port = omega (arith, port.1);
        limit = omega (arith, limit.1);
      };
      unit = unit.1;
      fields_are =
          cc (
            c.in-Some.ensures.read,
            word,
            c.in-Some-digest_in.ensures.some,
            c.in-Some-mode_in.ensures.some,
            unit.0,
            port.0,
            limit.0,
          );
    }
