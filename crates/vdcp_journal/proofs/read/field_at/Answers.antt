use Rattle.csv.specs.Records.{fields_of}
use Rattle.std.proofs.Common.{sym, ap, ◌∙◌}
use Rattle.std.specs.Prelude.{is_some, option_map}
use Rattle.vdcp_journal.proofs.RowFields.{at-is, at-some, some-before}
use Rattle.vdcp_journal.proofs.read.field_at.Goals as goal

pub unwrap-requires : goal.unwrap-requires
unwrap-requires c =
    some-before (λ s. s.now) c.get.result
    (ap is_some (c.get.ensures.value ∙ at-is (fields_of c.args.row.now) c.args.place)
    ∙ at-some (fields_of c.args.row.now) c.args.place c.requires)

pub returns : goal.returns
returns c =
    sym (at-is (fields_of c.args.row.now) c.args.place) ∙ sym c.get.ensures.value
    ∙ ap (option_map (λ s. s.now)) c.unwrap.ensures
