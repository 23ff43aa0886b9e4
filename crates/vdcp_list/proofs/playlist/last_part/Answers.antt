use Rattle.vdcp_list.proofs.ItemRows.{last_two}
use Rattle.csv.specs.Records.{fields_of}
use Rattle.std.specs.Prelude.{IfSome, ◌≡◌, true}
use Rattle.std.proofs.Common.{sym, subst}
use Rattle.vdcp_list.specs.Playlists.{CanName, part_fields}
use Rattle.vdcp_list.specs.Rows.{FileRow}
use Rattle.vdcp_list.proofs.playlist.last_part.Goals as goal

pub returns-clause-some : goal.returns-clause-some
returns-clause-some c =
    let fields = last_two (fields_of c.args.row.now) c.in_ok-field_at.field-0.now c.in_ok-field_at-2.field-0.now c.requires
    c.in_ok-field_at.ensures
    c.in_ok-field_at-2.ensures in
    subst (λ (rest : FileRow). IfSome c.part_in.result (λ part. (part_fields c.args.rate part ≡ rest)
    × CanName c.args.rate true part))
    (sym fields) c.part_in.ensures.some
