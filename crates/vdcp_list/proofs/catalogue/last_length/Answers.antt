use Rattle.std.proofs.Common.{[], ◌∷◌, sym, ap, ◌∙◌}
use Rattle.csv.specs.Records.{fields_of}
use Rattle.vdcp_list.proofs.CatalogueSteps.{last_one, one_field}
use Rattle.vdcp_list.proofs.ItemRows.{no_frames}
use Rattle.vdcp_list.proofs.catalogue.last_length.Goals as goal
use Rattle.vdcp_value.specs.Timecodes.{text_of}

pub returns-then-frames-eq0-clause-none : goal.returns-then-frames-eq0-clause-none
returns-then-frames-eq0-clause-none c =
    let rest = last_one (fields_of c.args.row.now) c.in-Some.field.now c.requires c.in-Some.ensures in
    λ time can e. no_frames c.a_time_code_is_one.ensures.by_text c.args.rate c.in-Some-time_in.length time
    c.in-Some.field.now
    c.in-Some-time_in.ensures.same_rate c.in-Some-time_in.ensures.some
    (sym c.frames.ensures.number ∙ c.if-frames-eq0.true) can.0
    (one_field (text_of time) c.in-Some.field.now (sym e ∙ rest)) can.1

pub returns-clause-some : goal.returns-clause-some
returns-clause-some c =
    last_one (fields_of c.args.row.now) c.in-Some.field.now c.requires c.in-Some.ensures
    ∙ ap (λ f. f ∷ []) c.in-Some-time_in.ensures.some
