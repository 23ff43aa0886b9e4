use Rattle.csv.specs.Records.{fields_of}
use Rattle.std.proofs.Common.{◌≡◌, length, arith}
use Rattle.vdcp_offline.proofs.VectorLemmas as lemmas
use Rattle.vdcp_offline.proofs.vectors.two_fields.Goals as goal

pub returns-in_err-get-clause-none : goal.returns-in_err-get-clause-none
returns-in_err-get-clause-none c =
    lemmas.if_none c.from_residual.result
    (λ two. lemmas.has_first (fields_of c.args.row.now) two c.in_err-get.ensures.value)

pub returns-in_err-get-2-clause-none : goal.returns-in_err-get-2-clause-none
returns-in_err-get-2-clause-none c =
    lemmas.if_none c.from_residual-in_err-get-2.result
    (λ two. lemmas.has_second (fields_of c.args.row.now) two c.in_err-get-2.ensures.value)

pub returns-clause-some : goal.returns-clause-some
returns-clause-some c =
    let two : length (fields_of c.args.row.now) ≡ 2 = grind arith in
    lemmas.two_fields (fields_of c.args.row.now) c.in_ok-get.field-0.now c.in_ok-get-2.field-0.now two
    c.in_ok-get.ensures.value c.in_ok-get-2.ensures.value
