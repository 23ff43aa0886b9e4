use Rattle.std.proofs.Common.{◌∙◌, ◌++◌, [], ◌∷◌, ap, take}
use Rattle.std.specs.Prelude.{codes}
use Rattle.http_server.specs.Response.{fields_of}
use Rattle.vdcp_panel.proofs.Guarding.{then_one}
use Rattle.vdcp_panel.proofs.desk.add_guards.Goals as goal
use Rattle.vdcp_panel.specs.Answered.{guards}

pub returns-clause-headers : goal.returns-clause-headers
returns-clause-headers c =
    let old = fields_of c.args.response.now in
    let one = c.in_ok-add.ensures.headers in
    let two = then_one old (fields_of c.add.new.response) _ (take 1 guards) _ one c.in_ok-add-2.ensures.headers in
    let three = then_one old (fields_of c.add-2.new.response) _ (take 2 guards) _ two c.in_ok-add-3.ensures.headers in
    let four = then_one old (fields_of c.add-3.new.response) _ (take 3 guards) _ three c.in_ok-add-4.ensures.headers in
    let five = then_one old (fields_of c.add-4.new.response) _ (take 4 guards) _ four c.in_ok-add-5.ensures.headers in
    let named = codes "same-origin" in
    then_one old (fields_of c.add-5.new.response) _ (take 5 guards) (c.from_static-policy.result, named) five
    c.in_ok-add-6.ensures.headers ∙ ap (λ name. old ++ (take 5 guards ++ (name, named) ∷ [])) c.from_static-policy.ensures
