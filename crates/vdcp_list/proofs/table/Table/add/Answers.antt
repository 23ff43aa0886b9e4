use Rattle.std.proofs.Common.{◌≡◌, sym, ap, ◌∙◌, length, arith, None, rules}
use Rattle.std.proofs.lemmas.Grind.{common_steps}
use Rattle.std.specs.HashMap.{get}
use Rattle.std.specs.Prelude.{◌++◌, ◌∷◌, [], is_some, nat_eq}
use Rattle.vdcp_list.proofs.ClipPlaces.{known, no_length, places_push}
use Rattle.vdcp_list.proofs.table.Table.add.Goals as goal
use Rattle.vdcp_list.specs.Places.{place_of}
use Rattle.vdcp_port.specs.Clips.{length_of}

pub invariant_of-self-in-Vacant : goal.invariant_of-self-in-Vacant
invariant_of-self-in-Vacant c =
    let at : get nat_eq c.self.inside.places c.key_of.result ≡ place_of c.self.inside.clips.items c.args.id =
    ap (get nat_eq c.self.inside.places) c.key_of.ensures ∙ c.self.invariant c.args.id in
    let new : get nat_eq c.self.inside.places c.key_of.result ≡ None =
    rw c.in-Vacant.is at c.in_ok-self-inside.ensures.found in
    let update = rw c.in-Vacant.is at c.in_ok-self-inside.ensures.update in
    let size : c.len-place.result ≡ length c.self.inside.clips.items = grind (arith, common_steps) in
    let pushed : c.push.new.self.items ≡ c.self.inside.clips.items ++ (c.args.id, c.args.duration) ∷ [] =
    grind (arith, common_steps) in
    λ id. rw pushed (places_push c.an_id_is_its_number.ensures c.self.inside.clips.items
    (c.args.id, c.args.duration) c.self.inside.places _ _ c.key_of.result c.insert.result.now
    c.self.invariant c.key_of.ensures (c.insert.ensures.value ∙ size) (sym at ∙ new) (update.0 c.insert.result.now).0
    (search rules) id)

pub returns-in-Occupied-clause-there : goal.returns-in-Occupied-clause-there
returns-in-Occupied-clause-there c =
    let at : get nat_eq c.self.inside.places c.key_of.result ≡ place_of c.self.inside.clips.items c.args.id =
    ap (get nat_eq c.self.inside.places) c.key_of.ensures ∙ c.self.invariant c.args.id in
    let found = rw c.in-Occupied.is at c.in_ok-self-inside.ensures.found in
    λ _. sym (ap (λ clips. is_some (length_of clips c.args.id)) c.self.view_is)
    ∙ sym (known c.self.inside.clips.items c.args.id) ∙ ap is_some (sym at) ∙ found.0

pub returns-in-Vacant-clause-new : goal.returns-in-Vacant-clause-new
returns-in-Vacant-clause-new c =
    let at : get nat_eq c.self.inside.places c.key_of.result ≡ place_of c.self.inside.clips.items c.args.id =
    ap (get nat_eq c.self.inside.places) c.key_of.ensures ∙ c.self.invariant c.args.id in
    let new : get nat_eq c.self.inside.places c.key_of.result ≡ None =
    rw c.in-Vacant.is at c.in_ok-self-inside.ensures.found in
    λ _. ap (λ clips. length_of clips c.args.id) (sym c.self.view_is)
    ∙ no_length c.self.inside.clips.items c.args.id (ap is_some (sym at ∙ new))
