use Rattle.std.proofs.Common.{◌≡◌, sym, ap, ◌∙◌, arith, Some}
use Rattle.std.specs.HashMap.{get}
use Rattle.std.specs.Prelude.{nat_eq}
use Rattle.vdcp_list.proofs.ClipPlaces.{not_placed, placed}
use Rattle.vdcp_list.proofs.table.TableCatalogue.length.Goals as goal
use Rattle.vdcp_list.specs.Places.{place_of}
use Rattle.vdcp_port.specs.Clips.{length_of}

pub index-requires : goal.index-requires
index-requires c =
    let at : place_of c.self.inside.clips.items c.args.id.now ≡ Some c.in-Some.place.now =
    sym (c.in-Some.ensures.value ∙ ap (get nat_eq c.self.inside.places) c.key_of.ensures
    ∙ c.self.invariant c.args.id.now) in
    omega (arith, (placed c.self.inside.clips.items c.args.id.now c.in-Some.place.now at).within)

pub returns-in-Some : goal.returns-in-Some
returns-in-Some c =
    let at : place_of c.self.inside.clips.items c.args.id.now ≡ Some c.in-Some.place.now =
    sym (c.in-Some.ensures.value ∙ ap (get nat_eq c.self.inside.places) c.key_of.ensures
    ∙ c.self.invariant c.args.id.now) in
    let p = placed c.self.inside.clips.items c.args.id.now c.in-Some.place.now at in
    ap (λ clip. Some clip.1) c.index.ensures ∙ sym (p.length_is c.index.result.now)
    ∙ ap (λ clips. length_of clips c.args.id.now) c.self.view_is

pub returns-in-None : goal.returns-in-None
returns-in-None c =
    let at = sym (c.in-None.ensures.value ∙ ap (get nat_eq c.self.inside.places) c.key_of.ensures
    ∙ c.self.invariant c.args.id.now) in
    sym (not_placed c.self.inside.clips.items c.args.id.now at)
    ∙ ap (λ clips. length_of clips c.args.id.now) c.self.view_is
