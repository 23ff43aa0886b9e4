-- At the end the characters so far are those of the name.
use Rattle.std.proofs.Common.{[], refl, sym, ap, ◌∙◌, map-id, rules, true}
use Rattle.std.proofs.Output.{has_written_append, has_written_of_eq}
use Rattle.std.proofs.lemmas.Iterator.{YieldsList-from_chars}
use Rattle.std.proofs.lemmas.Iterator.Consumers.{YieldsList-end}
use Rattle.std.proofs.lemmas.List.{flat_map_more}
use Rattle.std.specs.List.{flat_map}
use Rattle.std.specs.Str.{IsUtf8}
use Rattle.vdcp_text.proofs.name.NameTextDisplay.fmt.Goals as goal
use Rattle.vdcp_text.specs.Text.{shown_char}

pub returns-clause-writes : goal.returns-clause-writes
returns-clause-writes g c = λ plain _.
    let name = c.args.self.now.0.now in
    let utf8 : IsUtf8 name = search rules in
    let end =
    YieldsList-end (YieldsList-from_chars name utf8 (search rules)) c.loop-c.yielded _ c.loop-c.yielded_by _ _
    c.in-None.is c.next.ensures.steps in
    has_written_of_eq _ _ _ _ _ (ap (flat_map shown_char) (sym (map-id c.loop-c.yielded) ∙ end.0)) (c.loop-c.invariant plain)

pub loop-c-preserved : goal.loop-c-preserved
loop-c-preserved g c = λ plain.
    let so_far = c.loop-c.invariant plain in
    has_written_of_eq _ _ _ _ _ (flat_map_more shown_char [] c.loop-c.yielded c.in-Some.c)
    (has_written_append _ _ _ _ _ _ so_far (c.in_ok-write.ensures.writes so_far.plain (refl {a = true})))
