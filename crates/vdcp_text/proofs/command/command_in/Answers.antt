-- What the text of a command is split into are words that name it.
use Rattle.std.proofs.Common.{sym, subst, arith, ◌∷◌, []}
use Rattle.std.proofs.lemmas.Str.Pattern.{split_once_first}
use Rattle.vdcp_text.proofs.Named.{IsCut, alone, cues_part, named, none_of_some, names_one, not_split, of_some, opens, split}
use Rattle.vdcp_text.specs.Make.{Names}
use Rattle.vdcp_text.proofs.command.command_in.Goals as goal

pub returns-in_default : goal.returns-in_default
returns-in_default c command writable is =
    let first = split_once_first 32 c.args.text.now c.split_once.result c.split_once.ensures.cases (omega arith) in
    let none = not_split c.args.text.now c.split_once.result first c.in_default.is in
    let names = alone command c.args.text.now is none in
    named c.a_text_says_its_id.ensures _ command c.with_none.result names c.with_none.ensures.some c.with_none.ensures.none

pub returns-in_err-id-in-text : goal.returns-in_err-id-in-text
returns-in_err-id-in-text c command writable is =
    let first = split_once_first 32 c.args.text.now c.split_once.result c.split_once.ensures.cases (omega arith) in
    let cut = split c.args.text.now c.split_once.result _ first c.in-Some.is in
    let part = cues_part c.an_id_has_one_text.ensures.some command c.args.text.now c.in-Some.rest.now writable is
    (subst (λ w. IsCut c.args.text.now w c.in-Some.rest.now) c.in-text.is cut) in
    let found = c.part_in.ensures part.id part.start part.duration part.are part.start_length part.duration_length in
    absurd (none_of_some _ c.part_in.result (c.in_err-id-in-text.was) found)

pub returns-in_ok-port-in-open : goal.returns-in_ok-port-in-open
returns-in_ok-port-in-open c command writable is =
    let first = split_once_first 32 c.args.text.now c.split_once.result c.split_once.ensures.cases (omega arith) in
    let cut = split c.args.text.now c.split_once.result _ first c.in-Some.is in
    let second = split_once_first 32 c.in-Some.rest.now c.split_once-in-open.result c.split_once-in-open.ensures.cases (omega arith) in
    let again = split c.in-Some.rest.now c.split_once-in-open.result _ second c.in_ok-port-in-open.was in
    let names = opens command c.args.text.now c.in-Some.rest.now _ _ writable is
    (subst (λ w. IsCut c.args.text.now w c.in-Some.rest.now) c.in-open.is cut) again in
    named c.a_text_says_its_id.ensures _ command c.with_two.result
    (subst (λ w. Names (w ∷ c.in_ok-port-in-open.port.now ∷ c.in_ok-port-in-open.lock.now ∷ []) command) (sym c.in-open.is) names)
    c.with_two.ensures.some c.with_two.ensures.none

pub returns-in_ok-id-in-text : goal.returns-in_ok-id-in-text
returns-in_ok-id-in-text c command writable is =
    let first = split_once_first 32 c.args.text.now c.split_once.result c.split_once.ensures.cases (omega arith) in
    let cut = split c.args.text.now c.split_once.result _ first c.in-Some.is in
    let part = cues_part c.an_id_has_one_text.ensures.some command c.args.text.now c.in-Some.rest.now writable is
    (subst (λ w. IsCut c.args.text.now w c.in-Some.rest.now) c.in-text.is cut) in
    let found = c.part_in.ensures part.id part.start part.duration part.are part.start_length part.duration_length in
    let are = of_some _ c.part_in.result _ c.in_ok-id-in-text.was found in
    let names = subst (λ words. Names words command) (cc (c.in-text.is, are.0, are.1, are.2)) part.names in
    named c.a_text_says_its_id.ensures _ command c.with_three.result names c.with_three.ensures.some
    c.with_three.ensures.none

pub returns-in_default-word : goal.returns-in_default-word
returns-in_default-word c command writable is =
    let first = split_once_first 32 c.args.text.now c.split_once.result c.split_once.ensures.cases (omega arith) in
    let cut = split c.args.text.now c.split_once.result _ first c.in-Some.is in
    let names = names_one c.an_id_has_one_text.ensures.some command c.args.text.now c.in-Some.word.now c.in-Some.rest.now writable is
    cut c.in_default-word.not-open c.in_default-word.not-text in
    named c.a_text_says_its_id.ensures _ command c.with_one.result names
    c.with_one.ensures.some c.with_one.ensures.none
