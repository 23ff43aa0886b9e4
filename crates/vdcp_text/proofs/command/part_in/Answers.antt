-- Before each time code stands a space.
use Rattle.std.proofs.Common.{◌≡◌, ◌∷◌, arith}
use Rattle.std.proofs.lemmas.Grind.{common_steps}
use Rattle.std.proofs.lemmas.Str.Pattern.{strip_prefix_char}
use Rattle.vdcp_text.proofs.Named.{none_of_some, of_some, pieces, stripped}
use Rattle.vdcp_text.proofs.command.part_in.Goals as goal

pub returns-in_err-strip_prefix : goal.returns-in_err-strip_prefix
returns-in_err-strip_prefix c id start duration are size_start size_duration =
    let p = pieces id start duration c.args.text.now c.in_ok-checked_sub.field-0 are size_start size_duration
    (grind (arith, common_steps)) in
    let begins : c.in_ok-start.start.now ≡ 32 ∷ start = grind (arith, common_steps, p.middle) in
    let some = stripped c.in_ok-start.start.now start c.strip_prefix.result
    (strip_prefix_char 32 c.in_ok-start.start.now c.strip_prefix.result c.strip_prefix.ensures.cases (omega arith)) begins in
    absurd (none_of_some _ c.strip_prefix.result c.in_err-strip_prefix.was some)

pub returns-in_err-strip_prefix-2 : goal.returns-in_err-strip_prefix-2
returns-in_err-strip_prefix-2 c id start duration are size_start size_duration =
    let p = pieces id start duration c.args.text.now c.in_ok-checked_sub.field-0 are size_start size_duration
    (grind (arith, common_steps)) in
    let begins : c.in_ok-start.duration.now ≡ 32 ∷ duration = grind (arith, common_steps, p.back) in
    let some = stripped c.in_ok-start.duration.now duration c.strip_prefix-2.result
    (strip_prefix_char 32 c.in_ok-start.duration.now c.strip_prefix-2.result c.strip_prefix-2.ensures.cases (omega arith)) begins in
    absurd (none_of_some _ c.strip_prefix-2.result c.in_err-strip_prefix-2.was some)

pub returns : goal.returns
returns c id start duration are size_start size_duration =
    let p = pieces id start duration c.args.text.now c.in_ok-checked_sub.field-0 are size_start size_duration
    (grind (arith, common_steps)) in
    let first : c.in_ok-start.start.now ≡ 32 ∷ start = grind (arith, common_steps, p.middle) in
    let some = stripped c.in_ok-start.start.now start c.strip_prefix.result
    (strip_prefix_char 32 c.in_ok-start.start.now c.strip_prefix.result c.strip_prefix.ensures.cases (omega arith)) first in
    let second : c.in_ok-start.duration.now ≡ 32 ∷ duration = grind (arith, common_steps, p.back) in
    let more = stripped c.in_ok-start.duration.now duration c.strip_prefix-2.result
    (strip_prefix_char 32 c.in_ok-start.duration.now c.strip_prefix-2.result c.strip_prefix-2.ensures.cases (omega arith)) second in
    let front : c.in_ok-id.id.now ≡ id = grind (arith, common_steps, p.front) in
    (front, of_some _ c.strip_prefix.result _ c.in_ok-strip_prefix.was some, of_some _ c.strip_prefix-2.result _ c.in_ok-strip_prefix-2.was more)
