use Rattle.std.proofs.Common.{◌≡◌, ◌≤◌, [], length, sym, ap, ◌∙◌, arith}
use Rattle.std.proofs.lemmas.Grind.{common_steps}
use Rattle.vdcp_list.proofs.ItemRows.{no_frames, no_part, part_read}
use Rattle.vdcp_list.proofs.playlist.part_in.Goals as goal
use Rattle.vdcp_list.proofs.playlist.part_in.Goals.{else-is_empty-via-then-is_empty+else-is_empty-2, else-is_empty-via-else-is_empty}
use Rattle.vdcp_value.specs.Timecodes.{frames_of}

pub returns-in_default-clause-none : goal.returns-in_default-clause-none
returns-in_default-clause-none c =
    let some : c.args.start.now ≡ [] → c.args.duration.now ≡ [] → ⊥ = λ s d. elim c.else-is_empty.branch [
      | else-is_empty-via-then-is_empty+else-is_empty-2 w ↦ grind (arith, common_steps, ap length s, ap length d)
      | else-is_empty-via-else-is_empty w ↦ grind (arith, common_steps, ap length s, ap length d)
    ] in
    no_part c.fields_say_values.ensures.times c.args.rate c.args.start.now c.args.duration.now some
    (λ s d rs rd ts td f. c.in_default.ensures.none s rs (sym ts))

pub returns-in_default-time_in-clause-none : goal.returns-in_default-time_in-clause-none
returns-in_default-time_in-clause-none c =
    let some : c.args.start.now ≡ [] → c.args.duration.now ≡ [] → ⊥ = λ s d. elim c.else-is_empty.branch [
      | else-is_empty-via-then-is_empty+else-is_empty-2 w ↦ grind (arith, common_steps, ap length s, ap length d)
      | else-is_empty-via-else-is_empty w ↦ grind (arith, common_steps, ap length s, ap length d)
    ] in
    no_part c.fields_say_values.ensures.times c.args.rate c.args.start.now c.args.duration.now some
    (λ s d rs rd ts td f. c.in_default-time_in.ensures.none d rd (sym td))

pub returns-then-frames-eq0-clause-none : goal.returns-then-frames-eq0-clause-none
returns-then-frames-eq0-clause-none c =
    let some : c.args.start.now ≡ [] → c.args.duration.now ≡ [] → ⊥ = λ s d. elim c.else-is_empty.branch [
      | else-is_empty-via-then-is_empty+else-is_empty-2 w ↦ grind (arith, common_steps, ap length s, ap length d)
      | else-is_empty-via-else-is_empty w ↦ grind (arith, common_steps, ap length s, ap length d)
    ] in
    no_part c.fields_say_values.ensures.times c.args.rate c.args.start.now c.args.duration.now some (λ s d rs rd ts td f.
    no_frames c.fields_say_values.ensures.one_time c.args.rate c.in-Some-time_in.duration d c.args.duration.now
    c.in-Some-time_in.ensures.same_rate
    c.in-Some-time_in.ensures.some
    (sym c.frames.ensures.number ∙ c.if-frames-eq0.true) rd td f)

pub returns-clause-some : goal.returns-clause-some
returns-clause-some c =
    let some : 1 ≤ frames_of c.in-Some-time_in.duration =
    grind (arith, c.frames.ensures.number, c.if-frames-eq0.false) in
    part_read c.fields_say_values.ensures.times c.args.rate c.in-Some.start c.in-Some-time_in.duration c.to_bcd.result c.to_bcd-2.result c.args.start.now
    c.args.duration.now
    c.to_bcd.ensures c.to_bcd-2.ensures c.in-Some.ensures.same_rate c.in-Some-time_in.ensures.same_rate
    c.in-Some.ensures.some
    c.in-Some-time_in.ensures.some some
