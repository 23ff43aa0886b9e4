use Rattle.std.proofs.Common.{◌≡◌, ◌+◌, ◌<◌, ◌^◌, [], ◌∷◌, ◌++◌, length, get_or, take, refl, sym, ap, subst, ◌∙◌, arith}
use Rattle.std.proofs.lemmas.List.{length-take, take_more}
use Rattle.vdcp_auto.specs.RuleBook.{May}
use Rattle.vdcp_auto.proofs.KeptRules.{front_keeps}
use Rattle.vdcp_auto.specs.Judging.{Knows}
use Rattle.vdcp_auto.proofs.keeping.first_forbidden.Goals as goal

pub loop-k-preserved : goal.loop-k-preserved
loop-k-preserved g c =
    let log = c.args.log.now in
    let k = c.loop-k.k in
    let items = g.S.Source.items in
    let first = c.args.judge in
    let here = c.loop-k.invariant in
    let e = c.index-log-k.result in
    let is : e ≡ get_or log k e = c.index-log-k.is in
    let below : k < length log = omega arith in
    let few : length (take k log) + 1 < 2 ^ 64 = omega (arith, length-take k log) in
    let may : May c.loop-k.judge.mode (items c.loop-k.judge.source) (take k log) e.command =
    (c.if-not-allows.ensures (take k log) here.knows).0 refl in
    let may_first : May first.mode (items first.source) (take k log) e.command =
    subst (λ m. May m (items first.source) (take k log) e.command) here.mode
    (subst (λ s. May c.loop-k.judge.mode (items s) (take k log) e.command) here.source may) in
    let more : take (k + 1) log ≡ take k log ++ e ∷ [] = take_more log k e below
    ∙ ap (λ x. take k log ++ x ∷ []) (sym is) in
    record {
      source = c.add.ensures.source ∙ here.source;
      mode = c.add.ensures.mode ∙ here.mode;
      knows = subst (λ xs. Knows items xs c.add.new.self) (sym more) (c.add.ensures.knows (take k log) few here.knows);
      keeps = front_keeps first.mode (items first.source) log k e below here.keeps
          (subst (λ x. May first.mode (items first.source) (take k log) x.command) is may_first);
    }
