-- The exchanges so far keep the rules, and the judge knows of them.
use Rattle.std.proofs.Common.{◌≡◌, take}
use Rattle.vdcp_auto.specs.RuleBook.{KeepsRules}
use Rattle.vdcp_auto.specs.Judging.{Knows}
use Rattle.vdcp_auto.proofs.keeping.first_forbidden.Given as goal

abbrev pub invariant-loop-k : goal.invariant-loop-k
invariant-loop-k g l = record {
  source : l.judge.source ≡ l.initial.judge.source;
  mode : l.judge.mode ≡ l.initial.judge.mode;
  knows : Knows g.S.Source.items (take l.k l.log) l.judge;
  keeps : KeepsRules l.initial.judge.mode (g.S.Source.items l.initial.judge.source) (take l.k l.log);
}
