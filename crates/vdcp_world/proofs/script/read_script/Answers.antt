use Rattle.std.proofs.Common.{◌≤◌, [], length, refl, sym, subst, arith}
use Rattle.std.proofs.lemmas.Iterator.Consumers.{YieldsList-end, YieldsList-from_enumerate}
use Rattle.std.proofs.lemmas.Iterator.Splits.{YieldsList-from_lines}
use Rattle.std.specs.Str.Lines.{lines}
use Rattle.vdcp_world.specs.Script.{SayAll, no_line}
use Rattle.vdcp_world.proofs.ScriptLemmas.{all_lines, more_lines}
use Rattle.vdcp_world.proofs.script.read_script.Goals as goal

pub returns-clause-script : goal.returns-clause-script
returns-clause-script c =
    let end = YieldsList-end (YieldsList-from_enumerate (YieldsList-from_lines c.args.text.now cc) cc) c.lines.yielded _
    c.lines.yielded_by _ _
    c.in-None.is c.next.ensures.steps in
    subst (λ l. SayAll l c.lines.events.items)
    (all_lines c.lines.yielded (lines c.args.text.now) end.0) c.lines.invariant.1

pub lines-init : goal.lines-init
lines-init c = (
  subst (λ xs. length xs ≤ 100000) (sym c.new-events.ensures.items) (omega arith),
  subst (λ xs. SayAll [] xs) (sym c.new-events.ensures.items) no_line,
)

pub lines-preserved : goal.lines-preserved
lines-preserved c = (
  c.read_line.ensures.few,
  more_lines c.lines.yielded (c.in-Some.before, c.in-Some.line)
      c.in-Some.line.now
      c.lines.events.items c.read_line.new.events.items refl c.lines.invariant.1 c.in_ok-read_line.ensures.says,
)
