use Rattle.std.proofs.Common.{◌+◌, [], ◌++◌}
use Rattle.vdcp_offline.proofs.JudgeSteps.{is_capture, none_read, one_line_more}
use Rattle.vdcp_offline.proofs.judge.capture.read_capture.Goals as goal
use Rattle.vdcp_offline.specs.Rows.{numbered}

pub lines-init : goal.lines-init
lines-init g c = ([], none_read c.args.unit _ _ c.in-Ok.ensures, λ settings items found. found)

pub returns-in_default-2-clause-found : goal.returns-in_default-2-clause-found
returns-in_default-2-clause-found g c = λ settings items found.
    let here = c.lines.invariant in (
      here.0,
      is_capture c.args.unit _ _ _ _ here.0 here.1 (rw c.in_default-2.is at c.in_ok-text.ensures.takes),
      here.2 settings items found,
    )

pub lines-preserved : goal.lines-preserved
lines-preserved g c =
    let here = c.lines.invariant in
    let number = c.lines.before + 1 in
    let said = c.in_ok-said.said.items in (
      here.0 ++ numbered number said,
      one_line_more c.args.unit _ _ _ number here.0 c.in-Some.text said here.1
          (rw c.in-Some.is at c.in_ok-text.ensures.takes) (rw c.as_str.ensures.value at c.in_ok-said.ensures.says),
      λ settings items found.
          rw c.as_slice.ensures.value at (c.in_ok-add.ensures settings items here.0 (here.2 settings items found)),
    )
