use Rattle.std.proofs.Common.{◌≡◌, arith, rules, subst}
use Rattle.std.proofs.lemmas.Grind.{common_steps}
use Rattle.vdcp_list.specs.Asrun.{AppendsBeginning}
use Rattle.vdcp_journal_file.proofs.Disking.{none_written}
use Rattle.vdcp_journal_file.proofs.recorder.write_rows.Goals as goal

pub returns-clause-beginning : goal.returns-clause-beginning
returns-clause-beginning g c =
    let same : g.F.Disk.safe c.args.file.now ≡ g.F.Disk.written c.args.file.now = search rules in
    subst (AppendsBeginning (g.F.Disk.safe c.args.file.now) (g.F.Disk.safe c.append_safely.new.disk))
    (grind (arith, common_steps))
    (c.in-Err.ensures.beginning same)

pub returns-in_err-write_row-clause-beginning : goal.returns-in_err-write_row-clause-beginning
returns-in_err-write_row-clause-beginning g c =
    none_written c.from_residual-in_err-write_row.result (g.F.Disk.safe c.args.file.now) _
