use Rattle.vdcp_journal.proofs.RowFields.{row_fault}
use Rattle.vdcp_journal.proofs.read.row_of.Goals as goal

pub returns-in_default-note_in-clause-fault : goal.returns-in_default-note_in-clause-fault
returns-in_default-note_in-clause-fault c =
    row_fault c.args.unit c.args.time.now c.args.word.now c.args.text.now c.args.detail.now c.fault_of.result
    c.fault_of.ensures
    (λ n w e. cc (c.in_default-note_in.ensures.found n w e))
