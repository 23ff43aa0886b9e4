use Rattle.std.proofs.Common.{refl, subst, sym}
use Rattle.vdcp_journal.specs.declared.row.Row.{Row}
use Rattle.vdcp_journal_file.specs.Recorded.{MayHold}
use Rattle.vdcp_journal_file.specs.Recording.{FitHeldRows, IsSynced, end_note}
use Rattle.vdcp_journal_file.specs.declared.pending.Pending.{Pending}
use Rattle.vdcp_journal_file.proofs.Chains.{end_note_ends, ended_may_hold}
use Rattle.vdcp_journal_file.proofs.Disking.{synced_at_end}
use Rattle.vdcp_journal_file.proofs.Held.{held_at_end, notes_end}
use Rattle.vdcp_journal_file.proofs.recorder.RecorderHooks.note_end.Goals as goal

pub invariant_of-self : goal.invariant_of-self
invariant_of-self g c =
    let before = c.self.inside in
    let row : Row = record { time = c.now.result; note = end_note c.args.heard } in (
      c.self.invariant.0,
      subst (λ (p : Pending). MayHold p) (sym c.ended-self-inside.ensures)
          (ended_may_hold before.pending row (end_note_ends c.args.heard c.now.result) c.self.invariant.1),
      subst (λ (p : Pending). IsSynced p (g.F.Disk.safe before.file) (g.F.Disk.written before.file))
          (sym c.ended-self-inside.ensures)
          (synced_at_end before.pending row (g.F.Disk.safe before.file) (g.F.Disk.written before.file) c.self.invariant.2),
      subst (FitHeldRows before.unit before.held) (sym c.ended-self-inside.ensures)
          (held_at_end before.unit before.held before.pending row c.self.invariant.3),
    )

pub returns : goal.returns
returns g c = notes_end g.F.Disk.safe c.args.heard _ _
    (c.now.result, rw (← c.self.view_is, c.ended-self-inside.ensures) refl)
