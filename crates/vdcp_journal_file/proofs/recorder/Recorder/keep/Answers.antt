use Rattle.std.proofs.Common.{◌≡◌, ap, false, refl, subst, sym, true}
use Rattle.std.proofs.lemmas.Result.{on_ok_weaker}
use Rattle.vdcp_journal_file.proofs.Chains.{announced_may_hold, keeps_row, loses_row, on_err_both, play_kept, write_kept, write_lost}
use Rattle.vdcp_journal_file.proofs.Disking.{synced_with_play}
use Rattle.vdcp_journal_file.proofs.Held.{held_with_play}
use Rattle.std.specs.Prelude.{IfSome}
use Rattle.vdcp_journal.specs.Rows.{AreBytesOf}
use Rattle.vdcp_journal.specs.declared.row.Row.{Row}
use Rattle.vdcp_journal_file.proofs.recorder.Recorder.keep.Goals as goal
use Rattle.vdcp_journal_file.specs.Recorded.{MayHold}
use Rattle.vdcp_journal_file.specs.Recording.{FitHeldRows, IsSynced, Recording, is_announced, with_play}
use Rattle.vdcp_journal_file.specs.declared.pending.Pending.{Pending}

pub returns-then-asks_state-clause-kept : goal.returns-then-asks_state-clause-kept
returns-then-asks_state-clause-kept g c =
    on_ok_weaker c.hold.result (λ p. keeps_row g.F.Disk.safe c.args.note _ c.args.self.now
    c.hold.new.self refl p.0 p.1) c.hold.ensures.kept

pub returns-then-asks_state-clause-torn : goal.returns-then-asks_state-clause-torn
returns-then-asks_state-clause-torn g c =
    on_err_both c.hold.result _ _ _ (λ fault p q. loses_row g.F.Disk.safe c.args.note _
    c.args.self.now c.hold.new.self fault refl p q) c.hold.ensures.torn c.hold.ensures.failed

pub invariant_of-self : goal.invariant_of-self
invariant_of-self g c =
    let before = c.self.inside in
    let row : Row = record { time = c.now.result; note = c.args.note } in (
      c.self.invariant.0,
      subst MayHold (sym c.in-Some.ensures.held.0)
          (announced_may_hold before.pending row c.in-Some.ensures.held.1 c.self.invariant.1),
      subst (λ (p : Pending). IsSynced p (g.F.Disk.safe before.file) (g.F.Disk.written before.file))
          (sym c.in-Some.ensures.held.0)
          (synced_with_play before.pending row (g.F.Disk.safe before.file) (g.F.Disk.written before.file)
          c.in-Some.ensures.held.1 c.self.invariant.2),
      subst (FitHeldRows before.unit (record before.held { plays = c.args.bytes })) (sym c.in-Some.ensures.held.0)
          (held_with_play before.unit before.held c.args.bytes before.pending row c.in-Some.ensures.held.1
          (subst (λ (r : Recording _). IfSome c.args.bytes (λ b. AreBytesOf r.unit b.items c.args.note)) (sym c.self.view_is)
          c.requires)
          c.self.invariant.3),
    )

pub returns-in-Some-clause-kept : goal.returns-in-Some-clause-kept
returns-in-Some-clause-kept g c =
    let held = c.in-Some.ensures.held in
    let row : Row = record { time = c.now.result; note = c.args.note } in
    let before = c.self.inside in
    let new : Recording _ =
    record { name = before.name; unit = before.unit; file = before.file; from = before.from; pending = c.in-Some.pending } in
    play_kept g.F.Disk.safe c.args.note row c.args.self.now new refl
    (subst (λ (r : Recording _). is_announced r.pending row.note ≡ true) c.self.view_is held.1)
    (subst (λ (r : Recording _). new ≡ record r { pending = with_play r.pending row }) c.self.view_is
    (ap {B = Recording _}
    (λ (p : Pending). record { name = before.name; unit = before.unit; file = before.file; from = before.from; pending = p }) held.0))

pub returns-clause-kept : goal.returns-clause-kept
returns-clause-kept g c =
    let plain = subst (λ (r : Recording _). is_announced r.pending c.args.note ≡ false) c.self.view_is
    c.in_default.ensures.unannounced in
    write_kept c.write.result g.F.Disk.safe c.args.note _ c.args.self.now c.args.self.now
    c.write.new.self refl (sym c.if-asks_state.ensures) plain refl c.write.ensures.written
    c.write.ensures.rest

pub returns-clause-torn : goal.returns-clause-torn
returns-clause-torn g c =
    let plain = subst (λ (r : Recording _). is_announced r.pending c.args.note ≡ false) c.self.view_is
    c.in_default.ensures.unannounced in
    write_lost c.write.result g.F.Disk.safe c.args.note _ c.args.self.now c.args.self.now
    c.write.new.self refl (sym c.if-asks_state.ensures) plain refl c.write.ensures.torn
    c.write.ensures.failed
