use Rattle.std.proofs.Common.{arith}
use Rattle.std.proofs.KnownBytes.{Appends-kept, Appends-nil}
use Rattle.std.proofs.lemmas.Result.{on_err_weaker}
use Rattle.vdcp_journal_file.proofs.Disking.{appends_more, broke_off, safe_front, spills_more, spills_none}
use Rattle.vdcp_journal_file.proofs.disk.append_safely.Goals as goal

pub writes-init : goal.writes-init
writes-init g c = record { within = search arith; appended = Appends-nil _; spills = spills_none _ _ }

pub writes-preserved : goal.writes-preserved
writes-preserved g c = record {
  within = search arith;
  appended = appends_more _ (g.D.Disk.written c.writes.disk) _ c.args.bytes.now c.writes.at c.in-Ok.n
      c.writes.invariant.appended c.in-Ok.ensures.bytes;
  spills = λ synced. spills_more _ _ _ _ _ (c.writes.invariant.spills synced) c.write_some.ensures.spills;
}

pub writes-preserved-in-Err : goal.writes-preserved-in-Err
writes-preserved-in-Err g c = record {
  within = c.writes.invariant.within;
  appended = Appends-kept _ (g.D.Disk.written c.writes.disk) _ _ c.writes.invariant.appended c.in-Err.ensures.bytes;
  spills = λ synced. spills_more _ _ _ _ _ (c.writes.invariant.spills synced) c.write_some.ensures.spills;
}

pub returns-then-at-bytes-clause-beginning : goal.returns-then-at-bytes-clause-beginning
returns-then-at-bytes-clause-beginning g c synced = on_err_weaker c.sync.result (λ next. safe_front _ _ _ _ c.args.bytes.now
    c.writes.at synced
    (Appends-kept _ (g.D.Disk.written c.writes.disk) _ _ c.writes.invariant.appended c.sync.ensures.bytes)
    (spills_more _ _ _ _ _ (c.writes.invariant.spills synced) next)) c.sync.ensures.spills

pub returns-clause-beginning : goal.returns-clause-beginning
returns-clause-beginning g c synced = safe_front _ _ _ _ c.args.bytes.now c.writes.at synced c.writes.invariant.appended
    (c.writes.invariant.spills synced)

pub returns-in-Ok-2-clause-beginning : goal.returns-in-Ok-2-clause-beginning
returns-in-Ok-2-clause-beginning g c synced = broke_off _ _ _ _ _ _ c.args.bytes.now c.writes.at c.write_some.result synced
    c.writes.invariant.appended c.writes.invariant.spills c.write_some.ensures.bytes c.write_some.ensures.spills

pub returns-in-Err-2-clause-beginning : goal.returns-in-Err-2-clause-beginning
returns-in-Err-2-clause-beginning g c synced = broke_off _ _ _ _ _ _ c.args.bytes.now c.writes.at c.write_some.result synced
    c.writes.invariant.appended c.writes.invariant.spills c.write_some.ensures.bytes c.write_some.ensures.spills
