use Rattle.std.proofs.Common.{◌≡◌, length, ◌≤◌, take}
use Rattle.std.specs.Io.KnownBytes.{Appends}
use Rattle.vdcp_journal_file.specs.Disks.{Spills}
use Rattle.vdcp_journal_file.proofs.disk.append_safely.Given as goal

abbrev pub invariant-writes : goal.invariant-writes
invariant-writes g l = record {
  within : l.at ≤ length l.bytes;
  appended : Appends (g.D.Disk.written l.fn.disk) (g.D.Disk.written l.disk) (take l.at l.bytes);
  spills : g.D.Disk.safe l.fn.disk ≡ g.D.Disk.written l.fn.disk
      → Spills (g.D.Disk.safe l.fn.disk) (g.D.Disk.safe l.disk) (g.D.Disk.written l.disk);
}
