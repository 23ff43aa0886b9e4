-- So many airings have got the end.
use Rattle.std.proofs.Common.{◌≡◌, ◌++◌, drop, map, take}
use Rattle.vdcp_journal.specs.Airings.{ended_by}
use Rattle.vdcp_journal_file.proofs.reading.end_all.Given as goal

abbrev pub invariant-loop-airing : goal.invariant-loop-airing
invariant-loop-airing l = l.airing-items ≡ map (ended_by l.end) (take l.airing-index l.fn.airings.items)
    ++ drop l.airing-index l.fn.airings.items
