use Rattle.std.proofs.Common.{arith, sym}
use Rattle.std.proofs.lemmas.List.Edits.{map_over_more}
use Rattle.vdcp_journal.specs.Airings.{ended_by}
use Rattle.vdcp_journal_file.proofs.reading.end_all.Goals as goal

pub loop-airing-preserved : goal.loop-airing-preserved
loop-airing-preserved c = rw (c.ended_by.ensures, sym c.airing-item.is) (map_over_more (ended_by c.args.end) c.args.airings.now.items
    c.loop-airing.airing-items c.loop-airing.airing-index c.airing-item.result (omega (arith, c.loop-airing-test.true)) c.loop-airing.invariant c.airing-item.is)
