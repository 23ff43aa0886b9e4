-- Each burst has one reading, the computed one.
use Rattle.vdcp_frame.proofs.BurstLemmas.{reads_computed}
use Rattle.vdcp_frame.proofs.ReadingLemmas.{one_reading}
use Rattle.vdcp_frame.proofs.SpellingLemmas.{reads_as_computed}
use Rattle.vdcp_frame.proofs.laws.one_reading.Goals as goal

pub returns-clause-some : goal.returns-clause-some
returns-clause-some c = reads_computed 4096

pub returns-clause-only : goal.returns-clause-only
returns-clause-only c = one_reading 4096

pub returns-clause-computed : goal.returns-clause-computed
returns-clause-computed c = reads_as_computed
