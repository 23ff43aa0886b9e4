-- A silence ends the reading.
use Rattle.std.proofs.Common.{◌≡◌, sym, subst, arith, rules}
use Rattle.vdcp_frame.specs.Reader.{ended_of, ReadsAs}
use Rattle.vdcp_frame.proofs.FeedLemmas.{between}
use Rattle.vdcp_frame.proofs.ReaderLemmas.{silence_reads}
use Rattle.vdcp_frame.proofs.reader.Reader.silence.Goals as goal

pub invariant_of-self : goal.invariant_of-self
invariant_of-self c = rw c.after-self-inside.ensures (between 0 c.self.inside.buffer (omega arith))

pub returns-clause-reads : goal.returns-clause-reads
returns-clause-reads c burst ms f =
    let is : c.match-self.ended ≡ ended_of c.args.self.now = search rules in
    subst (ReadsAs burst ms) (sym is) (silence_reads burst ms c.args.self.now f)
