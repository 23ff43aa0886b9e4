use Rattle.std.proofs.Common.{◌≡◌, ◌+◌, ◌++◌, take, arith, ap, sym, ◌∙◌}
use Rattle.std.proofs.KnownBytes.{Keeps-trans}
use Rattle.std.proofs.lemmas.List.{take-append-drop}
use Rattle.vdcp_journal.proofs.Lines.{has_feed}
use Rattle.vdcp_journal.proofs.LinesLeft.{feed-none, feed_at, left-found, left-none, range-none}
use Rattle.vdcp_journal.proofs.whole.WholeLines.find_line.Goals as goal
use Rattle.vdcp_journal.specs.Reading.{begun_held, line_held}

pub returns-in-Some-clause-kept : goal.returns-in-Some-clause-kept
returns-in-Some-clause-kept g c =
    let self = c.loop-place.self in
    let new = c.add_line.new.self in
    let begun = begun_held self in
    let size = c.in-Some.place + 1 in
    let found = feed_at begun c.in-Some.place (sym c.line_feed.ensures ∙ c.in-Some.is) in
    let split : begun ≡ line_held new ++ begun_held new =
    rw (c.add_line.ensures.line, c.add_line.ensures.begun) (sym (take-append-drop size begun)) in
    Keeps-trans _ _ _ c.loop-place.invariant.kept
    (left-found (line_held self) (take c.in-Some.place begun) (line_held new) begun (begun_held new) _ _
    (range-none self.held.items self.given self.whole (omega arith)) (c.add_line.ensures.line ∙ found.line) split
    (ap g.R.Read.remaining c.add_line.ensures.reader))

pub returns-then-branch-eq0-clause-none : goal.returns-then-branch-eq0-clause-none
returns-then-branch-eq0-clause-none g c given =
    let new = c.read_on.new.self in
    let end = c.in_ok-read_on-in-None.ensures.end c.if-branch-eq0.true in
    left-none (line_held new) (begun_held new) _ (range-none new.held.items new.given new.whole (omega arith))
    (ap has_feed end.0 ∙ feed-none (begun_held c.loop-place.self) (sym c.line_feed.ensures ∙ c.in-None.is)) end.1
