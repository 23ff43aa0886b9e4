use Rattle.std.proofs.Common.{◌≡◌, ◌+◌, ◌++◌, take, arith, ap, rules, subst, ◌∙◌}
use Rattle.std.proofs.lemmas.List.{places, with_items_is}
use Rattle.std.specs.Io.KnownBytes.{Consumes}
use Rattle.std.specs.Prelude.{slice_range}
use Rattle.vdcp_journal.proofs.LinesLeft.{range-more}
use Rattle.vdcp_journal.proofs.whole.WholeLines.read_on.Goals as goal

pub returns-clause-bytes : goal.returns-clause-bytes
returns-clause-bytes g c =
    let room = c.make_room.new.self in
    let all = c.deref_mut.result.now in
    let count = c.in_ok-count.count in
    let front : slice_range all 0 room.filled ≡ slice_range room.held.items room.whole room.filled =
    rw (c.deref_mut.ensures.value, c.make_room.ensures.whole) in (
      take count c.read.new.buf,
      ap (λ l. slice_range l room.whole (room.filled + count)) (with_items_is room.held _ (search (rules, places)))
          ∙ rw c.make_room.ensures.whole (range-more all c.read.new.buf _ room.filled count (omega arith) (omega arith))
          ∙ ap (λ l. l ++ take count c.read.new.buf) (front ∙ c.make_room.ensures.begun),
      subst (λ r. Consumes (g.R.Read.remaining r) (g.R.Read.remaining c.read.new.self) (take count c.read.new.buf))
          c.make_room.ensures.reader c.in_ok-count.ensures.bytes.0,
    )
