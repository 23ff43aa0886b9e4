use Rattle.std.proofs.Common.{◌≡◌, ◌+◌, ◌-◌, ◌≤◌, ◌++◌, arith, ap, drop, length, length-append, length-drop, length-take, subst, sym, take, ◌∙◌}
use Rattle.std.specs.Io.KnownBytes.{IsAtEnd}
use Rattle.std.specs.Prelude.{slice_range}
use Rattle.vdcp_journal.proofs.LinesLeft.{left-given, left-same, left_of, range-drop}
use Rattle.vdcp_journal.proofs.whole.WholeLinesRead.read.Goals as goal
use Rattle.vdcp_journal.specs.Reading.{begun_held, line_held}

pub returns-clause-bytes : goal.returns-clause-bytes
returns-clause-bytes g c =
    let found = c.find_line.new.self in
    let line = line_held found in
    let count = c.in_ok-count.count in
    let front = take count c.read.new.buf in
    let read = c.in_ok-count.ensures in
    let parts : line ≡ front ++ c.read.new.self.now =
    ap (λ l. slice_range l found.given found.whole) (sym c.deref.ensures.value) ∙ read.bytes.0 in
    let size : length line ≡ found.whole - found.given =
    omega (arith, found.held.ok.0, length-take (found.whole - found.given) (drop found.given found.held.items), length-drop found.given found.held.items) in
    let given : length line ≡ count + length c.read.new.self.now =
    omega (arith, read.bound.1, ap length parts, length-append front c.read.new.self.now) in
    let within : found.given + count ≤ found.whole = omega (arith, size, given) in
    let rest : c.read.new.self.now ≡ slice_range found.held.items (found.given + count) found.whole =
    read.rest ∙ ap (λ l. drop count (slice_range l found.given found.whole)) c.deref.ensures.value
    ∙ range-drop found.held.items found.given found.whole count within in (
      left-same _ _ _ front c.find_line.ensures.kept
          (left-given line front _ (begun_held found) (g.R.Read.remaining found.reader)
          (parts ∙ ap (λ l. front ++ l) rest)),
      λ none some.
          let all : found.given ≡ found.whole =
          omega (arith, none, size, given, ap length (read.bytes.1 none some)) in
          let same : found.given ≡ found.given + count = omega (arith, none) in
          subst (λ k. IsAtEnd (left_of (slice_range found.held.items k found.whole) (begun_held found)
          (g.R.Read.remaining found.reader))) same (c.in_ok-find_line.ensures.none all),
    )
