use Rattle.std.proofs.Common.{ℕ, subst, ◌≡◌, ◌<◌, ◌∷◌, [], ap, arith, length, sym, take, ◌∙◌}
use Rattle.std.proofs.lemmas.List.{length-set}
use Rattle.std.specs.Io.KnownBytes.{Consumes}
use Rattle.std.specs.Prelude.{Bool, if◌then◌else◌, slice_set}
use Rattle.vdcp_journal_file.proofs.Closing.{fed, feeds, has_room, reads_on}
use Rattle.vdcp_journal_file.proofs.torn.ClosingRead.read.Goals as goal
use Rattle.vdcp_journal_file.specs.Torn.{feed_after, may_air}

pub returns-then-count-gt0-clause-bytes : goal.returns-then-count-gt0-clause-bytes
returns-then-count-gt0-clause-bytes g c = rw c.if-self.false (
  reads_on (g.R.Read.remaining c.args.self.now.reader) (g.R.Read.remaining c.read.new.self) c.args.self.now.torn.items
      c.hold.new.torn.items (take c.in_ok-count.count c.read.new.buf) c.hold.ensures c.in_ok-count.ensures.bytes.0,
  λ none room. absurd (omega (arith, none, c.if-count-gt0.true)),
)

pub returns-clause-bound : goal.returns-clause-bound
returns-clause-bound g c =
    let room : 0 < length c.read.new.buf =
    has_room c.args.buffer.now c.read.new.buf c.read.auto.buf (sym c.is_empty.ensures ∙ c.if-is_empty.false) in (
      omega (arith, room, length-set c.read.new.buf 0 10),
      sym (ap length (fed c.read.new.buf room)),
    )

pub returns-clause-bytes : goal.returns-clause-bytes
returns-clause-bytes g c =
    let room : 0 < length c.read.new.buf =
    has_room c.args.buffer.now c.read.new.buf c.read.auto.buf (sym c.is_empty.ensures ∙ c.if-is_empty.false) in
    let none : c.in_ok-count.count ≡ 0 = omega (arith, c.if-count-gt0.false) in
    let came : Consumes (g.R.Read.remaining c.args.self.now.reader) (g.R.Read.remaining c.read.new.self) [] =
    subst (λ (n : ℕ). Consumes (g.R.Read.remaining c.args.self.now.reader) (g.R.Read.remaining c.read.new.self) (take n c.read.new.buf)) none c.in_ok-count.ensures.bytes.0 in
    let is_fed : 10 ∷ [] ≡ feed_after c.args.self.now.torn.items [] = ap (λ (b : Bool). if b then 10 ∷ [] else [])
    (c.if-not-may_air.ensures ∙ ap may_air c.as_slice.ensures.value) in
    rw c.if-self.false (
      feeds (g.R.Read.remaining c.args.self.now.reader) (g.R.Read.remaining c.read.new.self) c.args.self.now.torn.items
          (take 1 (slice_set c.read.new.buf 0 10)) (fed c.read.new.buf room ∙ is_fed) came (c.in_ok-count.ensures.bytes.1 none room),
      λ one more. absurd (omega (arith, one)),
    )
