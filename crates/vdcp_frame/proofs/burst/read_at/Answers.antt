-- What a head found after the first bytes says of the burst.
use Rattle.std.proofs.Common.{◌≡◌, ℕ, ◌-◌, ◌≤◌, List, length, take, subst, arith}
use Rattle.std.proofs.lemmas.List.{length-drop, length-take}
use Rattle.vdcp_frame.specs.Message.{Content, content_of}
use Rattle.vdcp_frame.specs.Head.{IsPart, IsWrong, IsFound}
use Rattle.vdcp_frame.specs.Reading.{SpellsAll, Reads}
use Rattle.vdcp_frame.specs.Burst.{unfinished_end}
use Rattle.vdcp_frame.proofs.HeadLemmas.{part_unfinished}
use Rattle.vdcp_frame.proofs.ReadingLemmas.{left, left_parts, next_front, found_spelt, found_further, unfinished_clean, unfinished_cut, reads_short, reads_long, reads_wrong}
use Rattle.vdcp_frame.proofs.burst.read_at.Goals as goal

found_here : (c : goal.In-Found)
    → IsFound (left 4096 c.args.burst.now c.args.from) (content_of c.in-Found.message) c.in-Found.size
found_here c = subst (λ (r : List ℕ). IsFound r
    (content_of c.in-Found.message) c.in-Found.size) c.left.ensures c.in-Found.ensures

pub returns-in-Found-clause-message : goal.returns-in-Found-clause-message
returns-in-Found-clause-message c =
    found_spelt 4096 c.args.burst.now c.args.from c.requires.limit (content_of c.in-Found.message) c.in-Found.size
    (found_here c)

pub returns-in-Found-clause-further : goal.returns-in-Found-clause-further
returns-in-Found-clause-further c =
    found_further 4096 c.args.burst.now c.args.from c.requires.limit (content_of c.in-Found.message) c.in-Found.size
    (found_here c)

pub returns-in-Found-clause-next : goal.returns-in-Found-clause-next
returns-in-Found-clause-next c ms all =
    next_front 4096 c.args.burst.now c.args.from c.requires.limit ms (content_of c.in-Found.message) c.in-Found.size
    (found_here c) all

pub returns-in-Wrong-clause-end : goal.returns-in-Wrong-clause-end
returns-in-Wrong-clause-end c ms all =
    reads_wrong 4096 c.args.burst.now c.args.from c.requires.limit ms c.in-Wrong.fault c.in-Wrong.size c.requires.within
    all
    (subst (λ (r : List ℕ). IsWrong r c.in-Wrong.fault c.in-Wrong.size) c.left.ensures c.in-Wrong.ensures)

pub returns-in-Part-clause-end : goal.returns-in-Part-clause-end
returns-in-Part-clause-end c ms all =
    let rest : List ℕ = left 4096 c.args.burst.now c.args.from in
    let part = subst (λ (r : List ℕ). IsPart r c.in-Part.field-0) c.left.ensures c.in-Part.ensures in
    reads_long 4096 c.args.burst.now ms (take c.args.from c.args.burst.now) rest
    (left_parts 4096 c.args.burst.now c.args.from c.requires.limit) all
    (part_unfinished rest c.in-Part.field-0 part) c.if-burst-gt-LIMIT.true

-- a short burst ends here
ends : (burst : List ℕ) (from needs : ℕ) (ms : List Content) → from ≤ 4096 → length burst ≤ 4096
    → SpellsAll ms (take from burst)
    → IsPart (left 4096 burst from) needs → Reads burst ms (unfinished_end (left 4096 burst from))
ends burst from needs ms limit short all part =
    reads_short 4096 burst ms (take from burst) (left 4096 burst from) (left_parts 4096 burst from limit) all
    (part_unfinished (left 4096 burst from) needs part) short

pub returns-in-Part-2-clause-end : goal.returns-in-Part-2-clause-end
returns-in-Part-2-clause-end c ms all =
    let rest : List ℕ = left 4096 c.args.burst.now c.args.from in
    let part = subst (λ (r : List ℕ). IsPart r c.in-Part-2.field-0) c.left.ensures c.in-Part-2.ensures in
    let none : length rest ≡ 0 =
    omega (
      arith,
      c.if-burst-from.true,
      length-drop c.args.from (take 4096 c.args.burst.now),
      length-take 4096 c.args.burst.now,
    ) in
    subst (Reads c.args.burst.now ms) (unfinished_clean rest none)
    (ends c.args.burst.now c.args.from c.in-Part-2.field-0 ms c.requires.limit
    (omega (arith, c.if-burst-gt-LIMIT.false)) all part)

pub returns-in-Part-3-clause-end : goal.returns-in-Part-3-clause-end
returns-in-Part-3-clause-end c ms all =
    let rest : List ℕ = left 4096 c.args.burst.now c.args.from in
    let part = subst (λ (r : List ℕ). IsPart r c.in-Part-3.field-0) c.left.ensures c.in-Part-3.ensures in
    let size : length rest ≡ length c.args.burst.now - c.args.from =
    omega (
      arith,
      c.if-burst-gt-LIMIT.false,
      length-drop c.args.from (take 4096 c.args.burst.now),
      length-take 4096 c.args.burst.now,
    ) in
    subst (Reads c.args.burst.now ms)
    (unfinished_cut rest (length c.args.burst.now - c.args.from) size
    (omega (arith, c.requires.within, c.if-burst-from.false)))
    (ends c.args.burst.now c.args.from c.in-Part-3.field-0 ms c.requires.limit
    (omega (arith, c.if-burst-gt-LIMIT.false)) all part)
