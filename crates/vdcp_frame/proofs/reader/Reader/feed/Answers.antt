-- What a call gives, from what the bytes held and those that come give.
use Rattle.std.proofs.Common.{ℕ, List, length, refl, arith}
use Rattle.vdcp_frame.specs.Progress.{Progress}
use Rattle.vdcp_frame.specs.Reader.{Answer, answer_of, more}
use Rattle.vdcp_frame.proofs.ReaderLemmas.{gives_follows}
use Rattle.vdcp_frame.proofs.FeedLemmas.{failed_fed, is_reading, fed_at, gives_within, gives_some}
use Rattle.vdcp_frame.proofs.reader.Reader.feed.Goals as goal

pub returns-in-Failed : goal.returns-in-Failed
returns-in-Failed c =
    let now : Progress = c.args.self.now in
    let piece : List ℕ = c.args.piece.now in
    let f = failed_fed c.self.inside.place c.self.inside.buffer now piece c.self.view_is c.in-Failed.is in (
      (refl, (λ _. tt), f.after),
      record {
        within = gives_within now piece (length piece) more f.gives;
        some = gives_some now piece (length piece) more f.gives;
        gives = f.gives;
        follows = λ burst ms h. gives_follows burst ms now piece (length piece) more f.gives h;
        after = tt;
      },
    )

pub invariant_of-self-2 : goal.invariant_of-self-2
invariant_of-self-2 c =
    let buffer : List ℕ = c.self.inside.buffer in
    let filled : List ℕ = c.fill-count.new.buffer in
    let answer : Answer = answer_of c.read_front-count.result.1 in
    let taken : ℕ = c.in-Reading.taken in
    let held : ℕ = c.in-Reading.held in
    let r = is_reading c.self.inside.place buffer c.args.self.now taken held c.self.view_is c.self.invariant
    c.in-Reading.is in
    (fed_at taken held c.fill-count.result c.read_front-count.result.0 c.args.piece.now buffer filled c.args.self.now
    answer c.further-self-inside.result r c.fill-count.ensures.kept (omega (arith, c.fill-count.ensures.within, c.fill-count.array_long))
    c.fill-count.ensures.front
    c.read_front-count.ensures.gives c.read_front-count.ensures.whole c.further-self-inside.ensures).inside

pub returns : goal.returns
returns c =
    let now : Progress = c.args.self.now in
    let piece : List ℕ = c.args.piece.now in
    let buffer : List ℕ = c.self.inside.buffer in
    let filled : List ℕ = c.fill-count.new.buffer in
    let n : ℕ = c.read_front-count.result.0 in
    let answer : Answer = answer_of c.read_front-count.result.1 in
    let taken : ℕ = c.in-Reading.taken in
    let held : ℕ = c.in-Reading.held in
    let r = is_reading c.self.inside.place buffer now taken held c.self.view_is c.self.invariant c.in-Reading.is in
    let f = fed_at taken held c.fill-count.result n piece buffer filled now answer c.further-self-inside.result r
    c.fill-count.ensures.kept (omega (arith, c.fill-count.ensures.within, c.fill-count.array_long))
    c.fill-count.ensures.front
    c.read_front-count.ensures.gives c.read_front-count.ensures.whole c.further-self-inside.ensures in (
      (refl, (λ _. tt), f.after),
      record {
        within = gives_within now piece n answer f.gives;
        some = gives_some now piece n answer f.gives;
        gives = f.gives;
        follows = λ burst ms h. gives_follows burst ms now piece n answer f.gives h;
        after = tt;
      },
    )
