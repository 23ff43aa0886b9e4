-- What the call of feed gives, and what it leaves of the piece.
use Rattle.std.proofs.Common.{◌≡◌, ℕ, ◌-◌, List, ◌++◌, length, take, drop, refl, sym, subst}
use Rattle.std.proofs.lemmas.List.{take_rest}
use Rattle.vdcp_frame.specs.Reader.{Answer, answer_of, FollowsNext}
use Rattle.vdcp_frame.specs.Progress.{Progress}
use Rattle.vdcp_frame.specs.Pieces.{GoesOn}
use Rattle.vdcp_frame.proofs.FeedLemmas.{gives_on}
use Rattle.vdcp_frame.proofs.FollowLemmas.{next_followed}
use Rattle.vdcp_frame.proofs.reader.Reader.next.Goals as goal

pub returns : goal.returns
returns c =
    let old : Progress = c.args.self.now in
    let new : Progress = c.feed.follows.lender-at-none in
    let piece : List ℕ = c.args.rest.now.now in
    let n : ℕ = c.feed.result.0 in
    let answer : Answer = answer_of c.feed.result.1 in
    let left : take (length piece - n) (drop n piece) ≡ drop n piece = take_rest piece n in (
      (
        refl,
        (λ _. tt),
        record {
          count = n;
          gives = c.feed.ensures.gives;
          after = c.feed.follows.holds-at-none;
          leaves = left;
          follows = λ burst ms f. next_followed (burst ++ take n piece) ms answer new
              (subst (FollowsNext (burst ++ take n piece) ms answer) (sym c.feed.follows.holds-at-none)
              (c.feed.ensures.follows burst ms f));
        },
      ),
      record {
        shorter = subst (GoesOn answer piece) (sym left) (gives_on old piece n answer c.feed.ensures.gives);
        reads = tt;
      },
    )
