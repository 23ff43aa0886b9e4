use Rattle.std.proofs.Common.{ℕ, List, [], ◌∷◌, take, ap, arith}
use Rattle.vdcp_frame.specs.Message.{AreOctets}
use Rattle.vdcp_frame.specs.Reader.{answer_of}
use Rattle.vdcp_drive.specs.Reading.{held_by}
use Rattle.vdcp_drive.proofs.Taking.{fitting}
use Rattle.vdcp_drive.proofs.Completing.{HasHeard, heard_of}
use Rattle.vdcp_drive.proofs.at_once.AtOnceEar.read.Goals as goal

pub returns-in-Message : goal.returns-in-Message
returns-in-Message c =
    let piece : List ℕ = c.args.piece.now in
    let n : ℕ = c.feed.result.0 in
    let fits : AreOctets piece = fitting piece (λ i. omega (arith, c.type_inv.piece i)) in
    let h = heard_of c.laws_below.ensures c.args.unit c.self.inside.reader piece n (answer_of c.feed.result.1)
    c.self.invariant fits c.feed.ensures.gives c.feed.ensures.follows in
    let r : HasHeard c.args.unit c.args.self.now (take n piece) (held_by c.silence.new.self)
    (c.of_message-heard.result ∷ []) =
    rw (← c.self.view_is, c.silence.ensures.new, c.of_message-heard.ensures) (rw (ap answer_of c.in-Message.is) at h).0 in
    record { within = c.feed.ensures.within; some = c.feed.ensures.some; takes = r.takes; hears = r.hears }

pub returns-in-More : goal.returns-in-More
returns-in-More c =
    let piece : List ℕ = c.args.piece.now in
    let n : ℕ = c.feed.result.0 in
    let fits : AreOctets piece = fitting piece (λ i. omega (arith, c.type_inv.piece i)) in
    let h = heard_of c.laws_below.ensures c.args.unit c.self.inside.reader piece n (answer_of c.feed.result.1)
    c.self.invariant fits c.feed.ensures.gives c.feed.ensures.follows in
    let r : HasHeard c.args.unit c.args.self.now (take n piece) (held_by c.feed.follows.lender-at-none) [] =
    rw (← c.self.view_is, rw (ap answer_of c.in-More.is) at c.feed.follows.holds-at-none)
    (rw (ap answer_of c.in-More.is) at h).0 in
    record { within = c.feed.ensures.within; some = c.feed.ensures.some; takes = r.takes; hears = r.hears }

pub returns-in-Fault : goal.returns-in-Fault
returns-in-Fault c =
    let piece : List ℕ = c.args.piece.now in
    let n : ℕ = c.feed.result.0 in
    let fits : AreOctets piece = fitting piece (λ i. omega (arith, c.type_inv.piece i)) in
    let h = heard_of c.laws_below.ensures c.args.unit c.self.inside.reader piece n (answer_of c.feed.result.1)
    c.self.invariant fits c.feed.ensures.gives c.feed.ensures.follows in
    let r : HasHeard c.args.unit c.args.self.now (take n piece) (held_by c.feed.follows.lender-at-none) [] =
    rw (← c.self.view_is, rw (ap answer_of c.in-Fault.is) at c.feed.follows.holds-at-none)
    (rw (ap answer_of c.in-Fault.is) at h).0 in
    record { within = c.feed.ensures.within; some = c.feed.ensures.some; takes = r.takes; hears = r.hears }

pub invariant_of-self-in-More : goal.invariant_of-self-in-More
invariant_of-self-in-More c =
    let piece : List ℕ = c.args.piece.now in
    let n : ℕ = c.feed.result.0 in
    let fits : AreOctets piece = fitting piece (λ i. omega (arith, c.type_inv.piece i)) in
    let h = heard_of c.laws_below.ensures c.args.unit c.self.inside.reader piece n (answer_of c.feed.result.1)
    c.self.invariant fits c.feed.ensures.gives c.feed.ensures.follows in
    rw (rw (ap answer_of c.in-More.is) at c.feed.follows.holds-at-none) (rw (ap answer_of c.in-More.is) at h).1
