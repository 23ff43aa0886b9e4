-- One call of next after another.
use Rattle.std.proofs.Common.{◌∙◌, refl, sym, ap, arith}
use Rattle.vdcp_frame.specs.Reader.{answer_of}
use Rattle.vdcp_drive.proofs.Taking.{answers_further, begins_so, breaks_off, fitting, goes_further, is_whole, left_more, left_on, left_once, left_wrong, on_err_of}
use Rattle.vdcp_drive.proofs.server.Listener.take_piece.Goals as goal

pub piece-init : goal.piece-init
piece-init g c = record {
  works = c.requires;
  hears = refl;
  taken = begins_so g.W.Wire.does c.args.self.now.hearing c.args.self.now.port c.args.self.now.reader
      c.args.self.now.aired c.args.wire.now c.args.piece.now;
}

pub piece-preserved-in-AtOnce : goal.piece-preserved-in-AtOnce
piece-preserved-in-AtOnce g c =
    let s = c.args.self.now in
    let i = c.piece.invariant in
    let r = rw (ap answer_of c.in-Message.is) at c.next.follows.holds-at-none in
    let answers = c.in_ok-answer-in-Message.ensures in record {
      works = answers.works;
      hears = i.hears;
      taken = answers_further c.laws_below.ensures c.one_alone.ensures.aired c.silence.new.self
          (fitting c.args.piece.now (λ j. omega (arith, c.type_inv.piece j))) i.taken r
          (left_once s.hearing _ c.next.follows.lender-at-none (sym i.hears ∙ c.in-AtOnce.is) ∙ sym c.silence.ensures.new)
          answers.next answers.airs answers.sent;
    }

pub piece-preserved-in_default : goal.piece-preserved-in_default
piece-preserved-in_default g c =
    let s = c.args.self.now in
    let i = c.piece.invariant in
    let r = rw (ap answer_of c.in-Message.is) at c.next.follows.holds-at-none in
    let answers = c.in_ok-answer-in-Message.ensures in record {
      works = answers.works;
      hears = i.hears;
      taken = answers_further c.laws_below.ensures c.one_alone.ensures.aired c.next.follows.lender-at-none
          (fitting c.args.piece.now (λ j. omega (arith, c.type_inv.piece j))) i.taken r
          (left_on s.hearing _ c.next.follows.lender-at-none (λ is. c.in_default.not-AtOnce (i.hears ∙ is)))
          answers.next answers.airs answers.sent;
    }

pub returns-in_err-answer-in-Message-clause-broken : goal.returns-in_err-answer-in-Message-clause-broken
returns-in_err-answer-in-Message-clause-broken g c ear h =
    let i = c.piece.invariant in
    let r = rw (ap answer_of c.in-Message.is) at c.next.follows.holds-at-none in
    let answers = c.in_err-answer-in-Message.ensures in
    on_err_of c.from_residual.result
    (breaks_off c.laws_below.ensures c.one_alone.ensures.aired
    (fitting c.args.piece.now (λ j. omega (arith, c.type_inv.piece j))) i.taken r answers.next answers.airs answers.front ear h)

pub returns-in_err-answer-in-Message-clause-fits : goal.returns-in_err-answer-in-Message-clause-fits
returns-in_err-answer-in-Message-clause-fits g c = fitting c.args.piece.now (λ j. omega (arith, c.type_inv.piece j))

pub piece-preserved : goal.piece-preserved
piece-preserved g c =
    let i = c.piece.invariant in
    let r = rw (ap answer_of c.in-Fault.is) at c.next.follows.holds-at-none in record {
      works = i.works;
      hears = i.hears;
      taken = goes_further c.laws_below.ensures c.next.follows.lender-at-none
          (fitting c.args.piece.now (λ j. omega (arith, c.type_inv.piece j))) i.taken r
          (left_wrong c.args.self.now.hearing _ _ c.next.follows.lender-at-none) refl refl refl;
    }

pub returns-in-More-clause-taken : goal.returns-in-More-clause-taken
returns-in-More-clause-taken g c ear h =
    let r = rw (ap answer_of c.in-More.is) at c.next.follows.holds-at-none in
    is_whole (goes_further c.laws_below.ensures c.next.follows.lender-at-none
    (fitting c.args.piece.now (λ j. omega (arith, c.type_inv.piece j))) c.piece.invariant.taken r
    (left_more c.args.self.now.hearing c.next.follows.lender-at-none) refl refl refl) c.in-More.ensures.shorter ear h

pub returns-in-More-clause-fits : goal.returns-in-More-clause-fits
returns-in-More-clause-fits g c = fitting c.args.piece.now (λ j. omega (arith, c.type_inv.piece j))
