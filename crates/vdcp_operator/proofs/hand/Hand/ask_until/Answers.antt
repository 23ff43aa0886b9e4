use Rattle.std.proofs.Common.{sym, ◌∙◌, refl}
use Rattle.std.specs.Prelude.{None}
use Rattle.vdcp_operator.proofs.Pacing.{paces_nothing, paces_on}
use Rattle.vdcp_operator.proofs.hand.Hand.ask_until.Goals as goal
use Rattle.vdcp_operator.specs.Hands.{unasked, once_more}

pub asks-init : goal.asks-init
asks-init g c = record {
  list = refl;
  start = refl;
  commands = refl;
  paces = paces_nothing _;
  going = sym c.ends.ensures ∙ c.if-ends.false;
  asked = unasked;
}

pub asks-preserved : goal.asks-preserved
asks-preserved g c =
    let heeds = rw c.asks.invariant.list at c.look-said.ensures.heeds in
    let paced = rw c.look-said.ensures.rest at c.wait_piece.ensures.paces in
    record {
      list = rw (c.tell_waiting.ensures, c.wait_piece.ensures.rest, c.look-said.ensures.rest) c.asks.invariant.list;
      start = rw (c.tell_waiting.ensures, c.wait_piece.ensures.rest, c.look-said.ensures.rest) c.asks.invariant.start;
      commands = rw (c.tell_waiting.ensures, c.wait_piece.ensures.rest, c.look-said.ensures.rest) c.asks.invariant.commands;
      paces = rw c.tell_waiting.ensures (paces_on None _ _ _ c.asks.invariant.paces paced);
      going = rw (c.tell_waiting.ensures, c.wait_piece.ensures.rest) (sym c.ends-in-asks.ensures ∙ c.if-ends-2.false);
      asked = rw (c.tell_waiting.ensures, c.wait_piece.ensures.rest) (once_more c.asks.invariant.asked c.asks.invariant.going heeds);
    }

pub returns-then-ends-clause-asks : goal.returns-then-ends-clause-asks
returns-then-ends-clause-asks g c = unasked

pub returns-then-ends-2-clause-asks : goal.returns-then-ends-2-clause-asks
returns-then-ends-2-clause-asks g c =
    once_more c.asks.invariant.asked c.asks.invariant.going (rw c.asks.invariant.list at c.look-said.ensures.heeds)

pub returns-then-wait_piece-clause-asks : goal.returns-then-wait_piece-clause-asks
returns-then-wait_piece-clause-asks g c =
    rw c.wait_piece.ensures.rest
    (once_more c.asks.invariant.asked c.asks.invariant.going (rw c.asks.invariant.list at c.look-said.ensures.heeds))
