-- They were asked, and none that waits ended it.
use Rattle.std.proofs.Common.{◌≡◌}
use Rattle.std.specs.Prelude.{None, false}
use Rattle.vdcp_operator.proofs.hand.Hand.ask_until.Given as goal
use Rattle.vdcp_operator.specs.Hands.{Asks, ends_by}
use Rattle.vdcp_operator.specs.Polls.{Paces}

abbrev pub invariant-asks : goal.invariant-asks
invariant-asks g l = record {
  list : l.self.list ≡ l.initial.self.list;
  start : l.self.start ≡ l.initial.self.start;
  commands : l.self.commands ≡ l.initial.self.commands;
  paces : Paces None l.initial.self.polling l.self.polling;
  going : ends_by l.ender l.self.waiting.items ≡ false;
  asked : Asks (ends_by l.ender) g.S.Source.items g.I.Read.remaining l.controller l.initial.self.list l.initial.self.waiting.items
      l.initial.self.page l.initial.self.typed l.self.waiting.items l.self.page l.self.typed;
}
