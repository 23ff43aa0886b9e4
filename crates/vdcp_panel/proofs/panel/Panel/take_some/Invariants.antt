-- The connections alone change.
use Rattle.std.proofs.Common.{◌≡◌}
use Rattle.vdcp_panel.proofs.panel.Panel.take_some.Given as goal

abbrev pub invariant-news : goal.invariant-news
invariant-news l = l.self ≡ record l.fn.self { poll = l.self.poll; peers = l.self.peers }
