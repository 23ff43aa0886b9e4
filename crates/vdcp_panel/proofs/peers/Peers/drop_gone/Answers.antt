use Rattle.std.proofs.Common.{not, rules}
use Rattle.std.proofs.lemmas.List.Elements.{filter_from_retain}
use Rattle.vdcp_panel.proofs.peers.Peers.drop_gone.Goals as goal
use Rattle.vdcp_panel.specs.Lasting.{is_gone}

pub returns : goal.returns
returns g c = filter_from_retain _ (λ peer. not (is_gone peer)) (λ p x b q k. search rules) _ _ _ c.retain.ensures.filtered
