use Rattle.std.proofs.Common.{[]}
use Rattle.vdcp_laws.specs.TwoEnds.{new_ends}
use Rattle.vdcp_laws.proofs.Servers.{served_so}
use Rattle.vdcp_laws.proofs.Unsilent.{never_silent}
use Rattle.vdcp_laws.proofs.two_ends.what_is_never_silent_is_in_time.Goals as goal

pub returns : goal.returns
returns g c plan port count a' answer turns below aired run all served carried =
    never_silent (record { bytes = c.steps_are_exchanges.ensures.bytes; came = c.steps_are_exchanges.ensures.came }) plan
    port.state.unit count (new_ends port []) answer a' turns below aired run all (served_so (record {
      goes_on = c.servers_go_on.ensures.acts;
      hooks = c.servers_go_on.ensures.hooks;
      answered = c.what_goes_out_is_answered.ensures;
      acts = c.untorn_turns_are_at_once.ensures.acts;
      items = c.untorn_turns_are_at_once.ensures.items;
    }) (new_ends port []) turns below aired served) carried
