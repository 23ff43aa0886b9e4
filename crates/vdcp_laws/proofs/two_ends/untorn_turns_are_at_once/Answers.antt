use Rattle.vdcp_laws.proofs.Untorn.{Laws, begun_same}
use Rattle.vdcp_laws.proofs.two_ends.untorn_turns_are_at_once.Goals as goal

pub returns : goal.returns
returns c =
    let law : Laws = record {
      spelt = c.what_is_below.ensures.spelt;
      completed = c.what_is_below.ensures.completed;
      whole = c.written_is_read.ensures.computed;
      left = c.servers_go_on.ensures.left;
      acts = c.servers_go_on.ensures.acts;
      hooks = c.servers_go_on.ensures.hooks;
    } in
    record {
      acts = λ port turns u. (begun_same law port turns u).acts;
      items = λ port turns u. (begun_same law port turns u).items;
      port = λ port turns u. (begun_same law port turns u).port;
    }
