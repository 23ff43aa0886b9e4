use Rattle.vdcp_laws.proofs.AsNew.{as_new, can_follow, carried_since}
use Rattle.vdcp_laws.proofs.two_ends.an_answered_connection_is_as_new.Goals as goal

pub returns : goal.returns
returns c = record {
  as_new = as_new c.what_is_below.ensures;
  begins = can_follow c.what_is_below.ensures;
  carried = λ e autos below new c. carried_since e new.come c;
}
