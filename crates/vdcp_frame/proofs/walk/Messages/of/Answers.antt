-- A walk begins at the burst's first byte.
use Rattle.std.proofs.Common.{◌<◌, [], refl, arith}
use Rattle.std.proofs.lemmas.List.Elements.{All-from_get_or}
use Rattle.vdcp_frame.proofs.walk.Messages.of.Goals as goal

pub invariant_of-result : goal.invariant_of-result
invariant_of-result c = (
  record {
    limit = omega arith;
    within = omega arith;
    whole = ([], refl);
    fits = All-from_get_or (λ b. b < 256) c.args.burst.now 0 (λ i h. omega (arith, c.type_inv.burst i));
  },
  tt,
)
