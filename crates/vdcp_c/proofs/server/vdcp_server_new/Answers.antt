-- A new port is new over any clips.
use Rattle.std.proofs.Common.{ℕ, sym, subst}
use Rattle.vdcp_c.specs.Clips.{clips_of}
use Rattle.vdcp_c.specs.Ports.{IsRate}
use Rattle.vdcp_c.proofs.server.vdcp_server_new.Goals as goal

pub returns-clause-new : goal.returns-clause-new
returns-clause-new c _ rows =
    let rate = c.in-Some._rate in (
      rate,
      c.in-Some.ensures.some,
      record {
        rate = rate;
        rate_is = subst (λ (code : ℕ). IsRate code rate) (sym c.put_kept.ensures.rate) c.in-Some.ensures.some;
        kept = c.new_kept.result;
        keeps = c.put_kept.ensures.kept;
        can = c.new_kept.ensures.can (clips_of rate rows);
        port_is = sym (c.new_kept.ensures.new (clips_of rate rows));
      },
    )
