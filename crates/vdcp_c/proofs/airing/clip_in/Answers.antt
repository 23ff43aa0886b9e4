-- A struct says one thing.
use Rattle.vdcp_c.proofs.Airings.{clip_airs}
use Rattle.vdcp_c.proofs.airing.clip_in.Goals as goal

pub returns-clause-accepts : goal.returns-clause-accepts
returns-clause-accepts c clip is =
    clip_airs c.an_id_is_its_bytes.ensures.one c.args.a.now c.new.result c.in_ok-part.part clip c.if-a-eq0.false c.new.ensures
    c.in_ok-part.ensures.some is
