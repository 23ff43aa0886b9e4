use Rattle.std.proofs.Common.{◌∙◌}
use Rattle.vdcp_list.proofs.Events.{same_test}
use Rattle.vdcp_list.proofs.asrun.is_lawful.Goals as goal

pub returns : goal.returns
returns c = c.is_ok.ensures.value ∙ same_test _ _ c.from_bcd.ensures.lawful
