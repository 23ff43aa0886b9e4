-- A new judge knows of no exchange.
use Rattle.std.proofs.Common.{ap, ◌∙◌}
use Rattle.vdcp_c.specs.Controllers.{mode_code}
use Rattle.vdcp_c.specs.Lists.{items_of}
use Rattle.vdcp_c.proofs.judging.vdcp_judging_new.Goals as goal

pub returns-clause-new : goal.returns-clause-new
returns-clause-new c _ = (
  c.new_notes.result,
  c.put.ensures,
  ap mode_code c.new_notes.ensures.mode ∙ c.in-Some.ensures.some,
  λ rows. c.new_notes.ensures.knows (items_of rows),
)
