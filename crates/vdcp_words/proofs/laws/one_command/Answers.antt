use Rattle.vdcp_words.proofs.CommandLaws.{one_command_reading}
use Rattle.vdcp_words.proofs.CommandReading.{command_computed}
use Rattle.vdcp_words.proofs.laws.one_command.Goals as goal

pub returns-clause-some : goal.returns-clause-some
returns-clause-some c = command_computed c.ids_are_bytes.ensures

pub returns-clause-only : goal.returns-clause-only
returns-clause-only c = one_command_reading c.ids_are_bytes.ensures
