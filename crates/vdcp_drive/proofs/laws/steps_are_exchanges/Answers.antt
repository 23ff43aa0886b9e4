use Rattle.vdcp_drive.proofs.Telling.{steps_commands}
use Rattle.vdcp_drive.proofs.Tracing.{steps_kept, steps_bytes, steps_came}
use Rattle.vdcp_drive.proofs.laws.steps_are_exchanges.Goals as goal

pub returns-clause-rows : goal.returns-clause-rows
returns-clause-rows g c plan unit a came = steps_kept g.E.Ear.fold plan unit a came

pub returns-clause-commands : goal.returns-clause-commands
returns-clause-commands g c plan unit a came = steps_commands g.E.Ear.fold plan unit a came

pub returns-clause-bytes : goal.returns-clause-bytes
returns-clause-bytes g c plan unit a came = steps_bytes g.E.Ear.fold plan unit a came

pub returns-clause-came : goal.returns-clause-came
returns-clause-came g c plan unit a came = steps_came g.E.Ear.fold plan unit a came
