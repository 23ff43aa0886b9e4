use Rattle.std.proofs.Common.{◌<ℤ◌, arith, sym}
use Rattle.std.proofs.lemmas.Grind.{common_steps}
use Rattle.vdcp_operator.proofs.start.start_of.Goals as goal

pub returns-in-Some : goal.returns-in-Some
returns-in-Some g c =
    let later : c.in-Ok.now.nanosecond <ℤ c.in_ok-time.time.nanosecond = grind (arith, common_steps) in
    (c.in-Ok.now, c.in_ok-time.time, c.in_ok-time.ensures, later, sym c.in-Some.ensures)
