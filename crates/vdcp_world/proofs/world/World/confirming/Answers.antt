use Rattle.vdcp_world.proofs.Reached.{new_reached}
use Rattle.vdcp_world.proofs.world.World.confirming.Goals as goal

pub invariant_of-result : goal.invariant_of-result
invariant_of-result g c =
    rw (c.new.ensures, c.confirming.ensures, c.with_clock.ensures)
    (new_reached _ _ _ _ c.requires.some c.requires.few c.requires.unit (c.ranges.port.fits)
    (g.met.S.Source.of_bytes c.args.source))

pub returns-clause-headline : goal.returns-clause-headline
returns-clause-headline g c =
    c.reached_keeps_the_headline.ensures c.new.result
    (rw (c.new.ensures, c.confirming.ensures, c.with_clock.ensures)
    (new_reached _ _ _ _ c.requires.some c.requires.few c.requires.unit (c.ranges.port.fits)
    (g.met.S.Source.of_bytes c.args.source)))
