use Rattle.vdcp_world.proofs.Reached.{new_reached}
use Rattle.vdcp_world.proofs.world.World.with_clock.Goals as goal

pub invariant_of-result : goal.invariant_of-result
invariant_of-result g c =
    rw (c.new-2.ensures, c.new.ensures, c.with_clock.ensures)
    (new_reached _ _ _ _ c.requires.some c.requires.few c.requires.unit (c.ranges.port.fits)
    (g.met.S.Source.of_bytes c.args.source))

pub returns-clause-headline : goal.returns-clause-headline
returns-clause-headline g c =
    c.reached_keeps_the_headline.ensures c.new-2.result
    (rw (c.new-2.ensures, c.new.ensures, c.with_clock.ensures)
    (new_reached _ _ _ _ c.requires.some c.requires.few c.requires.unit (c.ranges.port.fits)
    (g.met.S.Source.of_bytes c.args.source)))
