use Rattle.vdcp_world.proofs.HeadlineProof.{fewer, but_one, complete}
use Rattle.vdcp_world.proofs.world.World.reported.Goals as goal

pub returns-clause-settled : goal.returns-clause-settled
returns-clause-settled g c =
    rw (← c.self.view_is, c.reported.ensures) (c.reached_keeps_the_headline.ensures _ c.self.invariant).is_settled

pub returns-clause-aired : goal.returns-clause-aired
returns-clause-aired g c =
    rw (← c.self.view_is, c.reported.ensures) (fewer _ (c.reached_keeps_the_headline.ensures _ c.self.invariant))

pub returns-clause-but_one : goal.returns-clause-but_one
returns-clause-but_one g c =
    rw (← c.self.view_is, c.reported.ensures) (but_one _ (c.reached_keeps_the_headline.ensures _ c.self.invariant))

pub returns-clause-beginning : goal.returns-clause-beginning
returns-clause-beginning g c =
    rw (← c.self.view_is, c.reported.ensures) (c.reached_keeps_the_headline.ensures _ c.self.invariant).reported

pub returns-clause-within : goal.returns-clause-within
returns-clause-within g c =
    rw (← c.self.view_is, c.reported.ensures) (c.reached_keeps_the_headline.ensures _ c.self.invariant).count

pub returns-clause-complete : goal.returns-clause-complete
returns-clause-complete g c =
    rw (← c.self.view_is, c.reported.ensures) (complete _ (c.reached_keeps_the_headline.ensures _ c.self.invariant))
