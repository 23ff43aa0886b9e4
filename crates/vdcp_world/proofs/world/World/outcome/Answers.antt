use Rattle.std.proofs.Common.{sym, ◌∙◌}
use Rattle.vdcp_auto.specs.declared.outcome.Outcome.TheVariants.{Denied, Foreign, Strange}
use Rattle.vdcp_world.proofs.HeadlineProof.{never}
use Rattle.vdcp_world.proofs.world.World.outcome.Goals as goal

pub returns-clause-means : goal.returns-clause-means
returns-clause-means g c =
    rw (← c.self.view_is, c.outcome.ensures) (c.reached_keeps_the_headline.ensures _ c.self.invariant).ended

pub returns-clause-not_denied : goal.returns-clause-not_denied
returns-clause-not_denied g c = λ is.
    never _ Denied (c.reached_keeps_the_headline.ensures _ c.self.invariant) (sym c.outcome.ensures ∙ is)

pub returns-clause-not_foreign : goal.returns-clause-not_foreign
returns-clause-not_foreign g c = λ k is.
    never _ (Foreign k) (c.reached_keeps_the_headline.ensures _ c.self.invariant) (sym c.outcome.ensures ∙ is)

pub returns-clause-not_strange : goal.returns-clause-not_strange
returns-clause-not_strange g c = λ k is.
    never _ (Strange k) (c.reached_keeps_the_headline.ensures _ c.self.invariant) (sym c.outcome.ensures ∙ is)

pub returns-clause-leaves : goal.returns-clause-leaves
returns-clause-leaves g c =
    rw (← c.self.view_is, c.outcome.ensures) (c.an_end_leaves_the_port_at_rest.ensures _ c.self.invariant)
