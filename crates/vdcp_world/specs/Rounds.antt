-- Rounds: a command, what the port makes of it, and what the controller hears.
use Rattle.std.specs.Prelude.{ℕ, zero, suc, List, [], ◌∷◌, ◌++◌}
use Rattle.vdcp_world.specs.declared.event.Event.{Event}
use Rattle.vdcp_world.specs.declared.event.Event.TheVariants.{Tick, Down, Up, Timeout, Ready, End}

-- nothing is lost on the way
abbrev pub round : List Event
round = Tick ∷ Down ∷ Up ∷ []

-- what was awaited has timed out, and what the port waited for has come, before it
abbrev pub good_round : List Event
good_round = Timeout ∷ Ready ∷ End ∷ round

-- some events, n times over
abbrev pub times : ℕ → List Event → List Event
times zero events = []
times (suc n) events = events ++ times n events
