-- What is carried of a command, and of what comes for it, by what the wires tell that was sent.
use Rattle.std.specs.Io.KnownBytes.{Appends, Keeps}
use Rattle.std.specs.Prelude.{ℕ, ◌⊎◌, List, [], Option, None, Some}
use Rattle.vdcp_wire.specs.Wires.{Told}
use Rattle.vdcp_lossy.specs.Doings.{CanBe, IsForged, goes_on, joined}
use Rattle.vdcp_lossy.specs.declared.session.Brought.{Brought}
use Rattle.vdcp_lossy.specs.declared.session.Brought.TheVariants as brought
use Rattle.vdcp_lossy.specs.declared.doing.Doing.{Doing}
use Rattle.vdcp_auto.specs.declared.burst.Way.{Way}
use Rattle.vdcp_auto.specs.declared.burst.Way.TheVariants as way

-- the bytes that went out, if a wire tells them
abbrev pub sent_by : Option Told → Option (List ℕ)
sent_by None = None
sent_by (Some told) = Some told.sent

-- what went on of a burst that came this way is what can be done with it
pub record PassesOn (w : Way) (came : List ℕ) (old new : Option Told) : Type 0 where
  pub doing : Doing
  pub can : CanBe w came doing
  pub sent : Appends (sent_by old) (sent_by new) (joined (goes_on doing came))

-- a receipt went on in place of nothing
pub record ComesOfNothing (old new : Option Told) : Type 0 where
  pub doing : Doing
  pub forged : IsForged doing
  pub sent : Appends (sent_by old) (sent_by new) (joined (goes_on doing []))

-- what went up for what a server brought: of a burst what can be done with it; of none nothing, or a receipt; else
-- nothing
abbrev pub GoesUp : Brought → List ℕ → Option Told → Option Told → Type 0
GoesUp (brought.Burst began) came old new = PassesOn way.Up came old new
GoesUp brought.Long came old new = Keeps (sent_by old) (sent_by new)
GoesUp brought.Nothing came old new = Keeps (sent_by old) (sent_by new) ⊎ ComesOfNothing old new
GoesUp (brought.Over end) came old new = Keeps (sent_by old) (sent_by new)
