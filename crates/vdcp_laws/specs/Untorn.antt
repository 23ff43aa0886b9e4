-- A server that hears at silences, none of which tears a command, as one that hears at once.
use Rattle.std.specs.Prelude.{ℕ, List, [], ◌∷◌, ◌++◌, length}
use Rattle.vdcp_frame.specs.Message.{Content}
use Rattle.vdcp_frame.specs.Reader.{FollowsReading}
use Rattle.vdcp_frame.specs.Reading.{AreMessages}
use Rattle.vdcp_port.specs.Clock.{ClockedPort}
use Rattle.vdcp_wire.specs.Wires.{bytes, silence, close}
use Rattle.vdcp_drive.specs.Serving.{Service, begins, left_by}
use Rattle.vdcp_drive.specs.Turns.{Turn, frame, listen}
use Rattle.vdcp_drive.specs.declared.hearing.Hearing.TheVariants.{AtSilences}

-- a server that began with this port and hears at silences, after these turns
abbrev pub server_at_silences : ClockedPort → List Turn → Service
server_at_silences port turns = left_by (begins AtSilences port) turns

-- the burst so far is read without a fault
abbrev pub IsRead : List ℕ → Type 0
IsRead burst = (ms : List Content) × (held : List ℕ) × FollowsReading burst ms (length burst) held

-- In these turns, behind this burst so far, no burst has a fault, and each silence comes after whole commands.
abbrev pub AreUntorn : List ℕ → List Turn → Type 0
AreUntorn burst [] = Unit {0}
AreUntorn burst (listen (bytes piece) ∷ later) = IsRead (burst ++ piece) × AreUntorn (burst ++ piece) later
AreUntorn burst (listen silence ∷ later) = AreMessages burst × AreUntorn [] later
AreUntorn burst (listen close ∷ later) = AreUntorn burst later
AreUntorn burst (frame ∷ later) = AreUntorn burst later

-- the same turns at once: after each silence a frame passes
abbrev pub at_once_for : List Turn → List Turn
at_once_for [] = []
at_once_for (listen (bytes piece) ∷ later) = listen (bytes piece) ∷ at_once_for later
at_once_for (listen silence ∷ later) = listen silence ∷ frame ∷ at_once_for later
at_once_for (listen close ∷ later) = listen close ∷ at_once_for later
at_once_for (frame ∷ later) = frame ∷ at_once_for later
