-- The exchanges that a captured line shows.
use Rattle.std.specs.List.{flat_map}
use Rattle.std.specs.Option.{option_map, option_to_list}
use Rattle.std.specs.Prelude.{ℕ, nat_eq, Option, None, Some, Result, Ok, Err, List, [], ◌∷◌, if◌then◌else◌}
use Rattle.vdcp_auto.specs.Heard.{heard_as}
use Rattle.vdcp_auto.specs.Turn.{is_end}
use Rattle.vdcp_auto.specs.declared.exchange.Exchange.{Exchange}
use Rattle.vdcp_auto.specs.declared.exchange.Heard.{Heard}
use Rattle.vdcp_auto.specs.declared.phase.Mode.{Mode}
use Rattle.vdcp_frame.specs.Burst.{messages_of}
use Rattle.vdcp_frame.specs.Message.{Content, ack, nak, framed}
use Rattle.vdcp_auto.specs.declared.burst.Way.{Way}
use Rattle.vdcp_auto.specs.declared.burst.Way.TheVariants.{Down, Up}
use Rattle.vdcp_auto.specs.declared.capture.Captured.{Captured}
use Rattle.vdcp_auto.specs.declared.capture.Captured.TheVariants.{Sent, Came, Silence}
use Rattle.vdcp_words.specs.Computed.{command_of}
use Rattle.vdcp_words.specs.declared.command.Command.{Command}
use Rattle.vdcp_words.specs.declared.fault.WordFault.{WordFault}

-- What a burst says.

abbrev pub command_read : Result Command WordFault → Option Command
command_read (Ok c) = Some c
command_read (Err fault) = None

-- the command that a message carries to the unit
abbrev pub command_as : ℕ → Content → Option Command
command_as unit ack = None
command_as unit (nak byte) = None
command_as unit (framed kind to code rest) =
    if nat_eq to unit then command_read (command_of (framed kind to code rest)) else None

-- a message that went down counts if it is a command to the unit, one that came up in any case
abbrev pub captured_as : ℕ → Way → Content → Option Captured
captured_as unit Down m = option_map Sent (command_as unit m)
captured_as unit Up m = Some (Came (heard_as unit m))

-- each message of the burst that counts, in order
abbrev pub captured_in : ℕ → Way → List ℕ → List Captured
captured_in unit way burst = flat_map (λ m. option_to_list (captured_as unit way m)) (messages_of burst)

-- What these show.

-- what a command has heard, of what was captured after it: the first that ends its exchange. At a silence, at the
-- next command and at the end of the capture it has heard nothing
abbrev pub heard_for : Mode → Command → List Captured → Option Heard
heard_for mode c [] = None
heard_for mode c (Sent next ∷ more) = None
heard_for mode c (Silence ∷ more) = None
heard_for mode c (Came h ∷ more) = if is_end mode c (Some h) then Some h else heard_for mode c more

-- each command with what it has heard; what comes at other times is passed over
abbrev pub exchanges_in : Mode → List Captured → List Exchange
exchanges_in mode [] = []
exchanges_in mode (Sent c ∷ more) = record { command = c; heard = heard_for mode c more } ∷ exchanges_in mode more
exchanges_in mode (Came h ∷ more) = exchanges_in mode more
exchanges_in mode (Silence ∷ more) = exchanges_in mode more

-- the exchanges from here on, the first of which is that of a command that is awaited
abbrev pub exchanges_from : Mode → Option Command → List Captured → List Exchange
exchanges_from mode None captured = exchanges_in mode captured
exchanges_from mode (Some c) captured =
    record { command = c; heard = heard_for mode c captured } ∷ exchanges_in mode captured

-- the command that is awaited after this
abbrev pub awaited_after : Mode → Option Command → Captured → Option Command
awaited_after mode awaited (Sent c) = Some c
awaited_after mode awaited Silence = None
awaited_after mode None (Came h) = None
awaited_after mode (Some c) (Came h) = if is_end mode c (Some h) then None else Some c

-- the exchange that this ends, if it ends one
abbrev pub ended_at : Mode → Option Command → Captured → Option Exchange
ended_at mode None captured = None
ended_at mode (Some c) (Sent next) = Some (record { command = c; heard = None })
ended_at mode (Some c) Silence = Some (record { command = c; heard = None })
ended_at mode (Some c) (Came h) =
    if is_end mode c (Some h) then Some (record { command = c; heard = Some h }) else None
