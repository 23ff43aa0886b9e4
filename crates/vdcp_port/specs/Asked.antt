-- What a message asks of a port.
use Rattle.std.specs.Prelude.{ℕ, nat_eq, Result, Ok, Err, if◌then◌else◌}
use Rattle.vdcp_frame.specs.Message.{Content, ack, nak, framed}
use Rattle.vdcp_words.specs.Computed.{command_of}
use Rattle.vdcp_words.specs.declared.command.Command.{Command}
use Rattle.vdcp_words.specs.declared.fault.WordFault.{WordFault}
use Rattle.vdcp_port.specs.declared.asked.Asked.{Asked}
use Rattle.vdcp_port.specs.declared.asked.Asked.TheVariants as asked

-- what a framed message asks, by how it is read as a command
abbrev pub asked_by : Result Command WordFault → Asked
asked_by (Ok command) = asked.Command command
asked_by (Err fault) = asked.NoCommand

-- what a message asks of the port at a unit address: ACK, NAK and what is framed to another unit ask nothing
abbrev pub asked_of : ℕ → Content → Asked
asked_of unit ack = asked.Nothing
asked_of unit (nak byte) = asked.Nothing
asked_of unit (framed kind to code rest) =
    if nat_eq to unit then asked_by (command_of (framed kind to code rest)) else asked.Nothing
