-- What a code and a message's struct stand for.
use Rattle.std.specs.Prelude.{ℤ, pos, ◌≡◌, ◌<◌, length, take}
use Rattle.vdcp_frame.specs.declared.message.Fault.{Fault}
use Rattle.vdcp_frame.specs.declared.message.Fault.TheVariants.{BadStart, BadCount, BadSum, Long}
use Rattle.vdcp_frame.specs.declared.got.Ended.{Ended}
use Rattle.vdcp_frame.specs.declared.got.Ended.TheVariants as ended
use Rattle.vdcp_frame.specs.Message.{Content, ack, nak, framed}
use Rattle.vdcp_frame.specs.Reader.{Answer, message, more, wrong}
use Rattle.vdcp_c.specs.declared.message.vdcp_message.{vdcp_message}

-- the struct has this message
abbrev pub IsContent : vdcp_message → Content → Type 0
IsContent m ack = m.kind ≡ 1
IsContent m (nak byte) = (m.kind ≡ 2) × (m.code ≡ byte)
IsContent m (framed kind unit code rest) =
    (m.kind ≡ 3) × (m.sort ≡ kind) × (m.unit ≡ unit) × (m.code ≡ code)
    × (m.count ≡ length rest) × (take m.count m.data ≡ rest)
    × (kind < 16) × (unit < 16) × (m.count < 254)

abbrev pub fault_code : Fault → ℤ
fault_code BadStart = pos 2
fault_code (BadCount count) = pos 3
fault_code BadSum = pos 4
fault_code Long = pos 5

-- the code of an answer
abbrev pub code_of : Answer → ℤ
code_of more = pos 0
code_of (message content) = pos 1
code_of (wrong which place) = fault_code which

-- the struct tells the rest of it: the message, or the fault's place
abbrev pub Shows : vdcp_message → Answer → Type 0
Shows m more = Unit {0}
Shows m (message content) = IsContent m content
Shows m (wrong which place) = m.count ≡ place

abbrev pub end_code : Ended → ℤ
end_code ended.Clean = pos 0
end_code (ended.Cut count) = pos 1
end_code ended.AfterFault = pos 2

-- no call has made the struct
abbrev pub bad_state : ℤ
bad_state = pos 100

-- the struct is no message
abbrev pub bad_message : ℤ
bad_message = pos 101

-- no command or reply
abbrev pub bad_command : ℤ
bad_command = pos 102

-- a number is out of its range
abbrev pub bad_value : ℤ
bad_value = pos 103

-- the IDs of a table don't ascend
abbrev pub bad_table : ℤ
bad_table = pos 105
