-- What a controller hears of a message and of a burst.
use Rattle.std.specs.Prelude.{ℕ, Bool, false, nat_eq, List, [], ◌∷◌, Option, None, Some, Result, Ok, Err, if◌then◌else◌}
use Rattle.vdcp_frame.specs.Burst.{messages_of}
use Rattle.vdcp_frame.specs.Message.{Content, ack, nak, framed}
use Rattle.vdcp_words.specs.Computed.{reply_of}
use Rattle.vdcp_words.specs.declared.fault.WordFault.{WordFault}
use Rattle.vdcp_words.specs.declared.reply.Reply.{Reply}
use Rattle.vdcp_auto.specs.Replies.{is_receipt}
use Rattle.vdcp_auto.specs.declared.exchange.Heard.{Heard}
use Rattle.vdcp_auto.specs.declared.exchange.Heard.TheVariants as heard

-- the reply that was read, or else something other
abbrev pub heard_by : Result Reply WordFault → Heard
heard_by (Ok reply) = heard.Reply reply
heard_by (Err fault) = heard.Other

-- a message as an answer from this unit. ACK and NAK name no unit and count as from any; a framed message of
-- another unit is no reply
abbrev pub heard_as : ℕ → Content → Heard
heard_as unit ack = heard_by (reply_of ack)
heard_as unit (nak byte) = heard_by (reply_of (nak byte))
heard_as unit (framed kind from code rest) =
    if nat_eq from unit then heard_by (reply_of (framed kind from code rest)) else heard.Other

-- of several messages the first is heard, of none nothing
abbrev pub heard_first : ℕ → List Content → Option Heard
heard_first unit [] = None
heard_first unit (m ∷ ms) = Some (heard_as unit m)

-- what is heard of a burst: its first message
abbrev pub heard_in : ℕ → List ℕ → Option Heard
heard_in unit burst = heard_first unit (messages_of burst)

-- an ACK or a NAK is heard
abbrev pub hears_receipt : Option Heard → Bool
hears_receipt None = false
hears_receipt (Some heard.Other) = false
hears_receipt (Some (heard.Reply r)) = is_receipt r
