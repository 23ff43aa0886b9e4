-- What is heard of some bursts, computed from the definitions.
use Rattle.std.specs.Prelude.{◌≡◌, ℕ, Bool, true, false, Option, None, Some, List, [], ◌∷◌, ◌++◌, map, refl}
use Rattle.vdcp_auto.specs.declared.exchange.Heard.{Heard}
use Rattle.vdcp_auto.specs.declared.exchange.Heard.TheVariants as heard
use Rattle.vdcp_words.specs.declared.reply.Reply.TheVariants as reply
use Rattle.vdcp_auto.specs.Heard.{heard_in, hears_receipt}

-- unit 0 grants the port
abbrev granted : List ℕ
granted = 0x02 ∷ 0x03 ∷ 0x30 ∷ 0x81 ∷ 0x01 ∷ 0x4e ∷ []

abbrev granted_with_a_bad_sum : List ℕ
granted_with_a_bad_sum = 0x02 ∷ 0x03 ∷ 0x30 ∷ 0x81 ∷ 0x01 ∷ 0x4f ∷ []

abbrev granted_cut : List ℕ
granted_cut = 0x02 ∷ 0x03 ∷ 0x30 ∷ 0x81 ∷ []

abbrev ack : List ℕ
ack = 0x04 ∷ []

abbrev nak : ℕ → List ℕ
nak byte = 0x05 ∷ byte ∷ []

-- STATUS as a command of unit 0
abbrev a_command : List ℕ
a_command = 0x02 ∷ 0x03 ∷ 0x30 ∷ 0x05 ∷ 0x01 ∷ 0xca ∷ []

-- a state reply without its bitmap
abbrev a_short_reply : List ℕ
a_short_reply = 0x02 ∷ 0x02 ∷ 0x30 ∷ 0x85 ∷ 0x4b ∷ []

-- an automation that asked this unit hears this in the burst, and it is a receipt or not
record Row : Type 0 where
  unit : ℕ
  burst : List ℕ
  heard : Option Heard
  is_receipt : Bool

abbrev row : ℕ → List ℕ → Option Heard → Bool → Row
row unit burst heard is_receipt = record { unit = unit; burst = burst; heard = heard; is_receipt = is_receipt }

abbrev rows : List Row
rows =
    row 0 granted (Some (heard.Reply (reply.Opened true))) false
    -- a framed message is heard from its unit alone, ACK and NAK from each
    ∷ row 1 granted (Some heard.Other) false
    ∷ row 0 ack (Some (heard.Reply reply.Ack)) true
    ∷ row 7 ack (Some (heard.Reply reply.Ack)) true
    ∷ row 7 (nak 0x80) (Some (heard.Reply (reply.Nak 0x80))) true
    ∷ row 0 (nak 0x04) (Some (heard.Reply (reply.Nak 0x04))) true
    -- what is no reply
    ∷ row 0 a_command (Some heard.Other) false
    ∷ row 0 a_short_reply (Some heard.Other) false
    -- the first message is heard, and nothing after it
    ∷ row 0 (ack ++ nak 0x01) (Some (heard.Reply reply.Ack)) true
    ∷ row 0 (granted ++ 0xff ∷ []) (Some (heard.Reply (reply.Opened true))) false
    -- without a whole message first, nothing is heard
    ∷ row 0 [] None false
    ∷ row 0 (0xff ∷ ack) None false
    ∷ row 0 granted_with_a_bad_sum None false
    ∷ row 0 granted_cut None false
    ∷ []

rows_are_heard : map (λ r. heard_in r.unit r.burst) rows ≡ map (λ r. r.heard) rows
rows_are_heard = refl

rows_are_receipts : map (λ r. hears_receipt (heard_in r.unit r.burst)) rows ≡ map (λ r. r.is_receipt) rows
rows_are_receipts = refl
