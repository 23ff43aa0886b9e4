-- Messages by type, code and data.
use Rattle.std.specs.Prelude.{ℕ, ◌≡◌, List, []}
use Rattle.vdcp_frame.specs.Message.{Content, ack, nak, framed}

-- a type, a code and data
pub record Form : Type 0 where
  pub kind : ℕ
  pub code : ℕ
  pub rest : List ℕ

abbrev pub form : ℕ → ℕ → List ℕ → Form
form kind code rest = record { kind = kind; code = code; rest = rest }

-- the framed message of that type, code and data to or from a unit
abbrev pub framed_form : ℕ → Form → Content
framed_form unit f = framed f.kind unit f.code f.rest

-- the unit that a framed message is addressed to
abbrev pub unit_of : Content → ℕ
unit_of ack = 0
unit_of (nak byte) = 0
unit_of (framed kind unit code rest) = unit

-- the data of a framed message
abbrev pub rest_of : Content → List ℕ
rest_of ack = []
rest_of (nak byte) = []
rest_of (framed kind unit code rest) = rest

-- ACK and NAK, which have no type and code
abbrev pub IsReceipt : Content → Type 0
IsReceipt ack = Unit {0}
IsReceipt (nak byte) = Unit {0}
IsReceipt (framed kind unit code rest) = ⊥

abbrev pub IsFramed : Content → Type 0
IsFramed ack = ⊥
IsFramed (nak byte) = ⊥
IsFramed (framed kind unit code rest) = Unit {0}

-- the message is framed and has this type and code
abbrev pub HasCode : ℕ → ℕ → Content → Type 0
HasCode kind code ack = ⊥
HasCode kind code (nak byte) = ⊥
HasCode kind code (framed kind' unit code' rest) = (kind' ≡ kind) × (code' ≡ code)

-- both are framed, with one type and code
abbrev pub SameCode : Content → Content → Type 0
SameCode ack other = ⊥
SameCode (nak byte) other = ⊥
SameCode (framed kind unit code rest) other = HasCode kind code other
