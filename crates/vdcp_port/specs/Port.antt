-- The state of a port, as its table speaks of it.
use Rattle.std.specs.Prelude.{ℕ, Bool, true, false, Option, None, Some}
use Rattle.vdcp_value.specs.declared.part.Item.{Item}
use Rattle.vdcp_port.specs.declared.access.Access.{Access}
use Rattle.vdcp_port.specs.declared.access.Access.TheVariants.{Closed, Open, Selected}

-- the slot of what airs next
pub data Cued : Type 0 where
  empty : Cued
  cueing : (item : Item) → Cued
  done : (item : Item) → Cued

abbrev pub is_empty : Cued → Bool
is_empty empty = true
is_empty (cueing item) = false
is_empty (done item) = false

abbrev pub is_cueing : Cued → Bool
is_cueing empty = false
is_cueing (cueing item) = true
is_cueing (done item) = false

abbrev pub is_done : Cued → Bool
is_done empty = false
is_done (cueing item) = false
is_done (done item) = true

-- its unit address and number; whether it is open and selected; and the two slots
pub record PortState : Type 0 where
  pub unit : ℕ
  pub number : ℕ
  pub access : Access
  pub cued : Cued
  pub playing : Option Item

abbrev pub new_state : ℕ → ℕ → PortState
new_state unit number = record { unit = unit; number = number; access = Closed; cued = empty; playing = None }

abbrev pub lets_select : Access → Bool
lets_select Closed = false
lets_select Open = true
lets_select Selected = true

abbrev pub lets_control : Access → Bool
lets_control Closed = false
lets_control Open = false
lets_control Selected = true

abbrev pub is_open : PortState → Bool
is_open p = lets_select p.access

-- a selected port is open
abbrev pub is_selected : PortState → Bool
is_selected p = lets_control p.access

abbrev pub opened : Access → Access
opened Closed = Open
opened Open = Open
opened Selected = Selected

-- two empty slots set bit 0, a cue under way bit 1, an item on the air bit 2, and a cue that is done bit 7
abbrev pub state_byte_of : Cued → Option Item → ℕ
state_byte_of empty None = 0x01
state_byte_of empty (Some clip) = 0x04
state_byte_of (cueing item) None = 0x02
state_byte_of (cueing item) (Some clip) = 0x06
state_byte_of (done item) None = 0x80
state_byte_of (done item) (Some clip) = 0x84

abbrev pub state_byte : PortState → ℕ
state_byte p = state_byte_of p.cued p.playing

abbrev pub made_ready : Cued → Cued
made_ready empty = empty
made_ready (cueing item) = done item
made_ready (done item) = done item

-- the cue is done
abbrev pub ready_state : PortState → PortState
ready_state p = record p { cued = made_ready p.cued }

-- the clip has ended
abbrev pub ended_state : PortState → PortState
ended_state p = record p { playing = None }
