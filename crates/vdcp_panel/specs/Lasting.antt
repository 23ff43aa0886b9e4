-- How long a connection stays, and when there is more to do of it.
use Rattle.std.specs.Prelude.{ℕ, ◌≡◌, ◌+◌, ◌-◌, ◌^◌, ◌&&◌, ◌||◌, Bool, true, false, List, [], ◌∷◌, if◌then◌else◌, min, nat_le, not}
use Rattle.std.specs.declared.io.ErrorKind.{ErrorKind}
use Rattle.std.specs.declared.io.ErrorKind.TheVariants.{WouldBlock, Interrupted}
use Rattle.vdcp_panel.specs.declared.peer.Peer.{Peer}
use Rattle.vdcp_panel.specs.declared.peer.Stay.{Stay}
use Rattle.vdcp_panel.specs.declared.peer.Stay.TheVariants as stays

-- of a write and a read: one that ends the connection ends it, and one that moved bytes made it active
abbrev pub both : Stay → Stay → Stay
both stays.Gone other = stays.Gone
both stays.Active stays.Gone = stays.Gone
both stays.Active stays.Active = stays.Active
both stays.Active stays.Waiting = stays.Active
both stays.Waiting other = other

-- of one that failed so
abbrev pub stay_of_kind : ErrorKind → Stay
stay_of_kind WouldBlock = stays.Waiting
stay_of_kind Interrupted = stays.Active
stay_of_kind _ = stays.Gone

-- when it is given up: ten seconds after its last answer, in milliseconds
abbrev pub due_of : {T : Type 0} → Peer T → ℕ
due_of p = min (p.answered + 10000) (2 ^ 64 - 1)

abbrev pub stay_at : (now due : ℕ) → Stay → Stay
stay_at now due stay = if nat_le due now then stays.Gone else stay

abbrev pub active_at : (now before : ℕ) → Stay → ℕ
active_at now before stays.Active = now
active_at now before stays.Waiting = before
active_at now before stays.Gone = before

-- what a turn did to it, and whether it is due, say whether it stays
abbrev pub Stays : {T : Type 0} → (now : ℕ) → Peer T → Peer T → Type 0
Stays now old new = (did : Stay) × (new.stay ≡ stay_at now (due_of new) did) × (new.active ≡ active_at now old.active did)

abbrev pub is_over : Stay → Bool
is_over stays.Gone = true
is_over stays.Active = false
is_over stays.Waiting = false

abbrev pub is_gone : {T : Type 0} → Peer T → Bool
is_gone p = is_over p.stay

-- there may be more to do at once
abbrev pub is_busy : {T : Type 0} → Peer T → Bool
is_busy p = not p.is_blocked && not (is_gone p)

-- the same of some of these
abbrev pub are_busy : {T : Type 0} → List (Peer T) → Bool
are_busy [] = false
are_busy (p ∷ peers) = is_busy p || are_busy peers

-- when the first of them is given up; the end of time if there is none
abbrev pub first_due : {T : Type 0} → List (Peer T) → ℕ
first_due [] = 2 ^ 64 - 1
first_due (p ∷ peers) = min (due_of p) (first_due peers)
