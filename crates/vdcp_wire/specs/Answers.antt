-- How long an answer goes on.
use Rattle.std.specs.Option.{option_map}
use Rattle.std.specs.Prelude.{ℕ, suc, zero, ◌≡◌, ◌-◌, Bool, true, false, Option, None, Some, nat_le}
use Rattle.vdcp_wire.specs.declared.answering.Answering.{Answering}
use Rattle.vdcp_wire.specs.declared.answering.Since.{Since}
use Rattle.vdcp_wire.specs.declared.answering.Since.TheVariants as since
use Rattle.vdcp_wire.specs.declared.wire.Came.{Came}
use Rattle.vdcp_wire.specs.declared.wire.Came.TheVariants as came

-- bytes have come since the last command, which went out so long ago. (If none came, the wire tells a silence itself)
abbrev pub goes_on_for : Since → (most time : ℕ) → Bool
goes_on_for since.Nothing most time = false
goes_on_for since.Bytes most time = nat_le most time

-- what has come since the last command or silence, with what came now
abbrev pub since_with : Came → Since → Since
since_with came.Silence before = since.Nothing
since_with came.Closed before = before
since_with (came.Bytes zero) before = before
since_with (came.Bytes (suc n)) before = since.Bytes

-- how long an answer may go on, when the last command went out, what has come since, and what the clock showed last
pub record Limit : Type 0 where
  pub most : ℕ
  pub sent : ℕ
  pub since : Since
  pub now : ℕ

abbrev pub limit_of : {C : Type 0} → Option (Answering C) → Option Limit
limit_of a = option_map (λ a. record { most = a.most; sent = a.sent; since = a.since; now = a.stopwatch.now }) a

-- with a limit: this comes
abbrev pub heard : Came → Option Limit → Option Limit
heard what None = None
heard what (Some l) = Some (record l { since = since_with what l.since })

-- the clock was read
abbrev pub IsRead : Option Limit → Option Limit → Type 0
IsRead None new = new ≡ None
IsRead (Some old) new = (now : ℕ) × (new ≡ Some (record old { now = now }))

-- an answer has gone on for too long, by the clock as it was read then
abbrev pub lapses : Option Limit → Option Limit → Bool
lapses None new = false
lapses (Some old) None = false
lapses (Some old) (Some new) = goes_on_for old.since old.most (new.now - old.sent)

-- a command went out, as the clock was read then; or this came
abbrev pub IsSent : Option Limit → Option Limit → Type 0
IsSent None new = new ≡ None
IsSent (Some old) new = (now : ℕ) × (new ≡ Some (record { most = old.most; sent = now; since = since.Nothing; now = now }))

abbrev pub HasCome : Came → Option Limit → Option Limit → Type 0
HasCome what old new = (read : Option Limit) × IsRead old read × (new ≡ heard what read)
