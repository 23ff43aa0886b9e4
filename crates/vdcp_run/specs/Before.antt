-- What the runs of a journal say of an event of its list.
use Rattle.std.specs.Prelude.{ℕ, ◌≡◌, ◌-◌, Bool, true, false, List, [], ◌∷◌, Option, None, Some, Result, Ok, if◌then◌else◌, nat_eq, nat_lt, slice_get}
use Rattle.vdcp_auto.specs.declared.outcome.Outcome.{Outcome}
use Rattle.vdcp_auto.specs.declared.outcome.Outcome.TheVariants as outcome
use Rattle.vdcp_journal.specs.declared.airings.Airing.{Airing}
use Rattle.vdcp_journal_file.specs.declared.reading.Refusal.{Refusal}
use Rattle.vdcp_journal_file.specs.declared.reading.RunAirings.{RunAirings}
use Rattle.vdcp_operator.specs.declared.seen.EventBefore.{EventBefore}
use Rattle.vdcp_operator.specs.declared.seen.Reason.{Reason}
use Rattle.vdcp_operator.specs.declared.seen.Reason.TheVariants as reasons
use Rattle.vdcp_operator.specs.declared.seen.Record.{Record}
use Rattle.vdcp_operator.specs.declared.seen.Record.TheVariants as records
use Rattle.vdcp_run.specs.declared.before.Said.{Said}
use Rattle.vdcp_run.specs.declared.before.Said.TheVariants.{LeftOut, MayHaveAired, Aired}

abbrev pub is_this : Option ℕ → ℕ → Bool
is_this None k = false
is_this (Some n) k = nat_eq n k

-- a run shows that it aired so, or else that it may have aired; what is known goes before what may be
abbrev pub said_or : Said → Option Airing → Bool → Said
said_or said (Some airing) may = Aired airing
said_or LeftOut None true = MayHaveAired
said_or LeftOut None false = LeftOut
said_or MayHaveAired None may = MayHaveAired
said_or (Aired airing) None may = Aired airing

-- after one run more, of whose events from its first on the airings are
abbrev pub said_after : Said → RunAirings → ℕ → Said
said_after said run event =
    if nat_lt event run.from then said
    else said_or said (slice_get run.airings.items (event - run.from)) (is_this run.unsettled (event - run.from))

abbrev pub said_from : Said → List RunAirings → ℕ → Said
said_from said [] event = said
said_from said (run ∷ runs) event = said_from (said_after said run event) runs event

-- run after run, the last one that shows that it aired counts
abbrev pub said_of : List RunAirings → ℕ → Said
said_of runs event = said_from LeftOut runs event

abbrev pub kept_by : Said → Record
kept_by LeftOut = records.LeftOut
kept_by MayHaveAired = records.MayHaveAired
kept_by (Aired airing) = records.Aired

-- a run ended with this event since the server didn't have its clip; or since a command was refused
abbrev pub ends_missing : Result (ℕ × Option Outcome) Refusal → ℕ → Bool
ends_missing (Ok (first, Some (outcome.Missing k))) event = nat_eq first event
ends_missing ended event = false

abbrev pub ends_refused : Result (ℕ × Option Outcome) Refusal → ℕ → Bool
ends_refused (Ok (first, Some (outcome.Refused k))) event = nat_eq first event
ends_refused ended event = false

-- why no run plays an event: the first run that ended so with it says it, else the operator left it out
abbrev pub why_left_out : List RunAirings → ℕ → Reason
why_left_out [] event = reasons.ByHand
why_left_out (run ∷ runs) event = if ends_missing run.ended event then reasons.Missing
    else (if ends_refused run.ended event then reasons.Refused else why_left_out runs event)

abbrev pub why_by : Said → List RunAirings → ℕ → Option Reason
why_by LeftOut runs event = Some (why_left_out runs event)
why_by said runs event = None

-- an event of a page is said to have aired, or that it may have, or that it was left out, and why, as the runs show
abbrev pub IsSaidBy : List RunAirings → EventBefore → Type 0
IsSaidBy runs b = (b.kept ≡ kept_by (said_of runs b.number)) × (b.why ≡ why_by (said_of runs b.number) runs b.number)
