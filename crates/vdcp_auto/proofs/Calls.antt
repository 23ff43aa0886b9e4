-- Each call of a controller keeps what holds of it and its log.
use Rattle.std.proofs.Common.{◌≡◌, ℕ, ◌≤◌, ◌<◌, Bool, true, false, ◌||◌, nat_le, Option, None, Some, List, refl, arith, sym, subst}
use Rattle.std.specs.Prelude.{if◌then◌else◌, slice_get}
use Rattle.std.specs.Option.{option_map, option_map_or}
use Rattle.vdcp_value.specs.declared.part.Item.{Item}
use Rattle.vdcp_value.specs.declared.part.Part.{Part}
use Rattle.vdcp_words.specs.declared.command.Command.{Command}
use Rattle.vdcp_words.specs.declared.command.Command.TheVariants as command
use Rattle.vdcp_auto.specs.declared.exchange.Exchange.{Exchange}
use Rattle.vdcp_auto.specs.declared.exchange.Heard.{Heard}
use Rattle.vdcp_auto.specs.declared.phase.Mode.{Mode}
use Rattle.vdcp_auto.specs.declared.phase.Phase.{Phase}
use Rattle.vdcp_auto.specs.declared.phase.Phase.TheVariants as phase
use Rattle.vdcp_auto.specs.State.{Stage}
use Rattle.vdcp_auto.specs.State.{Ready, Awaiting, Ended}
use Rattle.vdcp_auto.specs.State.{State}
use Rattle.vdcp_auto.specs.Commands.{cue_for, cue_of}
use Rattle.vdcp_auto.specs.Plan.{Plan}
use Rattle.vdcp_auto.specs.Table.{command_in, can_stop}
use Rattle.vdcp_auto.specs.Turn.{start, phase_to_send, ticked, is_end, ended_in, exchange_of, ended_by, came_to, taken, stopped, forgotten}
use Rattle.vdcp_auto.proofs.Memo.{Memo, blank, remember}
use Rattle.vdcp_auto.proofs.Keeps.{InPhase, Holds}
use Rattle.vdcp_auto.proofs.Steps.{Sends, sends_open, sends_select, sends_seen, sends_exists, sends_whole, sends_part, sends_wait, sends_play, sends_probe}
use Rattle.vdcp_auto.proofs.Steps.{sends_check, sends_drain, sends_close, sends_halt, sends_halt_close, exchange, kept}
use Rattle.vdcp_auto.proofs.Rows.{row_kept}

-- What a phase sends.

sends_cue : (list : List Item) (port k : ℕ) (item : Item) → slice_get list k ≡ Some item → (part : Option Part)
    → item.part ≡ part
    → Sends list port (phase.Cue k) (cue_for item.id part)
sends_cue list port k item here None is = sends_whole (rw (here, is) refl)
sends_cue list port k item here (Some part) is = sends_part (rw (here, is) refl)

sends_item : (list : List Item) (port k : ℕ) (c : Command) (found : Option Item) → slice_get list k ≡ found
    → option_map (λ item. command.IdRequest item.id) found ≡ Some c → Sends list port (phase.Exists k) c
sends_item list port k c None here e = cc
sends_item list port k c (Some item) here e = let same : command.IdRequest item.id ≡ c = cc in
    subst (Sends list port (phase.Exists k)) same sends_exists

sends_cued : (list : List Item) (port k : ℕ) (c : Command) (found : Option Item) → slice_get list k ≡ found
    → option_map cue_of found ≡ Some c → Sends list port (phase.Cue k) c
sends_cued list port k c None here e = cc
sends_cued list port k c (Some item) here e = let same : cue_of item ≡ c = cc in
    subst (Sends list port (phase.Cue k)) same
    (sends_cue list port k item here item.part refl)

pub sends_of : (list : List Item) (port : ℕ) (p : Phase) (c : Command) → command_in list port p ≡ Some c
    → Sends list port p c
sends_of list port phase.Open c e = let same : command.Open port 1 ≡ c = cc in
    subst (Sends list port phase.Open) same sends_open
sends_of list port phase.Select c e = let same : command.Select port ≡ c = cc in
    subst (Sends list port phase.Select) same sends_select
sends_of list port phase.Seen c e = let same : command.Status 1 ≡ c = cc in
    subst (Sends list port phase.Seen) same sends_seen
sends_of list port (phase.Exists k) c e = sends_item list port k c (slice_get list k) refl e
sends_of list port (phase.Cue k) c e = sends_cued list port k c (slice_get list k) refl e
sends_of list port (phase.Wait k) c e = let same : command.Status 1 ≡ c = cc in
    subst (Sends list port (phase.Wait k)) same sends_wait
sends_of list port (phase.Play k) c e = let same : command.Play ≡ c = cc in
    subst (Sends list port (phase.Play k)) same sends_play
sends_of list port (phase.Probe k) c e = let same : command.Status 1 ≡ c = cc in
    subst (Sends list port (phase.Probe k)) same sends_probe
sends_of list port (phase.Check k) c e = let same : command.ActiveId ≡ c = cc in
    subst (Sends list port (phase.Check k)) same sends_check
sends_of list port phase.Drain c e = let same : command.Status 1 ≡ c = cc in
    subst (Sends list port phase.Drain) same sends_drain
sends_of list port phase.Close c e = let same : command.Close port ≡ c = cc in
    subst (Sends list port phase.Close) same sends_close
sends_of list port phase.Halt c e = let same : command.Stop ≡ c = cc in
    subst (Sends list port phase.Halt) same sends_halt
sends_of list port phase.HaltClose c e = let same : command.Close port ≡ c = cc in
    subst (Sends list port phase.HaltClose) same sends_halt_close

-- The calls that end no exchange.

pub begun_holds : (plan : Plan) → 1 ≤ plan.limit → Holds plan blank start
begun_holds plan some =
    record { settled = refl; not_early = refl; row = (refl, omega arith); stage = ((refl, refl), refl, refl, refl) }

tick_phase : (mode : Mode) (list : List Item) (m : Memo) (tries : ℕ) (stop : Bool) (p : Phase)
    → InPhase mode list m false stop tries p
    → InPhase mode list m true false tries (phase_to_send stop p)
tick_phase mode list m tries true p holds = grind arith
tick_phase mode list m tries false p holds = grind arith

stop_phase : (mode : Mode) (list : List Item) (m : Memo) (awaiting stop : Bool) (tries : ℕ) (p : Phase)
    → InPhase mode list m awaiting stop tries p
    → InPhase mode list m awaiting (if can_stop p then true else stop) tries p
stop_phase mode list m awaiting stop tries p holds = grind arith

forget_phase : (mode : Mode) (list : List Item) (m : Memo) (awaiting stop : Bool) (tries : ℕ) (p : Phase)
    → InPhase mode list m awaiting stop tries p → InPhase mode list m awaiting false tries p
forget_phase mode list m awaiting stop tries p holds = grind arith

abbrev pub state : Stage → Bool → Bool → ℕ → ℕ → ℕ → State
state stage take stop unanswered settled tries =
    record { stage = stage; take = take; stop = stop; unanswered = unanswered; settled = settled; tries = tries }

tick_holds : (plan : Plan) (m : Memo) (stage : Stage) (take stop : Bool) (unanswered settled tries : ℕ)
    → Holds plan m (state stage take stop unanswered settled tries)
    → Holds plan m (ticked (state stage take stop unanswered settled tries))
tick_holds plan m (Awaiting p) take stop unanswered settled tries holds = holds
tick_holds plan m (Ended outcome) take stop unanswered settled tries holds = holds
tick_holds plan m (Ready p) take stop unanswered settled tries holds = record {
  settled = holds.settled;
  not_early = holds.not_early;
  row = holds.row;
  stage = tick_phase plan.mode plan.list m tries stop p holds.stage;
}

stop_holds : (plan : Plan) (m : Memo) (stage : Stage) (take stop : Bool) (unanswered settled tries : ℕ)
    → Holds plan m (state stage take stop unanswered settled tries)
    → Holds plan m (stopped (state stage take stop unanswered settled tries))
stop_holds plan m (Ended outcome) take stop unanswered settled tries holds = record {
  settled = holds.settled;
  not_early = holds.not_early;
  row = holds.row;
  stage = holds.stage;
}
stop_holds plan m (Ready p) take stop unanswered settled tries holds = record {
  settled = holds.settled;
  not_early = holds.not_early;
  row = holds.row;
  stage = stop_phase plan.mode plan.list m false stop tries p holds.stage;
}
stop_holds plan m (Awaiting p) take stop unanswered settled tries holds = record {
  settled = holds.settled;
  not_early = holds.not_early;
  row = holds.row;
  stage = stop_phase plan.mode plan.list m true stop tries p holds.stage;
}

forget_holds : (plan : Plan) (m : Memo) (stage : Stage) (take stop : Bool) (unanswered settled tries : ℕ)
    → Holds plan m (state stage take stop unanswered settled tries)
    → Holds plan m (forgotten (state stage take stop unanswered settled tries))
forget_holds plan m (Ended outcome) take stop unanswered settled tries holds = record {
  settled = holds.settled;
  not_early = holds.not_early;
  row = holds.row;
  stage = holds.stage;
}
forget_holds plan m (Ready p) take stop unanswered settled tries holds = record {
  settled = holds.settled;
  not_early = holds.not_early;
  row = holds.row;
  stage = forget_phase plan.mode plan.list m false stop tries p holds.stage;
}
forget_holds plan m (Awaiting p) take stop unanswered settled tries holds = record {
  settled = holds.settled;
  not_early = holds.not_early;
  row = holds.row;
  stage = forget_phase plan.mode plan.list m true stop tries p holds.stage;
}

pub ticked_holds : (plan : Plan) (m : Memo) (s : State) → Holds plan m s → Holds plan m (ticked s)
ticked_holds plan m s holds = tick_holds plan m s.stage s.take s.stop s.unanswered s.settled s.tries holds

pub stopped_holds : (plan : Plan) (m : Memo) (s : State) → Holds plan m s → Holds plan m (stopped s)
stopped_holds plan m s holds = stop_holds plan m s.stage s.take s.stop s.unanswered s.settled s.tries holds

pub forgotten_holds : (plan : Plan) (m : Memo) (s : State) → Holds plan m s → Holds plan m (forgotten s)
forgotten_holds plan m s holds =
    forget_holds plan m s.stage s.take s.stop s.unanswered s.settled s.tries holds

pub taken_holds : (plan : Plan) (m : Memo) (s : State) → Holds plan m s → Holds plan m (taken s)
taken_holds plan m s holds =
    record { settled = holds.settled; not_early = holds.not_early; row = holds.row; stage = holds.stage }

-- The calls that may end one.

-- what the log leaves behind with one more exchange, if there is one
abbrev pub remembered : Plan → Memo → Option Exchange → Memo
remembered plan m None = m
remembered plan m (Some e) = remember plan.mode plan.limit m e

not_early_yet : (limit row : ℕ) (early : Bool) → early ≡ false → row < limit → (early || nat_le limit row) ≡ false
not_early_yet limit row early before below = grind arith

-- what holds while a phase awaits its answer
abbrev waiting : Plan → Memo → Phase → Bool → Bool → ℕ → State
waiting plan m p take stop tries = state (Awaiting p) take stop m.row m.count tries

end_holds : (plan : Plan) (m : Memo) (p : Phase) (take stop : Bool) (tries : ℕ) (c : Command) (came : Option Heard)
    → Sends plan.list plan.port p c → is_end plan.mode c came ≡ true → Holds plan m (waiting plan m p take stop tries)
    → Holds plan (remember plan.mode plan.limit m (exchange c came))
    (ended_in plan (Awaiting p) (exchange c came) (waiting plan m p take stop tries))
end_holds plan m p take stop tries c came s ends holds =
    let keeps = kept plan.mode plan.list plan.limit plan.port m take stop tries s came ends holds.stage in
    record {
      settled = keeps.1;
      not_early = not_early_yet plan.limit m.row m.early holds.not_early holds.row.1;
      row = row_kept plan take tries m.row p (exchange c came) holds.row.1;
      stage = keeps.0;
    }

come_if : (plan : Plan) (m : Memo) (p : Phase) (take stop : Bool) (tries : ℕ) (c : Command) (came : Option Heard)
    → Sends plan.list plan.port p c → Holds plan m (waiting plan m p take stop tries) → (ends : Bool)
    → is_end plan.mode c came ≡ ends
    → Holds plan (remembered plan m (if ends then Some (exchange c came) else None))
    (option_map_or (λ e. ended_in plan (Awaiting p) e (waiting plan m p take stop tries))
    (if ends then Some (exchange c came) else None)
    (waiting plan m p take stop tries))
come_if plan m p take stop tries c came s holds true is = end_holds plan m p take stop tries c came s is holds
come_if plan m p take stop tries c came s holds false is = holds

come_for : (plan : Plan) (m : Memo) (p : Phase) (take stop : Bool) (tries : ℕ) (came : Option Heard)
    (c : Option Command)
    → command_in plan.list plan.port p ≡ c → Holds plan m (waiting plan m p take stop tries)
    → Holds plan (remembered plan m (exchange_of plan.mode came c))
    (option_map_or (λ e. ended_in plan (Awaiting p) e (waiting plan m p take stop tries)) (exchange_of plan.mode came c)
    (waiting plan m p take stop tries))
come_for plan m p take stop tries came None is holds = holds
come_for plan m p take stop tries came (Some c) is holds =
    come_if plan m p take stop tries c came (sends_of plan.list plan.port p c is) holds (is_end plan.mode c came) refl

come_waiting : (plan : Plan) (m : Memo) (p : Phase) (take stop : Bool) (unanswered settled tries : ℕ)
    (came : Option Heard)
    → unanswered ≡ m.row → settled ≡ m.count
    → Holds plan m (state (Awaiting p) take stop unanswered settled tries)
    → Holds plan (remembered plan m (ended_by plan came (state (Awaiting p) take stop unanswered settled tries)))
    (came_to plan came (state (Awaiting p) take stop unanswered settled tries))
come_waiting plan m p take stop unanswered settled tries came row count holds =
    let P : ℕ → ℕ → Type 0 =
    λ u n. Holds plan m (state (Awaiting p) take stop u n tries)
    → Holds plan (remembered plan m (ended_by plan came (state (Awaiting p) take stop u n tries)))
    (came_to plan came (state (Awaiting p) take stop u n tries)) in
    let here : P m.row m.count = come_for plan m p take stop tries came (command_in plan.list plan.port p) refl in
    subst (λ n. P unanswered n) (sym count) (subst (λ u. P u m.count) (sym row) here) holds

come_holds : (plan : Plan) (m : Memo) (stage : Stage) (take stop : Bool) (unanswered settled tries : ℕ)
    (came : Option Heard)
    → Holds plan m (state stage take stop unanswered settled tries)
    → Holds plan (remembered plan m (ended_by plan came (state stage take stop unanswered settled tries)))
    (came_to plan came (state stage take stop unanswered settled tries))
come_holds plan m (Ready p) take stop unanswered settled tries came holds = holds
come_holds plan m (Ended outcome) take stop unanswered settled tries came holds = holds
come_holds plan m (Awaiting p) take stop unanswered settled tries came holds =
    come_waiting plan m p take stop unanswered settled tries came holds.row.0 holds.settled holds

pub came_holds : (plan : Plan) (m : Memo) (s : State) (came : Option Heard) → Holds plan m s
    → Holds plan (remembered plan m (ended_by plan came s)) (came_to plan came s)
came_holds plan m s came holds = come_holds plan m s.stage s.take s.stop s.unanswered s.settled s.tries came holds
