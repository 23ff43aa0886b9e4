-- What is asked before a list's own commands: whether the port is empty, or when the clip before ends. An automation of its own
-- asks, of which only questions go out.
use Rattle.std.specs.Prelude.{ℕ, ◌≡◌, ◌⊎◌, ◌-◌, Bool, true, false, not, ◌&&◌, ◌||◌, ◌==◌, if◌then◌else◌, is_some, nat_eq, All, List, [], Option, None, Some, Result, Ok, Err}
use Rattle.vdcp_auto.specs.Plan.{Plan, View, plan_of}
use Rattle.vdcp_auto.specs.State.{State, Stage, Ready}
use Rattle.vdcp_auto.specs.Turn as turns
use Rattle.vdcp_auto.specs.Turn.{given, outcome_of}
use Rattle.vdcp_auto.specs.declared.exchange.Heard.{Heard}
use Rattle.vdcp_auto.specs.declared.exchange.Heard.TheVariants as heard
use Rattle.vdcp_auto.specs.declared.outcome.Outcome.{Outcome}
use Rattle.vdcp_auto.specs.declared.outcome.Outcome.TheVariants.{Denied, Lost, Refused, Strange}
use Rattle.vdcp_auto.specs.declared.phase.Mode.{Mode}
use Rattle.vdcp_auto.specs.declared.phase.Mode.TheVariants.{Plain, Confirming}
use Rattle.vdcp_auto.specs.declared.phase.Phase.TheVariants as phase
use Rattle.vdcp_drive.specs.Auto.{Auto}
use Rattle.vdcp_drive.specs.Ears.{Fold}
use Rattle.vdcp_drive.specs.Leaves.{HasRun}
use Rattle.vdcp_drive.specs.Steps.{Rules, World}
use Rattle.vdcp_drive.specs.declared.hooks.BrokenOff.{BrokenOff}
use Rattle.vdcp_drive.specs.declared.hooks.BrokenOff.TheVariants as fault
use Rattle.vdcp_drive.specs.declared.hooks.Kept.{Kept}
use Rattle.vdcp_drive.specs.declared.hooks.Kept.TheVariants as kept
use Rattle.vdcp_drive.specs.declared.hooks.Next.{Next}
use Rattle.vdcp_drive.specs.declared.hooks.Next.TheVariants as next
use Rattle.vdcp_drive.specs.declared.line.Ran.{Ran}
use Rattle.vdcp_drive.specs.declared.line.Ran.TheVariants as ran
use Rattle.vdcp_list.specs.Rests.{FromEvent, items_left}
use Rattle.vdcp_operator.specs.Waiting.{first_held, is_called}
use Rattle.vdcp_operator.specs.declared.on_list.OnList.{OnList}
use Rattle.vdcp_operator.specs.declared.typed.Said.{Said}
use Rattle.vdcp_operator.specs.declared.typed.Said.TheVariants as said
use Rattle.vdcp_run.specs.declared.asking.Purpose.{Purpose}
use Rattle.vdcp_run.specs.declared.asking.Purpose.TheVariants as purpose
use Rattle.vdcp_run.specs.declared.run_end.LineEnd.{LineEnd}
use Rattle.vdcp_run.specs.declared.run_end.LineEnd.TheVariants as line_end
use Rattle.vdcp_run.specs.declared.run_end.Signs.{Signs}
use Rattle.vdcp_run.specs.declared.run_end.Why.TheVariants as why
use Rattle.vdcp_run.specs.declared.settings.RunSettings.{RunSettings}
use Rattle.vdcp_value.specs.declared.part.Item.{Item}
use Rattle.vdcp_wire.specs.Acts.{Act}
use Rattle.vdcp_words.specs.declared.command.Command.{Command}
use Rattle.vdcp_words.specs.declared.command.Command.TheVariants as command
use Rattle.vdcp_words.specs.declared.reply.Reply.TheVariants as reply

-- what a session begins with: its controller's plan and state, and the event of the list from which that plays
pub record Start : Type 0 where
  pub plan : Plan
  pub from : ℕ
  pub state : State

abbrev pub start_of : {S : Type 0} → (S → List Item) → View (FromEvent S) → Start
start_of items controller = record {
  plan = plan_of (items_left items) controller;
  from = controller.source.from;
  state = controller.state;
}

-- ---- what is asked, if anything is

-- the next command is OPEN
abbrev pub is_opening : Option Command → Bool
is_opening None = false
is_opening (Some (command.Open port mode)) = true
is_opening (Some other) = false

-- the event whose PLAY may have been lost, or is held; or, in confirm mode, whose state is asked next
abbrev pub waits_in : Mode → (holds : Bool) → Stage → Option (Purpose × ℕ)
waits_in mode holds (Ready (phase.Probe k)) = Some (purpose.ClipEnd, k)
waits_in mode true (Ready (phase.Play k)) = Some (purpose.Hold, k)
waits_in mode true (Ready (phase.Wait k)) = Some (purpose.Hold, k)
waits_in Confirming false (Ready (phase.Wait k)) = Some (purpose.Port, k)
waits_in mode holds _ = None

-- an automation that asks: for what, by which list, and from which state
pub record Asker : Type 0 where
  pub purpose : Purpose
  pub plan : Plan
  pub state : State

-- it waits as for the clip before, and NAK 01 ends that; or it asks by an empty list, if the port is to be asked and is opened next
abbrev pub asker_with : Bool → Start → Option (Purpose × ℕ) → Option Asker
asker_with ask start (Some waits) = Some (record {
  purpose = waits.0;
  plan = record start.plan { mode = Plain };
  state = record start.state { stage = Ready (phase.Wait waits.1) };
})
asker_with ask start None = if ask && is_opening (given start.plan start.state) then Some (record {
  purpose = purpose.Vacancy;
  plan = record start.plan { list = [] };
  state = turns.start;
}) else None

abbrev pub asker_of : (ask holds : Bool) → Start → Option Asker
asker_of ask holds start = asker_with ask start (waits_in start.plan.mode holds start.state.stage)

-- a question to this port
abbrev pub IsAsked : ℕ → Command → Type 0
IsAsked port c = (c ≡ command.Open port 1) ⊎ (c ≡ command.Select port) ⊎ (c ≡ command.Status 1)

-- questions before the next command of a session's controller: the port is opened next, or it is asked whether a PLAY was lost,
-- or for its state, or a PLAY is held
pub data AreAsked (start : Start) (cs : List Command) : Type 0 where
  opening : start.state.stage ≡ Ready phase.Open → All (IsAsked start.plan.port) cs → AreAsked start cs
  probing : (k : ℕ) → start.state.stage ≡ Ready (phase.Probe k) → All (λ c. c ≡ command.Status 1) cs → AreAsked start cs
  holding : (k : ℕ) → start.state.stage ≡ Ready (phase.Play k) → All (λ c. c ≡ command.Status 1) cs → AreAsked start cs
  waiting : (k : ℕ) → start.state.stage ≡ Ready (phase.Wait k) → All (λ c. c ≡ command.Status 1) cs → AreAsked start cs

-- ---- by which rules

-- these commands ask; none of them cues or plays
abbrev pub is_question : Command → Bool
is_question (command.Open port mode) = true
is_question (command.Select port) = true
is_question (command.Status groups) = true
is_question other = false

-- what is asked, what the operator said that waits, the calls on the list that were heeded, the state byte that was heard last, how
-- many turns are left, and the signs so far
pub record Inquiring : Type 0 where
  pub purpose : Purpose
  pub waiting : List Said
  pub list : OnList
  pub state : Option ℕ
  pub left : ℕ
  pub signs : Signs

abbrev pub is_stop : Option Said → Bool
is_stop (Some said.Stop) = true
is_stop _ = false

-- the operator has called it off: by stop; by take, too, unless the port is to be empty; and by each call while a PLAY is held
abbrev pub is_called_off : Purpose → List Said → Bool
is_called_off purpose.Vacancy calls = is_stop (first_held calls)
is_called_off purpose.Port calls = is_called calls
is_called_off purpose.ClipEnd calls = is_called calls
is_called_off purpose.Hold calls = is_some (first_held calls)

-- the answer is there
abbrev pub is_answered : Purpose → Option ℕ → Bool
is_answered purpose.Vacancy state = is_some state
is_answered purpose.Port state = is_some state
is_answered purpose.ClipEnd state = false
is_answered purpose.Hold state = false

-- it goes on while an answer is awaited, and with a question, until the answer is there or it is called off
abbrev pub may_ask : Inquiring → Option Command → Bool
may_ask i None = true
may_ask i (Some c) = is_question c && (not (is_answered i.purpose i.state) && not (is_called_off i.purpose i.waiting))

abbrev pub next_for : Inquiring → Option Command → Next
next_for i command = if may_ask i command then next.GoOn else next.Leave

abbrev pub Asks : Plan → State → Next → Inquiring → Inquiring → Type 0
Asks plan state n old new =
    (n ≡ next_for new (given plan state)) × (new ≡ record old { waiting = new.waiting; left = old.left - 1 })

-- a state is remembered
abbrev pub state_in : Option Heard → Option ℕ → Option ℕ
state_in (Some (heard.Reply (reply.State groups (Some state)))) before = Some state
state_in _ before = before

-- it answers the command before: a NAK other than 01 doesn't, nor a message that is no reply
abbrev pub is_answer : Heard → Bool
is_answer (heard.Reply (reply.Nak e)) = e == 1
is_answer (heard.Reply r) = true
is_answer heard.Other = false

-- NAK, or whether the catalogue has a clip
abbrev pub is_unopened : Heard → Bool
is_unopened (heard.Reply (reply.Nak e)) = true
is_unopened (heard.Reply (reply.Present present)) = true
is_unopened _ = false

-- the signs once something is heard
abbrev pub signs_heard : Heard → Signs → Signs
signs_heard h signs = record signs {
  heard = true;
  unopened = signs.unopened && is_unopened h;
  unanswered = not (is_answer h) || signs.unanswered;
}

-- that is noted, and that there was no answer
abbrev pub Adds : Kept → Inquiring → Inquiring → Type 0
Adds (kept.Heard h) old new = new ≡ record old { state = state_in (Some h) old.state; signs = signs_heard h old.signs }
Adds kept.Silence old new = new ≡ record old { signs = record old.signs { unanswered = true } }
Adds _ old new = new ≡ old

abbrev pub asking : {W : Type 0} → (Act → W → W → Type 0) → Plan → Rules W Inquiring
asking does plan = record { does = does; asks = Asks plan; adds = Adds; loses = λ _ _ _. ⊥ }

-- ---- what it comes to: how the line ends, if the list isn't begun

-- one that was denied is denied again; a state that is cued or cueing is strange to an empty list
abbrev pub ended_line : Option Outcome → Option LineEnd
ended_line (Some Denied) = None
ended_line (Some (Strange k)) = Some (line_end.NotBegun why.Occupied)
ended_line _ = Some (line_end.NotBegun why.Unanswered)

abbrev pub ran_line : Ran → Option Outcome → Option LineEnd
ran_line ran.Ended outcome = ended_line outcome
ran_line r outcome = Some (line_end.Ran r)

-- of the six state bytes 01h alone says that nothing is cued and nothing plays
abbrev pub state_line : Option ℕ → Option LineEnd
state_line None = Some (line_end.NotBegun why.Unanswered)
state_line (Some state) = if nat_eq state 1 then None else Some (line_end.NotBegun why.Occupied)

abbrev pub left_line : Inquiring → Option LineEnd
left_line i = if is_called_off i.purpose i.waiting then Some (line_end.NotBegun why.Stopped) else state_line i.state

-- NAK 01 ended it
abbrev pub refused_line : Option Outcome → Option LineEnd
refused_line (Some (Refused k)) = Some (line_end.NotBegun why.Unopened)
refused_line outcome = None

-- a line that is lost ends, too
abbrev pub waiting_line : Ran → Option Outcome → Option LineEnd
waiting_line ran.Ended (Some Lost) = Some (line_end.NotBegun why.Unanswered)
waiting_line ran.Ended outcome = refused_line outcome
waiting_line r outcome = Some (line_end.Ran r)

-- but not while a clip's end is awaited
abbrev pub clip_line : Ran → Option Outcome → Option LineEnd
clip_line ran.Ended outcome = refused_line outcome
clip_line r outcome = None

abbrev pub ran_line_for : Purpose → Ran → Option Outcome → Option LineEnd
ran_line_for purpose.Vacancy r outcome = ran_line r outcome
ran_line_for purpose.ClipEnd r outcome = clip_line r outcome
ran_line_for purpose.Port r outcome = waiting_line r outcome
ran_line_for purpose.Hold r outcome = waiting_line r outcome

abbrev pub left_line_for : Inquiring → Purpose → Option LineEnd
left_line_for i purpose.Vacancy = left_line i
left_line_for i _ = None

abbrev pub line_of : Inquiring → Result Ran BrokenOff → Option Outcome → Option LineEnd
line_of i (Err fault.Device) outcome = Some line_end.Failed
line_of i (Err fault.Unkept) outcome = Some line_end.Failed
line_of i (Err fault.Left) outcome = left_line_for i i.purpose
line_of i (Ok r) outcome = ran_line_for i.purpose r outcome

-- the signs then: an automation that neither was left nor has ended may await an answer
abbrev pub signs_asked : Result Ran BrokenOff → Signs → Signs
signs_asked (Err fault.Left) signs = signs
signs_asked (Ok ran.Ended) signs = signs
signs_asked answer signs = record signs { unanswered = true }

-- ---- it has asked

abbrev pub over : {W J : Type 0} → W → J → World W J
over wire keep = record { wire = wire; keep = keep }

-- an automation ran with this ear by these rules, left it so, and came to this
pub record Comes {E W J : Type 0} (rules : Rules W J) (fold : Fold E) (plan : Plan) (unit turns : ℕ) (state : State)
    (ear ear' : E) (world world' : World W J) (answer : Result Ran BrokenOff) (outcome : Option Outcome) : Type 0 where
  pub auto : Auto E
  pub runs : HasRun rules fold plan unit turns (record { ear = ear; state = state }) auto world world' answer
  pub ear_is : ear' ≡ auto.ear
  pub outcome_is : outcome ≡ outcome_of auto.state.stage

pub record Asked {E W : Type 0} (asker : Asker) (does : Act → W → W → Type 0) (fold : Fold E) (settings : RunSettings)
    (ear ear' : E) (wire wire' : W) (left : ℕ) (signs signs' : Signs) (line : Option LineEnd) : Type 0 where
  pub waiting : List Said
  pub list : OnList
  pub last : Inquiring
  pub answer : Result Ran BrokenOff
  pub outcome : Option Outcome
  pub comes : Comes (asking does asker.plan) fold asker.plan settings.unit settings.listens asker.state ear ear'
      (over wire (record { purpose = asker.purpose; waiting = waiting; list = list; state = None; left = settings.listens; signs = signs }))
      (over wire' last) answer outcome
  pub left_is : left ≡ last.left
  pub signs_are : signs' ≡ signs_asked answer last.signs
  pub line_is : line ≡ line_of last answer outcome

-- with this ear and over this wire what was to be asked was, which left this many turns and these signs, and the list is begun
-- unless the line ends
abbrev pub HasAsked : {E W : Type 0} → Option Asker → (Act → W → W → Type 0) → Fold E → RunSettings → E → E → W → W → ℕ
    → Signs → Signs → Option LineEnd → Type 0
HasAsked None does fold settings ear ear' wire wire' left signs signs' line =
    (ear' ≡ ear) × (wire' ≡ wire) × (left ≡ settings.listens) × (signs' ≡ signs) × (line ≡ None)
HasAsked (Some asker) does fold settings ear ear' wire wire' left signs signs' line =
    Asked asker does fold settings ear ear' wire wire' left signs signs' line
