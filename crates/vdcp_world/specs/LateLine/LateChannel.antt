-- A late channel: a controller and a port, with a line between them that keeps order, and what each event does
-- to it. Each way the line is a queue of bursts, of any length, so an answer may come however late.
use Rattle.std.specs.Option.{option_map, option_to_list}
use Rattle.std.specs.Prelude.{ℕ, ◌≡◌, ◌⊎◌, ◌≤◌, ◌<◌, IsTrue, IsSome, List, [], ◌∷◌, ◌++◌, All, remove, Option, None}
use Rattle.vdcp_value.specs.declared.part.Item.{Item}
use Rattle.vdcp_value.specs.Parts.{IsItem}
use Rattle.vdcp_frame.specs.Burst.{messages_of}
use Rattle.vdcp_frame.specs.Message.{spelling}
use Rattle.vdcp_words.specs.Commands.{command_message}
use Rattle.vdcp_words.specs.declared.command.Command.{Command}
use Rattle.vdcp_words.specs.declared.command.Command.TheVariants as command
use Rattle.vdcp_words.specs.declared.reply.Reply.TheVariants.{Ack, Nak}
use Rattle.vdcp_port.specs.Answers.{sent_for, aired_for, after_burst}
use Rattle.vdcp_port.specs.Clock.{ClockedPort, new_port, after_ready, after_ended, after_frame}
use Rattle.vdcp_port.specs.Port.{empty}
use Rattle.vdcp_auto.specs.Course.{logged}
use Rattle.vdcp_auto.specs.Heard.{heard_in}
use Rattle.vdcp_auto.specs.Log.{answer_to}
use Rattle.vdcp_auto.specs.Plan.{Plan}
use Rattle.vdcp_auto.specs.Turn.{start, ticked, given, came_to, ended_by, taken, stopped, forgotten}
use Rattle.vdcp_auto.specs.declared.exchange.Exchange.{Exchange}
use Rattle.vdcp_auto.specs.declared.phase.Mode.TheVariants.{Confirming}
use Rattle.vdcp_auto.specs.State.{State}
use Rattle.vdcp_world.specs.Channel.{Make, state_hearing, log_hearing, state_straying, log_straying}
use Rattle.vdcp_world.specs.LateLine.Asking.{asked_in}
use Rattle.vdcp_world.specs.LateLine.Damage.{can_become, is_junk_down, is_junk_up, can_become_up, with_damage, with_junk}
use Rattle.vdcp_world.specs.LateLine.LateEvent.{LateEvent, Tick, Ask, Down, Up, DownCopy, UpCopy, LoseDown, LoseUp, AlterDown, AlterUp, JunkDown, JunkUp}
use Rattle.vdcp_world.specs.LateLine.LateEvent.{Timeout, Ready, End, Frame, Take, Stop, ServerAnew, AutomationAnew, StrayAck, StrayNak}

-- The controller, with what it was made with, and the port; the bursts on the way down, to the port, and up, to
-- the controller; what went to air; the exchanges that ended. Lists have the oldest first.
pub record LateChannel : Type 0 where
  pub plan : Plan
  pub state : State
  pub port : ClockedPort
  pub down : List (List ℕ)
  pub up : List (List ℕ)
  pub aired : List Item
  pub log : List Exchange

-- a new controller, a port in whatever state, and these on the way
abbrev pub new_late_channel : Plan → ClockedPort → List (List ℕ) → List (List ℕ) → LateChannel
new_late_channel plan port down up =
    record { plan = plan; state = start; port = port; down = down; up = up; aired = []; log = [] }

-- A queue without its oldest burst, and that burst; none where the queue is empty.

abbrev pub without_oldest : List (List ℕ) → List (List ℕ)
without_oldest [] = []
without_oldest (burst ∷ queue) = queue

abbrev pub oldest : List (List ℕ) → List ℕ
oldest [] = []
oldest (burst ∷ queue) = burst

-- the bytes of an optional command
abbrev pub command_bursts : ℕ → Option Command → List (List ℕ)
command_bursts unit command = option_to_list (option_map (λ c. spelling (command_message unit c)) command)

-- An answer of no bytes is none.
abbrev pub bursts_of : List ℕ → List (List ℕ)
bursts_of [] = []
bursts_of (byte ∷ bytes) = (byte ∷ bytes) ∷ []

-- a port made anew, with the catalogue, the unit, the number and the clock of this one
abbrev pub made_anew : ClockedPort → ClockedPort
made_anew port = new_port port.clips port.state.unit port.state.number port.cue_frames

-- the port reads the oldest burst on the way down, if any, and its answer joins the queue up
abbrev pub delivered_down : LateChannel → LateChannel
delivered_down c =
    record c {
      port = after_burst c.port (oldest c.down);
      up = c.up ++ bursts_of (sent_for c.port (oldest c.down));
      aired = c.aired ++ aired_for c.port (oldest c.down);
    }

-- the controller hears the oldest burst on the way up, if any
abbrev pub delivered_up : LateChannel → LateChannel
delivered_up c =
    record c {
      state = state_hearing c.plan (heard_in c.port.state.unit (oldest c.up)) c.state;
      log = log_hearing c.plan (heard_in c.port.state.unit (oldest c.up)) c.state c.log;
    }

-- what an event leaves; the channel as it was, where the event can't happen
abbrev pub after_late_event : LateChannel → LateEvent → LateChannel
after_late_event c Tick =
    record c {
      state = ticked c.state;
      down = c.down ++ command_bursts c.port.state.unit (given c.plan c.state);
    }
after_late_event c (Ask question) =
    record c { down = c.down ++ command_bursts c.port.state.unit (asked_in c.plan question c.state.stage) }
after_late_event c Down = record (delivered_down c) { down = without_oldest c.down }
after_late_event c Up = record (delivered_up c) { up = without_oldest c.up }
after_late_event c DownCopy = delivered_down c
after_late_event c UpCopy = delivered_up c
after_late_event c (LoseDown place) = record c { down = remove c.down place }
after_late_event c (LoseUp place) = record c { up = remove c.up place }
after_late_event c (AlterDown place bytes) =
    record c { down = with_damage (λ was. can_become was bytes) bytes place c.down }
after_late_event c (AlterUp place bytes) =
    record c { up = with_damage (λ was. can_become_up c.plan.mode c.port.state.unit was bytes) bytes place c.up }
after_late_event c (JunkDown place bytes) = record c { down = with_junk (is_junk_down bytes) bytes place c.down }
after_late_event c (JunkUp place bytes) =
    record c { up = with_junk (is_junk_up c.plan.mode c.port.state.unit bytes) bytes place c.up }
after_late_event c Timeout =
    record c {
      state = came_to c.plan None c.state;
      log = logged c.log (ended_by c.plan None c.state);
    }
after_late_event c Ready = record c { port = after_ready c.port }
after_late_event c End = record c { port = after_ended c.port }
after_late_event c Frame = record c { port = after_frame c.port }
after_late_event c Take = record c { state = taken c.state }
after_late_event c Stop = record c { state = stopped c.state }
after_late_event c ServerAnew = record c { port = made_anew c.port }
after_late_event c AutomationAnew =
    record c {
      state = forgotten (came_to c.plan None c.state);
      log = logged c.log (ended_by c.plan None c.state);
    }
after_late_event c StrayAck =
    record c {
      state = state_straying c.plan.mode c.plan Ack c.state;
      log = log_straying c.plan.mode c.plan Ack c.state c.log;
    }
after_late_event c (StrayNak byte) =
    record c {
      state = state_straying c.plan.mode c.plan (Nak byte) c.state;
      log = log_straying c.plan.mode c.plan (Nak byte) c.state c.log;
    }

-- what events leave, one after another
abbrev pub after_late_events : LateChannel → List LateEvent → LateChannel
after_late_events c [] = c
after_late_events c (event ∷ events) = after_late_events (after_late_event c event) events

-- what a channel was made with
abbrev pub late_make_of : LateChannel → Make
late_make_of c =
    record {
      plan = c.plan;
      clips = c.port.clips;
      unit = c.port.state.unit;
      number = c.port.state.number;
      cue_frames = c.port.cue_frames;
    }

-- What a port may be asked before a run: as the controller itself asks before the first event. None of it cues or plays.
abbrev pub IsQuestion : ℕ → Command → Type 0
IsQuestion port c = (c ≡ command.Open port 1) ⊎ (c ≡ command.Select port) ⊎ (c ≡ command.Status 1)

-- on the way down: such a question, or nothing that is read
abbrev pub AsksOnly : Plan → ℕ → List ℕ → Type 0
AsksOnly plan unit burst = (messages_of burst ≡ [])
    ⊎ ((c : Command) × IsQuestion plan.port c × (messages_of burst ≡ command_message unit c ∷ []))

-- and up: an answer to one, or no answer
abbrev pub AnswersOnly : Plan → ℕ → List ℕ → Type 0
AnswersOnly plan unit burst = IsTrue (is_junk_up plan.mode unit burst)
    ⊎ ((c : Command) × IsQuestion plan.port c × IsSome (answer_to c (heard_in unit burst)))

-- what a run may begin with
pub record CanStart (plan : Plan) (port : ClockedPort) (down up : List (List ℕ)) : Type 0 where
  -- the controller gives up after 1 to 1,000 unanswered exchanges
  pub some : 1 ≤ plan.limit
  pub few : plan.limit ≤ 1000
  pub unit_fits : port.state.unit ≤ 15
  pub port_fits : plan.port < 256
  pub of_bytes : All IsItem plan.list
  -- in plain mode the port may be in any state; in confirm mode nothing is cued
  pub nothing_cued : plan.mode ≡ Confirming → port.state.cued ≡ empty
  -- what is on the way has asked the port before, or answers that
  pub asked : All (AsksOnly plan port.state.unit) down
  pub answered : All (AnswersOnly plan port.state.unit) up

-- some events lead from a new channel to this one
pub record IsLateReached (now : LateChannel) : Type 0 where
  pub plan : Plan
  pub port : ClockedPort
  pub down : List (List ℕ)
  pub up : List (List ℕ)
  pub events : List LateEvent
  pub can_start : CanStart plan port down up
  pub led : now ≡ after_late_events (new_late_channel plan port down up) events
