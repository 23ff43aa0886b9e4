-- A channel: a controller and a port, with the line between them; and what each event does to it.
use Rattle.std.specs.Prelude.{ℕ, ◌≡◌, ◌≤◌, ◌<◌, Bool, ◌&&◌, ◌||◌, nat_le, List, [], ◌∷◌, ◌++◌, All, length, Option, None, Some, if◌then◌else◌}
use Rattle.vdcp_value.specs.declared.clip_id.ClipId.{ClipId}
use Rattle.vdcp_value.specs.declared.part.Item.{Item}
use Rattle.vdcp_value.specs.declared.timecode.Timecode.{Timecode}
use Rattle.vdcp_value.specs.Parts.{IsItem}
use Rattle.vdcp_frame.specs.Burst.{messages_of}
use Rattle.vdcp_frame.specs.Message.{spelling}
use Rattle.vdcp_words.specs.Commands.{command_message}
use Rattle.vdcp_words.specs.declared.command.Command.{Command}
use Rattle.vdcp_words.specs.declared.reply.Reply.{Reply}
use Rattle.vdcp_words.specs.declared.reply.Reply.TheVariants.{Ack, Nak}
use Rattle.vdcp_port.specs.Answers.{sent_for, aired_for, after_burst}
use Rattle.vdcp_port.specs.Clock.{ClockedPort, new_port, after_ready, after_ended, after_frame}
use Rattle.vdcp_port.specs.Port.{empty}
use Rattle.vdcp_auto.specs.Course.{logged}
use Rattle.vdcp_auto.specs.Plan.{Plan}
use Rattle.vdcp_auto.specs.Turn.{start, ticked, given, came_to, ended_by, taken, stopped}
use Rattle.vdcp_auto.specs.declared.exchange.Exchange.{Exchange}
use Rattle.vdcp_auto.specs.declared.exchange.Heard.{Heard}
use Rattle.vdcp_auto.specs.declared.exchange.Heard.TheVariants as heard
use Rattle.vdcp_auto.specs.declared.phase.Mode.{Mode}
use Rattle.vdcp_auto.specs.declared.phase.Mode.TheVariants.{Plain, Confirming}
use Rattle.vdcp_auto.specs.State.{State}
use Rattle.vdcp_world.specs.Beginnings.{is_beginning}
use Rattle.vdcp_auto.specs.Heard.{heard_in, hears_receipt}
use Rattle.vdcp_world.specs.declared.event.Event.{Event}
use Rattle.vdcp_world.specs.declared.event.Event.TheVariants.{Tick, Down, Up, DownCopy, UpCopy, LoseDown, LoseUp, AlterDown, AlterUp}
use Rattle.vdcp_world.specs.declared.event.Event.TheVariants.{Timeout, Ready, End, Frame, Take, Stop, StrayAck, StrayNak}

-- The controller, with what it was made with, and the port; the bytes on the way down, to the port, and
-- up, to the controller, none if nothing is on the way; what went to air; the exchanges that ended.
-- Lists have the oldest first.
pub record Channel : Type 0 where
  pub plan : Plan
  pub state : State
  pub port : ClockedPort
  pub down : List ℕ
  pub up : List ℕ
  pub aired : List Item
  pub log : List Exchange

-- the controller is new, and nothing is on the way to this port
abbrev pub channel_to : Plan → ClockedPort → Channel
channel_to plan port =
    record { plan = plan; state = start; port = port; down = []; up = []; aired = []; log = [] }

-- both ends are new, of one unit and one port number
abbrev pub new_channel : Plan → List (ClipId × Timecode) → ℕ → ℕ → Channel
new_channel plan clips unit cue_frames = channel_to plan (new_port clips unit plan.port cue_frames)

-- Tick: what is on the way down, and up, after a tick that gives a command or none.

abbrev pub down_behind : ℕ → Option Command → List ℕ → List ℕ
down_behind unit None down = down
down_behind unit (Some command) down = spelling (command_message unit command)

abbrev pub up_behind : Option Command → List ℕ → List ℕ
up_behind None up = up
up_behind (Some command) up = []

-- Delivery to the port: what is on the way up once the port has read what was on the way down, if
-- anything was.

abbrev pub answered : ClockedPort → List ℕ → List ℕ → List ℕ
answered port [] up = up
answered port (byte ∷ bytes) up = sent_for port (byte ∷ bytes)

-- Delivery to the controller: it and the log, once something was heard of a burst, or nothing.

abbrev pub state_hearing : Plan → Option Heard → State → State
state_hearing plan None state = state
state_hearing plan (Some h) state = came_to plan (Some h) state

abbrev pub log_hearing : Plan → Option Heard → State → List Exchange → List Exchange
log_hearing plan None state log = log
log_hearing plan (Some h) state log = logged log (ended_by plan (Some h) state)

-- Time-out: the controller and the log, if nothing is on the way either way, and if something is.

abbrev pub state_waiting : Plan → List ℕ → List ℕ → State → State
state_waiting plan [] [] state = came_to plan None state
state_waiting plan down up state = state

abbrev pub log_waiting : Plan → List ℕ → List ℕ → State → List Exchange → List Exchange
log_waiting plan [] [] state log = logged log (ended_by plan None state)
log_waiting plan down up state log = log

-- A receipt from nowhere, which comes in confirm mode alone.

abbrev pub state_straying : Mode → Plan → Reply → State → State
state_straying Plain plan receipt state = state
state_straying Confirming plan receipt state = came_to plan (Some (heard.Reply receipt)) state

abbrev pub log_straying : Mode → Plan → Reply → State → List Exchange → List Exchange
log_straying Plain plan receipt state log = log
log_straying Confirming plan receipt state log = logged log (ended_by plan (Some (heard.Reply receipt)) state)

-- Damage: what is on the way can become at most 1,024 bytes, of which no more is read than a beginning of
-- the messages that were on the way; on the way up in confirm mode also such of which a receipt is read first.

abbrev pub is_short : List ℕ → Bool
is_short bytes = nat_le (length bytes) 1024

abbrev pub can_become : List ℕ → List ℕ → Bool
can_become way bytes = is_short bytes && is_beginning (messages_of bytes) (messages_of way)

abbrev pub can_become_up : Mode → ℕ → List ℕ → List ℕ → Bool
can_become_up Plain unit way bytes = can_become way bytes
can_become_up Confirming unit way bytes =
    can_become way bytes || (is_short bytes && hears_receipt (heard_in unit bytes))

abbrev pub altered : Bool → List ℕ → List ℕ → List ℕ
altered can way bytes = if can then bytes else way

-- what an event leaves; the channel as it was, if the event can't happen
abbrev pub after_event : Channel → Event → Channel
after_event c Tick =
    record c {
      state = ticked c.state;
      down = down_behind c.port.state.unit (given c.plan c.state) c.down;
      up = up_behind (given c.plan c.state) c.up;
    }
after_event c Down =
    record c {
      port = after_burst c.port c.down;
      down = [];
      up = answered c.port c.down c.up;
      aired = c.aired ++ aired_for c.port c.down;
    }
after_event c Up =
    record c {
      state = state_hearing c.plan (heard_in c.port.state.unit c.up) c.state;
      up = [];
      log = log_hearing c.plan (heard_in c.port.state.unit c.up) c.state c.log;
    }
after_event c DownCopy =
    record c {
      port = after_burst c.port c.down;
      aired = c.aired ++ aired_for c.port c.down;
    }
after_event c UpCopy =
    record c {
      state = state_hearing c.plan (heard_in c.port.state.unit c.up) c.state;
      log = log_hearing c.plan (heard_in c.port.state.unit c.up) c.state c.log;
    }
after_event c LoseDown = record c { down = [] }
after_event c LoseUp = record c { up = [] }
after_event c (AlterDown bytes) = record c { down = altered (can_become c.down bytes) c.down bytes }
after_event c (AlterUp bytes) =
    record c { up = altered (can_become_up c.plan.mode c.port.state.unit c.up bytes) c.up bytes }
after_event c Timeout =
    record c {
      state = state_waiting c.plan c.down c.up c.state;
      log = log_waiting c.plan c.down c.up c.state c.log;
    }
after_event c Ready = record c { port = after_ready c.port }
after_event c End = record c { port = after_ended c.port }
after_event c Frame = record c { port = after_frame c.port }
after_event c Take = record c { state = taken c.state }
after_event c Stop = record c { state = stopped c.state }
after_event c StrayAck =
    record c {
      state = state_straying c.plan.mode c.plan Ack c.state;
      log = log_straying c.plan.mode c.plan Ack c.state c.log;
    }
after_event c (StrayNak byte) =
    record c {
      state = state_straying c.plan.mode c.plan (Nak byte) c.state;
      log = log_straying c.plan.mode c.plan (Nak byte) c.state c.log;
    }

-- what events leave, one after another
abbrev pub after_events : Channel → List Event → Channel
after_events c [] = c
after_events c (event ∷ events) = after_events (after_event c event) events

-- the events up to one of them have happened, and it hasn't, nor have those after it
pub record HappenInPart (events : List Event) (old now : Channel) : Type 0 where
  pub done : List Event
  pub refused : Event
  pub left : List Event
  pub in_order : events ≡ done ++ refused ∷ left
  pub happened : now ≡ after_events old done

-- what a channel was made with, the unit and the clock among it
pub record Make : Type 0 where
  pub plan : Plan
  pub clips : List (ClipId × Timecode)
  pub unit : ℕ
  pub number : ℕ
  pub cue_frames : ℕ

abbrev pub make_of : Channel → Make
make_of c =
    record {
      plan = c.plan;
      clips = c.port.clips;
      unit = c.port.state.unit;
      number = c.port.state.number;
      cue_frames = c.port.cue_frames;
    }

-- some events lead to this channel from one whose controller is new, and to whose port nothing is on the way
pub record IsReached (now : Channel) : Type 0 where
  pub plan : Plan
  pub port : ClockedPort
  pub events : List Event
  -- it gives up after 1 to 1,000 unanswered exchanges
  pub some : 1 ≤ plan.limit
  pub few : plan.limit ≤ 1000
  pub unit_fits : port.state.unit ≤ 15
  pub port_fits : plan.port < 256
  pub of_bytes : All IsItem plan.list
  -- the port may be open and selected, and a clip may play
  pub numbered : port.state.number ≡ plan.port
  pub nothing_cued : port.state.cued ≡ empty
  pub led : now ≡ after_events (channel_to plan port) events
