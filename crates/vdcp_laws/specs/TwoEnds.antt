-- An automation and a server that both hear at once, joined by two streams of bytes that keep order, over one connection
-- after another.
use Rattle.std.specs.Option.{option_to_list}
use Rattle.std.specs.Prelude.{ℕ, ◌≡◌, List, [], ◌∷◌, ◌++◌, All, map, Option, None, Some}
use Rattle.vdcp_value.specs.declared.part.Item.{Item}
use Rattle.vdcp_frame.specs.Message.{Content}
use Rattle.vdcp_words.specs.declared.command.Command.{Command}
use Rattle.vdcp_port.specs.Clock.{ClockedPort}
use Rattle.vdcp_auto.specs.Course.{logged}
use Rattle.vdcp_auto.specs.Plan.{Plan}
use Rattle.vdcp_auto.specs.State.{State}
use Rattle.vdcp_auto.specs.Heard.{heard_as}
use Rattle.vdcp_auto.specs.Turn.{came_to, ended_by, given, outcome_of}
use Rattle.vdcp_auto.specs.declared.exchange.Exchange.{Exchange}
use Rattle.vdcp_auto.specs.declared.exchange.Heard.{Heard}
use Rattle.vdcp_journal.specs.declared.row.Note.{Note}
use Rattle.vdcp_journal_file.specs.Recorded.{note_for}
use Rattle.vdcp_wire.specs.Wires.{Arrival, bytes, silence, close}
use Rattle.vdcp_drive.specs.Auto.{called}
use Rattle.vdcp_drive.specs.Steps.{given_notes}
use Rattle.vdcp_laws.specs.Automation.{end_notes}
use Rattle.vdcp_laws.specs.Automation.{Prompt, gives, hears, listens, new_prompt, receives}
use Rattle.vdcp_laws.specs.Announced.{Announces}
use Rattle.vdcp_laws.specs.Kills.{IsRun}
use Rattle.vdcp_drive.specs.Reading.{Held, completed, holds}
use Rattle.vdcp_drive.specs.declared.hooks.Call.{Call}
use Rattle.vdcp_drive.specs.declared.hooks.Call.TheVariants.{Take}
use Rattle.vdcp_drive.specs.declared.hooks.Kept.TheVariants as kept
use Rattle.vdcp_drive.specs.Serving.{Service, acts_of, begins, items_in, left_by, hook_steps}
use Rattle.vdcp_drive.specs.Traces.{bytes_of, sent_in}
use Rattle.vdcp_drive.specs.Turns.{Turn, arrivals, listen, frame}
use Rattle.vdcp_drive.specs.declared.hearing.Hearing.TheVariants as hearing
use Rattle.vdcp_world.specs.LateLine.Asking.{Question, asked_in}
use Rattle.vdcp_world.specs.LateLine.LateChannel.{LateChannel, CanStart, IsLateReached, IsQuestion, made_anew}

-- Both ends of a connection: the commands that were given over it; the automation, with the exchanges since it began,
-- and the bytes that came up to it; the port with which it began at the server, and its turns. Of the connections
-- before: the exchanges, and what went to air. And what the automation's journal has, of all of them.
pub record Ends : Type 0 where
  pub sent : List Command
  pub automation : Prompt
  pub ups : List ℕ
  pub port : ClockedPort
  pub downs : List Turn
  pub log_before : List Exchange
  pub aired_before : List Item
  pub notes : List Note

-- Both ends are new, and the one asks the other this before its run. What answers comes up to the automation too, which
-- passes it over until it has given a command.
abbrev pub new_ends : ClockedPort → List Command → Ends
new_ends port asked =
    record {
      sent = asked;
      automation = new_prompt;
      ups = [];
      port = port;
      downs = [];
      log_before = [];
      aired_before = [];
      notes = [];
    }

-- What either end has sent over this connection, and what came of both since the first one.

abbrev pub sent_down : ℕ → Ends → List ℕ
sent_down unit e = bytes_of unit e.sent

-- the server, which hears at once
abbrev pub server_new : Ends → Service
server_new e = begins hearing.AtOnce e.port

abbrev pub server_now : Ends → Service
server_now e = left_by (server_new e) e.downs

abbrev pub sent_up : Ends → List ℕ
sent_up e = sent_in (acts_of (server_new e) e.downs)

abbrev pub port_now : Ends → ClockedPort
port_now e = (server_now e).port

abbrev pub log_now : Ends → List Exchange
log_now e = e.log_before ++ e.automation.log

abbrev pub aired_now : Ends → List Item
aired_now e = e.aired_before ++ items_in (hook_steps (server_new e) e.downs)

-- the bytes of what came
abbrev pub bytes_in : List Arrival → List ℕ
bytes_in [] = []
bytes_in (bytes piece ∷ later) = piece ++ bytes_in later
bytes_in (silence ∷ later) = bytes_in later
bytes_in (close ∷ later) = bytes_in later

-- What the journal gets.

-- the command that is given next
abbrev pub notes_given : Plan → State → List Note
notes_given plan state = map note_for (given_notes (given plan state))

-- what came, or that nothing came in time, if it ends an exchange
abbrev pub notes_ended : Plan → Option Heard → State → List Note
notes_ended plan came state = map note_for (end_notes (ended_by plan came state))

abbrev pub notes_heard : Plan → ℕ → List Content → Prompt → List Note
notes_heard plan unit [] p = []
notes_heard plan unit (m ∷ ms) p =
    notes_ended plan (Some (heard_as unit m)) p.state ++ notes_heard plan unit ms (hears plan unit m p)

-- one end with something more

abbrev pub with_automation : Prompt → List Note → Ends → Ends
with_automation p notes e = record e { automation = p; notes = e.notes ++ notes }

abbrev pub with_up : List ℕ → Ends → Ends
with_up piece e = record e { ups = e.ups ++ piece }

abbrev pub with_down : Turn → Ends → Ends
with_down turn e = record e { downs = e.downs ++ turn ∷ [] }

abbrev pub wishing : State → Prompt → Prompt
wishing state p = record p { state = state }

-- What the automation does, with its notes.

-- these commands are given
abbrev pub sending : List Command → Ends → Ends
sending cs e = record e { sent = e.sent ++ cs }

-- these are asked beside the controller, and this comes up, of which its ear then holds this
abbrev pub asked_first : List Command → Held → List ℕ → Ends → Ends
asked_first cs held came e = record e {
  sent = e.sent ++ cs;
  automation = record e.automation { held = held };
  ups = e.ups ++ came;
}

-- the next command is given
abbrev pub with_command : Plan → Ends → Ends
with_command plan e = sending (option_to_list (given plan e.automation.state))
    (with_automation (gives e.automation) (notes_given plan e.automation.state) e)

-- the operator calls
abbrev pub with_call : Call → Ends → Ends
with_call c e =
    with_automation (wishing (called c e.automation.state) e.automation) (note_for (kept.Called c) ∷ []) e

-- this is heard
abbrev pub with_heard : Plan → Heard → Ends → Ends
with_heard plan h e =
    with_automation (receives plan (Some h) e.automation) (notes_ended plan (Some h) e.automation.state) e

-- the state is asked, if it wasn't; and what was heard last is heard once more, after a take
abbrev pub heard_again : Plan → Heard → Ends → Ends
heard_again plan h e = with_heard plan h (with_call Take (with_command plan e))

-- What a killed automation goes on as: what its notes make it; or, if what was heard last announces a PLAY, which may
-- have gone out without a note, what it is once that was given.
pub data GoesOn (plan : Plan) (e : Ends) : Ends → Type 0 where
  as_noted : GoesOn plan e e
  as_announced : (h : Heard) → Announces plan e.automation.state e.notes h → GoesOn plan e (with_command plan (heard_again plan h e))

-- a new connection, to this port, of an automation whose last command timed out; what was on its way is lost
abbrev pub connected_anew : Plan → ClockedPort → Ends → Ends
connected_anew plan port e =
    record {
      sent = [];
      automation = record { held = holds []; state = came_to plan None e.automation.state; log = [] };
      ups = [];
      port = port;
      downs = [];
      log_before = e.log_before ++ logged e.automation.log (ended_by plan None e.automation.state);
      aired_before = aired_now e;
      notes = e.notes ++ notes_ended plan None e.automation.state;
    }

-- What may come of both ends next. Of what the one has sent comes to the other a beginning, in whatever pieces; the rest
-- comes later, or never.
pub data Step (plan : Plan) (unit : ℕ) (e : Ends) : Ends → Type 0 where
  -- the automation gives its next command, if none is awaited and it hasn't ended
  gave : Step plan unit e (with_command plan e)
  -- it asks what it may ask beside its controller, and hears what it likes of the answers
  asks : (question : Question) (c : Command) → asked_in plan question e.automation.state.stage ≡ Some c
      → Step plan unit e (sending (c ∷ []) e)
  came_up : (piece rest : List ℕ) → sent_up e ≡ e.ups ++ (piece ++ rest) → Step plan unit e (with_up piece
      (with_automation (listens plan unit (bytes piece) e.automation)
      (notes_heard plan unit (completed e.automation.held piece) e.automation) e))
  came_down : (piece rest : List ℕ) → sent_down unit e ≡ bytes_in (arrivals e.downs) ++ (piece ++ rest)
      → Step plan unit e (with_down (listen (bytes piece)) e)
  -- its time is up, at any moment, or its line is closed
  waited : Step plan unit e (with_automation (listens plan unit silence e.automation)
      (notes_ended plan None e.automation.state) e)
  -- at the server a frame passes, or its line is silent, at any moment, also within a command; or its line is closed
  passed : Step plan unit e (with_down frame e)
  paused : Step plan unit e (with_down (listen silence) e)
  shut : Step plan unit e (with_down (listen close) e)
  -- the operator's calls, while it goes on
  calls : (c : Call) → outcome_of e.automation.state.stage ≡ None → Step plan unit e (with_call c e)
  -- the automation is killed, and goes on from its journal over a new connection, once the server has left the old one
  resumed : {on : Ends} → GoesOn plan e on → Step plan unit e (connected_anew plan (port_now on) on)
  -- the same, to a server that was started anew
  restarted : {on : Ends} → GoesOn plan e on → Step plan unit e (connected_anew plan (made_anew (port_now on)) on)

-- what may come of both ends in some steps
pub data AreLed (plan : Plan) (unit : ℕ) (first : Ends) : Ends → Type 0 where
  begun : AreLed plan unit first first
  went_on : {e e' : Ends} → AreLed plan unit first e → Step plan unit e e' → AreLed plan unit first e'

-- and of two new ends
abbrev pub AreJoined : Plan → ClockedPort → List Command → Ends → Type 0
AreJoined plan port asked e = AreLed plan port.state.unit (new_ends port asked) e

-- no command is given in it
abbrev pub GivesNone : {plan : Plan} {unit : ℕ} {e e' : Ends} → Step plan unit e e' → Type 0
GivesNone gave = ⊥
GivesNone (asks question c is) = ⊥
GivesNone (resumed goes) = ⊥
GivesNone (restarted goes) = ⊥
GivesNone _ = Unit {0}

-- what may have come of them since, while no command was given
pub data IsSince (plan : Plan) (unit : ℕ) (kept : Ends) : Ends → Type 0 where
  at_once : IsSince plan unit kept kept
  later : {e e' : Ends} → IsSince plan unit kept e → (step : Step plan unit e e') → GivesNone step
      → IsSince plan unit kept e'

-- the automation as it was kept, and the server as it is now
abbrev pub with_kept : Ends → Ends → Ends
with_kept kept now = record kept { downs = now.downs }

-- what the two ends begin with: as `IsLateReached` asks of a plan and a port, with nothing on the way but questions
pub record CanJoin (plan : Plan) (port : ClockedPort) (asked : List Command) : Type 0 where
  pub can_start : CanStart plan port [] []
  pub only_asks : All (IsQuestion plan.port) asked

-- the two ends are what events of a late channel lead to, in a run that has their notes
pub record IsLateChannel (plan : Plan) (port : ClockedPort) (e : Ends) : Type 0 where
  pub channel : LateChannel
  pub reached : IsLateReached channel
  pub run : IsRun channel e.notes
  pub plan_is : channel.plan ≡ plan
  pub state_is : channel.state ≡ e.automation.state
  pub log_is : channel.log ≡ log_now e
  pub port_is : channel.port ≡ port_now e
  pub clips_are : channel.port.clips ≡ port.clips
  pub aired_is : channel.aired ≡ aired_now e
