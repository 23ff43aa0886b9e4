-- Runs over a line that keeps order, whose automation keeps a journal; and what goes on from it after a kill.
use Rattle.std.specs.Option.{option_map, option_to_list}
use Rattle.std.specs.Prelude.{ℕ, ◌≡◌, IsSome, List, [], ◌∷◌, ◌++◌, length, Option, None, Some}
use Rattle.vdcp_words.specs.declared.reply.Reply.{Reply}
use Rattle.vdcp_words.specs.declared.reply.Reply.TheVariants.{Ack, Nak}
use Rattle.vdcp_port.specs.Clock.{ClockedPort}
use Rattle.vdcp_auto.specs.Heard.{heard_in}
use Rattle.vdcp_auto.specs.Plan.{Plan}
use Rattle.vdcp_auto.specs.Course.{logged}
use Rattle.vdcp_auto.specs.Turn.{ended_by, given, outcome_of, taken, ticked}
use Rattle.vdcp_auto.specs.declared.exchange.Exchange.{Exchange}
use Rattle.vdcp_auto.specs.declared.exchange.Heard.{Heard}
use Rattle.vdcp_auto.specs.declared.exchange.Heard.TheVariants as heard
use Rattle.vdcp_auto.specs.declared.list_call.ListCall.{ListCall}
use Rattle.vdcp_auto.specs.declared.phase.Mode.{Mode}
use Rattle.vdcp_auto.specs.declared.phase.Mode.TheVariants.{Plain, Confirming}
use Rattle.vdcp_journal.specs.declared.row.Note.{Note}
use Rattle.vdcp_journal.specs.declared.row.Note.TheVariants as note
use Rattle.vdcp_laws.specs.Announced.{came_again}
use Rattle.vdcp_world.specs.LateLine.LateChannel.{LateChannel, CanStart, after_late_event, after_late_events, new_late_channel, oldest}
use Rattle.vdcp_world.specs.LateLine.LateEvent.{LateEvent}
use Rattle.vdcp_world.specs.LateLine.LateEvent as event

-- the note of what came, or that nothing came in time, if it ended an exchange
abbrev pub end_notes : Option Heard → Option Exchange → List Note
end_notes came None = []
end_notes (Some h) (Some e) = note.Heard h ∷ []
end_notes None (Some e) = note.Silence ∷ []

abbrev pub heard_notes : LateChannel → Option Heard → List Note
heard_notes c None = []
heard_notes c (Some h) = end_notes (Some h) (ended_by c.plan (Some h) c.state)

abbrev pub silence_notes : LateChannel → List Note
silence_notes c = end_notes None (ended_by c.plan None c.state)

-- a receipt from nowhere, which is heard in confirm mode
abbrev pub stray_notes : LateChannel → Mode → Reply → List Note
stray_notes c Plain receipt = []
stray_notes c Confirming receipt = heard_notes c (Some (heard.Reply receipt))

-- what the journal gets of an event: the command that is given out, what ended its exchange, the operator's take and stop
abbrev pub notes_of : LateChannel → LateEvent → List Note
notes_of c event.Tick = option_to_list (option_map (λ command. note.Sent command) (given c.plan c.state))
notes_of c event.Up = heard_notes c (heard_in c.port.state.unit (oldest c.up))
notes_of c event.UpCopy = heard_notes c (heard_in c.port.state.unit (oldest c.up))
notes_of c event.Timeout = silence_notes c
notes_of c event.Take = note.Take ∷ []
notes_of c event.Stop = note.Stop ∷ []
notes_of c event.StrayAck = stray_notes c c.plan.mode Ack
notes_of c (event.StrayNak byte) = stray_notes c c.plan.mode (Nak byte)
notes_of c _ = []

-- A tick that gives no command is no event, nor is a wish once the controller has ended; and an automation that goes on
-- without its journal isn't meant here.
abbrev pub IsOfRun : LateChannel → LateEvent → Type 0
IsOfRun c event.Tick = IsSome (given c.plan c.state)
IsOfRun c event.Take = outcome_of c.state.stage ≡ None
IsOfRun c event.Stop = outcome_of c.state.stage ≡ None
IsOfRun c event.AutomationAnew = ⊥
IsOfRun c _ = Unit {0}

-- Some events lead from a new channel to this one, and these are all its notes. Its journal may leave out what says nothing
-- new.
pub data IsRun : LateChannel → List Note → Type 0 where
  begun : (plan : Plan) (port : ClockedPort) (down up : List (List ℕ)) → CanStart plan port down up
      → IsRun (new_late_channel plan port down up) []
  happened : {c : LateChannel} {notes : List Note} → IsRun c notes → (e : LateEvent) → IsOfRun c e
      → IsRun (after_late_event c e) (notes ++ notes_of c e)
  -- what the operator says of the list is no event
  said : {c : LateChannel} {notes : List Note} → IsRun c notes → (call : ListCall) → outcome_of c.state.stage ≡ None
      → IsRun c (notes ++ note.List call ∷ [])

-- the next command is given and lost, and times out
abbrev pub asked_in_vain : LateChannel → LateChannel
asked_in_vain c = after_late_events c (event.Tick ∷ event.LoseDown (length c.down) ∷ event.Timeout ∷ [])

-- the controller alone: the state is asked, what was heard last is heard once more, after a take, and PLAY is given; and
-- nothing of it is on the way
abbrev pub played : Heard → LateChannel → LateChannel
played h c = record c {
  state = ticked (came_again c.plan h c.state);
  log = logged c.log (ended_by c.plan (Some h) (taken (ticked c.state)));
}
