-- What a killed automation goes on as, whose rows are what is safe in its journal, and what going on writes behind them.
use Rattle.std.specs.Prelude.{ℕ, ◌≡◌, List, [], ◌∷◌, ◌++◌, Option, None, Some}
use Rattle.vdcp_value.specs.declared.part.Item.{Item}
use Rattle.vdcp_words.specs.declared.command.Command.{Command}
use Rattle.vdcp_words.specs.declared.command.Command.TheVariants as command
use Rattle.vdcp_port.specs.Clock.{ClockedPort, after_frames}
use Rattle.vdcp_auto.specs.Plan.{Plan}
use Rattle.vdcp_auto.specs.State.{State}
use Rattle.vdcp_auto.specs.Turn.{awaited, given, start}
use Rattle.vdcp_auto.specs.declared.exchange.Exchange.{Exchange}
use Rattle.vdcp_auto.specs.declared.exchange.Heard.{Heard}
use Rattle.vdcp_auto.specs.declared.outcome.Outcome.TheVariants.{Lost}
use Rattle.vdcp_journal.specs.Mending.{announced_state}
use Rattle.vdcp_journal.specs.Resume.{after_rows, timed_out}
use Rattle.vdcp_journal.specs.Thinned.{IsThinned, heard_last, notes_in}
use Rattle.vdcp_journal.specs.declared.row.Note.{Note}
use Rattle.vdcp_journal.specs.declared.row.Note.TheVariants as note
use Rattle.vdcp_journal.specs.declared.row.Row.{Row}
use Rattle.vdcp_journal_file.specs.Recording.{IsTimedOut, rows_left}
use Rattle.vdcp_journal_file.specs.declared.pending.Pending.{Pending}
use Rattle.vdcp_laws.specs.Automation.{new_prompt}
use Rattle.vdcp_laws.specs.TwoEnds.{AreJoined, Ends, aired_now, new_ends, port_now}
use Rattle.vdcp_world.specs.LateLine.LateChannel.{made_anew}

-- What may have gone out behind rows, by the command that is open, the one that is given next, and the state that announces a
-- PLAY: nothing; the next command, if it asks for the state or is a PLAY; and, if one is announced, a PLAY, once something was
-- heard.
pub data AreUnkept : (asked next : Option Command) → Option Heard → List Note → Type 0 where
  none : {asked next : Option Command} {announced : Option Heard} → AreUnkept asked next announced []
  asks : {groups : ℕ} {announced : Option Heard}
      → AreUnkept None (Some (command.Status groups)) announced (note.Sent (command.Status groups) ∷ [])
  plays : {announced : Option Heard} → AreUnkept None (Some command.Play) announced (note.Sent command.Play ∷ [])
  hears : {asks : Command} {next : Option Command} {state : Heard} (h : Heard)
      → AreUnkept (Some asks) next (Some state) (note.Heard h ∷ note.Sent command.Play ∷ [])
  asks_and_hears : {groups : ℕ} {state : Heard} (h : Heard)
      → AreUnkept None (Some (command.Status groups)) (Some state)
      (note.Sent (command.Status groups) ∷ note.Heard h ∷ note.Sent command.Play ∷ [])

-- behind rows that make this controller, and of which that was heard last
abbrev pub MayLack : Plan → State → Option Heard → List Note → Type 0
MayLack plan state heard = AreUnkept (awaited plan state) (given plan state) (announced_state heard state.stage)

-- these rows are a journal of what the automation gave and heard, but for what may have gone out since
pub record AreSafe (plan : Plan) (e : Ends) (rows : List Row) : Type 0 where
  pub unkept : List Note
  pub may_lack : MayLack plan (after_rows plan start rows) (heard_last (notes_in rows)) unkept
  pub thinned : IsThinned e.notes (notes_in rows ++ unkept)

-- notes, without those that say that the run was lost
abbrev pub without_losses : List Note → List Note
without_losses [] = []
without_losses (note.End Lost ∷ notes) = without_losses notes
without_losses (n ∷ notes) = n ∷ without_losses notes

-- ends that are joined, but that their notes also say where the run was lost, and went on under a greater limit
abbrev pub AreRejoined : Plan → ClockedPort → List Command → Ends → Type 0
AreRejoined plan port asked e = AreJoined plan port asked (record e { notes = without_losses e.notes })

-- and these ends are joined; their server has this port now, and these items aired
pub record AreOfJoined (plan : Plan) (port : ClockedPort) (asked : List Command) (now : ClockedPort) (aired : List Item)
    (rows : List Row) : Type 0 where
  pub ends : Ends
  pub joined : AreRejoined plan port asked ends
  pub port_is : port_now ends ≡ now
  pub aired_are : aired_now ends ≡ aired
  pub safe : AreSafe plan ends rows

-- A session begins so: its ends are joined, and await nothing; a journal's rows, with what is still to be written behind them,
-- are one of theirs: at most that what was open timed out.
pub record IsSession (plan : Plan) (port : ClockedPort) (asked : List Command) (rows : List Row) (waits : Pending) (e : Ends)
    : Type 0 where
  pub joined : AreRejoined plan port asked e
  pub ready : awaited plan e.automation.state ≡ None
  pub thinned : IsThinned e.notes (notes_in (rows ++ rows_left waits))
  pub unended : (command : Option Command) × IsTimedOut command waits

-- what a new connection finds at a server whose port was left so: that port, after the frames since, or one that was made anew
pub data Finds (left : ClockedPort) : ClockedPort → Type 0 where
  the_same : (frames : ℕ) → Finds left (after_frames frames left)
  a_new_one : Finds left (made_anew left)

-- the controller of these rows, once what is open there has timed out
abbrev pub state_in : Plan → List Row → State
state_in plan rows = timed_out plan (after_rows plan start rows)

-- a controller over a new connection to this port, with nothing sent yet
abbrev pub anew : ClockedPort → State → Ends
anew port state = record (new_ends port []) { automation = record new_prompt { state = state } }

-- behind other connections, with their exchanges, what aired, and what their journal has
abbrev pub behind : List Exchange → List Item → List Note → Ends → Ends
behind log aired notes e = record e { log_before = log; aired_before = aired; notes = notes }

-- The controller of these rows goes on over a new connection to this port, behind what aired: a session begins so.
pub record IsGoneOnWith (plan : Plan) (port : ClockedPort) (asked : List Command) (found : ClockedPort) (aired : List Item)
    (rows : List Row) : Type 0 where
  pub log : List Exchange
  pub notes : List Note
  pub begins : (waits : Pending) → IsTimedOut (awaited plan (after_rows plan start rows)) waits
      → IsSession plan port asked rows waits (behind log aired notes (anew found (state_in plan rows)))
