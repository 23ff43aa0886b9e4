-- What a session of `vdcp run` did over a connection (`HasTried`), and, with an ear that hears at once, where that leaves both
-- ends. In each stretch an automation of its own asked first, if that had to be, and with the ear that this left the list was
-- played: up to an event that was held back, but in the last one.
use Rattle.std.specs.Prelude.{ℕ, ◌≡◌, List, [], ◌++◌, Bool, Option, None, Some}
use Rattle.vdcp_auto.specs.Plan.{Plan}
use Rattle.vdcp_auto.specs.State.{State}
use Rattle.vdcp_auto.specs.Turn.{awaited}
use Rattle.vdcp_auto.specs.declared.exchange.Exchange.{Exchange}
use Rattle.vdcp_wire.specs.Acts.{Act}
use Rattle.vdcp_drive.specs.Auto.{AreMade, Event, log_of}
use Rattle.vdcp_drive.specs.Ears.{Fold}
use Rattle.vdcp_drive.specs.Hearing.{at_once}
use Rattle.vdcp_drive.specs.Leaves.{steps_in}
use Rattle.vdcp_drive.specs.Reading.{Held}
use Rattle.vdcp_drive.specs.Steps.{Step, steps_of}
use Rattle.vdcp_drive.specs.Traces.{acts_in, came_in, commands_kept, kept_in}
use Rattle.vdcp_drive.specs.Turns.{Turn}
use Rattle.vdcp_drive.specs.declared.hooks.Kept.{Kept}
use Rattle.vdcp_journal.specs.declared.row.Row.{Row}
use Rattle.vdcp_journal_file.specs.Recorded.{WaitsSince}
use Rattle.vdcp_journal_file.specs.Recording.{rows_left}
use Rattle.vdcp_journal_file.specs.declared.pending.Pending.{Pending}
use Rattle.vdcp_journal_file.specs.declared.pending.Pending.TheVariants as pending
use Rattle.vdcp_laws.specs.Carried.{driver_of}
use Rattle.vdcp_laws.specs.OneConnection.{ends_by}
use Rattle.vdcp_laws.specs.TwoEnds.{Ends, asked_first, bytes_in, with_command}
use Rattle.vdcp_run.specs.Asking.{Asker, HasAsked, Start, asker_of}
use Rattle.vdcp_run.specs.Session.{AsksFirst, HasEnded, HasHeld, HasTried, Onset, held, none, played, unbegun}
use Rattle.vdcp_run.specs.declared.run_end.LineEnd.{LineEnd}
use Rattle.vdcp_run.specs.declared.run_end.RunEnd.{RunEnd}
use Rattle.vdcp_run.specs.declared.run_end.Signs.{Signs}
use Rattle.vdcp_run.specs.declared.settings.RunSettings.{RunSettings}

-- what begins with these ends
abbrev pub start_at : Plan → (from : ℕ) → Ends → Start
start_at plan from e = record { plan = plan; from = from; state = e.automation.state }

-- ---- while it asked

abbrev pub steps_asked : {E W : Type 0} (does : Act → W → W → Type 0) (fold : Fold E) (settings : RunSettings) (ear ear' : E)
    (wire wire' : W) (left : ℕ) (signs signs' : Signs) (line : Option LineEnd) (asker : Option Asker)
    → HasAsked asker does fold settings ear ear' wire wire' left signs signs' line → List Step
steps_asked does fold settings ear ear' wire wire' left signs signs' line None h = []
steps_asked does fold settings ear ear' wire wire' left signs signs' line (Some asker) h = steps_in h.comes.runs.run

abbrev pub steps_first : {E W F : Type 0} (does : Act → W → W → Type 0) (fold : Fold E) (settings : RunSettings) (is_held : Bool)
    (x : Onset E W F) (ear : E) (wire : W) (left : ℕ) (signs : Signs) (line : Option LineEnd)
    → AsksFirst does fold settings is_held x ear wire left signs line → List Step
steps_first does fold settings is_held x ear wire left signs line h =
    steps_asked does fold (record settings { listens = x.turns }) x.ear ear x.world.wire wire left x.signs signs line
    (asker_of settings.ask is_held x.start) h

-- where these steps, which left this ear, leave the ends
abbrev pub ends_asked : List Step → Held → Ends → Ends
ends_asked steps ear e = asked_first (commands_kept (kept_in steps)) ear (bytes_in (came_in (acts_in steps))) e

-- ---- while events were held back

-- what the wire did
abbrev pub acts_held : {E W F : Type 0} {does : Act → W → W → Type 0} {safe : F → Option (List ℕ)} {fold : Fold E} {settings : RunSettings}
    {z x : Onset E W F} → HasHeld does safe fold settings z x → List Act
acts_held none = []
acts_held {does} {fold} {settings} {x} (held is_held ear wire count signs asks auto left runs is keep written turns later) =
    (acts_in (steps_first does fold settings is_held x ear wire count signs None asks) ++ acts_in (steps_in runs.run)) ++ acts_held later

-- the exchanges that ended
abbrev pub log_held : {E W F : Type 0} {does : Act → W → W → Type 0} {safe : F → Option (List ℕ)} {fold : Fold E} {settings : RunSettings}
    {z x : Onset E W F} → HasHeld does safe fold settings z x → List Exchange
log_held none = []
log_held {fold} {settings} {x} (held is_held ear wire count signs asks auto left runs is keep written turns later) =
    log_of fold x.start.plan settings.unit (record { ear = ear; state = x.start.state }) runs.run.events ++ log_held later

-- what was kept of them
abbrev pub kept_held : {E W F : Type 0} {does : Act → W → W → Type 0} {safe : F → Option (List ℕ)} {fold : Fold E} {settings : RunSettings}
    {z x : Onset E W F} → HasHeld does safe fold settings z x → List Kept
kept_held none = []
kept_held (held is_held ear wire count signs asks auto left runs is keep written turns later) =
    kept_in (steps_in runs.run) ++ kept_held later

-- where this leaves the ends
abbrev pub ends_held : {W F : Type 0} {does : Act → W → W → Type 0} {safe : F → Option (List ℕ)} {settings : RunSettings}
    {z x : Onset Held W F} → HasHeld does safe at_once settings z x → Ends → Ends
ends_held none e = e
ends_held {does} {settings} {x} (held is_held ear wire count signs asks auto left runs is keep written turns later) e =
    ends_held later (ends_by x.start.plan settings.unit
    (ends_asked (steps_first does at_once settings is_held x ear wire count signs None asks) ear e) runs.run.events)

-- ---- in the last stretch

abbrev pub acts_ended : {E W F : Type 0} {does : Act → W → W → Type 0} {safe : F → Option (List ℕ)} {fold : Fold E} {settings : RunSettings}
    {x : Onset E W F} {last : W} {end : RunEnd} → HasEnded does safe fold settings x last end → List Act
acts_ended {does} {fold} {settings} {x} (played is_held ear wire left signs asks plays) =
    acts_in (steps_first does fold settings is_held x ear wire left signs None asks) ++ acts_in (steps_in plays.runs.run)
acts_ended {does} {fold} {settings} {x} {last} (unbegun is_held ear left signs line asks is reports) =
    acts_in (steps_first does fold settings is_held x ear last left signs (Some line) asks)

abbrev pub state_ended : {E W F : Type 0} {does : Act → W → W → Type 0} {safe : F → Option (List ℕ)} {fold : Fold E} {settings : RunSettings}
    {x : Onset E W F} {last : W} {end : RunEnd} → HasEnded does safe fold settings x last end → State
state_ended (played is_held ear wire left signs asks plays) = plays.auto.state
state_ended {x} (unbegun is_held ear left signs line asks is reports) = x.start.state

abbrev pub log_ended : {E W F : Type 0} {does : Act → W → W → Type 0} {safe : F → Option (List ℕ)} {fold : Fold E} {settings : RunSettings}
    {x : Onset E W F} {last : W} {end : RunEnd} → HasEnded does safe fold settings x last end → List Exchange
log_ended {fold} {settings} {x} (played is_held ear wire left signs asks plays) =
    log_of fold x.start.plan settings.unit (record { ear = ear; state = x.start.state }) plays.runs.run.events
log_ended (unbegun is_held ear left signs line asks is reports) = []

abbrev pub kept_ended : {E W F : Type 0} {does : Act → W → W → Type 0} {safe : F → Option (List ℕ)} {fold : Fold E} {settings : RunSettings}
    {x : Onset E W F} {last : W} {end : RunEnd} → HasEnded does safe fold settings x last end → List Kept
kept_ended (played is_held ear wire left signs asks plays) = kept_in (steps_in plays.runs.run)
kept_ended (unbegun is_held ear left signs line asks is reports) = []

abbrev pub ends_ended : {W F : Type 0} {does : Act → W → W → Type 0} {safe : F → Option (List ℕ)} {settings : RunSettings}
    {x : Onset Held W F} {last : W} {end : RunEnd} → HasEnded does safe at_once settings x last end → Ends → Ends
ends_ended {does} {settings} {x} (played is_held ear wire left signs asks plays) e =
    with_command x.start.plan (ends_by x.start.plan settings.unit
    (ends_asked (steps_first does at_once settings is_held x ear wire left signs None asks) ear e) plays.runs.run.events)
ends_ended {does} {settings} {x} {last} (unbegun is_held ear left signs line asks is reports) e =
    ends_asked (steps_first does at_once settings is_held x ear last left signs (Some line) asks) ear e

-- the same without the next command, as if nothing is awaited then
abbrev pub ends_left_by : {W F : Type 0} {does : Act → W → W → Type 0} {safe : F → Option (List ℕ)} {settings : RunSettings}
    {x : Onset Held W F} {last : W} {end : RunEnd} → HasEnded does safe at_once settings x last end → Ends → Ends
ends_left_by {does} {settings} {x} (played is_held ear wire left signs asks plays) e = ends_by x.start.plan settings.unit
    (ends_asked (steps_first does at_once settings is_held x ear wire left signs None asks) ear e) plays.runs.run.events
ends_left_by {does} {settings} {x} {last} (unbegun is_held ear left signs line asks is reports) e =
    ends_asked (steps_first does at_once settings is_held x ear last left signs (Some line) asks) ear e

-- ---- in all

-- what the wire did
abbrev pub acts_tried : {E W F : Type 0} {does : Act → W → W → Type 0} {safe : F → Option (List ℕ)} {fold : Fold E} {settings : RunSettings}
    {x : Onset E W F} {last : W} {end : RunEnd} → HasTried does safe fold settings x last end → List Act
acts_tried tried = acts_held tried.held ++ acts_ended tried.ended

-- the list's controller is left so
abbrev pub state_tried : {E W F : Type 0} {does : Act → W → W → Type 0} {safe : F → Option (List ℕ)} {fold : Fold E} {settings : RunSettings}
    {x : Onset E W F} {last : W} {end : RunEnd} → HasTried does safe fold settings x last end → State
state_tried tried = state_ended tried.ended

-- and these of its exchanges ended
abbrev pub log_tried : {E W F : Type 0} {does : Act → W → W → Type 0} {safe : F → Option (List ℕ)} {fold : Fold E} {settings : RunSettings}
    {x : Onset E W F} {last : W} {end : RunEnd} → HasTried does safe fold settings x last end → List Exchange
log_tried tried = log_held tried.held ++ log_ended tried.ended

-- of which this was kept
abbrev pub kept_tried : {E W F : Type 0} {does : Act → W → W → Type 0} {safe : F → Option (List ℕ)} {fold : Fold E} {settings : RunSettings}
    {x : Onset E W F} {last : W} {end : RunEnd} → HasTried does safe fold settings x last end → List Kept
kept_tried tried = kept_held tried.held ++ kept_ended tried.ended

-- where this and these turns leave the ends
abbrev pub ends_tried : {W F : Type 0} {does : Act → W → W → Type 0} {safe : F → Option (List ℕ)} {settings : RunSettings}
    {x : Onset Held W F} {last : W} {end : RunEnd} → HasTried does safe at_once settings x last end → Ends → List Turn → Ends
ends_tried tried e downs = record (ends_ended tried.ended (ends_held tried.held e)) { downs = downs }

-- and if it awaits nothing then
abbrev pub ends_left : {W F : Type 0} {does : Act → W → W → Type 0} {safe : F → Option (List ℕ)} {settings : RunSettings}
    {x : Onset Held W F} {last : W} {end : RunEnd} → HasTried does safe at_once settings x last end → Ends → List Turn → Ends
ends_left tried e downs = record (ends_left_by tried.ended (ends_held tried.held e)) { downs = downs }

-- ---- up to a kill

-- what was to be asked beside these ends was, and the list is begun
pub record AsksAt {W : Type 0} (does : Act → W → W → Type 0) (plan : Plan) (from unit : ℕ) (e : Ends) : Type 0 where
  pub settings : RunSettings
  pub is_held : Bool
  pub ear : Held
  pub wire : W
  pub wire' : W
  pub left : ℕ
  pub signs : Signs
  pub signs' : Signs
  pub asked : HasAsked (asker_of settings.ask is_held (start_at plan from e)) does at_once (record settings { unit = unit })
      e.automation.held ear wire wire' left signs signs' None

abbrev pub questions_at : {W : Type 0} {does : Act → W → W → Type 0} {plan : Plan} {from unit : ℕ} {e : Ends}
    → AsksAt does plan from unit e → List Step
questions_at {does} {plan} {from} {unit} {e} a = steps_asked does at_once (record a.settings { unit = unit }) e.automation.held a.ear a.wire
    a.wire' a.left a.signs a.signs' None (asker_of a.settings.ask a.is_held (start_at plan from e)) a.asked

abbrev pub asked_at : {W : Type 0} {does : Act → W → W → Type 0} {plan : Plan} {from unit : ℕ} {e : Ends}
    → AsksAt does plan from unit e → Ends
asked_at {e} a = ends_asked (questions_at a) a.ear e

-- From these ends on, with these rows and this still to be written behind them, events were held back, each for a while, by these
-- acts: what was to be asked was, and this happened, of which that was noted, up to the event. Then all that waited was written.
pub data IsHeldOn {W : Type 0} (does : Act → W → W → Type 0) (plan : Plan) (from unit : ℕ) (e : Ends) (rows : List Row)
    (waits : Pending) : Ends → List Row → Pending → List Act → Type 0 where
  begun : IsHeldOn does plan from unit e rows waits e rows waits []
  went_on : {now : Ends} {earlier : List Row} {before : Pending} {acts : List Act}
      → IsHeldOn does plan from unit e rows waits now earlier before acts → (a : AsksAt does plan from unit now) (events : List Event)
      → AreMade at_once plan unit (driver_of (asked_at a).automation) events
      → awaited plan (ends_by plan unit (asked_at a) events).automation.state ≡ None
      → (written : List Row) (left : Pending)
      → WaitsSince before (kept_in (steps_of at_once plan unit (driver_of (asked_at a).automation) events)) written left
      → IsHeldOn does plan from unit e rows waits (ends_by plan unit (asked_at a) events)
      ((earlier ++ written) ++ rows_left left) pending.Nothing
      (acts ++ (acts_in (questions_at a) ++ acts_in (steps_of at_once plan unit (driver_of (asked_at a).automation) events)))
