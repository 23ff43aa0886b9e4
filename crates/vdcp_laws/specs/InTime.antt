-- Two ends in time, of which the automation is new: a time-out comes only once all that was sent has come.
use Rattle.std.specs.Prelude.{ℕ, ◌≡◌, ◌<◌, All, IsSome, true, List, [], length}
use Rattle.vdcp_port.specs.Clock.{ClockedPort}
use Rattle.vdcp_auto.specs.Plan.{Plan}
use Rattle.vdcp_auto.specs.Turn.{is_awaiting}
use Rattle.vdcp_journal.specs.declared.row.Note.{Note}
use Rattle.vdcp_journal.specs.declared.row.Note.TheVariants as note
use Rattle.vdcp_wire.specs.Wires.{Arrival, bytes, silence, close}
use Rattle.vdcp_drive.specs.Turns.{arrivals}
use Rattle.vdcp_world.specs.Channel.{after_events, channel_to}
use Rattle.vdcp_world.specs.InTime.{IsNoStop, LosesNone}
use Rattle.vdcp_world.specs.declared.event.Event.{Event}
use Rattle.vdcp_laws.specs.TwoEnds.{Ends, Step, aired_now, asks, bytes_in, log_now, new_ends, port_now, resumed, restarted, sent_down, sent_up, waited}

-- all that either end has sent has come to the other
pub record HasCome (unit : ℕ) (e : Ends) : Type 0 where
  pub down : sent_down unit e ≡ bytes_in (arrivals e.downs)
  pub up : sent_up e ≡ e.ups

-- What is awaited doesn't time out before that; nothing is asked beside the controller; and neither end is restarted.
abbrev pub IsInTime : {plan : Plan} {unit : ℕ} {e e' : Ends} → Step plan unit e e' → Type 0
IsInTime {plan} {unit} {e} waited = is_awaiting e.automation.state.stage ≡ true → HasCome unit e
IsInTime (asks question c is) = ⊥
IsInTime (resumed goes) = ⊥
IsInTime (restarted goes) = ⊥
IsInTime _ = Unit {0}

-- what may come of both ends in such steps
pub data AreInTime (plan : Plan) (unit : ℕ) (first : Ends) : Ends → Type 0 where
  begun : AreInTime plan unit first first
  went_on : {e e' : Ends} → AreInTime plan unit first e → (step : Step plan unit e e') → IsInTime step
      → AreInTime plan unit first e'

-- and of two ends, of which the automation is new
abbrev pub AreNewInTime : Plan → ClockedPort → Ends → Type 0
AreNewInTime plan port e = AreInTime plan port.state.unit (new_ends port []) e

-- a listen brought bytes
abbrev pub IsPiece : Arrival → Type 0
IsPiece (bytes piece) = Unit {0}
IsPiece silence = ⊥
IsPiece close = ⊥

-- the operator didn't stop, nor take

abbrev pub IsNoStopNote : Note → Type 0
IsNoStopNote note.Stop = ⊥
IsNoStopNote _ = Unit {0}

abbrev pub IsNoTakeNote : Note → Type 0
IsNoTakeNote note.Take = ⊥
IsNoTakeNote _ = Unit {0}

-- a clip is on air at the server, and then another one is
pub record CutsShort (e e' : Ends) : Type 0 where
  pub plays : IsSome (port_now e).state.playing
  pub airs : length (aired_now e) < length (aired_now e')

-- The two ends are what these events lead a channel to, of which none loses anything.
pub record AreChannel (plan : Plan) (port : ClockedPort) (e : Ends) : Type 0 where
  pub events : List Event
  pub loses_none : All LosesNone events
  pub no_stop : All IsNoStopNote e.notes → All IsNoStop events
  pub state_is : (after_events (channel_to plan port) events).state ≡ e.automation.state
  pub log_is : (after_events (channel_to plan port) events).log ≡ log_now e
  pub port_is : (after_events (channel_to plan port) events).port ≡ port_now e
  pub aired_is : (after_events (channel_to plan port) events).aired ≡ aired_now e
