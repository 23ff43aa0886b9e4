-- What the calls of a server leave, whatever it was before.
use Rattle.std.specs.Prelude.{ℕ, ◌≡◌, ◌≤◌, Bool, true, false, IsTrue, List, [], ◌∷◌, ◌++◌, length, All, Option, None, Some, Result, Ok, Err, IsErr, OnErr, OnOk}
use Rattle.vdcp_value.specs.declared.part.Item.{Item}
use Rattle.vdcp_frame.specs.Progress.{Progress}
use Rattle.vdcp_port.specs.Answers.{after_messages, aired_on_way, answers_to, bytes_for}
use Rattle.vdcp_port.specs.Clock.{ClockedPort}
use Rattle.vdcp_frame.specs.Message.{Content}
use Rattle.vdcp_wire.specs.Acts.{Act, sends, OfFront}
use Rattle.vdcp_drive.specs.Steps.{Chain}
use Rattle.vdcp_drive.specs.ServerEars.{ServerEar, HasRead, completes, takes}
use Rattle.vdcp_drive.specs.Serving.{HookStep, IsCutShort, Service, Serving, acts_of, airs_at, asked, broken_steps, hook_steps, last_aired, left_by, sending, serves, turn_acts}
use Rattle.vdcp_drive.specs.Turns.{AreOctetsAt, IsMade, Turn, are_closed, turned_of, until_closed}
use Rattle.vdcp_drive.specs.declared.hearing.Hearing.{Hearing}
use Rattle.vdcp_drive.specs.declared.line.DriveFault.{DriveFault}
use Rattle.vdcp_drive.specs.declared.line.DriveFault.TheVariants as fault
use Rattle.vdcp_drive.specs.declared.line.TurnsEnd.{TurnsEnd}
use Rattle.vdcp_drive.specs.declared.line.TurnsEnd.TheVariants as end
use Rattle.vdcp_drive.specs.declared.server_hooks.Due.{Due}
use Rattle.vdcp_drive.specs.declared.server_hooks.Due.TheVariants as due
use Rattle.vdcp_drive.specs.declared.server_hooks.Turned.{Turned}
use Rattle.vdcp_drive.specs.declared.server_hooks.Turned.TheVariants as turned
use Rattle.vdcp_wire.specs.declared.wire.Came.{Came}

-- bytes were taken, and the messages that they complete are answered
pub record HasTaken {W : Type 0} (does : Act → W → W → Type 0) (hearing : Hearing) (s : Service) (aired : Option Item)
    (wire : W) (piece : List ℕ) (port' : ClockedPort) (reader' : Progress) (aired' : Option Item) (wire' : W) : Type 0 where
  pub has_read : HasRead hearing (takes s.ear piece) reader'
  pub port_is : port' ≡ after_messages s.port (completes s.ear piece)
  pub aired_is : aired' ≡ last_aired aired (aired_on_way s.port (completes s.ear piece))
  pub sent : Chain does (sending s.port.state.unit (answers_to s.port (completes s.ear piece))) wire wire'

-- the wire failed in the answer to one of these messages
pub record HasBroken {W : Type 0} (does : Act → W → W → Type 0) (s : Service) (aired : Option Item) (wire : W)
    (piece : List ℕ) (port' : ClockedPort) (aired' : Option Item) (wire' : W) : Type 0 where
  pub before : List Content
  pub last : Content
  pub others : List Content
  pub messages : completes s.ear piece ≡ before ++ last ∷ others
  pub port_is : port' ≡ after_messages s.port (before ++ last ∷ [])
  pub aired_is : aired' ≡ last_aired aired (aired_on_way s.port (before ++ last ∷ []))
  pub sent : OfFront (bytes_for (after_messages s.port before) last) (λ front.
      Chain does (sending s.port.state.unit (answers_to s.port before) ++ sends front ∷ []) wire wire')

-- A turn.

-- this happened, and was answered
pub record Serves {W : Type 0} (does : Act → W → W → Type 0) (can : Bool) (hearing : Hearing) (s : Service) (wire : W)
    (t : Turned) (port' : ClockedPort) (reader' : Progress) (aired' : Option Item) (wire' : W) : Type 0 where
  pub what : Turn
  pub octets : AreOctetsAt what
  pub made : IsMade can what
  pub turned_is : t ≡ turned_of what
  pub done : Chain does (turn_acts what s) wire wire'
  pub port_is : port' ≡ (serves what s).port
  pub aired_is : aired' ≡ airs_at what s
  pub has_read : HasRead hearing (serves what s).ear reader'

abbrev pub HasTurned : {W F : Type 0} → (Act → W → W → Type 0) → Bool → Hearing → Service → W → Result Turned F
    → ClockedPort → Progress → Option Item → W → Type 0
HasTurned does can hearing s wire (Ok t) port' reader' aired' wire' =
    Serves does can hearing s wire t port' reader' aired' wire'
HasTurned does can hearing s wire (Err e) port' reader' aired' wire' =
    (done : List Act) × IsCutShort s done port' aired' × Chain does done wire wire'

-- a turn that listens
abbrev pub listened : {F : Type 0} → Result Came F → Result Turned F
listened (Ok came) = Ok (turned.Listen came)
listened (Err e) = Err e

-- what was due, by what was done: giving up, if nothing was
abbrev pub due_by : {F : Type 0} → Option (Result Turned F) → Due
due_by None = due.GiveUp
due_by (Some (Ok (turned.Listen came))) = due.Listen
due_by (Some (Ok turned.Frame)) = due.Frame
due_by (Some (Err e)) = due.Listen

-- Some turns.

-- what this many turns answer, by what happened
abbrev pub ServesTo : Bool → TurnsEnd → ℕ → List Turn → Type 0
ServesTo can end.Closed count turns = IsTrue (are_closed turns) × (length turns ≤ count)
ServesTo can end.Spent count turns = (are_closed turns ≡ false) × (length turns ≡ count)
ServesTo can end.GivenUp count turns = (are_closed turns ≡ false) × (length turns ≤ count) × (can ≡ true)

-- before they ended by themselves the hooks were asked once more, if they gave the line up
abbrev pub end_steps : TurnsEnd → List HookStep
end_steps end.Closed = []
end_steps end.Spent = []
end_steps end.GivenUp = asked due.GiveUp ∷ []

-- how they ended: with what answer, what the wire and the hooks did last, and the port and the reader then
pub data ServeEnding (can : Bool) (count : ℕ) (turns : List Turn) (hearing : Hearing) (s : Service)
    (answer : Result TurnsEnd DriveFault) (done : List Act) (last : List HookStep) (port : ClockedPort) (reader : Progress) :
    Type 0 where
  by_itself : (e : TurnsEnd) → answer ≡ Ok e → ServesTo can e count turns → done ≡ [] → last ≡ end_steps e
      → port ≡ s.port → HasRead hearing s.ear reader → ServeEnding can count turns hearing s answer done last port reader
  cut_short : (aired : Option Item) → answer ≡ Err fault.Device → are_closed turns ≡ false
      → IsCutShort s done port aired → last ≡ broken_steps port aired
      → ServeEnding can count turns hearing s answer done last port reader

-- at most this many turns gave this answer, in which hooks took these steps
pub record HasServed {W : Type 0} (does : Act → W → W → Type 0) (can : Bool) (hooked : List HookStep → Type 0) (count : ℕ)
    (s : Service) (old new : Serving W) (answer : Result TurnsEnd DriveFault) : Type 0 where
  pub turns : List Turn
  pub octets : All AreOctetsAt turns
  pub made : All (IsMade can) turns
  pub closes_last : until_closed turns ≡ turns
  pub done : List Act
  pub last : List HookStep
  pub acted : Chain does (acts_of s turns ++ done) old.wire new.wire
  pub steps : hooked (hook_steps s turns ++ last)
  pub ending : ServeEnding can count turns old.hearing (left_by s turns) answer done last new.port new.reader

-- what at most this many turns leave of a server with this answer, and what its hooks did
pub record ServeLeaves {W : Type 0} (does : Act → W → W → Type 0) (can : Bool) (hooked : List HookStep → Type 0)
    (failures : W → ℕ) (count : ℕ) (old new : Serving W) (answer : Result TurnsEnd DriveFault) : Type 0 where
  pub serves : failures old.wire ≡ 0 → (ear : ServerEar) → HasRead old.hearing ear old.reader →
      HasServed does can hooked count (record { port = old.port; ear = ear }) old new answer
  pub hears : new.hearing ≡ old.hearing
  -- the wire fails exactly if the answer is a fault, and then for good
  pub works : OnOk answer (failures new.wire ≡ 0)
  pub device : OnErr answer (failures new.wire ≡ 1)
  pub stays : failures old.wire ≡ 1 → IsErr answer × (new ≡ old) × hooked []
