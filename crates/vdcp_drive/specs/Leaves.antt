-- What the calls of a driver leave, whatever it was before.
use Rattle.std.specs.Prelude.{ℕ, ◌≡◌, ◌≢◌, ◌≤◌, Bool, true, false, List, [], ◌∷◌, ◌++◌, length, map, All, Option, None, Some, Result, Ok, Err, ◌↔◌, IfOk, IsSome, IsNone, IsTrue, is_some}
use Rattle.vdcp_words.specs.declared.command.Command.{Command}
use Rattle.vdcp_frame.specs.Message.{AreOctets}
use Rattle.vdcp_auto.specs.Plan.{Plan, plan_of}
use Rattle.vdcp_value.specs.declared.part.Item.{Item}
use Rattle.vdcp_auto.specs.State.{State}
use Rattle.vdcp_auto.specs.Turn.{given, ticked, outcome_of}
use Rattle.vdcp_auto.specs.declared.outcome.Outcome.{Outcome}
use Rattle.vdcp_wire.specs.Wires.{Arrival, bytes, silence, close, has_closed}
use Rattle.vdcp_wire.specs.Acts.{Act, sends, brings, fails}
use Rattle.vdcp_drive.specs.Auto.{Auto, AreMade, Driving, Event, IsReachedFrom, arrivals, auto_of, after, ended, gives, receives}
use Rattle.vdcp_drive.specs.Ears.{Fold, inputs, ear_after}
use Rattle.vdcp_drive.specs.Lines.{line_of}
use Rattle.vdcp_drive.specs.Steps.{Chain, Step, acts, asks, keeps, misses, Rules, World, Happens, command_bytes, dropping, sending, ended_notes, given_notes, opening, steps_of}
use Rattle.vdcp_drive.specs.Traces.{until_close}
use Rattle.vdcp_drive.specs.declared.hooks.Kept.{Kept}
use Rattle.vdcp_drive.specs.declared.hooks.Kept.TheVariants as row
use Rattle.vdcp_drive.specs.declared.hooks.Next.{Next}
use Rattle.vdcp_drive.specs.declared.hooks.Next.TheVariants as next
use Rattle.vdcp_drive.specs.declared.hooks.BrokenOff.{BrokenOff}
use Rattle.vdcp_drive.specs.declared.hooks.BrokenOff.TheVariants as fault
use Rattle.vdcp_drive.specs.declared.line.Line.{Line}
use Rattle.vdcp_drive.specs.declared.line.Ran.{Ran}
use Rattle.vdcp_drive.specs.declared.line.Ran.TheVariants as ran

-- The next command goes out.

-- how its sending fails: in the drop, or in the send
pub data HasSendBroken {W : Type 0} (does : Act → W → W → Type 0) (first : Bool) (plan : Plan) (unit : ℕ)
    (state state' : State) (wire wire' : W) : Type 0 where
  in_drop : (c : Command) → given plan state ≡ Some c → first ≡ true → state' ≡ state → does fails wire wire'
      → HasSendBroken does first plan unit state state' wire wire'
  in_send : (c : Command) (front rest : List ℕ) → given plan state ≡ Some c → state' ≡ ticked state
      → command_bytes unit c ≡ front ++ rest → Chain does (dropping first ++ sends front ∷ []) wire wire'
      → HasSendBroken does first plan unit state state' wire wire'

-- the command that is given couldn't be kept
abbrev pub Misses : {J : Type 0} → (Kept → J → J → Type 0) → Option Command → J → J → Type 0
Misses loses None old new = ⊥
Misses loses (Some c) old new = loses (row.Sent c) old new

-- it is kept first
abbrev pub HasKeptAndSent : {W J : Type 0} → Rules W J → Bool → Plan → ℕ → State → State → World W J → World W J
    → Result Bool BrokenOff → Type 0
HasKeptAndSent rules first plan unit state state' old new (Err fault.Unkept) =
    (state' ≡ state) × (new.wire ≡ old.wire) × Misses rules.loses (given plan state) old.keep new.keep
HasKeptAndSent rules first plan unit state state' old new (Err fault.Left) = ⊥
HasKeptAndSent rules first plan unit state state' old new (Err fault.Device) =
    Chain rules.adds (given_notes (given plan state)) old.keep new.keep
    × HasSendBroken rules.does first plan unit state state' old.wire new.wire
HasKeptAndSent rules first plan unit state state' old new (Ok is_sent) =
    Chain rules.adds (given_notes (given plan state)) old.keep new.keep × (is_sent ≡ is_some (given plan state))
    × (state' ≡ ticked state) × Chain rules.does (sending first unit (given plan state)) old.wire new.wire

-- A listen.

-- its bytes are bytes
abbrev pub AreOctetsIn : Arrival → Type 0
AreOctetsIn (bytes piece) = AreOctets piece
AreOctetsIn silence = Unit {0}
AreOctetsIn close = Unit {0}

-- it brought this, which was heard, and of which more holds
pub record Hears {W E : Type 0} (does : Act → W → W → Type 0) (fold : Fold E) (plan : Plan) (unit : ℕ)
    (also : Arrival → Type 0) (l : Line) (state : State) (ear : E) (wire : W) (state' : State) (ear' : E) (wire' : W) :
    Type 0 where
  pub what : Arrival
  pub octets : AreOctetsIn what
  pub line_is : l ≡ line_of what
  pub brought : does (brings what) wire wire'
  pub state_is : state' ≡ receives plan (inputs fold unit what ear) state
  pub ear_is : ear' ≡ ear_after fold unit what ear
  pub more : also what

abbrev pub HasListened : {W E F : Type 0} → (Act → W → W → Type 0) → Fold E → Plan → ℕ → (Arrival → Type 0)
    → State → E → W → State → E → W → Result Line F → Type 0
HasListened does fold plan unit also state ear wire state' ear' wire' (Ok l) =
    Hears does fold plan unit also l state ear wire state' ear' wire'
HasListened does fold plan unit also state ear wire state' ear' wire' (Err e) = (state' ≡ state) × (ear' ≡ ear)
    × does fails wire wire'

-- what is noted of what a controller in this state heard of an arrival
abbrev pub Notes : {E K : Type 0} → (Kept → K → K → Type 0) → Fold E → Plan → ℕ → State → E → K → K → Arrival → Type 0
Notes adds fold plan unit state ear keep keep' what =
    Chain adds (ended_notes (ended plan (inputs fold unit what ear) state)) keep keep'

-- bytes were heard, and what they ended noted
pub record HearsPiece {E K : Type 0} (fold : Fold E) (adds : Kept → K → K → Type 0) (plan : Plan) (unit : ℕ)
    (piece : List ℕ) (state : State) (ear : E) (keep : K) (state' : State) (ear' : E) (keep' : K) : Type 0 where
  pub state_is : state' ≡ receives plan (map Some (fold.hears unit piece ear)) state
  pub ear_is : ear' ≡ fold.takes unit piece ear
  pub noted : Chain adds (ended_notes (ended plan (map Some (fold.hears unit piece ear)) state)) keep keep'

-- A run.

-- what a run of this many turns answers, by how the controller has ended, if it has, by how many were made, and by what came
abbrev pub RunsTo : Ran → Option Outcome → (count turns : ℕ) → List Arrival → Type 0
RunsTo ran.Ended outcome count turns came = IsSome outcome × (turns ≤ count)
RunsTo ran.Closed outcome count turns came = IsNone outcome × IsTrue (has_closed came) × (turns ≤ count)
RunsTo ran.Spent outcome count turns came = IsNone outcome × (has_closed came ≡ false) × (turns ≡ count)

-- what the hooks have answered before this is kept
abbrev pub asked_before : Kept → Next
asked_before (row.Called c) = next.Call c
asked_before _ = next.GoOn

-- how a run ended in which this happened: with what answer, what its last steps were, and what it left
pub data Ending {E : Type 0} (fold : Fold E) (plan : Plan) (unit count : ℕ) (events : List Event) (a : Auto E)
    (answer : Result Ran BrokenOff) (more : List Step) (a' : Auto E) : Type 0 where
  -- by itself
  by_itself : (r : Ran) → answer ≡ Ok r → RunsTo r (outcome_of a.state.stage) count (length events) (arrivals events)
      → more ≡ [] → a' ≡ a → Ending fold plan unit count events a answer more a'
  -- the hooks left it
  by_hooks : answer ≡ Err fault.Left → outcome_of a.state.stage ≡ None → more ≡ asks a.state next.Leave ∷ [] → a' ≡ a
      → Ending fold plan unit count events a answer more a'
  -- a call, or the next command, couldn't be kept: it wasn't given, or none of it was sent
  in_keep : (r : Kept) → answer ≡ Err fault.Unkept → outcome_of a.state.stage ≡ None
      → more ≡ asks a.state (asked_before r) ∷ misses r ∷ [] → a' ≡ a → Ending fold plan unit count events a answer more a'
  -- the wire failed: in the drop before the next command, in its send, or in the listen
  in_drop : (c : Command) → answer ≡ Err fault.Device → fold.drops ≡ true → given plan a.state ≡ Some c
      → more ≡ asks a.state next.GoOn ∷ keeps (row.Sent c) ∷ acts fails ∷ [] → a' ≡ a
      → Ending fold plan unit count events a answer more a'
  in_send : (c : Command) (front rest : List ℕ) → answer ≡ Err fault.Device → given plan a.state ≡ Some c
      → command_bytes unit c ≡ front ++ rest
      → more ≡ asks a.state next.GoOn ∷ keeps (row.Sent c) ∷ map acts (dropping fold.drops ++ sends front ∷ []) → a' ≡ gives a
      → Ending fold plan unit count events a answer more a'
  in_listen : answer ≡ Err fault.Device → more ≡ opening fold plan unit a ++ acts fails ∷ []
      → a' ≡ gives a → Ending fold plan unit count events a answer more a'

-- A run of at most this many turns gave this answer: what happened in it, turn by turn, and its last steps.
pub record IsRun {E : Type 0} (fold : Fold E) (plan : Plan) (unit count : ℕ) (a a' : Auto E)
    (answer : Result Ran BrokenOff) : Type 0 where
  pub events : List Event
  pub octets : All AreOctetsIn (arrivals events)
  pub closes_last : until_close (arrivals events) ≡ arrivals events
  pub made : AreMade fold plan unit a events
  pub more : List Step
  pub ending : Ending fold plan unit count events (after fold plan unit a events) answer more a'

-- its steps
abbrev pub steps_in : {E : Type 0} {fold : Fold E} {plan : Plan} {unit count : ℕ} {a a' : Auto E}
    {answer : Result Ran BrokenOff} → IsRun fold plan unit count a a' answer → List Step
steps_in {E} {fold} {plan} {unit} {count} {a} run = steps_of fold plan unit a run.events ++ run.more

-- and they happened to what it ran on
pub record HasRun {E W J : Type 0} (rules : Rules W J) (fold : Fold E) (plan : Plan) (unit count : ℕ) (a a' : Auto E)
    (world world' : World W J) (answer : Result Ran BrokenOff) : Type 0 where
  pub run : IsRun fold plan unit count a a' answer
  pub happened : Happens rules (steps_in run) world world'

-- what a run of at most this many turns leaves of a driver, and of its hooks' journal, with this answer
pub record RunLeaves {S E W J : Type 0} (items : S → List Item) (rules : Rules W J) (fold : Fold E)
    (failures : W → ℕ) (turns : ℕ) (old new : Driving S E W) (keep keep' : J)
    (answer : Result Ran BrokenOff) : Type 0 where
  pub runs : failures old.wire ≡ 0 → HasRun rules fold (plan_of items old.controller) old.unit turns
      (auto_of old) (auto_of new) (record { wire = old.wire; keep = keep })
      (record { wire = new.wire; keep = keep' }) answer
  -- of any automation over any wire: the controller, whose plan and unit stay
  pub reached : IsReachedFrom (plan_of items old.controller) old.controller.state new.controller.state
  pub ended : IfOk answer (λ r. (r ≡ ran.Ended) ↔ IsSome (outcome_of new.controller.state.stage))
  pub unended : (e : BrokenOff) → answer ≡ Err e → e ≢ fault.Device → outcome_of new.controller.state.stage ≡ None
  pub controller : new.controller ≡ record old.controller { state = new.controller.state }
  pub unit : new.unit ≡ old.unit
  -- the wire: it fails exactly if the answer is that, and then for good
  pub works : answer ≢ Err fault.Device → failures new.wire ≡ 0
  pub device : answer ≡ Err fault.Device → failures new.wire ≡ 1
  pub stays : failures old.wire ≡ 1 → (answer ≡ Err fault.Device) × (new ≡ old) × (keep' ≡ keep)
