-- The calls that an operator's hand makes: each that was asked for once, and no other.
use Rattle.std.specs.Duration.{as_nanos}
use Rattle.std.specs.Option.{option_to_list}
use Rattle.std.specs.Prelude.{ℕ, ◌≡◌, ◌≤◌, ◌-◌, ◌/◌, ◌^◌, ◌&&◌, Bool, true, false, not, Option, None, Some, List, [], ◌∷◌, ◌++◌, if◌then◌else◌, nat_lt}
use Rattle.std.specs.declared.time.Duration.{Duration}
use Rattle.vdcp_auto.specs.Plan.{View}
use Rattle.vdcp_auto.specs.State.{Stage, State, Ready}
use Rattle.vdcp_auto.specs.declared.phase.Phase.TheVariants as phase
use Rattle.vdcp_drive.specs.declared.hooks.Call.{Call}
use Rattle.vdcp_drive.specs.declared.hooks.Call.TheVariants as call
use Rattle.vdcp_list.specs.Rests.{FromEvent}
use Rattle.vdcp_operator.specs.LeftOut.{ahead_of}
use Rattle.vdcp_operator.specs.Seen.{ShowsRun}
use Rattle.vdcp_operator.specs.Typed.{SaysOn, left}
use Rattle.vdcp_operator.specs.Waiting.{is_called, held_after, will_hold}
use Rattle.vdcp_operator.specs.declared.hand.Ender.{Ender}
use Rattle.vdcp_operator.specs.declared.hand.Ender.TheVariants as ender
use Rattle.vdcp_operator.specs.declared.hand.Until.{Until}
use Rattle.vdcp_operator.specs.declared.hand.Until.TheVariants as until
use Rattle.vdcp_operator.specs.declared.on_list.OnList.{OnList}
use Rattle.vdcp_operator.specs.declared.seen.HandSeen.{HandSeen}
use Rattle.vdcp_operator.specs.declared.shown.RunPage.{RunPage}
use Rattle.vdcp_operator.specs.declared.typed.Said.{Said}
use Rattle.vdcp_operator.specs.declared.typed.Said.TheVariants as said
use Rattle.vdcp_operator.specs.declared.typed.Typed.{Typed}
use Rattle.vdcp_panel.specs.declared.call.Call.{Call as Asked}
use Rattle.vdcp_panel.specs.declared.call.Call.TheVariants as asked
use Rattle.vdcp_value.specs.declared.part.Item.{Item}
use Rattle.vdcp_words.specs.declared.command.Command.{Command}
use Rattle.vdcp_words.specs.declared.command.Command.TheVariants as command

-- what a call from a page says, as a line does
abbrev pub as_said : Asked → Said
as_said asked.Take = said.Take
as_said asked.Stop = said.Stop
as_said asked.Hold = said.Hold
as_said asked.Go = said.Go
as_said (asked.Skip event) = said.Skip event

-- a page, if there is one, was shown, with what is left out, and whether the list is held once what waits is obeyed; and of the
-- calls that it held then the first is this, if it held one; the others it holds still
abbrev pub PageCalls : {S : Type 0} → (S → List Item) → View (FromEvent S) → OnList → (waiting : List Said) → Option RunPage
    → Option Asked → Option RunPage → Type 0
PageCalls items c list waiting None call None = call ≡ None
PageCalls items c list waiting None call (Some page') = ⊥
PageCalls items c list waiting (Some page) call None = ⊥
PageCalls items c list waiting (Some page) call (Some page') = (hand : HandSeen) × (hand.holds ≡ will_hold waiting list.holds)
    × (hand.left_out.now ≡ list.left_out) × (shown : RunPage) × ShowsRun items c page None hand shown
    × (page' ≡ record shown { calls = page'.calls }) × (shown.calls.items ≡ option_to_list call ++ page'.calls.items)
    × (call ≡ None → shown.calls.items ≡ [])

-- of what is typed, if it is read, this is what the next line says, if it has come
abbrev pub TypedSays : {I : Type 0} → (I → Option (List ℕ)) → Option (Typed I) → Option Said → Option (Typed I) → Type 0
TypedSays remaining None says None = says ≡ None
TypedSays remaining None says (Some typed') = ⊥
TypedSays remaining (Some typed) says None = ⊥
TypedSays remaining (Some typed) says (Some typed') =
    SaysOn typed.line.items (left remaining typed.reader) (option_to_list says) typed'.line.items (left remaining typed'.reader)

-- the page's call goes first; what is typed waits then
abbrev pub FollowsPage : {I : Type 0} → (I → Option (List ℕ)) → Option Asked → Option (Typed I) → Option Said
    → Option (Typed I) → Type 0
FollowsPage remaining (Some first) typed says typed' = (says ≡ Some (as_said first)) × (typed' ≡ typed)
FollowsPage remaining None typed says typed' = TypedSays remaining typed says typed'

-- this is said next, if something is
abbrev pub IsSaid : {S I : Type 0} → (S → List Item) → (I → Option (List ℕ)) → View (FromEvent S) → OnList → (waiting : List Said)
    → Option RunPage → Option (Typed I) → Option Said → Option RunPage → Option (Typed I) → Type 0
IsSaid items remaining c list waiting page typed says page' typed' = (first : Option Asked)
    × PageCalls items c list waiting page first page' × FollowsPage remaining first typed says typed'

-- what is said next, if something is, waits from then on, if it can be obeyed
abbrev pub Heeds : {S I : Type 0} → (S → List Item) → (I → Option (List ℕ)) → View (FromEvent S) → OnList → (waiting : List Said)
    → Option RunPage → Option (Typed I) → (waiting' : List Said) → Option RunPage → Option (Typed I) → Type 0
Heeds items remaining c list waiting page typed waiting' page' typed' = (says : Option Said)
    × IsSaid items remaining c list waiting page typed says page' typed'
    × (waiting' ≡ held_after list.left_out (ahead_of items c) says waiting)

-- calls were asked for again and again, until those that wait ended it, or else up to some time
pub data Asks {S I : Type 0} (ends : List Said → Bool) (items : S → List Item) (remaining : I → Option (List ℕ))
    (c : View (FromEvent S)) (list : OnList) (waiting : List Said) (page : Option RunPage) (typed : Option (Typed I))
    : List Said → Option RunPage → Option (Typed I) → Type 0 where
  unasked : Asks ends items remaining c list waiting page typed waiting page typed
  once_more : {waiting' waiting'' : List Said} {page' page'' : Option RunPage} {typed' typed'' : Option (Typed I)}
      → Asks ends items remaining c list waiting page typed waiting' page' typed' → ends waiting' ≡ false
      → Heeds items remaining c list waiting' page' typed' waiting'' page'' typed''
      → Asks ends items remaining c list waiting page typed waiting'' page'' typed''

-- each call ends the asking, or one that is take or stop
abbrev pub ends_by : Ender → List Said → Bool
ends_by ender.Each [] = false
ends_by ender.Each (first ∷ waiting) = true
ends_by ender.TakeOrStop waiting = is_called waiting

abbrev pub ender_while : (awaiting : Bool) → Ender
ender_while true = ender.TakeOrStop
ender_while false = ender.Each

-- the next event is cued: what comes next is its PLAY, or the question whether it is time for that
abbrev pub is_cued : Stage → Bool
is_cued (Ready (phase.Wait k)) = true
is_cued (Ready (phase.Play k)) = true
is_cued _ = false

-- a hand that holds holds back what is cued, but for a wish to take; a wish to stop goes first
abbrev pub holds_back : (holds : Bool) → State → Bool
holds_back holds state = is_cued state.stage && (holds && (not state.take && not state.stop))

-- this command asks for the state
abbrev pub asks_state : Option Command → Bool
asks_state (Some (command.Status groups)) = true
asks_state _ = false

-- a call on the list isn't given while a state is awaited
abbrev pub given_now : (awaiting : Bool) → Option Call → Option Call
given_now true (Some (call.List c)) = None
given_now awaiting given = given

-- take and stop wait for no start
abbrev pub start_after : Call → Option Duration → Option Duration
start_after (call.List c) start = start
start_after _ start = None

-- until when a command waits: PLAY up to the start, if one is said, and STATUS as long as the port isn't to be asked; but what is
-- held back isn't waited for
abbrev pub until_for : (is_held : Bool) → Option Command → (start : Option Duration) → Until
until_for false (Some command.Play) (Some start) = until.Time start
until_for false (Some (command.Status groups)) start = until.Poll
until_for is_held _ start = until.Now

-- two seconds before the start, if one is said
abbrev pub AwaitsLead : Option Duration → Option Until → Type 0
AwaitsLead (Some start) lead = (time : Duration) × (lead ≡ Some (until.Time time)) × (as_nanos time ≡ as_nanos start - 2000000000)
AwaitsLead None lead = lead ≡ None

-- a time in milliseconds, if these aren't too many
abbrev pub millis_of : Option Duration → Option ℕ
millis_of None = None
millis_of (Some time) = if nat_lt (as_nanos time / 1000000) (2 ^ 64) then Some (as_nanos time / 1000000) else None

-- a time has come, by what the clock shows, if it can be read
abbrev pub HasCome : Duration → (now : Option Duration) → Type 0
HasCome time None = Unit {0}
HasCome time (Some now) = as_nanos time ≤ as_nanos now

-- it is waited no more, by what the clock shows, and the run's stopwatch if that is waited for
abbrev pub IsOver : Until → (now : Option Duration) → (due moment : ℕ) → Type 0
IsOver (until.Time time) now due moment = HasCome time now
IsOver until.Poll now due moment = due ≤ moment
IsOver until.Now now due moment = Unit {0}
