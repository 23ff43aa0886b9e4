-- What a phase sends: that there is such a command, and that it can be written.
use Rattle.std.proofs.Common.{◌≡◌, ℕ, zero, suc, ◌<◌, Bool, true, false, Option, None, Some, List, [], ◌∷◌, length, refl, arith, subst}
use Rattle.std.specs.Prelude.{All, IfSome, MatchOption, is_some, slice_get}
use Rattle.std.specs.Option.{option_map}
use Rattle.std.proofs.lemmas.List.Elements.{All-get_or}
use Rattle.std.proofs.lemmas.Option.{slice_get_within, get_or_from_slice_get}
use Rattle.vdcp_value.specs.Parts.{IsItem, IsPart}
use Rattle.vdcp_value.specs.declared.clip_id.ClipId.{ClipId}
use Rattle.vdcp_value.specs.declared.part.Item.{Item}
use Rattle.vdcp_value.specs.declared.part.Part.{Part}
use Rattle.vdcp_words.specs.Commands.{IsWritableCommand}
use Rattle.vdcp_words.specs.declared.command.Command.TheVariants as command
use Rattle.vdcp_auto.specs.declared.phase.Mode.{Mode}
use Rattle.vdcp_auto.specs.declared.phase.Phase.{Phase}
use Rattle.vdcp_auto.specs.declared.phase.Phase.TheVariants as phase
use Rattle.vdcp_auto.specs.State.{Stage}
use Rattle.vdcp_auto.specs.State.{Ready, Awaiting, Ended}
use Rattle.vdcp_auto.specs.State.{State}
use Rattle.vdcp_auto.specs.Bounds.{IsPhaseOf}
use Rattle.vdcp_auto.specs.Commands.{cue_for, cue_of}
use Rattle.vdcp_auto.specs.Plan.{Plan}
use Rattle.vdcp_auto.specs.Table.{command_in, is_halting}
use Rattle.vdcp_auto.specs.Turn.{phase_to_send, given_in, given, awaited_in, awaited, is_ready, is_awaiting}
use Rattle.vdcp_auto.proofs.Memo.{Memo}
use Rattle.vdcp_auto.proofs.Keeps.{InPhase, AtStage}

-- What is sent can be written.

item_of_bytes : (list : List Item) (k : ℕ) (item : Item) → All IsItem list → slice_get list k ≡ Some item → IsItem item
item_of_bytes list k item all is =
    subst IsItem (get_or_from_slice_get list k item item is)
    (All-get_or IsItem list k item (slice_get_within list k item is) all)

cue_writable : (id : ClipId) (part : Option Part) → MatchOption part (Unit {0}) IsPart
    → IsWritableCommand (cue_for id part)
cue_writable id None is = tt
cue_writable id (Some part) is = is

cued_writable : (found : Option Item) → ((item : Item) → found ≡ Some item → IsItem item)
    → IfSome (option_map cue_of found) IsWritableCommand
cued_writable None is = tt
cued_writable (Some item) is = cue_writable item.id item.part (is item refl)

request_writable : (found : Option Item) → IfSome (option_map (λ item. command.IdRequest item.id) found)
    IsWritableCommand
request_writable None = tt
request_writable (Some item) = tt

pub sent_writable : (list : List Item) (port : ℕ) (p : Phase) → All IsItem list → port < 256
    → IfSome (command_in list port p) IsWritableCommand
sent_writable list port phase.Open all fits = (fits, omega arith)
sent_writable list port phase.Select all fits = fits
sent_writable list port phase.Seen all fits = omega arith
sent_writable list port (phase.Exists k) all fits = request_writable (slice_get list k)
sent_writable list port (phase.Cue k) all fits = cued_writable (slice_get list k)
    (λ item is. item_of_bytes list k item all is)
sent_writable list port (phase.Wait k) all fits = omega arith
sent_writable list port (phase.Play k) all fits = tt
sent_writable list port (phase.Probe k) all fits = omega arith
sent_writable list port (phase.Check k) all fits = tt
sent_writable list port phase.Drain all fits = omega arith
sent_writable list port phase.Close all fits = fits
sent_writable list port phase.Halt all fits = tt
sent_writable list port phase.HaltClose all fits = fits

awaited_at : (plan : Plan) (stage : Stage) → All IsItem plan.list → plan.port < 256
    → IfSome (awaited_in plan stage) IsWritableCommand
awaited_at plan (Ready p) all fits = tt
awaited_at plan (Awaiting p) all fits = sent_writable plan.list plan.port p all fits
awaited_at plan (Ended outcome) all fits = tt

given_at : (plan : Plan) (stop : Bool) (stage : Stage) → All IsItem plan.list → plan.port < 256
    → IfSome (given_in plan stop stage) IsWritableCommand
given_at plan stop (Ready p) all fits = sent_writable plan.list plan.port (phase_to_send stop p) all fits
given_at plan stop (Awaiting p) all fits = tt
given_at plan stop (Ended outcome) all fits = tt

pub awaited_writable : (plan : Plan) (s : State) → All IsItem plan.list → plan.port < 256
    → IfSome (awaited plan s) IsWritableCommand
awaited_writable plan s = awaited_at plan s.stage

pub given_writable : (plan : Plan) (s : State) → All IsItem plan.list → plan.port < 256
    → IfSome (given plan s) IsWritableCommand
given_writable plan s = given_at plan s.stop s.stage

-- Each phase of the list sends something.

item_some : (list : List Item) (k : ℕ) (P : Option Item → Bool) → ((item : Item) → P (Some item) ≡ true)
    → k < length list → P (slice_get list k) ≡ true
item_some [] k P is within = absurd (omega arith)
item_some (x ∷ xs) zero P is within = is x
item_some (x ∷ xs) (suc k) P is within = item_some xs k P is (omega arith)

sent_some : (list : List Item) (port : ℕ) (p : Phase) → IsPhaseOf (length list) p
    → is_some (command_in list port p) ≡ true
sent_some list port (phase.Exists k) within = item_some list k
    (λ o. is_some (option_map (λ item. command.IdRequest item.id) o)) (λ item. refl) within
sent_some list port (phase.Cue k) within = item_some list k (λ o. is_some (option_map cue_of o)) (λ item. refl) within
sent_some list port other within = refl

in_list : (mode : Mode) (list : List Item) (m : Memo) (awaiting stop : Bool) (tries : ℕ) (p : Phase)
    → InPhase mode list m awaiting stop tries p
    → IsPhaseOf (length list) p
in_list mode list m awaiting stop tries phase.Open holds = tt
in_list mode list m awaiting stop tries phase.Select holds = tt
in_list mode list m awaiting stop tries phase.Seen holds = tt
in_list mode list m awaiting stop tries phase.Drain holds = tt
in_list mode list m awaiting stop tries phase.Close holds = tt
in_list mode list m awaiting stop tries phase.Halt holds = tt
in_list mode list m awaiting stop tries phase.HaltClose holds = tt
in_list mode list m awaiting stop tries other holds = holds.2

pub gives_ready : (plan : Plan) (m : Memo) (stop : Bool) (tries : ℕ) (stage : Stage)
    → AtStage plan.mode plan.list plan.limit m stop tries stage
    → is_some (given_in plan stop stage) ≡ is_ready stage
gives_ready plan m true tries (Ready p) holds = refl
gives_ready plan m false tries (Ready p) holds = sent_some plan.list plan.port p
    (in_list plan.mode plan.list m false false tries p holds)
gives_ready plan m stop tries (Awaiting p) holds = refl
gives_ready plan m stop tries (Ended outcome) holds = refl

pub awaits_answer : (plan : Plan) (m : Memo) (stop : Bool) (tries : ℕ) (stage : Stage)
    → AtStage plan.mode plan.list plan.limit m stop tries stage
    → is_some (awaited_in plan stage) ≡ is_awaiting stage
awaits_answer plan m stop tries (Ready p) holds = refl
awaits_answer plan m stop tries (Awaiting p) holds = sent_some plan.list plan.port p
    (in_list plan.mode plan.list m true stop tries p holds)
awaits_answer plan m stop tries (Ended outcome) holds = refl

-- In Halt and HaltClose a STOP was sent.

halted : (mode : Mode) (list : List Item) (m : Memo) (stop : Bool) (tries : ℕ) (p : Phase)
    → InPhase mode list m false stop tries p
    → is_halting p ≡ true → m.stopped ≡ true
halted mode list m stop tries p holds is = grind arith

pub stopped_before : (mode : Mode) (list : List Item) (limit : ℕ) (m : Memo) (stop : Bool) (tries : ℕ) (stage : Stage)
    (p : Phase)
    → AtStage mode list limit m stop tries stage → stage ≡ Ready p → is_halting p ≡ true → m.stopped ≡ true
stopped_before mode list limit m stop tries stage p holds is halts =
    halted mode list m stop tries p (subst (AtStage mode list limit m stop tries) is holds) halts
