-- A state that is asked, heard, asked again, heard alike and asked again leaves the controller as it was.
use Rattle.std.proofs.Common.{◌≡◌, ℕ, ◌+◌, Bool, true, false, not, ◌||◌, ◌&&◌, Option, None, Some, refl, sym, ap, ◌∙◌, true≢false, length}
use Rattle.std.specs.Option.{option_map, option_map_or}
use Rattle.std.specs.Prelude.{if◌then◌else◌, nat_lt}
use Rattle.vdcp_auto.specs.Commands.{cue_of, cue_for, is_status_command}
use Rattle.vdcp_auto.specs.Log.{is_counted}
use Rattle.vdcp_auto.specs.Plan.{Plan}
use Rattle.vdcp_auto.specs.Replies.{is_cueing, is_done, is_empty, is_playing}
use Rattle.vdcp_auto.specs.State.{Stage, Ready, Awaiting, Ended, State}
use Rattle.vdcp_auto.specs.Table.{command_in, on_lost_cue, on_reply}
use Rattle.vdcp_auto.specs.Turn.{came_to, ended_in, given, given_in, is_end, stage_after, state_after, ticked, tries_in}
use Rattle.vdcp_auto.specs.declared.exchange.Exchange.{Exchange}
use Rattle.vdcp_auto.specs.declared.exchange.Heard.{Heard}
use Rattle.vdcp_auto.specs.declared.exchange.Heard.TheVariants as heard
use Rattle.vdcp_auto.specs.declared.outcome.Outcome.TheVariants.{Strange, Refused}
use Rattle.vdcp_auto.specs.declared.phase.Mode.{Mode}
use Rattle.vdcp_auto.specs.declared.phase.Mode.TheVariants.{Plain, Confirming}
use Rattle.vdcp_auto.specs.declared.phase.Phase.{Phase}
use Rattle.vdcp_auto.specs.declared.phase.Phase.TheVariants as phase
use Rattle.vdcp_auto.specs.declared.phase.Transition.{Transition}
use Rattle.vdcp_auto.specs.declared.phase.Transition.TheVariants.{Goes, Settles, Retries, Ends}
use Rattle.vdcp_value.specs.declared.part.Item.{Item}
use Rattle.vdcp_value.specs.declared.part.Part.{Part}
use Rattle.vdcp_value.specs.declared.clip_id.ClipId.{ClipId}
use Rattle.vdcp_words.specs.declared.command.Command.{Command}
use Rattle.vdcp_words.specs.declared.command.Command.TheVariants as command
use Rattle.vdcp_words.specs.declared.reply.Reply.{Reply}
use Rattle.vdcp_words.specs.declared.reply.Reply.TheVariants as reply

-- the state is asked
abbrev pub asks : Option Command → Bool
asks None = false
asks (Some c) = is_status_command c

cue_asks : (id : ClipId) (part : Option Part) → is_status_command (cue_for id part) ≡ false
cue_asks id None = refl
cue_asks id (Some part) = refl

pub cues_ask : (o : Option Item) → asks (option_map cue_of o) ≡ false
cues_ask None = refl
cues_ask (Some item) = cue_asks item.id item.part

pub presence_asks : (o : Option Item) → asks (option_map (λ item. command.IdRequest item.id) o) ≡ false
presence_asks None = refl
presence_asks (Some item) = refl

abbrev asks_in : Plan → Stage → Bool
asks_in plan (Ready p) = asks (command_in plan.list plan.port p)
asks_in plan (Awaiting p) = false
asks_in plan (Ended outcome) = false

-- where a state leads, if the state is asked next: nowhere, but for Seen
abbrev put : Phase → Phase
put phase.Seen = phase.Drain
put p = p

abbrev Stays : Plan → Transition → Phase → Type 0
Stays plan t p = asks_in plan (stage_after t) ≡ true → t ≡ Goes p

pub no : {A : Type 0} {b : Bool} → b ≡ false → b ≡ true → A
no f t = absurd (true≢false (sym t ∙ f))

from_seen : (plan : Plan) (some : Bool)
    → Stays plan (Goes (if some then phase.Exists 0 else phase.Drain)) phase.Drain
from_seen plan true h = no (presence_asks _) h
from_seen plan false h = refl

cue_lost : (plan : Plan) (mode : Mode) (limit tries k : ℕ) (some : Bool)
    → asks_in plan (stage_after (if some then Retries k else Ends (Refused k))) ≡ false
cue_lost plan mode limit tries k true = cues_ask _
cue_lost plan mode limit tries k false = refl

lost : (plan : Plan) (mode : Mode) (limit tries k : ℕ)
    → asks_in plan (stage_after (on_lost_cue mode limit tries k)) ≡ false
lost plan Plain limit tries k = refl
lost plan Confirming limit tries k = cue_lost plan Confirming limit tries k (nat_lt (tries + 1) limit)

from_wait : (plan : Plan) (mode : Mode) (limit tries k : ℕ) (plays none : Bool)
    → Stays plan (if plays then Goes (phase.Play k) else (if none then on_lost_cue mode limit tries k else Goes (phase.Wait k)))
    (phase.Wait k)
from_wait plan mode limit tries k true none h = no refl h
from_wait plan mode limit tries k false true h = no (lost plan mode limit tries k) h
from_wait plan mode limit tries k false false h = refl

from_probe : (plan : Plan) (k : ℕ) (done none : Bool)
    → Stays plan (if done then Goes (phase.Play k) else (if none then Settles k else Goes (phase.Probe k))) (phase.Probe k)
from_probe plan k true none h = no refl h
from_probe plan k false true h = no refl h
from_probe plan k false false h = refl

from_drain : (plan : Plan) (n : ℕ) (cued plays : Bool)
    → Stays plan (if cued then Ends (Strange n) else (if plays then Goes phase.Drain else Goes phase.Close)) phase.Drain
from_drain plan n true plays h = no refl h
from_drain plan n false true h = refl
from_drain plan n false false h = no refl h

-- a controller that isn't to stop
abbrev pub made : Stage → Bool → ℕ → ℕ → ℕ → State
made stage take unanswered settled tries = record {
  stage = stage;
  take = take;
  stop = false;
  unanswered = unanswered;
  settled = settled;
  tries = tries;
}

-- the state is asked, and this heard
abbrev pub once : Plan → Heard → State → State
once plan h s = came_to plan (Some h) (ticked s)

abbrev pub state : ℕ → ℕ → Reply
state groups byte = reply.State groups (Some byte)

pub ends : (mode : Mode) (g b : ℕ) → is_end mode (command.Status 1) (Some (heard.Reply (state g b))) ≡ true
ends Plain g b = refl
ends Confirming g b = refl

pub counts : (mode : Mode) (g b : ℕ)
    → is_counted mode (record { command = command.Status 1; heard = Some (heard.Reply (state g b)) }) ≡ true
counts Plain g b = refl
counts Confirming g b = refl

-- what an exchange makes of the controller that awaits its end
pub ended : (plan : Plan) (p : Phase) (take : Bool) (n m i g b : ℕ)
    → option_map_or (λ e. ended_in plan (Awaiting p) e (made (Awaiting p) take n m i))
    (if is_end plan.mode (command.Status 1) (Some (heard.Reply (state g b)))
    then Some (record { command = command.Status 1; heard = Some (heard.Reply (state g b)) }) else None)
    (made (Awaiting p) take n m i)
    ≡ state_after (on_reply plan.mode plan.list plan.limit take i p (state g b)) 0 (made (Awaiting p) take n m i)
ended plan p take n m i g b =
    let e : Exchange = record { command = command.Status 1; heard = Some (heard.Reply (state g b)) } in
    let s : State = made (Awaiting p) take n m i in
    ap (λ (x : Bool). option_map_or (λ e. ended_in plan (Awaiting p) e s) (if x then Some e else None) s)
    (ends plan.mode g b)
    ∙ ap (λ (x : Bool). state_after (on_reply plan.mode plan.list plan.limit take i p (state g b))
    (if x then 0 else n) s) (counts plan.mode g b)

asks_in_given : (plan : Plan) (stage : Stage) → asks (given_in plan false stage) ≡ asks_in plan stage
asks_in_given plan (Ready p) = refl
asks_in_given plan other = refl

-- a transition that stays in a phase, from a controller that heard a state
left : (plan : Plan) (t : Transition) (q p : Phase) (take : Bool) (n m i : ℕ) (s : State)
    → s ≡ state_after t 0 (made (Awaiting q) take n m i) → Stays plan t p → tries_in p i ≡ i
    → asks (given plan s) ≡ true → s ≡ made (Ready p) take 0 m i
left plan t q p take n m i s is stays tries h =
    let goes : t ≡ Goes p = stays (sym (asks_in_given plan (stage_after t))
    ∙ ap (λ (x : State). asks (given plan x)) (sym is) ∙ h) in
    is ∙ ap (λ (x : Transition). state_after x 0 (made (Awaiting q) take n m i)) goes
    ∙ ap (λ (k : ℕ). made (Ready p) take 0 m k) tries

-- what is left if the state is asked once more after it was heard
abbrev Leaves : Plan → Phase → Type 0
Leaves plan p = (take : Bool) (n m i g b : ℕ) → asks (command_in plan.list plan.port p) ≡ true
    → asks (given plan (once plan (heard.Reply (state g b)) (made (Ready p) take n m i))) ≡ true
    → once plan (heard.Reply (state g b)) (made (Ready p) take n m i) ≡ made (Ready (put p)) take 0 m i

leaves : (plan : Plan) (p : Phase) → Leaves plan p
leaves plan phase.Open take n m i g b a h = no refl a
leaves plan phase.Select take n m i g b a h = no refl a
leaves plan phase.Seen take n m i g b a h =
    left plan _ phase.Seen phase.Drain take n m i _ (ended plan phase.Seen take n m i g b)
    (from_seen plan (nat_lt 0 (length plan.list))) refl h
leaves plan (phase.Exists k) take n m i g b a h = no (presence_asks _) a
leaves plan (phase.Cue k) take n m i g b a h = no (cues_ask _) a
leaves plan (phase.Wait k) take n m i g b a h =
    left plan _ (phase.Wait k) (phase.Wait k) take n m i _ (ended plan (phase.Wait k) take n m i g b)
    (from_wait plan plan.mode plan.limit i k (is_done (state g b) && (not (is_playing (state g b)) || take))
    (is_empty (state g b))) refl h
leaves plan (phase.Play k) take n m i g b a h = no refl a
leaves plan (phase.Probe k) take n m i g b a h =
    left plan _ (phase.Probe k) (phase.Probe k) take n m i _ (ended plan (phase.Probe k) take n m i g b)
    (from_probe plan k (is_done (state g b)) (is_empty (state g b))) refl h
leaves plan (phase.Check k) take n m i g b a h = no refl a
leaves plan phase.Drain take n m i g b a h =
    left plan _ phase.Drain phase.Drain take n m i _ (ended plan phase.Drain take n m i g b)
    (from_drain plan (length plan.list) (is_cueing (state g b) || is_done (state g b)) (is_playing (state g b))) refl h
leaves plan other take n m i g b a h = no refl a

put_again : (p : Phase) → put (put p) ≡ put p
put_again phase.Open = refl
put_again other = refl

-- twice is once, if the state is asked thrice
abbrev Again : Plan → Heard → State → Type 0
Again plan h s = asks (given plan s) ≡ true → asks (given plan (once plan h s)) ≡ true
    → asks (given plan (once plan h (once plan h s))) ≡ true → once plan h (once plan h s) ≡ once plan h s

again_in : (plan : Plan) (p : Phase) (take : Bool) (n m i g b : ℕ)
    → Again plan (heard.Reply (state g b)) (made (Ready p) take n m i)
again_in plan p take n m i g b first second third =
    let h : Heard = heard.Reply (state g b) in
    let is : once plan h (made (Ready p) take n m i) ≡ made (Ready (put p)) take 0 m i =
    leaves plan p take n m i g b first second in
    let next = leaves plan (put p) take 0 m i g b
    (ap (λ (x : State). asks (given plan x)) (sym is) ∙ second)
    (ap (λ (x : State). asks (given plan (once plan h x))) (sym is) ∙ third) in
    ap (once plan h) is ∙ next ∙ ap (λ (x : Phase). made (Ready x) take 0 m i) (put_again p) ∙ sym is

again_at : (plan : Plan) (stage : Stage) (take stop : Bool) (n m i g b : ℕ)
    → Again plan (heard.Reply (state g b)) (record {
      stage = stage;
      take = take;
      stop = stop;
      unanswered = n;
      settled = m;
      tries = i;
    })
again_at plan (Ready p) take true n m i g b first second third = no refl first
again_at plan (Ready p) take false n m i g b first second third = again_in plan p take n m i g b first second third
again_at plan (Awaiting p) take stop n m i g b first second third = no refl first
again_at plan (Ended outcome) take stop n m i g b first second third = no refl first

pub again : (plan : Plan) (s : State) (g b : ℕ) → Again plan (heard.Reply (state g b)) s
again plan s g b = again_at plan s.stage s.take s.stop s.unanswered s.settled s.tries g b
