-- If a PLAY goes out, the state that was heard before it may have been any with the cue done and nothing playing.
use Rattle.std.proofs.Common.{◌≡◌, ℕ, ◌+◌, Bool, true, false, not, ◌||◌, ◌&&◌, Option, None, Some, refl, sym, ap, ◌∙◌, length}
use Rattle.std.specs.Option.{option_map}
use Rattle.std.specs.Prelude.{if◌then◌else◌, nat_lt}
use Rattle.vdcp_auto.specs.Commands.{cue_of, cue_for, is_play_command}
use Rattle.vdcp_auto.specs.Plan.{Plan}
use Rattle.vdcp_auto.specs.Replies.{is_cueing, is_done, is_empty, is_playing}
use Rattle.vdcp_auto.specs.State.{Stage, Ready, Awaiting, Ended, State}
use Rattle.vdcp_auto.specs.Table.{command_in, on_lost_cue, on_reply}
use Rattle.vdcp_auto.specs.Turn.{came_to, given, given_in, stage_after, state_after, taken, ticked}
use Rattle.vdcp_auto.specs.declared.exchange.Heard.{Heard}
use Rattle.vdcp_auto.specs.declared.exchange.Heard.TheVariants as heard
use Rattle.vdcp_auto.specs.declared.outcome.Outcome.TheVariants.{Strange, Refused}
use Rattle.vdcp_auto.specs.declared.phase.Mode.{Mode}
use Rattle.vdcp_auto.specs.declared.phase.Mode.TheVariants.{Plain, Confirming}
use Rattle.vdcp_auto.specs.declared.phase.Phase.{Phase}
use Rattle.vdcp_auto.specs.declared.phase.Phase.TheVariants as phase
use Rattle.vdcp_auto.specs.declared.phase.Transition.{Transition}
use Rattle.vdcp_auto.specs.declared.phase.Transition.TheVariants.{Goes, Settles, Retries, Ends}
use Rattle.vdcp_journal.proofs.StateAgain.{asks, cues_ask, ended, made, no, once, presence_asks, state}
use Rattle.vdcp_value.specs.declared.part.Item.{Item}
use Rattle.vdcp_value.specs.declared.part.Part.{Part}
use Rattle.vdcp_value.specs.declared.clip_id.ClipId.{ClipId}
use Rattle.vdcp_words.specs.declared.command.Command.{Command}
use Rattle.vdcp_words.specs.declared.command.Command.TheVariants as command

-- a PLAY goes out
abbrev pub plays : Option Command → Bool
plays None = false
plays (Some c) = is_play_command c

cue_plays : (id : ClipId) (part : Option Part) → is_play_command (cue_for id part) ≡ false
cue_plays id None = refl
cue_plays id (Some part) = refl

cues_play : (o : Option Item) → plays (option_map cue_of o) ≡ false
cues_play None = refl
cues_play (Some item) = cue_plays item.id item.part

presence_plays : (o : Option Item) → plays (option_map (λ item. command.IdRequest item.id) o) ≡ false
presence_plays None = refl
presence_plays (Some item) = refl

abbrev plays_in : Plan → Stage → Bool
plays_in plan (Ready p) = plays (command_in plan.list plan.port p)
plays_in plan (Awaiting p) = false
plays_in plan (Ended outcome) = false

plays_in_given : (plan : Plan) (stage : Stage) → plays (given_in plan false stage) ≡ plays_in plan stage
plays_in_given plan (Ready p) = refl
plays_in_given plan other = refl

-- where a transition leads, if a PLAY goes out next
abbrev Plays : Plan → Transition → ℕ → Type 0
Plays plan t k = plays_in plan (stage_after t) ≡ true → t ≡ Goes (phase.Play k)

seen_none : (plan : Plan) (some : Bool)
    → plays_in plan (stage_after (Goes (if some then phase.Exists 0 else phase.Drain))) ≡ false
seen_none plan true = presence_plays _
seen_none plan false = refl

cue_lost : (plan : Plan) (limit tries k : ℕ) (some : Bool)
    → plays_in plan (stage_after (if some then Retries k else Ends (Refused k))) ≡ false
cue_lost plan limit tries k true = cues_play _
cue_lost plan limit tries k false = refl

lost : (plan : Plan) (mode : Mode) (limit tries k : ℕ)
    → plays_in plan (stage_after (on_lost_cue mode limit tries k)) ≡ false
lost plan Plain limit tries k = refl
lost plan Confirming limit tries k = cue_lost plan limit tries k (nat_lt (tries + 1) limit)

from_wait : (plan : Plan) (mode : Mode) (limit tries k : ℕ) (goes none : Bool)
    → Plays plan (if goes then Goes (phase.Play k) else (if none then on_lost_cue mode limit tries k else Goes (phase.Wait k))) k
from_wait plan mode limit tries k true none h = refl
from_wait plan mode limit tries k false true h = no (lost plan mode limit tries k) h
from_wait plan mode limit tries k false false h = no refl h

from_probe : (plan : Plan) (k : ℕ) (done none : Bool)
    → Plays plan (if done then Goes (phase.Play k) else (if none then Settles k else Goes (phase.Probe k))) k
from_probe plan k true none h = refl
from_probe plan k false true h = no refl h
from_probe plan k false false h = no refl h

drain_none : (plan : Plan) (n : ℕ) (cued plays : Bool)
    → plays_in plan (stage_after (if cued then Ends (Strange n) else (if plays then Goes phase.Drain else Goes phase.Close))) ≡ false
drain_none plan n true plays = refl
drain_none plan n false true = refl
drain_none plan n false false = refl

-- no PLAY goes out after this
none_goes : (plan : Plan) (t : Transition) (q : Phase) (take : Bool) (n m i : ℕ) (s : State)
    → s ≡ state_after t 0 (made (Awaiting q) take n m i) → plays_in plan (stage_after t) ≡ false
    → plays (given plan s) ≡ false
none_goes plan t q take n m i s is none =
    ap (λ (x : State). plays (given plan x)) is ∙ plays_in_given plan (stage_after t) ∙ none

goes : (plan : Plan) (t : Transition) (q : Phase) (k : ℕ) (take : Bool) (n m i : ℕ) (s : State)
    → s ≡ state_after t 0 (made (Awaiting q) take n m i) → Plays plan t k → plays (given plan s) ≡ true
    → s ≡ made (Ready (phase.Play k)) take 0 m i
goes plan t q k take n m i s is plays_so h =
    let to : t ≡ Goes (phase.Play k) = plays_so (sym (plays_in_given plan (stage_after t))
    ∙ ap (λ (x : State). plays (given plan x)) (sym is) ∙ h) in
    is ∙ ap (λ (x : Transition). state_after x 0 (made (Awaiting q) take n m i)) to

-- the operator's take
abbrev pub wished : Bool → State → State
wished true s = taken s
wished false s = s

-- the state is asked, a take may be called, and this heard
abbrev pub heard_after : Plan → Bool → Heard → State → State
heard_after plan took h s = came_to plan (Some h) (wished took (ticked s))

-- a PLAY of one event goes out after the one state and after the other
record Both (plan : Plan) (first second : State) (m i : ℕ) : Type 0 where
  pub k : ℕ
  pub take : Bool
  pub other : Bool
  pub plays_first : first ≡ made (Ready (phase.Play k)) take 0 m i
  pub plays_second : second ≡ made (Ready (phase.Play k)) other 0 m i

free_goes : (done plays take : Bool) → (done && not plays) ≡ true → (done && (not plays || take)) ≡ true
free_goes true false take h = refl
free_goes true true take h = no refl h
free_goes false plays take h = no refl h

free_done : (done plays : Bool) → (done && not plays) ≡ true → done ≡ true
free_done true plays h = refl
free_done false plays h = no refl h

-- the same command asks for the state, which is heard so and so
abbrev Alike : Plan → Phase → Type 0
Alike plan p = (took take : Bool) (n m i g b g' b' : ℕ) → asks (command_in plan.list plan.port p) ≡ true
    → plays (given plan (heard_after plan took (heard.Reply (state g b)) (made (Ready p) take n m i))) ≡ true
    → (is_done (state g' b') && not (is_playing (state g' b'))) ≡ true
    → Both plan (heard_after plan took (heard.Reply (state g b)) (made (Ready p) take n m i))
    (once plan (heard.Reply (state g' b')) (made (Ready p) take n m i)) m i

waits : (plan : Plan) (k : ℕ) (take other : Bool) (n m i g b g' b' : ℕ) (first : State)
    → first ≡ once plan (heard.Reply (state g b)) (made (Ready (phase.Wait k)) other n m i)
    → plays (given plan first) ≡ true
    → (is_done (state g' b') && not (is_playing (state g' b'))) ≡ true
    → Both plan first (once plan (heard.Reply (state g' b')) (made (Ready (phase.Wait k)) take n m i)) m i
waits plan k take other n m i g b g' b' first is h free = record {
  k = k;
  take = other;
  other = take;
  plays_first = goes plan _ (phase.Wait k) k other n m i first (is ∙ ended plan (phase.Wait k) other n m i g b)
      (from_wait plan plan.mode plan.limit i k (is_done (state g b) && (not (is_playing (state g b)) || other))
      (is_empty (state g b))) h;
  plays_second = ended plan (phase.Wait k) take n m i g' b'
      ∙ ap (λ (t : Bool). state_after (if t then Goes (phase.Play k) else (if is_empty (state g' b')
      then on_lost_cue plan.mode plan.limit i k else Goes (phase.Wait k))) 0 (made (Awaiting (phase.Wait k)) take n m i))
      (free_goes (is_done (state g' b')) (is_playing (state g' b')) take free);
}

probes : (plan : Plan) (k : ℕ) (take other : Bool) (n m i g b g' b' : ℕ) (first : State)
    → first ≡ once plan (heard.Reply (state g b)) (made (Ready (phase.Probe k)) other n m i)
    → plays (given plan first) ≡ true
    → (is_done (state g' b') && not (is_playing (state g' b'))) ≡ true
    → Both plan first (once plan (heard.Reply (state g' b')) (made (Ready (phase.Probe k)) take n m i)) m i
probes plan k take other n m i g b g' b' first is h free = record {
  k = k;
  take = other;
  other = take;
  plays_first = goes plan _ (phase.Probe k) k other n m i first (is ∙ ended plan (phase.Probe k) other n m i g b)
      (from_probe plan k (is_done (state g b)) (is_empty (state g b))) h;
  plays_second = ended plan (phase.Probe k) take n m i g' b'
      ∙ ap (λ (t : Bool). state_after (if t then Goes (phase.Play k) else (if is_empty (state g' b')
      then Settles k else Goes (phase.Probe k))) 0 (made (Awaiting (phase.Probe k)) take n m i))
      (free_done (is_done (state g' b')) (is_playing (state g' b')) free);
}

seen_not : (plan : Plan) (take : Bool) (n m i g b : ℕ)
    → plays (given plan (once plan (heard.Reply (state g b)) (made (Ready phase.Seen) take n m i))) ≡ false
seen_not plan take n m i g b =
    none_goes plan (on_reply plan.mode plan.list plan.limit take i phase.Seen (state g b)) phase.Seen take n m i _ (ended plan phase.Seen take n m i g b)
    (seen_none plan (nat_lt 0 (length plan.list)))

drain_not : (plan : Plan) (take : Bool) (n m i g b : ℕ)
    → plays (given plan (once plan (heard.Reply (state g b)) (made (Ready phase.Drain) take n m i))) ≡ false
drain_not plan take n m i g b =
    none_goes plan (on_reply plan.mode plan.list plan.limit take i phase.Drain (state g b)) phase.Drain take n m i _ (ended plan phase.Drain take n m i g b)
    (drain_none plan (length plan.list) (is_cueing (state g b) || is_done (state g b)) (is_playing (state g b)))

alike : (plan : Plan) (p : Phase) → Alike plan p
alike plan phase.Open took take n m i g b g' b' a h free = no refl a
alike plan phase.Select took take n m i g b g' b' a h free = no refl a
alike plan phase.Seen true take n m i g b g' b' a h free = no (seen_not plan true n m i g b) h
alike plan phase.Seen false take n m i g b g' b' a h free = no (seen_not plan take n m i g b) h
alike plan (phase.Exists k) took take n m i g b g' b' a h free = no (presence_asks _) a
alike plan (phase.Cue k) took take n m i g b g' b' a h free = no (cues_ask _) a
alike plan (phase.Wait k) true take n m i g b g' b' a h free =
    waits plan k take true n m i g b g' b' _ refl h free
alike plan (phase.Wait k) false take n m i g b g' b' a h free =
    waits plan k take take n m i g b g' b' _ refl h free
alike plan (phase.Play k) took take n m i g b g' b' a h free = no refl a
alike plan (phase.Probe k) true take n m i g b g' b' a h free =
    probes plan k take true n m i g b g' b' _ refl h free
alike plan (phase.Probe k) false take n m i g b g' b' a h free =
    probes plan k take take n m i g b g' b' _ refl h free
alike plan (phase.Check k) took take n m i g b g' b' a h free = no refl a
alike plan phase.Drain true take n m i g b g' b' a h free = no (drain_not plan true n m i g b) h
alike plan phase.Drain false take n m i g b g' b' a h free = no (drain_not plan take n m i g b) h
alike plan other took take n m i g b g' b' a h free = no refl a

-- the same goes out after the other state, and leaves the same
pub record PlaysAlike (plan : Plan) (first second : State) : Type 0 where
  pub gives : given plan second ≡ Some command.Play
  pub leaves : ticked second ≡ ticked first

of_both : (plan : Plan) (first second : State) (m i : ℕ) → Both plan first second m i → PlaysAlike plan first second
of_both plan first second m i b = record {
  gives = ap (given plan) b.plays_second;
  leaves = ap ticked b.plays_second ∙ sym (ap ticked b.plays_first);
}

-- with any state of the controller
abbrev PlaysSo : Plan → Bool → ℕ → ℕ → ℕ → ℕ → State → Type 0
PlaysSo plan took g b g' b' s = asks (given plan s) ≡ true
    → plays (given plan (heard_after plan took (heard.Reply (state g b)) s)) ≡ true
    → (is_done (state g' b') && not (is_playing (state g' b'))) ≡ true
    → PlaysAlike plan (heard_after plan took (heard.Reply (state g b)) s) (once plan (heard.Reply (state g' b')) s)

at_stage : (plan : Plan) (stage : Stage) (took take stop : Bool) (n m i g b g' b' : ℕ)
    → PlaysSo plan took g b g' b' (record {
      stage = stage;
      take = take;
      stop = stop;
      unanswered = n;
      settled = m;
      tries = i;
    })
at_stage plan (Ready p) took take true n m i g b g' b' a h free = no refl a
at_stage plan (Ready p) took take false n m i g b g' b' a h free =
    of_both plan _ _ m i (alike plan p took take n m i g b g' b' a h free)
at_stage plan (Awaiting p) took take stop n m i g b g' b' a h free = no refl a
at_stage plan (Ended outcome) took take stop n m i g b g' b' a h free = no refl a

pub plays_alike : (plan : Plan) (s : State) (took : Bool) (g b g' b' : ℕ) → PlaysSo plan took g b g' b' s
plays_alike plan s took g b g' b' =
    at_stage plan s.stage took s.take s.stop s.unanswered s.settled s.tries g b g' b'
