-- After an end that reports all nothing more airs.
use Rattle.std.proofs.Common.{arith, ℕ, ◌≡◌, List, [], ◌∷◌, take, refl, sym, ap, subst, ◌∙◌}
use Rattle.std.specs.Prelude.{IfSome, IsTrue, None, Some}
use Rattle.vdcp_frame.specs.Message.{Content}
use Rattle.vdcp_words.specs.declared.command.Command.{Command}
use Rattle.vdcp_port.specs.Clock.{ClockedPort}
use Rattle.vdcp_auto.specs.Heard.{heard_as}
use Rattle.vdcp_auto.specs.Plan.{Plan}
use Rattle.vdcp_auto.specs.State.{State, Stage, Ended}
use Rattle.vdcp_auto.specs.Turn.{came_to, outcome_of, taken, tick_in, ticked}
use Rattle.vdcp_auto.specs.declared.outcome.Outcome.{Outcome}
use Rattle.vdcp_laws.specs.Automation.{Prompt, hears, hears_all}
use Rattle.vdcp_drive.specs.Reading.{completed}
use Rattle.vdcp_world.specs.LateLine.LateHeadline.{is_late_complete}
use Rattle.vdcp_laws.specs.TwoEnds.{AreJoined, AreLed, CanJoin, Ends, GoesOn, Step, aired_now, as_announced, as_noted, begun, went_on}
use Rattle.vdcp_laws.specs.TwoEnds.{gave, asks, came_up, came_down, waited, passed, paused, shut, calls, resumed, restarted}
use Rattle.vdcp_laws.proofs.Commands.{hears_comes, still}
use Rattle.vdcp_laws.proofs.Headline.{Laws, of_ends}

-- An end stays.

is_ended : (stage : Stage) (o : Outcome) → outcome_of stage ≡ Some o → stage ≡ Ended o
is_ended stage o is = grind arith

still_heard : (plan : Plan) (unit : ℕ) (ms : List Content) (p : Prompt) (o : Outcome) → p.state.stage ≡ Ended o
    → (hears_all plan unit ms p).state ≡ p.state
still_heard plan unit [] p o is = refl
still_heard plan unit (m ∷ ms) p o is =
    let same : (hears plan unit m p).state ≡ p.state =
    (hears_comes plan unit m p).state_is ∙ still plan (Some (heard_as unit m)) p.state o is in
    still_heard plan unit ms (hears plan unit m p) o (ap (λ (s : State). s.stage) same ∙ is) ∙ same

-- it has ended so, and no more is settled than was
abbrev Rests : Outcome → State → State → Type 0
Rests o was now = (now.stage ≡ Ended o) × (now.settled ≡ was.settled)

rests : (o : Outcome) (was now : State) → was.stage ≡ Ended o → now ≡ was → Rests o was now
rests o was now is same = (ap (λ (s : State). s.stage) same ∙ is, ap (λ (s : State). s.settled) same)

then_rests : (o : Outcome) (was now : State) → Rests o was now → (later : State) → later ≡ now → Rests o was later
then_rests o was now r later same =
    (ap (λ (s : State). s.stage) same ∙ r.0, ap (λ (s : State). s.settled) same ∙ r.1)

still_given : (o : Outcome) (s : State) → s.stage ≡ Ended o → ticked s ≡ s
still_given o s is = ap (λ (t : Stage). tick_in t s) is

goes_rests : (plan : Plan) (e on : Ends) (o : Outcome) → GoesOn plan e on → e.automation.state.stage ≡ Ended o
    → Rests o e.automation.state on.automation.state
goes_rests plan e _ o as_noted is = (is, refl)
goes_rests plan e _ o (as_announced h a) is =
    let s : State = e.automation.state in
    let asked = then_rests o s s (is, refl) (ticked s) (still_given o s is) in
    let took : Rests o s (taken (ticked s)) = (asked.0, asked.1) in
    let again : State = came_to plan (Some h) (taken (ticked s)) in
    let heard = then_rests o s (taken (ticked s)) took again (still plan (Some h) (taken (ticked s)) o took.0) in
    then_rests o s again heard (ticked again) (still_given o again heard.0)

then_timed_out : (plan : Plan) (o : Outcome) (was now : State) → Rests o was now → Rests o was (came_to plan None now)
then_timed_out plan o was now r = then_rests o was now r (came_to plan None now) (still plan None now o r.0)

step_rests : (plan : Plan) (unit : ℕ) (e e' : Ends) (o : Outcome) → Step plan unit e e'
    → e.automation.state.stage ≡ Ended o → Rests o e.automation.state e'.automation.state
step_rests plan unit e _ o gave is =
    rests o e.automation.state (ticked e.automation.state) is (ap (λ (t : Stage). tick_in t e.automation.state) is)
step_rests plan unit e _ o (asks question c asked) is = (is, refl)
step_rests plan unit e _ o (came_up piece rest sent) is =
    rests o e.automation.state (hears_all plan unit (completed e.automation.held piece) e.automation).state is
    (still_heard plan unit (completed e.automation.held piece) e.automation o is)
step_rests plan unit e _ o (came_down piece rest sent) is = (is, refl)
step_rests plan unit e _ o waited is =
    rests o e.automation.state (came_to plan None e.automation.state) is (still plan None e.automation.state o is)
step_rests plan unit e _ o passed is = (is, refl)
step_rests plan unit e _ o paused is = (is, refl)
step_rests plan unit e _ o shut is = (is, refl)
step_rests plan unit e _ o (calls c on) is = absurd (cc (sym on ∙ ap outcome_of is))
step_rests plan unit e _ o (resumed {on} goes) is =
    then_timed_out plan o e.automation.state on.automation.state (goes_rests plan e on o goes is)
step_rests plan unit e _ o (restarted {on} goes) is =
    then_timed_out plan o e.automation.state on.automation.state (goes_rests plan e on o goes is)

all_rests : (plan : Plan) (unit : ℕ) (e later : Ends) (o : Outcome) → AreLed plan unit e later
    → e.automation.state.stage ≡ Ended o → Rests o e.automation.state later.automation.state
all_rests plan unit e _ o begun is = (is, refl)
all_rests plan unit e later o (went_on {e = d} led step) is =
    let before = all_rests plan unit e d o led is in
    let then = step_rests plan unit d later o step before.0 in
    (then.0, then.1 ∙ before.1)

joined_later : (plan : Plan) (port : ClockedPort) (asked : List Command) (e later : Ends) → AreJoined plan port asked e
    → AreLed plan port.state.unit e later → AreJoined plan port asked later
joined_later plan port asked e _ j begun = j
joined_later plan port asked e _ j (went_on {e = d} led step) = went_on (joined_later plan port asked e d j led) step

-- what went to air is what is settled then
airs_settled : (law : Laws) → (plan : Plan) (port : ClockedPort) (asked : List Command) (e : Ends) (o : Outcome)
    → CanJoin plan port asked → AreJoined plan port asked e → e.automation.state.stage ≡ Ended o
    → IsTrue (is_late_complete plan.mode o) → aired_now e ≡ take e.automation.state.settled plan.list
airs_settled law plan port asked e o can j is whole =
    subst (λ (t : Stage). IfSome (outcome_of t) (λ (x : Outcome). IsTrue (is_late_complete plan.mode x)
    → aired_now e ≡ take e.automation.state.settled plan.list)) is (of_ends law plan port asked e can j).complete whole

pub airs_no_more : (law : Laws) → (plan : Plan) (port : ClockedPort) (asked : List Command) (e later : Ends) (o : Outcome)
    → CanJoin plan port asked → AreJoined plan port asked e → outcome_of e.automation.state.stage ≡ Some o
    → IsTrue (is_late_complete plan.mode o) → AreLed plan port.state.unit e later → aired_now later ≡ aired_now e
airs_no_more law plan port asked e later o can j ended whole led =
    let is : e.automation.state.stage ≡ Ended o = is_ended e.automation.state.stage o ended in
    let then = all_rests plan port.state.unit e later o led is in
    airs_settled law plan port asked later o can (joined_later plan port asked e later j led) then.0 whole
    ∙ ap (λ (n : ℕ). take n plan.list) then.1
    ∙ sym (airs_settled law plan port asked e o can j is whole)
