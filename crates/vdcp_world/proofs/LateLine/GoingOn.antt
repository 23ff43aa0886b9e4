-- An automation that is killed, and goes on from what was kept of it: what it has heard since was lost on the line.
use Rattle.std.proofs.Common.{◌≡◌, ℕ, All, List, [], ◌∷◌, ◌++◌, arith, refl, ap, subst, ◌∙◌}
use Rattle.std.proofs.lemmas.List.Elements.{All-tail}
use Rattle.std.specs.List.{remove}
use Rattle.std.specs.Prelude.{None}
use Rattle.vdcp_auto.specs.Course.{logged}
use Rattle.vdcp_auto.specs.Turn.{came_to, ended_by}
use Rattle.vdcp_world.proofs.LateLine.Happened.{after_all, events_reached, make_after_all}
use Rattle.vdcp_world.specs.LateLine.GoingOn.{IsNoTick, gone_on}
use Rattle.vdcp_world.specs.LateLine.LateChannel.{LateChannel, IsLateReached, after_late_event, after_late_events, without_oldest}
use Rattle.vdcp_world.specs.LateLine.LateEvent.{LateEvent}
use Rattle.vdcp_world.specs.LateLine.LateEvent as event

-- the channel of now with the controller of an earlier moment
abbrev held : LateChannel → LateChannel → LateChannel
held kept now = record now { state = kept.state; log = kept.log }

-- what happens on the line where the controller is held: what it would hear is lost, and it isn't called
abbrev instead : LateEvent → List LateEvent
instead event.Tick = []
instead (event.Ask question) = []
instead event.Down = event.Down ∷ []
instead event.Up = event.LoseUp 0 ∷ []
instead event.DownCopy = event.DownCopy ∷ []
instead event.UpCopy = []
instead (event.LoseDown place) = event.LoseDown place ∷ []
instead (event.LoseUp place) = event.LoseUp place ∷ []
instead (event.AlterDown place bytes) = event.AlterDown place bytes ∷ []
instead (event.AlterUp place bytes) = event.AlterUp place bytes ∷ []
instead (event.JunkDown place bytes) = event.JunkDown place bytes ∷ []
instead (event.JunkUp place bytes) = event.JunkUp place bytes ∷ []
instead event.Timeout = []
instead event.Ready = event.Ready ∷ []
instead event.End = event.End ∷ []
instead event.Frame = event.Frame ∷ []
instead event.Take = []
instead event.Stop = []
instead event.ServerAnew = event.ServerAnew ∷ []
instead event.AutomationAnew = []
instead event.StrayAck = []
instead (event.StrayNak byte) = []

first_lost : (queue : List (List ℕ)) → remove queue 0 ≡ without_oldest queue
first_lost [] = refl
first_lost (burst ∷ queue) = refl

step_held : (kept now : LateChannel) (e : LateEvent) → IsNoTick e
    → after_late_events (held kept now) (instead e) ≡ held kept (after_late_event now e)
step_held kept now event.Tick quiet = absurd quiet
step_held kept now (event.Ask question) quiet = absurd quiet
step_held kept now event.Up quiet = ap (λ queue. record (held kept now) { up = queue }) (first_lost now.up)
step_held kept now _ quiet = refl

-- all that happens on the line where the controller is held
abbrev instead_of : List LateEvent → List LateEvent
instead_of [] = []
instead_of (e ∷ events) = instead e ++ instead_of events

all_held : (kept now : LateChannel) (events : List LateEvent) → All IsNoTick events
    → after_late_events (held kept now) (instead_of events) ≡ held kept (after_late_events now events)
all_held kept now [] quiet = refl
all_held kept now (e ∷ events) quiet =
    after_all (held kept now) (instead e) (instead_of events)
    ∙ ap (λ c. after_late_events c (instead_of events)) (step_held kept now e (quiet 0 e (omega arith)))
    ∙ all_held kept (after_late_event now e) events (All-tail IsNoTick e events quiet)

pub goes_on : (c : LateChannel) (events : List LateEvent) → IsLateReached c → All IsNoTick events
    → IsLateReached (gone_on c (after_late_events c events))
goes_on c events reached quiet =
    let now : LateChannel = after_late_events c events in
    let timed_out : after_late_event (after_late_events c (instead_of events)) event.Timeout ≡ gone_on c now =
    ap (λ x. after_late_event x event.Timeout) (all_held c c events quiet)
    ∙ ap (λ plan. record now {
      state = came_to plan None c.state;
      log = logged c.log (ended_by plan None c.state);
    }) (ap (λ make. make.plan) (make_after_all c events)) in
    subst IsLateReached timed_out
    (events_reached (after_late_events c (instead_of events)) (event.Timeout ∷ [])
    (events_reached c (instead_of events) reached))
