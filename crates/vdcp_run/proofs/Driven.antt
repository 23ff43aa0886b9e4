-- What a driver's run left, with what keeps it, and the end that it comes to.
use Rattle.std.proofs.Common.{arith, ◌≡◌, ◌∙◌, ◌+◌, ◌-◌, ◌≤◌, ℕ, List, [], ◌∷◌, ◌++◌, ap, subst, sym}
use Rattle.std.specs.Prelude.{Bool, true, false, ◌&&◌, min, IsSomeAnd, IsTrue, None, Some, Option, Result, Err, refl}
use Rattle.vdcp_auto.specs.Plan.{Plan, View, plan_of}
use Rattle.vdcp_auto.specs.State.{Stage, State}
use Rattle.vdcp_auto.specs.Turn.{outcome_of}
use Rattle.vdcp_auto.specs.declared.outcome.Outcome.{Outcome}
use Rattle.vdcp_auto.specs.declared.phase.Mode.{Mode}
use Rattle.vdcp_wire.specs.Acts.{Act}
use Rattle.vdcp_drive.specs.Auto.{Auto, Driving, Event, auto_of}
use Rattle.vdcp_drive.specs.Ears.{Fold}
use Rattle.vdcp_drive.specs.Leaves.{Ending, HasRun, RunLeaves, by_hooks, by_itself, in_drop, in_keep, in_listen, in_send, steps_in}
use Rattle.vdcp_drive.specs.Steps.{Does, Happens, Rules, Step, World, acts, asks, keeps, misses, steps_of}
use Rattle.vdcp_drive.specs.Traces.{kept_in}
use Rattle.vdcp_drive.specs.declared.hooks.BrokenOff.{BrokenOff}
use Rattle.vdcp_drive.specs.declared.hooks.BrokenOff.TheVariants as fault
use Rattle.vdcp_drive.specs.declared.hooks.Kept.TheVariants as kept
use Rattle.vdcp_drive.specs.declared.hooks.Next.TheVariants as next
use Rattle.vdcp_drive.specs.declared.line.Ran.{Ran}
use Rattle.vdcp_list.specs.Rests.{FromEvent, items_left}
use Rattle.vdcp_journal_file.specs.Recorded.{recorder_rules}
use Rattle.vdcp_journal_file.specs.Recording.{Recording}
use Rattle.vdcp_run.specs.Ends.{Reports, is_unplayed, line_end_of}
use Rattle.vdcp_operator.specs.Hands.{holds_back, is_cued}
use Rattle.vdcp_operator.specs.declared.on_list.OnList.{OnList}
use Rattle.vdcp_run.specs.Asking.{Comes, Inquiring, Start, asking, over, start_of}
use Rattle.vdcp_run.specs.Session.{AsksFirst, HasHeld, HeedsCalls, IsClosed, IsHeldBack, IsWritten, Keeping, LeavesBefore, Onset, Plays, held, list_kept_by, onset_after, playing_rules, signs_by, turns_in}
use Rattle.vdcp_run.specs.declared.lack.Lack.{Lack}
use Rattle.vdcp_run.specs.declared.run_end.LineEnd.{LineEnd}
use Rattle.vdcp_run.specs.declared.run_end.RunEnd.{RunEnd}
use Rattle.vdcp_run.specs.declared.run_end.Signs.{Signs}
use Rattle.vdcp_run.specs.declared.settings.RunSettings.{RunSettings}
use Rattle.vdcp_value.specs.declared.part.Item.{Item}

-- ---- An automation that asks

pub comes_over : {S E W J : Type 0} (items : S → List Item) (rules : Rules W J) (fold : Fold E) (failures : W → ℕ)
    (n turns : ℕ) → n ≡ turns → (old new : Driving S E W) (keep keep' : J) (answer : Result Ran BrokenOff)
    → RunLeaves items rules fold failures n old new keep keep' answer → failures old.wire ≡ 0
    → (parts : E × W) (outcome : Option Outcome) → parts ≡ (new.ear, new.wire)
    → outcome ≡ outcome_of new.controller.state.stage
    → Comes rules fold (plan_of items old.controller) old.unit turns old.controller.state old.ear parts.0
    (over old.wire keep) (over parts.1 keep') answer outcome
comes_over items rules fold failures n turns is old new keep keep' answer left works parts outcome same ends = rw same (record {
  auto = auto_of new;
  runs = subst (λ (m : ℕ). HasRun rules fold (plan_of items old.controller) old.unit m (auto_of old) (auto_of new)
      (over old.wire keep) (over new.wire keep') answer) is (left.runs works);
  ear_is = refl;
  outcome_is = ends;
})

-- the operator's calls on the list wait
pub list_stays : {W : Type 0} (does : Act → W → W → Type 0) (plan : Plan) (steps : List Step) (old new : World W Inquiring)
    → Happens (asking does plan) steps old new → new.keep.list ≡ old.keep.list
list_stays does plan [] old new h = ap (λ (w : World _ Inquiring). w.keep.list) h
list_stays does plan (acts a ∷ later) old new (next, (done, is), rest) =
    list_stays does plan later next new rest ∙ ap (λ (w : World _ Inquiring). w.keep.list) is
list_stays does plan (asks s n ∷ later) old new (next, (one, is), rest) =
    list_stays does plan later next new rest ∙ ap (λ (i : Inquiring). i.list) one.1
list_stays does plan (keeps (kept.Heard h) ∷ later) old new (next, (one, is), rest) =
    list_stays does plan later next new rest ∙ ap (λ (i : Inquiring). i.list) one
list_stays does plan (keeps kept.Silence ∷ later) old new (next, (one, is), rest) =
    list_stays does plan later next new rest ∙ ap (λ (i : Inquiring). i.list) one
list_stays does plan (keeps (kept.Sent c) ∷ later) old new (next, (one, is), rest) =
    list_stays does plan later next new rest ∙ ap (λ (i : Inquiring). i.list) one
list_stays does plan (keeps (kept.Called c) ∷ later) old new (next, (one, is), rest) =
    list_stays does plan later next new rest ∙ ap (λ (i : Inquiring). i.list) one
list_stays does plan (misses r ∷ later) old new (next, (one, is), rest) = absurd one

-- ---- What a run keeps over its connection: its journal's recorder, and what came

module _ {W F : Type 0} (mode : Mode) (does : Act → W → W → Type 0) (safe : F → Option (List ℕ)) where
  abbrev recorded : World W (Keeping F) → World W (Option (Recording F))
  recorded world = record { wire = world.wire; keep = world.keep.recorder }

  step_recorded : (s : Step) (old new : World W (Keeping F)) → Does (playing_rules mode does safe) s old new
      → Does (recorder_rules does safe) s (recorded old) (recorded new)
  step_recorded (acts a) old new h = (h.0, ap recorded h.1)
  step_recorded (asks s n) old new h = (ap (λ (k : Keeping F). k.recorder) h.0.0, ap recorded h.1)
  step_recorded (keeps r) old new h = (h.0.0, ap recorded h.1)
  step_recorded (misses r) old new h = (h.0.0, ap recorded h.1)

  steps_recorded : (steps : List Step) (old new : World W (Keeping F)) → Happens (playing_rules mode does safe) steps old new
      → Happens (recorder_rules does safe) steps (recorded old) (recorded new)
  steps_recorded [] old new h = ap recorded h
  steps_recorded (s ∷ later) old new (next, one, rest) =
      (recorded next, step_recorded s old next one, steps_recorded later next new rest)

  pub run_recorded : {E : Type 0} (fold : Fold E) (plan : Plan) (unit count : ℕ) (a a' : Auto E)
      (old new : World W (Keeping F)) (answer : Result Ran BrokenOff)
      → HasRun (playing_rules mode does safe) fold plan unit count a a' old new answer
      → HasRun (recorder_rules does safe) fold plan unit count a a' (recorded old) (recorded new) answer
  run_recorded fold plan unit count a a' old new answer h =
      record { run = h.run; happened = steps_recorded (steps_in h.run) old new h.happened }

  signs_so : (steps : List Step) (old new : World W (Keeping F)) → Happens (playing_rules mode does safe) steps old new
      → new.keep.signs ≡ signs_by (kept_in steps) old.keep.signs
  signs_so [] old new h = ap (λ (w : World W (Keeping F)). w.keep.signs) h
  signs_so (acts a ∷ later) old new (next, (done, is), rest) = signs_so later next new rest
      ∙ ap (λ (w : World W (Keeping F)). signs_by (kept_in later) w.keep.signs) is
  signs_so (asks s n ∷ later) old new (next, (asked, is), rest) = signs_so later next new rest
      ∙ ap (λ (k : Keeping F). signs_by (kept_in later) k.signs) asked.0
  signs_so (keeps r ∷ later) old new (next, (kept, is), rest) =
      signs_so later next new rest ∙ ap (signs_by (kept_in later)) kept.1
  signs_so (misses r ∷ later) old new (next, (lost, is), rest) =
      signs_so later next new rest ∙ ap (signs_by (kept_in later)) lost.1

  turns_so : (steps : List Step) (old new : World W (Keeping F)) → Happens (playing_rules mode does safe) steps old new
      → new.keep.left ≡ old.keep.left - turns_in steps
  turns_so [] old new h = omega (arith, ap (λ (w : World W (Keeping F)). w.keep.left) h)
  turns_so (acts a ∷ later) old new (next, (done, is), rest) =
      omega (arith, turns_so later next new rest, ap (λ (w : World W (Keeping F)). w.keep.left) is)
  turns_so (asks s n ∷ later) old new (next, (asked, is), rest) =
      omega (arith, turns_so later next new rest, ap (λ (k : Keeping F). k.left) asked.0)
  turns_so (keeps r ∷ later) old new (next, (kept, is), rest) = omega (arith, turns_so later next new rest, kept.2)
  turns_so (misses r ∷ later) old new (next, (lost, is), rest) = omega (arith, turns_so later next new rest, lost.2)

  list_so : (steps : List Step) (old new : World W (Keeping F)) → Happens (playing_rules mode does safe) steps old new
      → new.keep.list ≡ list_kept_by (kept_in steps) old.keep.list
  list_so [] old new h = ap (λ (w : World W (Keeping F)). w.keep.list) h
  list_so (acts a ∷ later) old new (next, (done, is), rest) = list_so later next new rest
      ∙ ap (λ (w : World W (Keeping F)). list_kept_by (kept_in later) w.keep.list) is
  list_so (asks s n ∷ later) old new (next, (asked, is), rest) = list_so later next new rest
      ∙ ap (λ (k : Keeping F). list_kept_by (kept_in later) k.list) asked.0
  list_so (keeps r ∷ later) old new (next, (kept, is), rest) =
      list_so later next new rest ∙ ap (list_kept_by (kept_in later)) kept.3
  list_so (misses r ∷ later) old new (next, (lost, is), rest) =
      list_so later next new rest ∙ ap (list_kept_by (kept_in later)) lost.3

  heeds_so : (steps : List Step) (old new : World W (Keeping F)) → Happens (playing_rules mode does safe) steps old new
      → HeedsCalls old.keep.list steps
  heeds_so [] old new h = tt
  heeds_so (acts a ∷ later) old new (next, (done, is), rest) = subst (λ (list : OnList). HeedsCalls list later)
      (ap (λ (w : World W (Keeping F)). w.keep.list) is) (heeds_so later next new rest)
  heeds_so (asks s n ∷ later) old new (next, (asked, is), rest) = (
    asked.2,
    subst (λ (list : OnList). HeedsCalls list later) (ap (λ (k : Keeping F). k.list) asked.0) (heeds_so later next new rest),
  )
  heeds_so (keeps r ∷ later) old new (next, (kept, is), rest) =
      subst (λ (list : OnList). HeedsCalls list later) kept.3 (heeds_so later next new rest)
  heeds_so (misses r ∷ later) old new (next, (lost, is), rest) =
      subst (λ (list : OnList). HeedsCalls list later) lost.3 (heeds_so later next new rest)

  -- a run that was left was left where it may be

  last_leaves : (steps : List Step) (s : State) (old new : World W (Keeping F))
      → Happens (playing_rules mode does safe) (steps ++ asks s next.Leave ∷ []) old new → LeavesBefore mode s.stage next.Leave
  last_leaves [] s old new (then, one, rest) = one.0.1
  last_leaves (first ∷ steps) s old new (then, one, rest) = last_leaves steps s then new rest

  left_by : {E : Type 0} (fold : Fold E) (plan : Plan) (unit count : ℕ) (a a' : Auto E) (old new : World W (Keeping F))
      (answer : Result Ran BrokenOff) (steps more : List Step) (events : List Event) (b : Auto E)
      → Happens (playing_rules mode does safe) (steps ++ more) old new → Ending fold plan unit count events b answer more a'
      → answer ≡ Err fault.Left → LeavesBefore mode a'.state.stage next.Leave
  left_by fold plan unit count a a' old new answer steps more events b h (by_itself r is runs none same) left = cc
  left_by fold plan unit count a a' old new answer steps more events b h (by_hooks is none last same) left =
      subst (λ (x : Auto _). LeavesBefore mode x.state.stage next.Leave) (sym same) (last_leaves steps b.state old new
      (subst (λ (l : List Step). Happens (playing_rules mode does safe) (steps ++ l) old new) last h))
  left_by fold plan unit count a a' old new answer steps more events b h (in_keep r is none last same) left = cc
  left_by fold plan unit count a a' old new answer steps more events b h (in_drop c is drops gives last same) left = cc
  left_by fold plan unit count a a' old new answer steps more events b h (in_send c front rest is gives parts last same) left = cc
  left_by fold plan unit count a a' old new answer steps more events b h (in_listen is last same) left = cc

  left_so : {E : Type 0} (fold : Fold E) (plan : Plan) (unit count : ℕ) (a a' : Auto E) (old new : World W (Keeping F))
      (answer : Result Ran BrokenOff) → HasRun (playing_rules mode does safe) fold plan unit count a a' old new answer
      → answer ≡ Err fault.Left → LeavesBefore mode a'.state.stage next.Leave
  left_so fold plan unit count a a' old new answer h left = left_by fold plan unit count a a' old new answer
      (steps_of fold plan unit a h.run.events) h.run.more h.run.events _ h.happened h.run.ending left

first_of : (a b : Bool) → IsTrue (a && b) → IsTrue a
first_of true b is = refl
first_of false b is = is

-- ---- A driver has run

pub record Goes {S E W F : Type 0} (items : S → List Item) (does : Act → W → W → Type 0) (safe : F → Option (List ℕ))
    (fold : Fold E) (failures : W → ℕ) (n turns : ℕ) (old new : Driving (FromEvent S) E W) (keep keep' : Keeping F)
    (answer : Result Ran BrokenOff) : Type 0 where
  pub listens : n ≡ turns
  pub leaves : RunLeaves (items_left items) (playing_rules old.controller.mode does safe) fold failures n old new keep keep' answer
  pub works : failures old.wire ≡ 0

module _ {S E W F : Type 0} (items : S → List Item) (does : Act → W → W → Type 0) (safe : F → Option (List ℕ))
    (fold : Fold E) (failures : W → ℕ) (n turns : ℕ) (old new : Driving (FromEvent S) E W)
    (keep keep' : Keeping F) (answer : Result Ran BrokenOff)
    (h : Goes items does safe fold failures n turns old new keep keep' answer) where
  abbrev has_run : HasRun (playing_rules old.controller.mode does safe) fold (plan_of (items_left items) old.controller) old.unit turns (auto_of old)
      (auto_of new) (over old.wire keep) (over new.wire keep') answer
  has_run = subst (λ (m : ℕ). HasRun (playing_rules old.controller.mode does safe) fold (plan_of (items_left items) old.controller) old.unit m
      (auto_of old) (auto_of new) (over old.wire keep) (over new.wire keep') answer) h.listens (h.leaves.runs h.works)

  abbrev pub has_recorded : HasRun (recorder_rules does safe) fold (plan_of (items_left items) old.controller) old.unit turns
      (auto_of old) (auto_of new) (over old.wire keep.recorder) (over new.wire keep'.recorder) answer
  has_recorded = run_recorded old.controller.mode does safe fold (plan_of (items_left items) old.controller) old.unit turns (auto_of old)
      (auto_of new) (over old.wire keep) (over new.wire keep') answer has_run

  pub signs_then : keep'.signs ≡ signs_by (kept_in (steps_in has_recorded.run)) keep.signs
  unfolding run_recorded
  signs_then = signs_so old.controller.mode does safe (steps_in has_run.run) (over old.wire keep) (over new.wire keep') has_run.happened

  turns_then : keep'.left ≡ keep.left - turns_in (steps_in has_recorded.run)
  unfolding run_recorded
  turns_then = turns_so old.controller.mode does safe (steps_in has_run.run) (over old.wire keep) (over new.wire keep') has_run.happened

  list_then : keep'.list ≡ list_kept_by (kept_in (steps_in has_recorded.run)) keep.list
  unfolding run_recorded
  list_then = list_so old.controller.mode does safe (steps_in has_run.run) (over old.wire keep) (over new.wire keep') has_run.happened

  heeds_then : HeedsCalls keep.list (steps_in has_recorded.run)
  unfolding run_recorded
  heeds_then = heeds_so old.controller.mode does safe (steps_in has_run.run) (over old.wire keep) (over new.wire keep') has_run.happened

  -- its journal was ended
  pub plays_so : keep.left ≡ turns → (end : RunEnd) → end.signs ≡ keep'.signs → end.left ≡ keep'.left → (kept : ℕ)
      → end.line ≡ line_end_of answer (is_unplayed new.controller.mode keep'.signs new.controller.state)
      (new.controller.source.from + new.controller.state.settled) kept
      → Reports new.controller.source.from new.controller.state end
      → IsClosed safe new.controller.state.stage end.line end.unkept keep'.recorder
      → Plays does safe fold old.ear old.unit turns keep.signs keep.list (start_of items old.controller) (over old.wire keep.recorder)
      new.wire end
  plays_so first end signs left kept line reports closed = record {
    ran = answer;
    auto = auto_of new;
    left = over new.wire keep'.recorder;
    runs = has_recorded;
    last_is = refl;
    left_before = left_so old.controller.mode does safe fold (plan_of (items_left items) old.controller) old.unit turns (auto_of old) (auto_of new)
        (over old.wire keep) (over new.wire keep') answer has_run;
    kept = kept;
    line_is = subst (λ (c : View (FromEvent S)). end.line ≡ line_end_of answer (is_unplayed c.mode end.signs new.controller.state)
        (c.source.from + new.controller.state.settled) kept) h.leaves.controller
        (subst (λ (s : Signs). end.line ≡ line_end_of answer (is_unplayed new.controller.mode s new.controller.state)
        (new.controller.source.from + new.controller.state.settled) kept) (sym signs) line);
    reports = subst (λ (from : ℕ). Reports from new.controller.state end)
        (ap (λ (c : View (FromEvent S)). c.source.from) h.leaves.controller) reports;
    signs_are = signs ∙ signs_then;
    heeds = heeds_then;
    left_is = left ∙ turns_then ∙ ap (λ (n : ℕ). n - turns_in (steps_in has_recorded.run)) first;
    closed = closed;
  }

  -- it was left before a PLAY, all that waited was written, and the next stretch goes on
  abbrev onset_before : E → W → (turns : ℕ) → Signs → Onset E W F
  onset_before ear wire turns signs = record {
    start = start_of items old.controller;
    ear = ear;
    world = over wire keep.recorder;
    turns = turns;
    signs = signs;
    list = keep.list;
  }

  abbrev onset_behind : Option (Recording F) → (turns : ℕ) → Onset E W F
  onset_behind written turns = record {
    start = start_of items new.controller;
    ear = new.ear;
    world = over new.wire written;
    turns = turns;
    signs = keep'.signs;
    list = keep'.list;
  }

  onset_so : (written : Option (Recording F)) (left : ℕ) (ear : E) (wire : W) (count : ℕ) (first then : Signs) (list : OnList)
      → keep'.signs ≡ then → keep'.list ≡ list → onset_behind written left
      ≡ onset_after (onset_before ear wire count first) (auto_of new) (over new.wire keep'.recorder) written left then list
  onset_so written left ear wire count first then list signs lists =
      let onset : Start → Signs → OnList → Onset E W F = λ start s l. record {
        start = start;
        ear = new.ear;
        world = over new.wire written;
        turns = left;
        signs = s;
        list = l;
      } in
      let behind : Start = record (start_of items old.controller) { state = new.controller.state } in
      ap (λ (start : Start). onset start keep'.signs keep'.list) (ap (start_of items) h.leaves.controller)
      ∙ ap (λ (s : Signs). onset behind s keep'.list) signs ∙ ap (onset behind then) lists

  back_so : IsTrue (holds_back keep'.list.holds new.controller.state)
      → IsHeldBack keep.list (steps_in has_recorded.run) new.controller.state
  back_so is_held = record {
    cued = first_of (is_cued new.controller.state.stage) _ is_held;
    is_held = subst (λ (list : OnList). IsTrue (holds_back list.holds new.controller.state)) list_then is_held;
    heeds = heeds_then;
  }

  pub holds_on : keep.left ≡ turns → (settings : RunSettings) (is_held : Bool) (ear : E) (wire : W) (count : ℕ) (before : Signs)
      → answer ≡ Err fault.Left → IsTrue (holds_back keep'.list.holds new.controller.state) → (written : Option (Recording F))
      → IsWritten safe keep'.recorder written → (left : ℕ) → left ≤ keep'.left → (z : Onset E W F)
      → AsksFirst does fold (record settings { unit = old.unit }) is_held (onset_before ear wire count before) old.ear old.wire turns
      keep.signs None → HasHeld does safe fold (record settings { unit = old.unit }) z (onset_behind written left)
      → HasHeld does safe fold (record settings { unit = old.unit }) z (onset_before ear wire count before)
  holds_on all settings is_held ear wire count before is back written wrote left few z first later =
      let ran = subst (λ (r : Result Ran BrokenOff). (runs : HasRun (recorder_rules does safe) fold
      (plan_of (items_left items) old.controller) old.unit turns (auto_of old) (auto_of new) (over old.wire keep.recorder)
      (over new.wire keep'.recorder) r) × (keep'.signs ≡ signs_by (kept_in (steps_in runs.run)) keep.signs)
      × (left ≤ turns - turns_in (steps_in runs.run)) × IsHeldBack keep.list (steps_in runs.run) new.controller.state
      × (keep'.list ≡ list_kept_by (kept_in (steps_in runs.run)) keep.list)) is
      (has_recorded, signs_then, omega (arith, few, turns_then, all), back_so back, list_then) in
      held is_held old.ear old.wire turns keep.signs first (auto_of new) (over new.wire keep'.recorder) ran.0 ran.3 written wrote
      (left, ran.2) (subst (HasHeld does safe fold (record settings { unit = old.unit }) z)
      (onset_so written left ear wire count before (signs_by (kept_in (steps_in ran.0.run)) keep.signs)
      (list_kept_by (kept_in (steps_in ran.0.run)) keep.list) ran.1 ran.4) later)

pub least_left : (left most n : ℕ) → n ≡ min left most → n ≤ left
least_left left most n is = grind arith

-- a journal that can't be written out isn't whole
pub unkept_so : {F : Type 0} (safe : F → Option (List ℕ)) (stage : Stage) (line : LineEnd) (lack : Lack)
    (recorder : Option (Recording F)) → IsSomeAnd recorder (λ r. lack.journal ≡ r.name)
    → IsClosed safe stage line (Some lack) recorder
unkept_so safe stage line lack None h = absurd h
unkept_so safe stage line lack (Some recorder) h = h
