-- The law of a controller that calls have led to.
use Rattle.std.proofs.Common.{◌≡◌, ◌≢◌, ℕ, ◌+◌, ◌≤◌, ◌<◌, Bool, true, false, cond, not, ◌||◌, ◌&&◌, Option, None, Some, List, [], ◌∷◌, ◌++◌, refl, arith, sym}
use Rattle.std.proofs.Common.{ap, subst, ◌∙◌, inl, inr}
use Rattle.std.specs.Prelude.{if◌then◌else◌, nat_le, IfSome}
use Rattle.std.specs.List.{list_any}
use Rattle.vdcp_value.specs.declared.part.Item.{Item}
use Rattle.vdcp_words.specs.declared.command.Command.{Command}
use Rattle.vdcp_auto.specs.declared.exchange.Exchange.{Exchange}
use Rattle.vdcp_auto.specs.declared.exchange.Heard.{Heard}
use Rattle.vdcp_auto.specs.declared.exchange.Input.{Input}
use Rattle.vdcp_auto.specs.declared.outcome.Outcome.{Outcome}
use Rattle.vdcp_auto.specs.declared.outcome.Outcome.TheVariants.{Done, Stopped, Lost, Denied, Missing, Refused, Foreign, Strange}
use Rattle.vdcp_auto.specs.declared.phase.Mode.{Mode}
use Rattle.vdcp_auto.specs.declared.phase.Mode.TheVariants.{Plain, Confirming}
use Rattle.vdcp_auto.specs.declared.phase.Phase.{Phase}
use Rattle.vdcp_auto.specs.State.{Stage}
use Rattle.vdcp_auto.specs.State.{Ready, Awaiting, Ended}
use Rattle.vdcp_auto.specs.State.{State}
use Rattle.vdcp_auto.specs.Log.{is_cue, is_stop, is_close, is_grant, is_acked}
use Rattle.vdcp_auto.specs.Settled.{has_open_play, settled}
use Rattle.vdcp_auto.specs.RuleBook.{CuesItemAt, IsTaken, MayPlay, Rule, May, KeepsRules}
use Rattle.vdcp_auto.specs.Endings.{counted, IsRefused}
use Rattle.vdcp_auto.specs.Plan.{Plan}
use Rattle.vdcp_auto.specs.Turn.{start, ticked, awaited_in, awaited, given, is_end, exchange_of, ended_by, came_to, taken, stopped, forgotten, outcome_of}
use Rattle.vdcp_auto.specs.Course.{course, Tick, Receive, Take, Stop, Forget, logged, Reached, begun, called}
use Rattle.vdcp_auto.specs.Law.{IsLawful}
use Rattle.vdcp_auto.proofs.Lists.{cut}
use Rattle.vdcp_auto.proofs.Memo.{Memo, blank, opens, settles_now, remember}
use Rattle.vdcp_auto.proofs.LookBacks.{has_open_play-push, settled-push, LastCue, FirstCue, any_push, last_push, first_push}
use Rattle.vdcp_auto.proofs.Runs.{Run, no_run, run_more, run_is, run_has, IsFirst, first_none, first_push as still_first}
use Rattle.vdcp_auto.proofs.Keeps.{InPhase, CueIs, TrialIs, IsGoing, RowIs, AtEnd, AtStage, Holds}
use Rattle.vdcp_auto.proofs.Steps.{Sends, sends_open, sends_select, sends_seen, sends_exists, sends_whole, sends_part, sends_wait, sends_play, sends_probe}
use Rattle.vdcp_auto.proofs.Steps.{sends_check, sends_drain, sends_close, sends_halt, sends_halt_close}
use Rattle.vdcp_auto.proofs.Courses.{reached_after}
use Rattle.vdcp_auto.proofs.Sending.{gives_ready, awaits_answer, stopped_before}
use Rattle.vdcp_auto.proofs.Calls.{sends_of, begun_holds, ticked_holds, state as state_at, stopped_holds, taken_holds, forgotten_holds, remembered, came_holds}

-- What a log leaves behind.

record Agrees (mode : Mode) (limit : ℕ) (log : List Exchange) (m : Memo) : Type 0 where
  pub opened : has_open_play log ≡ m.opened
  pub count : settled mode log ≡ m.count
  pub stops : list_any is_stop log ≡ m.stopped
  pub closes : list_any is_close log ≡ m.closed
  pub grants : list_any is_grant log ≡ m.granted
  pub last : m.cued ≡ true → LastCue mode log m.cue m.acked m.done
  pub first : m.cued ≡ true → FirstCue mode log m.first m.empties
  pub run : Run (counted mode log) m.row
  pub is_first : m.early ≡ false → IsFirst mode limit log

none_left : (settles cued : Bool) → (not settles && cued) ≡ true → settles ≡ false
none_left settles cued h = grind arith

none_right : (settles cued : Bool) → (not settles && cued) ≡ true → cued ≡ true
none_right settles cued h = grind arith

one_settles : (b : Bool) (n : ℕ) → n + cond b 1 0 ≡ (if b then n + 1 else n)
one_settles true n = refl
one_settles false n = omega arith

early_left : (limit row : ℕ) (early : Bool) → (early || nat_le limit row) ≡ false → early ≡ false
early_left limit row early h = grind arith

early_right : (limit row : ℕ) (early : Bool) → (early || nat_le limit row) ≡ false → row < limit
early_right limit row early h = grind arith

run_nil : (mode : Mode) → Run (counted mode []) 0
run_nil Plain = no_run
run_nil Confirming = no_run

agrees_nil : (mode : Mode) (limit : ℕ) → Agrees mode limit [] blank
agrees_nil mode limit = record {
  opened = refl;
  count = refl;
  stops = refl;
  closes = refl;
  grants = refl;
  last = λ h. cc;
  first = λ h. cc;
  run = run_nil mode;
  is_first = λ h. first_none mode limit;
}

agrees_push : (mode : Mode) (limit : ℕ) (log : List Exchange) (m : Memo) (e : Exchange) → Agrees mode limit log m
    → Agrees mode limit (log ++ e ∷ []) (remember mode limit m e)
agrees_push mode limit log m e a = record {
  opened = has_open_play-push log e ∙ ap (λ o. opens o e) a.opened;
  count = settled-push mode log e ∙ ap (λ o. settled mode log + cond {A = ℕ} (settles_now mode o e) 1 0) a.opened
      ∙ ap (λ n. n + cond {A = ℕ} (settles_now mode m.opened e) 1 0) a.count
      ∙ one_settles (settles_now mode m.opened e) m.count;
  stops = any_push is_stop log e m.stopped a.stops;
  closes = any_push is_close log e m.closed a.closes;
  grants = any_push is_grant log e m.granted a.grants;
  last = λ h. last_push mode log m.opened e m.cue m.acked m.done a.opened
      (none_left (settles_now mode m.opened e) (is_cue e || m.cued) h)
      (is_cue e) refl m.cued (none_right (settles_now mode m.opened e) (is_cue e || m.cued) h) a.last;
  first = λ h. first_push mode log m.opened e m.first m.empties a.opened
      (none_left (settles_now mode m.opened e) (is_cue e || m.cued) h)
      m.cued (none_right (settles_now mode m.opened e) (is_cue e || m.cued) h) a.first;
  run = run_more mode log m.row e a.run;
  is_first = λ h. still_first mode limit log e (a.is_first (early_left limit m.row m.early h))
      (run_has mode limit log m.row a.run (early_right limit m.row m.early h));
}

-- What may be sent.

-- neither STOP nor CLOSE stands in the log
nothing_ends : (mode : Mode) (limit : ℕ) (log : List Exchange) (m : Memo) → Agrees mode limit log m → IsGoing m
    → (list_any is_stop log ≡ false) × (list_any is_close log ≡ false)
nothing_ends mode limit log m a going = (a.stops ∙ going.0, a.closes ∙ going.1)

may_going : (mode : Mode) (list : List Item) (log : List Exchange) (c : Command)
    → (list_any is_stop log ≡ false) × (list_any is_close log ≡ false)
    → Rule mode list log c → May mode list log c
may_going mode list log c none rule = record { rule = rule; after_stop = λ h. cc; after_close = λ h. cc }

cue_named : (mode : Mode) (list : List Item) (k : ℕ) (m : Memo) → CueIs mode list k m → CuesItemAt list k m.cue
cue_named Plain list k m is = is.0
cue_named Confirming list k m is = is

taken_cue : (mode : Mode) (list : List Item) (k : ℕ) (m : Memo) (cue : Exchange) → is_acked cue ≡ m.acked
    → CueIs mode list k m → IsTaken mode cue
taken_cue Plain list k m cue acked is = acked ∙ is.1
taken_cue Confirming list k m cue acked is = tt

closed_both : (a b : Bool) → a ≡ b → b ≡ false → a ≡ true → ⊥
closed_both a b same no_close close = cc

may_play : (mode : Mode) (list : List Item) (log : List Exchange) (m : Memo) (k : ℕ) → settled mode log ≡ k
    → CueIs mode list k m → LastCue mode log m.cue m.acked true → MayPlay mode list log
may_play mode list log m k here is last =
    let d = last.is_done refl in
    record {
      before = last.before;
      cue = last.cue;
      between = d.between;
      status = d.status;
      after = d.rest;
      in_order = last.in_order ∙ ap (λ xs. last.before ++ (last.cue ∷ xs)) d.in_order;
      cues_next = rw (here, last.is_command) (cue_named mode list k m is);
      taken = taken_cue mode list k m last.cue last.is_taken is;
      last_cue = ap (list_any is_cue) (sym d.in_order) ∙ last.last;
      none_settles = last.none_settles;
      done = d.done;
      no_play = d.no_play;
    }

may_send : (mode : Mode) (list : List Item) (limit port : ℕ) (log : List Exchange) (m : Memo) (stop : Bool) (tries : ℕ)
    {p : Phase} {c : Command}
    → Sends list port p c → Agrees mode limit log m → InPhase mode list m true stop tries p → May mode list log c
may_send mode list limit port log m stop tries sends_open a holds =
    may_going mode list log _ (nothing_ends mode limit log m a holds.0) tt
may_send mode list limit port log m stop tries sends_select a holds =
    may_going mode list log _ (nothing_ends mode limit log m a holds.0) (a.grants ∙ holds.4)
may_send mode list limit port log m stop tries sends_seen a holds =
    may_going mode list log _ (nothing_ends mode limit log m a holds.0) tt
may_send mode list limit port log m stop tries sends_exists a holds =
    may_going mode list log _ (nothing_ends mode limit log m a holds.0) tt
may_send mode list limit port log m stop tries (sends_whole cues) a holds =
    may_going mode list log _ (nothing_ends mode limit log m a holds.0)
    (record { cues_next = rw (a.count, holds.1) cues; no_open_play = a.opened ∙ holds.3 })
may_send mode list limit port log m stop tries (sends_part cues) a holds =
    may_going mode list log _ (nothing_ends mode limit log m a holds.0)
    (record { cues_next = rw (a.count, holds.1) cues; no_open_play = a.opened ∙ holds.3 })
may_send mode list limit port log m stop tries sends_wait a holds =
    may_going mode list log _ (nothing_ends mode limit log m a holds.0) tt
may_send mode list limit port log m stop tries (sends_play {k}) a holds =
    may_going mode list log _ (nothing_ends mode limit log m a holds.0)
    (may_play mode list log m k (a.count ∙ holds.1) holds.5
    (subst (LastCue mode log m.cue m.acked) holds.3 (a.last holds.4.0)))
may_send mode list limit port log m stop tries sends_probe a holds =
    may_going mode list log _ (nothing_ends mode limit log m a holds.0) tt
may_send mode list limit port log m stop tries sends_check a holds =
    may_going mode list log _ (nothing_ends mode limit log m a holds.0) tt
may_send mode list limit port log m stop tries sends_drain a holds =
    may_going mode list log _ (nothing_ends mode limit log m a holds.0) tt
may_send mode list limit port log m stop tries sends_close a holds = record {
  rule = inr (a.count ∙ holds.0, a.opened ∙ holds.1);
  after_stop = λ h. refl;
  after_close = λ h. refl;
}
may_send mode list limit port log m stop tries sends_halt a holds = record {
  rule = tt;
  after_stop = λ h. refl;
  after_close = λ h. absurd (closed_both (list_any is_close log) m.closed a.closes holds.0 h);
}
may_send mode list limit port log m stop tries sends_halt_close a holds = record {
  rule = inl (a.stops ∙ holds.0);
  after_stop = λ h. refl;
  after_close = λ h. refl;
}

may_await : (plan : Plan) (log : List Exchange) (m : Memo) (stop : Bool) (tries : ℕ) (stage : Stage) (c : Command)
    → Agrees plan.mode plan.limit log m → AtStage plan.mode plan.list plan.limit m stop tries stage
    → awaited_in plan stage ≡ Some c → May plan.mode plan.list log c
may_await plan log m stop tries (Ready p) c a holds is = cc
may_await plan log m stop tries (Ended outcome) c a holds is = cc
may_await plan log m stop tries (Awaiting p) c a holds is =
    may_send plan.mode plan.list plan.limit plan.port log m stop tries (sends_of plan.list plan.port p c is) a holds

-- Every reached controller.

-- what is known of a controller and its log
record Known (plan : Plan) (state : State) (log : List Exchange) : Type 0 where
  pub memo : Memo
  pub agrees : Agrees plan.mode plan.limit log memo
  pub holds : Holds plan memo state
  pub rules : KeepsRules plan.mode plan.list log

may_next : (plan : Plan) (state : State) (log : List Exchange) (c : Command) → Known plan state log
    → awaited plan state ≡ Some c
    → May plan.mode plan.list log c
may_next plan state log c known is =
    may_await plan log known.memo state.stop state.tries state.stage c known.agrees known.holds.stage is

-- the exchange that ends is that of the awaited command
ended_if : (came : Option Heard) (c : Command) (e : Exchange) (ends : Bool)
    → (if ends then Some (record { command = c; heard = came }) else None) ≡ Some e
    → c ≡ e.command
ended_if came c e true is = let same : record { command = c; heard = came } ≡ e = cc in ap (λ x. x.command) same
ended_if came c e false is = cc

ended_command : (mode : Mode) (came : Option Heard) (c : Option Command) (e : Exchange)
    → exchange_of mode came c ≡ Some e → c ≡ Some e.command
ended_command mode came None e is = cc
ended_command mode came (Some c) e is = ap Some (ended_if came c e (is_end mode c came) is)

rules_nil : (mode : Mode) (list : List Item) → KeepsRules mode list []
rules_nil mode list [] e after is = cc
rules_nil mode list (x ∷ before) e after is = cc

rules_within : (mode : Mode) (list : List Item) (log before : List Exchange) (x : Exchange) (after : List Exchange)
    (e : Exchange) → KeepsRules mode list log
    → (last : List Exchange) → last ≢ [] → log ≡ before ++ last → x ∷ after ≡ last ++ e ∷ []
    → May mode list before x.command
rules_within mode list log before x after e rules [] some is order = absurd (some refl)
rules_within mode list log before x after e rules (y ∷ last) some is order =
    let same : y ≡ x = cc in rules before x last (is ∙ ap (λ z. before ++ (z ∷ last)) same)

rules_push : (mode : Mode) (list : List Item) (log : List Exchange) (e : Exchange) → KeepsRules mode list log
    → May mode list log e.command
    → KeepsRules mode list (log ++ e ∷ [])
rules_push mode list log e rules may before x after is =
    elim (cut log before (x ∷ after) e (λ h. cc) is) [
      | inl w ↦ (let same : x ≡ e = (let both = w.1 in cc) in rw (w.0, same) may)
      | inr w ↦ rules_within mode list log before x after e rules w.last w.some w.before w.after
    ]

known_more : (plan : Plan) (state : State) (log : List Exchange) (came : Option Heard) → Known plan state log
    → (o : Option Exchange)
    → ended_by plan came state ≡ o
    → Known plan (came_to plan came state) (logged log o)
known_more plan state log came known None is =
    let next = came_holds plan known.memo state came known.holds in
    record {
      memo = known.memo;
      agrees = known.agrees;
      rules = known.rules;
      holds = subst (λ o. Holds plan (remembered plan known.memo o) (came_to plan came state)) is next;
    }
known_more plan state log came known (Some e) is =
    let next = came_holds plan known.memo state came known.holds in
    record {
      memo = remember plan.mode plan.limit known.memo e;
      agrees = agrees_push plan.mode plan.limit log known.memo e known.agrees;
      rules = rules_push plan.mode plan.list log e known.rules (may_next plan state log e.command known
          (ended_command plan.mode came (awaited plan state) e is));
      holds = subst (λ o. Holds plan (remembered plan known.memo o) (came_to plan came state)) is next;
    }

known_came : (plan : Plan) (state : State) (log : List Exchange) (came : Option Heard) → Known plan state log
    → Known plan (came_to plan came state) (logged log (ended_by plan came state))
known_came plan state log came known = known_more plan state log came known (ended_by plan came state) refl

known_quiet : (plan : Plan) (old new : State) (log : List Exchange) → Known plan old log
    → ((m : Memo) → Holds plan m old → Holds plan m new)
    → Known plan new log
known_quiet plan old new log known keeps =
    record { memo = known.memo; agrees = known.agrees; rules = known.rules; holds = keeps known.memo known.holds }

known : (plan : Plan) {state : State} {log : List Exchange} → Reached plan state log → Known plan state log
known plan (begun some few) = record {
  memo = blank;
  agrees = agrees_nil plan.mode plan.limit;
  holds = begun_holds plan some;
  rules = rules_nil plan.mode plan.list;
}
known plan (called {state} {log} r Tick) = known_quiet plan state (ticked state) log (known plan r)
    (λ m h. ticked_holds plan m state h)
known plan (called {state} {log} r (Receive came)) = known_came plan state log came (known plan r)
known plan (called {state} {log} r Take) = known_quiet plan state (taken state) log (known plan r)
    (λ m h. taken_holds plan m state h)
known plan (called {state} {log} r Stop) = known_quiet plan state (stopped state) log (known plan r)
    (λ m h. stopped_holds plan m state h)
known plan (called {state} {log} r Forget) =
    known_quiet plan state (forgotten state) log (known plan r) (λ m h. forgotten_holds plan m state h)

-- The ends.

lost_row : (limit row unanswered : ℕ) (stage : Stage) → RowIs limit row unanswered stage → outcome_of stage ≡ Some Lost
    → limit ≤ row
lost_row limit row unanswered (Ready p) is lost = cc
lost_row limit row unanswered (Awaiting p) is lost = cc
lost_row limit row unanswered (Ended Lost) is lost = is
lost_row limit row unanswered other is lost = cc

row_lost : (limit row unanswered : ℕ) (stage : Stage) → RowIs limit row unanswered stage → (row < limit → ⊥)
    → outcome_of stage ≡ Some Lost
row_lost limit row unanswered (Ready p) is long = absurd (long is.1)
row_lost limit row unanswered (Awaiting p) is long = absurd (long is.1)
row_lost limit row unanswered (Ended Lost) is long = refl
row_lost limit row unanswered other is long = absurd (long is)

at_outcome : (mode : Mode) (list : List Item) (limit : ℕ) (m : Memo) (stop : Bool) (tries : ℕ) (stage : Stage)
    (outcome : Outcome)
    → AtStage mode list limit m stop tries stage → outcome_of stage ≡ Some outcome → AtEnd mode list limit m outcome
at_outcome mode list limit m stop tries (Ready p) outcome holds is = cc
at_outcome mode list limit m stop tries (Awaiting p) outcome holds is = cc
at_outcome mode list limit m stop tries (Ended end) outcome holds is = let same : end ≡ outcome = cc in
    subst (AtEnd mode list limit m) same holds

refused : (plan : Plan) (log : List Exchange) (m : Memo) (k : ℕ) → plan.mode ≡ Confirming
    → Agrees plan.mode plan.limit log m
    → TrialIs plan.list k plan.limit m → IsRefused plan.list plan.limit log k
refused plan log m k mode a trial =
    let f = a.first trial.0 in
    record {
      before = f.before;
      cue = f.cue;
      after = f.after;
      in_order = f.in_order;
      cues = rw f.is_command trial.1;
      none_settles = subst (λ x. settled x f.before ≡ settled x log) mode f.none_settles;
      empties = omega (arith, trial.2, f.is_count);
    }

each : (o : Option Command) (P : Command → Type 0) → ((c : Command) → o ≡ Some c → P c) → IfSome o P
each None P h = tt
each (Some c) P h = h c refl

given_awaited : (plan : Plan) (stage : Stage) (take stop : Bool) (unanswered settled tries : ℕ) (c : Command)
    → given plan (state_at stage take stop unanswered settled tries) ≡ Some c
    → awaited plan (ticked (state_at stage take stop unanswered settled tries)) ≡ Some c
given_awaited plan (Ready p) take stop unanswered settled tries c is = is
given_awaited plan (Awaiting p) take stop unanswered settled tries c is = cc
given_awaited plan (Ended outcome) take stop unanswered settled tries c is = cc

pub lawful : (plan : Plan) (state : State) (log : List Exchange) → Reached plan state log → IsLawful plan state log
lawful plan state log reached =
    let k = known plan reached in
    let a = k.agrees in
    let h = k.holds in
    let end : (outcome : Outcome) → outcome_of state.stage ≡ Some outcome
    → AtEnd plan.mode plan.list plan.limit k.memo outcome =
    λ outcome is. at_outcome plan.mode plan.list plan.limit k.memo state.stop state.tries state.stage outcome h.stage
    is in
    record {
      keeps_rules = k.rules;
      may_await = each (awaited plan state) _ (λ c is. may_next plan state log c k is);
      may_give = each (given plan state) _ (λ c is. may_next plan (ticked state) log c
          (known plan (called reached Tick))
          (given_awaited plan state.stage state.take state.stop state.unanswered state.settled state.tries c is));
      gives = gives_ready plan k.memo state.stop state.tries state.stage h.stage;
      awaits = awaits_answer plan k.memo state.stop state.tries state.stage h.stage;
      is_stopped = λ p is halts. a.stops ∙ stopped_before plan.mode plan.list plan.limit k.memo state.stop state.tries
          state.stage p h.stage is halts;
      is_settled = h.settled ∙ sym a.count;
      is_lost = (
        λ lost. record {
          now = run_is plan.mode plan.limit log k.memo.row a.run
              (lost_row plan.limit k.memo.row state.unanswered state.stage h.row lost);
          not_before = a.is_first h.not_early;
        },
        λ lost. row_lost plan.limit k.memo.row state.unanswered state.stage h.row
            (λ short. run_has plan.mode plan.limit log k.memo.row a.run short lost.now),
      );
      is_refused = λ confirming place is. refused plan log k.memo place confirming a
          (end (Refused place) is confirming);
      is_done = λ is. a.count ∙ end Done is;
      is_missing = λ place is. a.count ∙ end (Missing place) is;
    }

-- the rule book allows each command of a course
pub KeepsRules-course : (plan : Plan) (inputs : List Input) → 1 ≤ plan.limit → plan.limit ≤ 1000
    → KeepsRules plan.mode plan.list (course plan inputs)
KeepsRules-course plan inputs some few =
    (lawful plan _ _ (reached_after plan inputs start [] (begun some few))).keeps_rules
