-- A run: one turn of it, and one turn more.
use Rattle.std.proofs.Common.{ℕ, ◌≡◌, ◌+◌, ◌<◌, ◌≢◌, false, List, [], ◌∷◌, ◌++◌, length, map, refl, sym, ap, ap₂, subst, ◌∙◌, append_assoc, append-nil, length-append, arith}
use Rattle.std.proofs.lemmas.List.Elements.{All-append, All-cons, All-nil}
use Rattle.std.specs.Prelude.{All, Option, Some, None, Result, Ok, Err, IsNone, IsSome}
use Rattle.vdcp_words.specs.declared.command.Command.{Command}
use Rattle.vdcp_auto.specs.Plan.{Plan}
use Rattle.vdcp_auto.specs.State.{State, Stage, Ready, Awaiting, Ended}
use Rattle.vdcp_auto.specs.Turn.{given, ticked, given_in, outcome_of}
use Rattle.vdcp_auto.specs.declared.outcome.Outcome.{Outcome}
use Rattle.vdcp_wire.specs.Wires.{Arrival, bytes, silence, close, has_closed}
use Rattle.vdcp_wire.specs.Acts.{Act, sends, brings, fails}
use Rattle.vdcp_drive.specs.Auto.{Auto, AreMade, Event, after, arrivals, arrives, called, calls, ended, gives, heeds, listens}
use Rattle.vdcp_drive.specs.Ears.{Fold, inputs}
use Rattle.vdcp_drive.specs.Leaves.{AreOctetsIn, Ending, by_itself, by_hooks, in_keep, in_drop, in_send, in_listen, HasKeptAndSent, HasRun, IsRun, steps_in, HasSendBroken, Hears, Misses, Notes, RunsTo}
use Rattle.vdcp_drive.specs.Lines.{line_of, ran_of, ran_unless_ended}
use Rattle.vdcp_drive.specs.Leaves as leaves
use Rattle.vdcp_drive.specs.Steps.{Chain, Step, acts, asks, keeps, misses, Rules, World, Happens, Does, dropping, sending, given_notes, ended_notes, opening, round, steps_of}
use Rattle.vdcp_drive.specs.Traces.{until_close}
use Rattle.vdcp_drive.specs.declared.hooks.Call.{Call}
use Rattle.vdcp_drive.specs.declared.hooks.Call.TheVariants as call
use Rattle.vdcp_drive.specs.declared.hooks.Next.TheVariants as next
use Rattle.vdcp_drive.specs.declared.hooks.BrokenOff.{BrokenOff}
use Rattle.vdcp_drive.specs.declared.hooks.BrokenOff.TheVariants as fault
use Rattle.vdcp_drive.specs.declared.hooks.Kept.TheVariants as row
use Rattle.vdcp_drive.specs.declared.line.Line.{Line}
use Rattle.vdcp_drive.specs.declared.line.Ran.{Ran}
use Rattle.vdcp_drive.specs.declared.line.Ran.TheVariants as ran
use Rattle.vdcp_drive.proofs.Chains.{chain_both, at, on_line, on_journal}

-- a run that goes on
after_both : {E : Type 0} (fold : Fold E) (plan : Plan) (unit : ℕ) (a : Auto E) (xs ys : List Event)
    → after fold plan unit a (xs ++ ys) ≡ after fold plan unit (after fold plan unit a xs) ys
after_both fold plan unit a [] ys = refl
after_both fold plan unit a (arrives x ∷ xs) ys = after_both fold plan unit (listens fold plan unit x (gives a)) xs ys
after_both fold plan unit a (calls c ∷ xs) ys = after_both fold plan unit (heeds c a) xs ys

steps_both : {E : Type 0} (fold : Fold E) (plan : Plan) (unit : ℕ) (a : Auto E) (xs ys : List Event)
    → steps_of fold plan unit a (xs ++ ys)
    ≡ steps_of fold plan unit a xs ++ steps_of fold plan unit (after fold plan unit a xs) ys
steps_both fold plan unit a [] ys = refl
steps_both fold plan unit a (arrives x ∷ xs) ys =
    let b = listens fold plan unit x (gives a) in
    ap (λ (l : List Step). round fold plan unit x a ++ l) (steps_both fold plan unit b xs ys)
    ∙ sym (append_assoc (round fold plan unit x a) (steps_of fold plan unit b xs)
    (steps_of fold plan unit (after fold plan unit b xs) ys))
steps_both fold plan unit a (calls c ∷ xs) ys =
    ap (λ (l : List Step). asks a.state (next.Call c) ∷ keeps (row.Called c) ∷ l) (steps_both fold plan unit (heeds c a) xs ys)

pub made_both : {E : Type 0} (fold : Fold E) (plan : Plan) (unit : ℕ) (a : Auto E) (xs ys : List Event)
    → AreMade fold plan unit a xs → AreMade fold plan unit (after fold plan unit a xs) ys → AreMade fold plan unit a (xs ++ ys)
made_both fold plan unit a [] ys h g = g
made_both fold plan unit a (arrives x ∷ xs) ys h g = made_both fold plan unit (listens fold plan unit x (gives a)) xs ys h g
made_both fold plan unit a (calls c ∷ xs) ys h g = (h.0, made_both fold plan unit (heeds c a) xs ys h.1 g)

pub arrivals_both : (xs ys : List Event) → arrivals (xs ++ ys) ≡ arrivals xs ++ arrivals ys
arrivals_both [] ys = refl
arrivals_both (arrives x ∷ xs) ys = ap (λ (l : List Arrival). x ∷ l) (arrivals_both xs ys)
arrivals_both (calls c ∷ xs) ys = arrivals_both xs ys

-- One turn.

-- the hooks answer that it goes on, and the next command is kept, and goes out
pub opened : {E W J : Type 0} (rules : Rules W J) (fold : Fold E) (plan : Plan) (unit : ℕ) (a : Auto E) (w w' : W)
    (k₀ k k' : J) → rules.asks a.state next.GoOn k₀ k → Chain rules.adds (given_notes (given plan a.state)) k k'
    → Chain rules.does (sending fold.drops unit (given plan a.state)) w w'
    → Happens rules (opening fold plan unit a) (at w k₀) (at w' k')
opened rules fold plan unit a w w' k₀ k k' asked kept sent = (
  at w k,
  (asked, refl),
  chain_both (Does rules) (map keeps (given_notes (given plan a.state)))
      (map acts (sending fold.drops unit (given plan a.state))) (at w k) (at w k') (at w' k')
      (on_journal rules (given_notes (given plan a.state)) w k k' kept)
      (on_line rules (sending fold.drops unit (given plan a.state)) w w' k' sent),
)

one_round : {E W J : Type 0} (rules : Rules W J) (fold : Fold E) (plan : Plan) (unit : ℕ) (a : Auto E)
    (what : Arrival) (w w₁ w₂ : W) (k₀ k k₁ k₂ : J) → rules.asks a.state next.GoOn k₀ k
    → Chain rules.adds (given_notes (given plan a.state)) k k₁
    → Chain rules.does (sending fold.drops unit (given plan a.state)) w w₁
    → rules.does (brings what) w₁ w₂
    → Notes rules.adds fold plan unit (ticked a.state) a.ear k₁ k₂ what
    → Happens rules (round fold plan unit what a) (at w k₀) (at w₂ k₂)
one_round rules fold plan unit a what w w₁ w₂ k₀ k k₁ k₂ asked kept sent brought noted =
    let ends = ended_notes (ended plan (inputs fold unit what a.ear) (ticked a.state)) in
    chain_both (Does rules) (opening fold plan unit a) (acts (brings what) ∷ map keeps ends)
    (at w k₀) (at w₁ k₁) (at w₂ k₂) (opened rules fold plan unit a w w₁ k₀ k k₁ asked kept sent)
    (at w₂ k₁, (brought, refl), on_journal rules ends w₂ k₁ k₂ noted)

-- nothing came before it was over
cut : {E W J : Type 0} (rules : Rules W J) (fold : Fold E) (plan : Plan) (unit : ℕ) (a a' : Auto E)
    (world world' : World W J) (answer : Result Ran BrokenOff) (more : List Step) → Happens rules more world world'
    → Ending fold plan unit 1 [] a answer more a' → HasRun rules fold plan unit 1 a a' world world' answer
cut rules fold plan unit a a' world world' answer more happened ending = record {
  run = record {
    events = [];
    octets = All-nil AreOctetsIn;
    closes_last = refl;
    made = tt;
    more = more;
    ending = ending;
  };
  happened = happened;
}

-- the controller had ended
pub turn_ended : {E W J : Type 0} (rules : Rules W J) (fold : Fold E) (plan : Plan) (unit : ℕ) (a : Auto E)
    (world : World W J) → IsSome (outcome_of a.state.stage)
    → HasRun rules fold plan unit 1 a a world world (Ok ran.Ended)
turn_ended rules fold plan unit a world over =
    cut rules fold plan unit a a world world (Ok ran.Ended) [] refl
    (by_itself ran.Ended refl (over, omega arith) refl refl)

-- the hooks left
pub turn_left : {E W J : Type 0} (rules : Rules W J) (fold : Fold E) (plan : Plan) (unit : ℕ) (a : Auto E) (w : W)
    (k k' : J) → outcome_of a.state.stage ≡ None → rules.asks a.state next.Leave k k'
    → HasRun rules fold plan unit 1 a a (at w k) (at w k') (Err fault.Left)
turn_left rules fold plan unit a w k k' going asked =
    cut rules fold plan unit a a (at w k) (at w k') (Err fault.Left) (asks a.state next.Leave ∷ [])
    (at w k', (asked, refl), refl) (by_hooks refl going refl refl)

-- a call is made, and given
pub turn_called : {E W J : Type 0} (rules : Rules W J) (fold : Fold E) (plan : Plan) (unit : ℕ) (a : Auto E) (c : Call)
    (w : W) (k k₁ k₂ : J) → outcome_of a.state.stage ≡ None → rules.asks a.state (next.Call c) k k₁
    → rules.adds (row.Called c) k₁ k₂ → HasRun rules fold plan unit 1 a (heeds c a) (at w k) (at w k₂) (Ok ran.Spent)
turn_called rules fold plan unit a c w k k₁ k₂ going asked kept = record {
  run = record {
    events = calls c ∷ [];
    octets = All-nil AreOctetsIn;
    closes_last = refl;
    made = (going, tt);
    more = [];
    ending = by_itself ran.Spent refl (still c, refl, refl) refl refl;
  };
  happened = (at w k₁, (asked, refl), (at w k₂, (kept, refl), refl));
} where
  still : (c : Call) → IsNone (outcome_of (called c a.state).stage)
  still call.Take = subst (λ (o : Option Outcome). IsNone o) (sym going) refl
  still call.Stop = subst (λ (o : Option Outcome). IsNone o) (sym going) refl
  still (call.List l) = subst (λ (o : Option Outcome). IsNone o) (sym going) refl

-- or isn't kept
pub turn_missed : {E W J : Type 0} (rules : Rules W J) (fold : Fold E) (plan : Plan) (unit : ℕ) (a : Auto E) (c : Call)
    (w : W) (k k₁ k₂ : J) → outcome_of a.state.stage ≡ None → rules.asks a.state (next.Call c) k k₁
    → rules.loses (row.Called c) k₁ k₂ → HasRun rules fold plan unit 1 a a (at w k) (at w k₂) (Err fault.Unkept)
turn_missed rules fold plan unit a c w k k₁ k₂ going asked lost =
    cut rules fold plan unit a a (at w k) (at w k₂) (Err fault.Unkept) (asks a.state (next.Call c) ∷ misses (row.Called c) ∷ [])
    (at w k₁, (asked, refl), (at w k₂, (lost, refl), refl)) (in_keep (row.Called c) refl going refl refl)

pub given_going : (plan : Plan) (s : State) (c : Command) → given plan s ≡ Some c → outcome_of s.stage ≡ None
given_going plan s c is = by s.stage is where
  by : (stage : Stage) → given_in plan s.stop stage ≡ Some c → outcome_of stage ≡ None
  by (Ready p) g = refl
  by (Awaiting p) g = refl
  by (Ended o) g = cc

unkept : {E W J : Type 0} (rules : Rules W J) (fold : Fold E) (plan : Plan) (unit : ℕ) (a : Auto E) (w : W) (k₀ k k' : J)
    (g : Option Command) → given plan a.state ≡ g → rules.asks a.state next.GoOn k₀ k → Misses rules.loses g k k'
    → HasRun rules fold plan unit 1 a a (at w k₀) (at w k') (Err fault.Unkept)
unkept rules fold plan unit a w k₀ k k' None gives_it asked lost = absurd lost
unkept rules fold plan unit a w k₀ k k' (Some c) gives_it asked lost =
    cut rules fold plan unit a a (at w k₀) (at w k') (Err fault.Unkept) (asks a.state next.GoOn ∷ misses (row.Sent c) ∷ [])
    (at w k, (asked, refl), (at w k', (lost, refl), refl))
    (in_keep (row.Sent c) refl (given_going plan a.state c gives_it) refl refl)

unsent : {E W J : Type 0} (rules : Rules W J) (fold : Fold E) (plan : Plan) (unit : ℕ) (a : Auto E) (state' : State)
    (w w' : W) (k₀ k k' : J) → rules.asks a.state next.GoOn k₀ k → Chain rules.adds (given_notes (given plan a.state)) k k'
    → HasSendBroken rules.does fold.drops plan unit a.state state' w w'
    → HasRun rules fold plan unit 1 a (record { ear = a.ear; state = state' }) (at w k₀) (at w' k') (Err fault.Device)
unsent {E} rules fold plan unit a state' w w' k₀ k k' asked kept (leaves.in_drop c gives_it first stays broke) =
    let keeping = subst (λ (g : Option Command). Chain rules.adds (given_notes g) k k') gives_it kept in
    cut rules fold plan unit a _ (at w k₀) (at w' k') (Err fault.Device)
    (asks a.state next.GoOn ∷ keeps (row.Sent c) ∷ acts fails ∷ [])
    (at w k, (asked, refl), (at w keeping.0, (keeping.1, refl), (at w' keeping.0, (broke, refl), ap (λ (x : _). at w' x) keeping.2)))
    (in_drop c refl first gives_it refl (ap {B = Auto E} (λ (s : State). record { ear = a.ear; state = s }) stays))
unsent {E} rules fold plan unit a state' w w' k₀ k k' asked kept (leaves.in_send c front rest gives_it ticks parts sent) =
    let keeping = subst (λ (g : Option Command). Chain rules.adds (given_notes g) k k') gives_it kept in
    let out : List Act = dropping fold.drops ++ sends front ∷ [] in
    cut rules fold plan unit a _ (at w k₀) (at w' k') (Err fault.Device)
    (asks a.state next.GoOn ∷ keeps (row.Sent c) ∷ map acts out) (
      at w k,
      (asked, refl),
      chain_both (Does rules) (keeps (row.Sent c) ∷ []) (map acts out) (at w k) (at w k') (at w' k')
          (on_journal rules (row.Sent c ∷ []) w k k' keeping) (on_line rules out w w' k' sent),
    )
    (in_send c front rest refl gives_it parts refl
    (ap {B = Auto E} (λ (s : State). record { ear = a.ear; state = s }) ticks))

-- the command isn't kept, or doesn't go out
pub turn_unsent : {E W J : Type 0} (rules : Rules W J) (fold : Fold E) (plan : Plan) (unit : ℕ) (a : Auto E) (state' : State)
    (w w' : W) (k₀ k k' : J) (f : BrokenOff) → rules.asks a.state next.GoOn k₀ k
    → HasKeptAndSent rules fold.drops plan unit a.state state' (at w k) (at w' k') (Err f)
    → HasRun rules fold plan unit 1 a (record { ear = a.ear; state = state' }) (at w k₀) (at w' k') (Err f)
turn_unsent rules fold plan unit a state' w w' k₀ k k' fault.Unkept asked h =
    rw (h.0, h.1) (unkept rules fold plan unit a w k₀ k k' (given plan a.state) refl asked h.2)
turn_unsent rules fold plan unit a state' w w' k₀ k k' fault.Left asked h = absurd h
turn_unsent rules fold plan unit a state' w w' k₀ k k' fault.Device asked h =
    unsent rules fold plan unit a state' w w' k₀ k k' asked h.0 h.1

-- it went out, and the listen failed
pub turn_unheard : {E W J : Type 0} (rules : Rules W J) (fold : Fold E) (plan : Plan) (unit : ℕ) (a : Auto E)
    (s₁ s₂ : State) (e₂ : E) (w w₁ w₂ : W) (k₀ k k₁ k₂ : J) → rules.asks a.state next.GoOn k₀ k
    → Chain rules.adds (given_notes (given plan a.state)) k k₁
    → s₁ ≡ ticked a.state → Chain rules.does (sending fold.drops unit (given plan a.state)) w w₁
    → (s₂ ≡ s₁) × (e₂ ≡ a.ear) × rules.does fails w₁ w₂ → k₂ ≡ k₁
    → HasRun rules fold plan unit 1 a (record { ear = e₂; state = s₂ }) (at w k₀) (at w₂ k₂) (Err fault.Device)
turn_unheard {E} {W} {J} rules fold plan unit a s₁ s₂ e₂ w w₁ w₂ k₀ k k₁ k₂ asked kept ticks sent broke unnoted =
    let tail : List Step = acts fails ∷ [] in
    cut rules fold plan unit a _ (at w k₀) (at w₂ k₂) (Err fault.Device) (opening fold plan unit a ++ tail)
    (chain_both (Does rules) (opening fold plan unit a) tail (at w k₀) (at w₁ k₁) (at w₂ k₂)
    (opened rules fold plan unit a w w₁ k₀ k k₁ asked kept sent)
    (at w₂ k₁, (broke.2, refl), ap (λ (x : J). at w₂ x) unnoted))
    (in_listen refl refl (ap₂ {C = Auto E} (λ (e : E) (s : State). record { ear = e; state = s }) broke.1
    (broke.0 ∙ ticks)))

one_ran : (o : Option Outcome) (what : Arrival)
    → RunsTo (ran_unless_ended o (ran_of (line_of what))) o 1 1 (what ∷ [])
one_ran (Some o) what = (refl, omega arith)
one_ran None (bytes piece) = (refl, refl, refl)
one_ran None silence = (refl, refl, refl)
one_ran None close = (refl, refl, omega arith)

one_closes : (what : Arrival) → until_close (what ∷ []) ≡ what ∷ []
one_closes (bytes piece) = refl
one_closes what = refl

pub turn_heard : {E W J : Type 0} (rules : Rules W J) (fold : Fold E) (plan : Plan) (unit : ℕ) (a : Auto E)
    (s₁ s₂ : State) (e₂ : E) (l : Line) (w w₁ w₂ : W) (k₀ k k₁ k₂ : J) → rules.asks a.state next.GoOn k₀ k
    → Chain rules.adds (given_notes (given plan a.state)) k k₁ → s₁ ≡ ticked a.state
    → Chain rules.does (sending fold.drops unit (given plan a.state)) w w₁
    → Hears rules.does fold plan unit (Notes rules.adds fold plan unit s₁ a.ear k₁ k₂) l s₁ a.ear w₁ s₂ e₂ w₂
    → (r : Ran) → r ≡ ran_unless_ended (outcome_of s₂.stage) (ran_of l)
    → HasRun rules fold plan unit 1 a (record { ear = e₂; state = s₂ }) (at w k₀) (at w₂ k₂) (Ok r)
turn_heard {E} {W} {J} rules fold plan unit a s₁ s₂ e₂ l w w₁ w₂ k₀ k k₁ k₂ asked kept ticks sent heard r is =
    let left : Auto E = listens fold plan unit heard.what (gives a) in
    let left_is : ◌≡◌ {A = Auto E} (record { ear = e₂; state = s₂ }) left =
    ap₂ {C = Auto E} (λ (e : E) (s : State). record { ear = e; state = s }) heard.ear_is heard.state_is
    ∙ ap (λ (s : State). listens fold plan unit heard.what (record { ear = a.ear; state = s })) ticks in
    let steps : List Step = round fold plan unit heard.what a in record {
      happened = subst (λ (l : List Step). Happens rules l (at w k₀) (at w₂ k₂))
          (sym (append-nil (steps ++ []) ∙ append-nil steps)) (one_round rules fold plan unit a heard.what w w₁ w₂ k₀ k k₁ k₂
          asked kept sent heard.brought (rw ticks at heard.more));
      run = record {
        events = arrives heard.what ∷ [];
        octets = All-cons AreOctetsIn heard.what [] heard.octets (All-nil AreOctetsIn);
        closes_last = one_closes heard.what;
        made = tt;
        more = [];
        ending = by_itself r refl (subst (λ (x : Auto E). RunsTo r (outcome_of x.state.stage) 1 1 (heard.what ∷ [])) left_is
            (subst (λ (x : Ran). RunsTo x (outcome_of s₂.stage) 1 1 (heard.what ∷ []))
            (sym (is ∙ ap (λ (x : Line). ran_unless_ended (outcome_of s₂.stage) (ran_of x)) heard.line_is))
            (one_ran (outcome_of s₂.stage) heard.what))) refl left_is;
      };
    }

-- One turn more.

-- after this many turns, in which this happened
pub record Stands {E W J : Type 0} (rules : Rules W J) (fold : Fold E) (plan : Plan) (unit turns : ℕ) (a a' : Auto E)
    (world world' : World W J) : Type 0 where
  pub events : List Event
  pub count : length events ≡ turns
  pub open_still : has_closed (arrivals events) ≡ false
  pub octets : All AreOctetsIn (arrivals events)
  pub made : AreMade fold plan unit a events
  pub auto_is : a' ≡ after fold plan unit a events
  pub happened : Happens rules (steps_of fold plan unit a events) world world'

closed_both : (xs ys : List Arrival) → has_closed xs ≡ false → has_closed (xs ++ ys) ≡ has_closed ys
closed_both [] ys h = refl
closed_both (close ∷ xs) ys h = cc
closed_both (x ∷ xs) ys h = closed_both xs ys h

last_both : (xs ys : List Arrival) → has_closed xs ≡ false → until_close ys ≡ ys → until_close (xs ++ ys) ≡ xs ++ ys
last_both [] ys h last = last
last_both (close ∷ xs) ys h last = cc
last_both (x ∷ xs) ys h last = ap (λ (l : List Arrival). x ∷ l) (last_both xs ys h last)

happened_both : {E W J : Type 0} (rules : Rules W J) (fold : Fold E) (plan : Plan) (unit : ℕ) (made : ℕ) (a b : Auto E)
    (world world' world₂ : World W J) (ys : List Event) (more : List Step)
    → (h : Stands rules fold plan unit made a b world world')
    → Happens rules (steps_of fold plan unit b ys ++ more) world' world₂
    → Happens rules (steps_of fold plan unit a (h.events ++ ys) ++ more) world world₂
happened_both rules fold plan unit made a b world world' world₂ ys more h next =
    rw (steps_both fold plan unit a h.events ys, append_assoc) (chain_both (Does rules) (steps_of fold plan unit a h.events)
    (steps_of fold plan unit (after fold plan unit a h.events) ys ++ more) world world' world₂ h.happened
    (rw h.auto_is at next))

ran_on : (r : Ran) (o : Option Outcome) (made count : ℕ) (xs ys : List Event)
    → RunsTo r o 1 (length ys) (arrivals ys) → length xs ≡ made → made < count → has_closed (arrivals xs) ≡ false
    → (r ≡ ran.Spent → ⊥) → RunsTo r o count (length (xs ++ ys)) (arrivals (xs ++ ys))
ran_on ran.Ended o made count xs ys to all few still other =
    (to.0, omega (arith, to.1, all, few, length-append xs ys))
ran_on ran.Closed o made count xs ys to all few still other = (
  to.0,
  ap has_closed (arrivals_both xs ys) ∙ closed_both (arrivals xs) (arrivals ys) still ∙ to.1,
  omega (arith, to.2, all, few, length-append xs ys),
)
ran_on ran.Spent o made count xs ys to all few still other = absurd (other refl)

ends_on : {E : Type 0} (fold : Fold E) (plan : Plan) (unit made count : ℕ) (xs ys : List Event) (a a' : Auto E)
    (answer : Result Ran BrokenOff) (more : List Step) → length xs ≡ made → made < count → has_closed (arrivals xs) ≡ false
    → answer ≢ Ok ran.Spent → Ending fold plan unit 1 ys a answer more a'
    → Ending fold plan unit count (xs ++ ys) a answer more a'
ends_on fold plan unit made count xs ys a a' answer more all few still other (by_itself r is to none left) =
    by_itself r is (ran_on r (outcome_of a.state.stage) made count xs ys to all few still
    (λ spent. absurd (other (is ∙ ap (λ (x : Ran). Ok x) spent)))) none left
ends_on fold plan unit made count xs ys a a' answer more all few still other (by_hooks is going are stays) =
    by_hooks is going are stays
ends_on fold plan unit made count xs ys a a' answer more all few still other (in_keep r is going are left) =
    in_keep r is going are left
ends_on fold plan unit made count xs ys a a' answer more all few still other (in_drop c is first gives_it are left) =
    in_drop c is first gives_it are left
ends_on fold plan unit made count xs ys a a' answer more all few still other (in_send c front rest is gives_it parts are left) =
    in_send c front rest is gives_it parts are left
ends_on fold plan unit made count xs ys a a' answer more all few still other (in_listen is are left) =
    in_listen is are left

-- what came in both, and what was called
made_on : {E W J : Type 0} (rules : Rules W J) (fold : Fold E) (plan : Plan) (unit made : ℕ) (a b : Auto E)
    (world world' : World W J) (ys : List Event) → (h : Stands rules fold plan unit made a b world world')
    → AreMade fold plan unit b ys → AreMade fold plan unit a (h.events ++ ys)
made_on rules fold plan unit made a b world world' ys h g =
    made_both fold plan unit a h.events ys h.made (subst (λ (x : Auto _). AreMade fold plan unit x ys) h.auto_is g)

octets_on : (xs ys : List Event) → All AreOctetsIn (arrivals xs) → All AreOctetsIn (arrivals ys)
    → All AreOctetsIn (arrivals (xs ++ ys))
octets_on xs ys h g = subst (All AreOctetsIn) (sym (arrivals_both xs ys)) (All-append AreOctetsIn (arrivals xs) (arrivals ys) h g)

-- it was the last one
pub run_over : {E W J : Type 0} (rules : Rules W J) (fold : Fold E) (plan : Plan) (unit : ℕ) (made count : ℕ)
    (a b b' : Auto E) (world world' world₂ : World W J) (answer : Result Ran BrokenOff)
    → Stands rules fold plan unit made a b world world' → made < count → answer ≢ Ok ran.Spent
    → HasRun rules fold plan unit 1 b b' world' world₂ answer → HasRun rules fold plan unit count a b' world world₂ answer
run_over {E} rules fold plan unit made count a b b' world world' world₂ answer h few other r = record {
  run = record {
    events = h.events ++ r.run.events;
    octets = octets_on h.events r.run.events h.octets r.run.octets;
    closes_last = rw (arrivals_both h.events r.run.events)
        (last_both (arrivals h.events) (arrivals r.run.events) h.open_still r.run.closes_last);
    made = made_on rules fold plan unit made a b world world' r.run.events h r.run.made;
    more = r.run.more;
    ending = rw (after_both fold plan unit a h.events r.run.events, ← h.auto_is)
        (ends_on fold plan unit made count h.events r.run.events
        (after fold plan unit b r.run.events) b' answer r.run.more h.count few h.open_still other r.run.ending);
  };
  happened = happened_both rules fold plan unit made a b world world' world₂ r.run.events r.run.more h r.happened;
}

-- all its turns were made
record AllMade {E : Type 0} (count : ℕ) (events : List Event) (more : List Step) (a a' : Auto E) : Type 0 where
  all : length events ≡ count
  open_still : has_closed (arrivals events) ≡ false
  none : more ≡ []
  left : a' ≡ a

all_made : {E : Type 0} (fold : Fold E) (plan : Plan) (unit count : ℕ) (events : List Event) (a a' : Auto E)
    (answer : Result Ran BrokenOff) (more : List Step) → answer ≡ Ok ran.Spent
    → Ending fold plan unit count events a answer more a' → AllMade count events more a a'
all_made fold plan unit count events a a' answer more spent (by_itself ran.Spent is to none left) =
    record { all = to.2; open_still = to.1; none = none; left = left }
all_made fold plan unit count events a a' answer more spent (by_itself ran.Ended is to none left) = cc
all_made fold plan unit count events a a' answer more spent (by_itself ran.Closed is to none left) = cc
all_made fold plan unit count events a a' answer more spent (by_hooks is going are stays) = cc
all_made fold plan unit count events a a' answer more spent (in_keep r is going are left) = cc
all_made fold plan unit count events a a' answer more spent (in_drop c is first gives_it are left) = cc
all_made fold plan unit count events a a' answer more spent (in_send c front rest is gives_it parts are left) = cc
all_made fold plan unit count events a a' answer more spent (in_listen is are left) = cc

pub stands_more : {E W J : Type 0} (rules : Rules W J) (fold : Fold E) (plan : Plan) (unit : ℕ) (made : ℕ)
    (a b b' : Auto E) (world world' world₂ : World W J) (answer : Result Ran BrokenOff)
    → Stands rules fold plan unit made a b world world' → answer ≡ Ok ran.Spent
    → HasRun rules fold plan unit 1 b b' world' world₂ answer → Stands rules fold plan unit (made + 1) a b' world world₂
stands_more {E} rules fold plan unit made a b b' world world' world₂ answer h spent r =
    let s = all_made fold plan unit 1 r.run.events (after fold plan unit b r.run.events) b' answer r.run.more spent r.run.ending in
    let both : arrivals (h.events ++ r.run.events) ≡ arrivals h.events ++ arrivals r.run.events = arrivals_both h.events r.run.events in
    record {
      events = h.events ++ r.run.events;
      count = omega (arith, h.count, s.all, length-append h.events r.run.events);
      open_still = rw both (closed_both (arrivals h.events) (arrivals r.run.events) h.open_still ∙ s.open_still);
      octets = octets_on h.events r.run.events h.octets r.run.octets;
      made = made_on rules fold plan unit made a b world world' r.run.events h r.run.made;
      auto_is = s.left ∙ ap (λ (x : Auto E). after fold plan unit x r.run.events) h.auto_is
          ∙ sym (after_both fold plan unit a h.events r.run.events);
      happened = simp append-nil at (happened_both rules fold plan unit made a b world world' world₂ r.run.events [] h
          (rw s.none at r.happened));
    }

spent_by : (o : Option Outcome) (count turns : ℕ) (came : List Arrival) → has_closed came ≡ false → turns ≡ count
    → RunsTo (ran_unless_ended o ran.Spent) o count turns came
spent_by (Some o) count turns came still all = (refl, omega (arith, all))
spent_by None count turns came still all = (refl, still, all)

last_open : (xs : List Arrival) → has_closed xs ≡ false → until_close xs ≡ xs
last_open xs h = simp append-nil at (last_both xs [] h refl)

pub run_spent : {E W J : Type 0} (rules : Rules W J) (fold : Fold E) (plan : Plan) (unit : ℕ) (made count : ℕ)
    (a a' : Auto E) (world world' : World W J) (answer : Result Ran BrokenOff) → Stands rules fold plan unit made a a' world world'
    → made ≡ count → answer ≡ Ok (ran_unless_ended (outcome_of a'.state.stage) ran.Spent)
    → HasRun rules fold plan unit count a a' world world' answer
run_spent {E} rules fold plan unit made count a a' world world' answer h all is = record {
  happened = simp append-nil h.happened;
  run = record {
    events = h.events;
    octets = h.octets;
    closes_last = last_open (arrivals h.events) h.open_still;
    made = h.made;
    more = [];
    ending = by_itself _ is (rw (← h.auto_is) (spent_by (outcome_of a'.state.stage) count (length h.events) (arrivals h.events)
        h.open_still (h.count ∙ all))) refl h.auto_is;
  };
}

-- Runs that go on.

ran_far : (r : Ran) (o : Option Outcome) (m n : ℕ) (xs ys : List Event) → RunsTo r o n (length ys) (arrivals ys)
    → length xs ≡ m → has_closed (arrivals xs) ≡ false → RunsTo r o (m + n) (length (xs ++ ys)) (arrivals (xs ++ ys))
ran_far ran.Ended o m n xs ys to all still = (to.0, omega (arith, to.1, all, length-append xs ys))
ran_far r o m n xs ys to all still = (
  to.0,
  ap has_closed (arrivals_both xs ys) ∙ closed_both (arrivals xs) (arrivals ys) still ∙ to.1,
  omega (arith, to.2, all, length-append xs ys),
)

ends_far : {E : Type 0} (fold : Fold E) (plan : Plan) (unit m n : ℕ) (xs ys : List Event) (a a' : Auto E)
    (answer : Result Ran BrokenOff) (more : List Step) → length xs ≡ m → has_closed (arrivals xs) ≡ false
    → Ending fold plan unit n ys a answer more a' → Ending fold plan unit (m + n) (xs ++ ys) a answer more a'
ends_far fold plan unit m n xs ys a a' answer more all still (by_itself r is to none left) =
    by_itself r is (ran_far r (outcome_of a.state.stage) m n xs ys to all still) none left
ends_far fold plan unit m n xs ys a a' answer more all still (by_hooks is going are stays) = by_hooks is going are stays
ends_far fold plan unit m n xs ys a a' answer more all still (in_keep r is going are left) = in_keep r is going are left
ends_far fold plan unit m n xs ys a a' answer more all still (in_drop c is first gives_it are left) =
    in_drop c is first gives_it are left
ends_far fold plan unit m n xs ys a a' answer more all still (in_send c front rest is gives_it parts are left) =
    in_send c front rest is gives_it parts are left
ends_far fold plan unit m n xs ys a a' answer more all still (in_listen is are left) = in_listen is are left

-- a run whose turns were all made, and then another
pub record GoesOn {E : Type 0} {fold : Fold E} {plan : Plan} {unit m n : ℕ} {a b a' : Auto E}
    {answer : Result Ran BrokenOff} (first : IsRun fold plan unit m a b (Ok ran.Spent))
    (next : IsRun fold plan unit n b a' answer) : Type 0 where
  pub run : IsRun fold plan unit (m + n) a a' answer
  pub steps : steps_in run ≡ steps_in first ++ steps_in next

pub run_goes_on : {E : Type 0} (fold : Fold E) (plan : Plan) (unit m n : ℕ) (a b a' : Auto E)
    (answer : Result Ran BrokenOff) (first : IsRun fold plan unit m a b (Ok ran.Spent))
    (next : IsRun fold plan unit n b a' answer) → GoesOn first next
run_goes_on {E} fold plan unit m n a b a' answer first next =
    let xs : List Event = first.events in
    let ys : List Event = next.events in
    let s : AllMade m xs first.more (after fold plan unit a xs) b =
    all_made fold plan unit m xs (after fold plan unit a xs) b (Ok ran.Spent) first.more refl first.ending in
    record {
      run = record {
        events = xs ++ ys;
        octets = octets_on xs ys first.octets next.octets;
        closes_last = rw (arrivals_both xs ys) (last_both (arrivals xs) (arrivals ys) s.open_still next.closes_last);
        made = made_both fold plan unit a xs ys first.made
            (subst (λ (x : Auto E). AreMade fold plan unit x ys) s.left next.made);
        more = next.more;
        ending = rw (after_both fold plan unit a xs ys, ← s.left)
            (ends_far fold plan unit m n xs ys (after fold plan unit b ys) a' answer next.more s.all
            s.open_still next.ending);
      };
      steps = rw (steps_both fold plan unit a xs ys, s.none, append-nil, append_assoc, ← s.left) refl;
    }
