-- What ended the last exchange waits for a later row. A killed run goes on as if that hadn't been heard.
use Rattle.std.proofs.Common.{ℕ, ◌≡◌, true, false, List, [], ◌∷◌, ◌++◌, map, refl, sym, ap, subst, ◌∙◌, append_assoc, append-nil}
use Rattle.std.specs.Option.{option_map_or, option_to_list}
use Rattle.std.specs.Prelude.{Option, None, Some}
use Rattle.vdcp_words.specs.declared.command.Command.{Command}
use Rattle.vdcp_auto.specs.Plan.{Plan}
use Rattle.vdcp_auto.specs.State.{State}
use Rattle.vdcp_auto.specs.Turn.{awaited, ended_by, ended_in, exchange_of, given, outcome_of, ticked}
use Rattle.vdcp_auto.specs.declared.exchange.Exchange.{Exchange}
use Rattle.vdcp_auto.specs.declared.exchange.Heard.{Heard}
use Rattle.vdcp_auto.specs.declared.phase.Mode.{Mode}
use Rattle.vdcp_wire.specs.Acts.{Act, brings}
use Rattle.vdcp_wire.specs.Wires.{Arrival}
use Rattle.vdcp_drive.specs.Auto.{AreMade, Auto, Event, arrives, calls, ended}
use Rattle.vdcp_drive.specs.Auto as auto
use Rattle.vdcp_drive.specs.Ears.{inputs}
use Rattle.vdcp_drive.specs.Hearing.{at_once}
use Rattle.vdcp_drive.specs.Reading.{Held}
use Rattle.vdcp_drive.specs.Steps.{Step, end_of, ended_notes, given_notes, round, steps_of}
use Rattle.vdcp_drive.specs.Traces.{acts_in, bytes_of, came_in, commands_kept, kept_in, sent_in}
use Rattle.vdcp_drive.specs.declared.hooks.Call.{Call}
use Rattle.vdcp_drive.specs.declared.hooks.Call.TheVariants as call
use Rattle.vdcp_drive.specs.declared.hooks.Kept.{Kept}
use Rattle.vdcp_drive.specs.declared.hooks.Kept.TheVariants as kept
use Rattle.vdcp_journal_file.specs.Recorded.{is_end, note_for}
use Rattle.vdcp_laws.specs.Automation.{gives}
use Rattle.vdcp_laws.specs.Carried.{MayGive, driver_of, next}
use Rattle.vdcp_laws.specs.OneConnection.{ends_by, hears_in}
use Rattle.vdcp_laws.specs.TwoEnds.{Ends, with_call, with_command}
use Rattle.vdcp_laws.proofs.Carrying.{first_acts, round_so}
use Rattle.vdcp_laws.proofs.Commands.{awaits_none_in, exchange_is}
use Rattle.vdcp_laws.proofs.Noted.{ends_in, moved, round_rows}
use Rattle.vdcp_laws.proofs.Same.{listens_so}

-- An arrival ends one exchange at most.

ends_none : (mode : Mode) (h : Option Heard) (c : Option Command) → c ≡ None → exchange_of mode h c ≡ None
ends_none mode h None is = refl
ends_none mode h (Some c) is = cc is

-- what is ended if the first of these ends this
ended_so : (plan : Plan) (h : Option Heard) (hs : List (Option Heard)) (s : State) (o : Option Exchange)
    → ended_by plan h s ≡ o
    → ended plan (h ∷ hs) s ≡ option_to_list o ++ ended plan hs (option_map_or (λ e. ended_in plan s.stage e s) o s)
ended_so plan h hs s o is =
    ap (λ (x : Option Exchange). option_to_list x ++ ended plan hs (option_map_or (λ e. ended_in plan s.stage e s) x s)) is

ended_none : (plan : Plan) (hs : List (Option Heard)) (s : State) → awaited plan s ≡ None → ended plan hs s ≡ []
ended_none plan [] s is = refl
ended_none plan (h ∷ hs) s is =
    ended_so plan h hs s None (ends_none plan.mode h (awaited plan s) is) ∙ ended_none plan hs s is

data AtMostOne : List Exchange → Type 0 where
  none : AtMostOne []
  one : (e : Exchange) → AtMostOne (e ∷ [])

one_first : (plan : Plan) (h : Option Heard) (hs : List (Option Heard)) (s : State) (o : Option Exchange)
    → ended_by plan h s ≡ o → AtMostOne (ended plan hs s) → AtMostOne (ended plan (h ∷ hs) s)
one_first plan h hs s None is later = subst AtMostOne (sym (ended_so plan h hs s None is)) later
one_first plan h hs s (Some e) is later = subst AtMostOne (sym (ended_so plan h hs s (Some e) is
    ∙ ap (λ (l : List Exchange). e ∷ l) (ended_none plan hs (ended_in plan s.stage e s)
    (awaits_none_in plan s.stage e s (exchange_is plan.mode h (awaited plan s) e is))))) (one e)

ended_once : (plan : Plan) (hs : List (Option Heard)) (s : State) → AtMostOne (ended plan hs s)
ended_once plan [] s = none
ended_once plan (h ∷ hs) s = one_first plan h hs s (ended_by plan h s) refl (ended_once plan hs s)

-- The last of a list, and those before it.

abbrev pub last_of : {A : Type 0} → List A → Option A
last_of [] = None
last_of (x ∷ []) = Some x
last_of (x ∷ y ∷ xs) = last_of (y ∷ xs)

abbrev pub before_last : {A : Type 0} → List A → List A
before_last [] = []
before_last (x ∷ []) = []
before_last (x ∷ y ∷ xs) = x ∷ before_last (y ∷ xs)

pub last_behind : {A : Type 0} (front : List A) (y : A) (ys : List A) → last_of (front ++ y ∷ ys) ≡ last_of (y ∷ ys)
last_behind [] y ys = refl
last_behind (x ∷ []) y ys = refl
last_behind (x ∷ z ∷ front) y ys = last_behind (z ∷ front) y ys

before_behind : {A : Type 0} (front : List A) (y : A) (ys : List A)
    → before_last (front ++ y ∷ ys) ≡ front ++ before_last (y ∷ ys)
before_behind [] y ys = refl
before_behind (x ∷ []) y ys = refl
before_behind {A} (x ∷ z ∷ front) y ys = ap (λ (l : List A). x ∷ l) (before_behind (z ∷ front) y ys)

pub with_last : {A : Type 0} (xs : List A) (y : A) → last_of xs ≡ Some y → xs ≡ before_last xs ++ y ∷ []
with_last [] y is = cc is
with_last {A} (x ∷ []) y is = ap (λ (o : Option A). option_to_list o) is
with_last {A} (x ∷ z ∷ xs) y is = ap (λ (l : List A). x ∷ l) (with_last (z ∷ xs) y is)

pub last_mapped : {A B : Type 0} (f : A → B) (xs : List A) (y : A) → last_of xs ≡ Some y → last_of (map f xs) ≡ Some (f y)
last_mapped f [] y is = cc is
last_mapped {A} {B} f (x ∷ []) y is = ap (λ (o : Option A). option_map_or (λ (z : A). Some (f z)) o None) is
last_mapped f (x ∷ z ∷ xs) y is = last_mapped f (z ∷ xs) y is

-- What ended the last exchange may be left out: before it came the automation had kept the rest, and sends nothing since.

pub record Unheard (plan : Plan) (unit : ℕ) (a : Auto Held) (now : Ends) (events : List Event) : Type 0 where
  pub before : List Event
  pub made : AreMade at_once plan unit a before
  pub rows : List Kept
  pub out : List Act
  pub since : List Act
  pub last : Ends
  pub gives : MayGive plan unit (ends_by plan unit now before) rows out last
  pub kept_is : kept_in (steps_of at_once plan unit a before) ++ rows ≡ before_last (kept_in (steps_of at_once plan unit a events))
  pub acts_are : acts_in (steps_of at_once plan unit a events)
      ≡ acts_in (steps_of at_once plan unit a before) ++ (out ++ since)
  pub unsent : sent_in since ≡ []

sends_all : (unit : ℕ) (o : Option Command) → bytes_of unit (option_to_list o) ≡ sent_in (first_acts unit o) ++ []
sends_all unit None = refl
sends_all unit (Some c) = sym (append-nil (bytes_of unit (c ∷ [])))

brings_none : (unit : ℕ) (o : Option Command) → came_in (first_acts unit o) ≡ []
brings_none unit None = refl
brings_none unit (Some c) = refl

gives_next : (plan : Plan) (unit : ℕ) (now : Ends) (o : Option Command) → given plan now.automation.state ≡ o
    → MayGive plan unit now (given_notes o) (first_acts unit o) (with_command plan now)
gives_next plan unit now o is =
    subst (λ (x : Option Command). MayGive plan unit now (given_notes x) (first_acts unit x) (with_command plan now)) is
    (next (first_acts unit (given plan now.automation.state)) [] (brings_none unit (given plan now.automation.state))
    (sends_all unit (given plan now.automation.state)))

-- a command isn't what ends an exchange, nor is a call

pub no_end : (k n : Kept) → is_end (note_for k) ≡ false → Some k ≡ Some n → is_end (note_for n) ≡ true → ⊥
no_end k n other is ends = cc

no_end_given : (o : Option Command) (n : Kept) → last_of (given_notes o ++ []) ≡ Some n → is_end (note_for n) ≡ true → ⊥
no_end_given None n is ends = cc is
no_end_given (Some c) n is ends = no_end (kept.Sent c) n refl is ends

no_end_called : (c : Call) (n : Kept) → Some (kept.Called c) ≡ Some n → is_end (note_for n) ≡ true → ⊥
no_end_called c n is ends = no_end (kept.Called c) n (call_ends c) is ends where
  call_ends : (x : Call) → is_end (note_for (kept.Called x)) ≡ false
  call_ends call.Take = refl
  call_ends call.Stop = refl
  call_ends (call.List l) = refl

abbrev pub Sends : Type 0
Sends = (plan : Plan) (unit : ℕ) (a : Auto Held) (events : List Event)
    → sent_in (acts_in (steps_of at_once plan unit a events)) ≡ bytes_of unit (commands_kept (kept_in (steps_of at_once plan unit a events)))

module _ (sends : Sends) (plan : Plan) (unit : ℕ) where
  abbrev steps : Auto Held → List Event → List Step
  steps a events = steps_of at_once plan unit a events

  abbrev Parts : Auto Held → Ends → List Event → Type 0
  Parts a now events = Unheard plan unit a now events

  -- nothing is kept later: it came here
  came_here : (a : Auto Held) (now : Ends) (what : Arrival) (later : List Event) (n : Kept) (log : List Exchange)
      → AtMostOne log → driver_of now.automation ≡ a
      → kept_in (steps a (arrives what ∷ later)) ≡ given_notes (given plan a.state) ++ (ended_notes log ++ [])
      → kept_in (steps (auto.listens at_once plan unit what (auto.gives a)) later) ≡ []
      → last_of (kept_in (steps a (arrives what ∷ later))) ≡ Some n → is_end (note_for n) ≡ true
      → Parts a now (arrives what ∷ later)
  came_here a now what later n _ none same kept_so empty is ends =
      absurd (no_end_given (given plan a.state) n (sym (ap last_of kept_so) ∙ is) ends)
  came_here a now what later n _ (one e) same kept_so empty is ends =
      let b : Auto Held = auto.listens at_once plan unit what (auto.gives a) in
      let g : Option Command = given plan a.state in record {
        before = [];
        made = tt;
        rows = given_notes g;
        out = first_acts unit g;
        since = brings what ∷ acts_in (steps b later);
        last = with_command plan now;
        gives = gives_next plan unit now g (ap (λ (x : Auto Held). given plan x.state) same);
        kept_is = sym (ap before_last kept_so ∙ before_behind (given_notes g) (end_of e.heard) [] ∙ append-nil (given_notes g));
        acts_are = round_so plan unit what a (steps b later);
        unsent = sends plan unit b later ∙ ap (λ (l : List Kept). bytes_of unit (commands_kept l)) empty;
      }

  -- it came later
  came_later : (a : Auto Held) (now : Ends) (what : Arrival) (later : List Event) (y : Kept) (ys : List Kept)
      → kept_in (steps (auto.listens at_once plan unit what (auto.gives a)) later) ≡ y ∷ ys
      → Parts (auto.listens at_once plan unit what (auto.gives a)) (hears_in plan unit what (with_command plan now)) later
      → Parts a now (arrives what ∷ later)
  came_later a now what later y ys more u =
      let b : Auto Held = auto.listens at_once plan unit what (auto.gives a) in
      let g : List Kept = given_notes (given plan a.state) in
      let ends : List Kept = ends_in plan unit what a in
      let front : List Act = first_acts unit (given plan a.state) ++ brings what ∷ [] in record {
        before = arrives what ∷ u.before;
        made = u.made;
        rows = u.rows;
        out = u.out;
        since = u.since;
        last = u.last;
        gives = u.gives;
        kept_is = ap (λ (l : List Kept). l ++ u.rows) (round_rows plan unit what a (steps b u.before)
            ∙ sym (append_assoc g ends (kept_in (steps b u.before))))
            ∙ append_assoc (g ++ ends) (kept_in (steps b u.before)) u.rows
            ∙ ap (λ (l : List Kept). (g ++ ends) ++ l) (u.kept_is ∙ ap before_last more)
            ∙ sym (before_behind (g ++ ends) y ys)
            ∙ ap (λ (l : List Kept). before_last ((g ++ ends) ++ l)) (sym more)
            ∙ ap before_last (append_assoc g ends (kept_in (steps b later))
            ∙ sym (round_rows plan unit what a (steps b later)));
        acts_are = acts_of a what (steps b later)
            ∙ ap (λ (l : List Act). front ++ l) u.acts_are
            ∙ sym (append_assoc front (acts_in (steps b u.before)) (u.out ++ u.since))
            ∙ ap (λ (l : List Act). l ++ (u.out ++ u.since)) (sym (acts_of a what (steps b u.before)));
        unsent = u.unsent;
      } where
        acts_of : (a : Auto Held) (what : Arrival) (rest : List Step)
            → acts_in (round at_once plan unit what a ++ rest)
            ≡ (first_acts unit (given plan a.state) ++ brings what ∷ []) ++ acts_in rest
        acts_of a what rest = round_so plan unit what a rest
            ∙ sym (append_assoc (first_acts unit (given plan a.state)) (brings what ∷ []) (acts_in rest))

  -- and so after a call
  called_before : (a : Auto Held) (now : Ends) (c : Call) (later : List Event) (y : Kept) (ys : List Kept)
      → outcome_of a.state.stage ≡ None → kept_in (steps (auto.heeds c a) later) ≡ y ∷ ys
      → Parts (auto.heeds c a) (with_call c now) later → Parts a now (calls c ∷ later)
  called_before a now c later y ys on more u = record {
    before = calls c ∷ u.before;
    made = (on, u.made);
    rows = u.rows;
    out = u.out;
    since = u.since;
    last = u.last;
    gives = u.gives;
    kept_is = ap (λ (l : List Kept). kept.Called c ∷ l) (u.kept_is ∙ ap before_last more)
        ∙ ap (λ (l : List Kept). before_last (kept.Called c ∷ l)) (sym more);
    acts_are = u.acts_are;
    unsent = u.unsent;
  }

  abbrev then_at : Auto Held → Arrival → Auto Held
  then_at a what = auto.listens at_once plan unit what (auto.gives a)

  arrival_unheard : (a : Auto Held) (now : Ends) (what : Arrival) (later : List Event) (n : Kept) (l : List Kept)
      → driver_of now.automation ≡ a → kept_in (steps (then_at a what) later) ≡ l
      → (last_of (kept_in (steps (then_at a what) later)) ≡ Some n → Parts (then_at a what) (hears_in plan unit what (with_command plan now)) later)
      → last_of (kept_in (steps a (arrives what ∷ later))) ≡ Some n → is_end (note_for n) ≡ true
      → Parts a now (arrives what ∷ later)
  arrival_unheard a now what later n [] same empty on is ends =
      let log : List Exchange = ended plan (inputs at_once unit what a.ear) (ticked a.state) in
      came_here a now what later n log (ended_once plan (inputs at_once unit what a.ear) (ticked a.state)) same
      (round_rows plan unit what a (steps (then_at a what) later)
      ∙ ap (λ (l : List Kept). given_notes (given plan a.state) ++ (ended_notes log ++ l)) empty) empty is ends
  arrival_unheard a now what later n (y ∷ ys) same more on is ends =
      let front : List Kept = given_notes (given plan a.state) ++ ends_in plan unit what a in
      came_later a now what later y ys more (on (ap last_of more ∙ sym (last_behind front y ys)
      ∙ ap (λ (l : List Kept). last_of (front ++ l)) (sym more)
      ∙ ap last_of (append_assoc (given_notes (given plan a.state)) (ends_in plan unit what a) (kept_in (steps (then_at a what) later))
      ∙ sym (round_rows plan unit what a (steps (then_at a what) later))) ∙ is))

  call_unheard : (a : Auto Held) (now : Ends) (c : Call) (later : List Event) (n : Kept) (l : List Kept)
      → outcome_of a.state.stage ≡ None → kept_in (steps (auto.heeds c a) later) ≡ l
      → (last_of (kept_in (steps (auto.heeds c a) later)) ≡ Some n → Parts (auto.heeds c a) (with_call c now) later)
      → last_of (kept_in (steps a (calls c ∷ later))) ≡ Some n → is_end (note_for n) ≡ true → Parts a now (calls c ∷ later)
  call_unheard a now c later n [] runs empty on is ends =
      absurd (no_end_called c n (sym (ap (λ (l : List Kept). last_of (kept.Called c ∷ l)) empty) ∙ is) ends)
  call_unheard a now c later n (y ∷ ys) runs more on is ends =
      called_before a now c later y ys runs more
      (on (ap last_of more ∙ sym (ap (λ (l : List Kept). last_of (kept.Called c ∷ l)) more) ∙ is))

  pub unheard : (a : Auto Held) (now : Ends) (events : List Event) (n : Kept) → driver_of now.automation ≡ a
      → AreMade at_once plan unit a events → last_of (kept_in (steps a events)) ≡ Some n → is_end (note_for n) ≡ true
      → Parts a now events
  unheard a now [] n same made is ends = cc is
  unheard a now (arrives what ∷ later) n same made is ends =
      arrival_unheard a now what later n (kept_in (steps (then_at a what) later)) same refl
      (λ last. unheard (then_at a what) (hears_in plan unit what (with_command plan now)) later n
      (moved plan unit what now ∙ listens_so plan unit what (gives now.automation)
      ∙ ap (λ (x : Auto Held). then_at x what) same) made last ends) is ends
  unheard a now (calls c ∷ later) n same made is ends =
      call_unheard a now c later n (kept_in (steps (auto.heeds c a) later)) made.0 refl
      (λ last. unheard (auto.heeds c a) (with_call c now) later n (ap (auto.heeds c) same) made.1 last ends) is ends
