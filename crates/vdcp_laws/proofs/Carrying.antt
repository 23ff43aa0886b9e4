-- The automation's side of a connection, act by act of its wire: where that leaves both ends, the server's turns aside.
use Rattle.std.proofs.Common.{ℕ, ◌≡◌, Bool, true, false, List, [], ◌∷◌, ◌++◌, map, refl, sym, ap, subst, ◌∙◌, append_assoc, append-nil, arith}
use Rattle.std.proofs.lemmas.Grind.{flat_map-append}
use Rattle.std.specs.Option.{option_to_list}
use Rattle.std.specs.Prelude.{◌≢◌, Option, None, Some, Result, Err}
use Rattle.vdcp_words.specs.declared.command.Command.{Command}
use Rattle.vdcp_auto.specs.Plan.{Plan}
use Rattle.vdcp_auto.specs.State.{State}
use Rattle.vdcp_auto.specs.Turn.{given, ticked}
use Rattle.vdcp_wire.specs.Acts.{Act, sends, brings, drops, fails}
use Rattle.vdcp_wire.specs.Wires.{Arrival, bytes, silence, close}
use Rattle.vdcp_drive.specs.Auto.{AreMade, Auto, Event, after, arrives, calls, ended}
use Rattle.vdcp_drive.specs.Auto as auto
use Rattle.vdcp_drive.specs.Ears.{Fold, inputs}
use Rattle.vdcp_drive.specs.Hearing.{at_once}
use Rattle.vdcp_drive.specs.Leaves.{Ending, IsRun, by_itself, by_hooks, in_keep, in_drop, in_send, in_listen, steps_in}
use Rattle.vdcp_drive.specs.Reading.{Held}
use Rattle.vdcp_drive.specs.Steps.{Step, acts, asks, keeps, misses, command_bytes, dropping, ended_notes, given_notes, opening, round, sending, steps_of}
use Rattle.vdcp_drive.specs.Traces.{acts_in, bytes_of, came_in, commands_kept, kept_in, sent_in}
use Rattle.vdcp_drive.specs.Turns.{Turn}
use Rattle.vdcp_drive.specs.declared.hooks.Kept.{Kept}
use Rattle.vdcp_drive.specs.declared.hooks.Kept.TheVariants as row
use Rattle.vdcp_drive.specs.declared.hooks.BrokenOff.{BrokenOff}
use Rattle.vdcp_drive.specs.declared.hooks.BrokenOff.TheVariants as fault
use Rattle.vdcp_drive.specs.declared.hooks.Next.TheVariants as next
use Rattle.vdcp_drive.specs.declared.line.Ran.{Ran}
use Rattle.vdcp_laws.specs.Automation.{gives, listens}
use Rattle.vdcp_laws.specs.Carried.{driver_of}
use Rattle.vdcp_laws.specs.OneConnection.{ends_by, hears_in}
use Rattle.vdcp_laws.specs.TwoEnds as two
use Rattle.vdcp_laws.specs.TwoEnds.{Ends, bytes_in, sent_down, with_call, with_command}
use Rattle.vdcp_laws.proofs.Bytes.{none_before}
use Rattle.vdcp_laws.proofs.Fronts.{head_so, tail_so}
use Rattle.vdcp_laws.proofs.Joining.{sent_more}
use Rattle.vdcp_laws.proofs.OneRun.{automation_so}
use Rattle.vdcp_laws.proofs.Same.{led_so, listens_so}

-- Acts and steps, one after another.

pub acts_both : (xs ys : List Step) → acts_in (xs ++ ys) ≡ acts_in xs ++ acts_in ys
acts_both [] ys = refl
acts_both (acts a ∷ xs) ys = ap (λ (l : List Act). a ∷ l) (acts_both xs ys)
acts_both (asks s n ∷ xs) ys = acts_both xs ys
acts_both (keeps r ∷ xs) ys = acts_both xs ys
acts_both (misses c ∷ xs) ys = acts_both xs ys

pub came_both : (xs ys : List Act) → came_in (xs ++ ys) ≡ came_in xs ++ came_in ys
came_both [] ys = refl
came_both (sends b ∷ xs) ys = came_both xs ys
came_both (brings what ∷ xs) ys = ap (λ (l : List Arrival). what ∷ l) (came_both xs ys)
came_both (drops ∷ xs) ys = came_both xs ys
came_both (fails ∷ xs) ys = came_both xs ys

pub sent_both : (xs ys : List Act) → sent_in (xs ++ ys) ≡ sent_in xs ++ sent_in ys
sent_both [] ys = refl
sent_both (sends b ∷ xs) ys =
    ap (λ (l : List ℕ). b ++ l) (sent_both xs ys) ∙ sym (append_assoc b (sent_in xs) (sent_in ys))
sent_both (brings what ∷ xs) ys = sent_both xs ys
sent_both (drops ∷ xs) ys = sent_both xs ys
sent_both (fails ∷ xs) ys = sent_both xs ys

pub keeps_nothing : (ks : List Kept) → acts_in (map keeps ks) ≡ []
keeps_nothing [] = refl
keeps_nothing (k ∷ ks) = keeps_nothing ks

-- what goes out before a listen
abbrev pub first_acts : ℕ → Option Command → List Act
first_acts unit None = []
first_acts unit (Some c) = sends (command_bytes unit c) ∷ []

opens_so : (unit : ℕ) (o : Option Command)
    → acts_in (map keeps (given_notes o) ++ map acts (sending false unit o)) ≡ first_acts unit o
opens_so unit None = refl
opens_so unit (Some c) = refl

pub round_so : (plan : Plan) (unit : ℕ) (what : Arrival) (a : Auto Held) (later : List Step)
    → acts_in (round at_once plan unit what a ++ later)
    ≡ first_acts unit (given plan a.state) ++ brings what ∷ acts_in later
round_so plan unit what a later =
    let notes : List Step = map keeps (ended_notes (ended plan (inputs at_once unit what a.ear) (ticked a.state))) in
    let o : Option Command = given plan a.state in
    let first : List Act = first_acts unit o in
    acts_both (round at_once plan unit what a) later
    ∙ ap (λ (l : List Act). l ++ acts_in later)
    (acts_both (opening at_once plan unit a) (acts (brings what) ∷ notes)
    ∙ ap (λ (l : List Act). l ++ brings what ∷ acts_in notes) (opens_so unit o)
    ∙ ap (λ (l : List Act). first ++ brings what ∷ l)
    (keeps_nothing (ended_notes (ended plan (inputs at_once unit what a.ear) (ticked a.state)))))
    ∙ append_assoc first (brings what ∷ []) (acts_in later)

-- The last steps of a run bring nothing, and of the command that is given next they send a beginning, or nothing; all that they
-- give, if the wire didn't fail.
pub record Last (plan : Plan) (unit : ℕ) (s : State) (answer : Result Ran BrokenOff) (more : List Step) : Type 0 where
  pub none : came_in (acts_in more) ≡ []
  pub others : List Command
  pub given_is : option_to_list (given plan s) ≡ commands_kept (kept_in more) ++ others
  pub unsent : List ℕ
  pub part : bytes_of unit (commands_kept (kept_in more)) ≡ sent_in (acts_in more) ++ unsent
  pub all : answer ≢ Err fault.Device → unsent ≡ []

none_sent : (plan : Plan) (unit : ℕ) (s : State) (answer : Result Ran BrokenOff) (more : List Step) → acts_in more ≡ []
    → kept_in more ≡ [] → Last plan unit s answer more
none_sent plan unit s answer more none given_none = record {
  none = ap came_in none;
  others = option_to_list (given plan s);
  given_is = ap (λ (l : List Kept). commands_kept l ++ option_to_list (given plan s)) (sym given_none);
  unsent = [];
  part = ap (λ (l : List Kept). bytes_of unit (commands_kept l)) given_none
      ∙ ap (λ (l : List Act). sent_in l ++ []) (sym none);
  all = λ no. refl;
}

listen_fails : {E : Type 0} (plan : Plan) (unit : ℕ) (a : Auto E) (answer : Result Ran BrokenOff) (first : Bool) (o : Option Command)
    → given plan a.state ≡ o → Last plan unit a.state answer
    ((asks a.state next.GoOn ∷ (map keeps (given_notes o) ++ map acts (sending first unit o))) ++ acts fails ∷ [])
listen_fails plan unit a answer first None is =
    record { none = refl; others = []; given_is = ap option_to_list is; unsent = []; part = refl; all = λ no. refl }
listen_fails plan unit a answer true (Some c) is = record {
  none = refl;
  others = [];
  given_is = ap option_to_list is;
  unsent = [];
  part = sym (append-nil (command_bytes unit c ++ []));
  all = λ no. refl;
}
listen_fails plan unit a answer false (Some c) is = record {
  none = refl;
  others = [];
  given_is = ap option_to_list is;
  unsent = [];
  part = sym (append-nil (command_bytes unit c ++ []));
  all = λ no. refl;
}

send_fails : {E : Type 0} (plan : Plan) (unit : ℕ) (a : Auto E) (answer : Result Ran BrokenOff) (first : Bool) (c : Command)
    (front rest : List ℕ) → given plan a.state ≡ Some c → command_bytes unit c ≡ front ++ rest → answer ≡ Err fault.Device
    → Last plan unit a.state answer
    (asks a.state next.GoOn ∷ keeps (row.Sent c) ∷ map acts (dropping first ++ sends front ∷ []))
send_fails plan unit a answer true c front rest g parts is = record {
  none = refl;
  others = [];
  given_is = ap option_to_list g;
  unsent = rest;
  part = append-nil (command_bytes unit c) ∙ parts ∙ ap (λ (l : List ℕ). l ++ rest) (sym (append-nil front));
  all = λ no. absurd (no is);
}
send_fails plan unit a answer false c front rest g parts is = record {
  none = refl;
  others = [];
  given_is = ap option_to_list g;
  unsent = rest;
  part = append-nil (command_bytes unit c) ∙ parts ∙ ap (λ (l : List ℕ). l ++ rest) (sym (append-nil front));
  all = λ no. absurd (no is);
}

pub last_so : {E : Type 0} {fold : Fold E} (plan : Plan) (unit count : ℕ) (events : List Event) (a a' : Auto E)
    (answer : Result Ran BrokenOff) (more : List Step) → Ending fold plan unit count events a answer more a'
    → Last plan unit a.state answer more
last_so plan unit count events a a' answer more (by_itself r is to m left) =
    subst (Last plan unit a.state answer) (sym m) (none_sent plan unit a.state answer [] refl refl)
last_so plan unit count events a a' answer more (by_hooks is g m left) =
    subst (Last plan unit a.state answer) (sym m) (none_sent plan unit a.state answer _ refl refl)
last_so plan unit count events a a' answer more (in_keep r is g m left) =
    subst (Last plan unit a.state answer) (sym m) (none_sent plan unit a.state answer _ refl refl)
last_so plan unit count events a a' answer more (in_drop c is dropping g m left) =
    subst (Last plan unit a.state answer) (sym m) (record {
      none = refl;
      others = [];
      given_is = ap option_to_list g;
      unsent = command_bytes unit c;
      part = append-nil (command_bytes unit c);
      all = λ no. absurd (no is);
    })
last_so {fold} plan unit count events a a' answer more (in_send c front rest is g parts m left) =
    subst (Last plan unit a.state answer) (sym m) (send_fails plan unit a answer fold.drops c front rest g parts is)
last_so {fold} plan unit count events a a' answer more (in_listen is m left) =
    subst (Last plan unit a.state answer) (sym m) (listen_fails plan unit a answer fold.drops (given plan a.state) refl)

-- What comes up to ends.

heard_port : (plan : Plan) (unit : ℕ) (a : Arrival) (e : Ends) → (hears_in plan unit a e).port ≡ e.port
heard_port plan unit a e = grind arith

pub heard_ups : (plan : Plan) (unit : ℕ) (a : Arrival) (e : Ends) (came : List Arrival)
    → (hears_in plan unit a e).ups ++ bytes_in came ≡ e.ups ++ bytes_in (a ∷ came)
heard_ups plan unit (bytes piece) e came = append_assoc e.ups piece (bytes_in came)
heard_ups plan unit silence e came = refl
heard_ups plan unit close e came = refl

heard_by : (plan : Plan) (unit : ℕ) (a : Arrival) (e : Ends)
    → (hears_in plan unit a e).automation ≡ listens plan unit a e.automation
heard_by plan unit a e = grind arith

pub heard_down : (plan : Plan) (unit : ℕ) (a : Arrival) (e : Ends)
    → sent_down unit (hears_in plan unit a e) ≡ sent_down unit e
heard_down plan unit a e = grind arith

abbrev pub heard_up : Plan → ℕ → List Arrival → Ends → Ends
heard_up plan unit [] e = e
heard_up plan unit (a ∷ came) e = heard_up plan unit came (hears_in plan unit a e)

-- Steps that neither wait, nor ask, nor begin anew.
abbrev pub IsCalm : {plan : Plan} {unit : ℕ} {e e' : Ends} → two.Step plan unit e e' → Type 0
IsCalm two.waited = ⊥
IsCalm (two.asks question c is) = ⊥
IsCalm (two.resumed goes) = ⊥
IsCalm (two.restarted goes) = ⊥
IsCalm _ = Unit {0}

-- what such steps lead to is led to
pub record Leads (plan : Plan) (unit : ℕ) (R : Ends → Ends → Type 0) : Type 0 where
  pub begun : (e : Ends) → R e e
  pub on : {first e e' : Ends} → (step : two.Step plan unit e e') → IsCalm step → R first e → R first e'

-- From these ends on, of whose bytes these had gone out, by these acts of the automation's wire, to those.
pub record Side (plan : Plan) (unit : ℕ) (R : Ends → Ends → Type 0) (e : Ends) (sent : List ℕ) (list : List Act) (last : Ends) : Type 0 where
  -- the ends once this came up, with all that they give before more comes
  pub at : List Arrival → Ends
  pub begins : (first : Ends) (downs : List Turn) → R first (record e { downs = downs })
      → R first (record (at []) { downs = downs })
  pub goes_on : (first : Ends) (downs : List Turn) (came rest : List Arrival) (a : Arrival) → came_in list ≡ came ++ a ∷ rest
      → R first (record (hears_in plan unit a (at came)) { downs = downs })
      → R first (record (at (came ++ a ∷ [])) { downs = downs })
  pub sends : (some behind : List Act) → list ≡ some ++ behind
      → (more : List ℕ) × (sent_down unit (at (came_in some)) ≡ sent ++ (sent_in some ++ more))
  pub ups : (came rest : List Arrival) → came_in list ≡ came ++ rest → (at came).ups ≡ e.ups ++ bytes_in came
  pub port : (came : List Arrival) → (at came).port ≡ e.port
  pub ends : at (came_in list) ≡ last

-- no act

none_comes : (came rest : List Arrival) (a : Arrival) → [] ≡ came ++ a ∷ rest → ⊥
none_comes [] rest a is = cc
none_comes (x ∷ came) rest a is = cc

pub no_act : (plan : Plan) (unit : ℕ) (R : Ends → Ends → Type 0) (e : Ends) (sent more : List ℕ) → sent_down unit e ≡ sent ++ more
    → Side plan unit R e sent [] e
no_act plan unit R e sent more is = record {
  at = λ came. e;
  begins = λ first downs j. j;
  goes_on = λ first downs came rest a none j. absurd (none_comes came rest a none);
  sends = λ some behind none. (
    more,
    is ∙ ap (λ (l : List Act). sent ++ (sent_in l ++ more)) (sym (none_before some behind none)),
  );
  ups = λ came rest none. sym (ap (λ (l : List Arrival). e.ups ++ bytes_in l) (none_before came rest none) ∙ append-nil e.ups);
  port = λ came. refl;
  ends = refl;
}

-- The ends are led on, and nothing is done on the wire.
pub led_first : (plan : Plan) (unit : ℕ) (R : Ends → Ends → Type 0) (e e' : Ends) (sent : List ℕ) (list : List Act) (last : Ends)
    → ((first : Ends) (downs : List Turn) → R first (record e { downs = downs })
    → R first (record e' { downs = downs }))
    → e'.ups ≡ e.ups → e'.port ≡ e.port → Side plan unit R e' sent list last → Side plan unit R e sent list last
led_first plan unit R e e' sent list last on ups port s = record {
  at = s.at;
  begins = λ first downs j. s.begins first downs (on first downs j);
  goes_on = s.goes_on;
  sends = s.sends;
  ups = λ came rest is. s.ups came rest is ∙ ap (λ (l : List ℕ). l ++ bytes_in came) ups;
  port = λ came. s.port came ∙ port;
  ends = s.ends;
}

-- an act that brings nothing

abbrev pub head_of : List Act → Act
head_of [] = fails
head_of (x ∷ xs) = x

abbrev pub tail_of : List Act → List Act
tail_of [] = []
tail_of (x ∷ xs) = xs

module _ (plan : Plan) (unit : ℕ) (R : Ends → Ends → Type 0) (e : Ends) (sent now : List ℕ) (act : Act) (b : List ℕ) (list : List Act) (last : Ends)
    (came_so : (l : List Act) → came_in (act ∷ l) ≡ came_in l) (sent_so : (l : List Act) → sent_in (act ∷ l) ≡ b ++ sent_in l)
    (is : now ≡ sent ++ b) (s : Side plan unit R e now list last) where
  act_sends : (some behind : List Act) → act ∷ list ≡ some ++ behind
      → (more : List ℕ) × (sent_down unit (s.at (came_in some)) ≡ sent ++ (sent_in some ++ more))
  act_sends [] behind front =
      let m = s.sends [] list refl in
      (b ++ m.0, m.1 ∙ ap (λ (l : List ℕ). l ++ m.0) is ∙ append_assoc sent b m.0)
  act_sends (x ∷ some) behind front =
      let m = s.sends some behind (ap tail_of front) in
      subst (λ (y : Act). (more : List ℕ)
      × (sent_down unit (s.at (came_in (y ∷ some))) ≡ sent ++ (sent_in (y ∷ some) ++ more))) (ap head_of front) (
        m.0,
        ap (λ (l : List Arrival). sent_down unit (s.at l)) (came_so some) ∙ m.1
            ∙ ap (λ (l : List ℕ). l ++ (sent_in some ++ m.0)) is ∙ append_assoc sent b (sent_in some ++ m.0)
            ∙ ap (λ (l : List ℕ). sent ++ l) (sym (append_assoc b (sent_in some) m.0)
            ∙ ap (λ (l : List ℕ). l ++ m.0) (sym (sent_so some))),
      )

  act_first : Side plan unit R e sent (act ∷ list) last
  act_first = record {
    at = s.at;
    begins = s.begins;
    goes_on = λ first downs came rest a next j. s.goes_on first downs came rest a (sym (came_so list) ∙ next) j;
    sends = act_sends;
    ups = λ came rest next. s.ups came rest (sym (came_so list) ∙ next);
    port = s.port;
    ends = ap s.at (came_so list) ∙ s.ends;
  }

-- an act that brings something

abbrev then_at : Ends → (List Arrival → Ends) → List Arrival → Ends
then_at e at [] = e
then_at e at (a ∷ came) = at came

module _ (plan : Plan) (unit : ℕ) (R : Ends → Ends → Type 0) (e : Ends) (sent more : List ℕ) (what : Arrival) (list : List Act) (last : Ends)
    (is : sent_down unit e ≡ sent ++ more) (s : Side plan unit R (hears_in plan unit what e) sent list last) where
  brought_on : (first : Ends) (downs : List Turn) (came rest : List Arrival) (a : Arrival)
      → what ∷ came_in list ≡ came ++ a ∷ rest
      → R first (record (hears_in plan unit a (then_at e s.at came)) { downs = downs })
      → R first (record (then_at e s.at (came ++ a ∷ [])) { downs = downs })
  brought_on first downs [] rest a next j = s.begins first downs
      (subst (λ (x : Arrival). R first (record (hears_in plan unit x e) { downs = downs }))
      (sym (head_so what a (came_in list) rest next)) j)
  brought_on first downs (x ∷ came) rest a next j =
      s.goes_on first downs came rest a (tail_so what x (came_in list) (came ++ a ∷ rest) next) j

  brought_sends : (some behind : List Act) → brings what ∷ list ≡ some ++ behind
      → (left : List ℕ) × (sent_down unit (then_at e s.at (came_in some)) ≡ sent ++ (sent_in some ++ left))
  brought_sends [] behind front = (more, is)
  brought_sends (x ∷ some) behind front =
      subst (λ (y : Act). (left : List ℕ)
      × (sent_down unit (then_at e s.at (came_in (y ∷ some))) ≡ sent ++ (sent_in (y ∷ some) ++ left)))
      (ap head_of front) (s.sends some behind (ap tail_of front))

  brought_ups : (came rest : List Arrival) → what ∷ came_in list ≡ came ++ rest
      → (then_at e s.at came).ups ≡ e.ups ++ bytes_in came
  brought_ups [] rest next = sym (append-nil e.ups)
  brought_ups (a ∷ came) rest next =
      s.ups came rest (tail_so what a (came_in list) (came ++ rest) next) ∙ heard_ups plan unit what e came
      ∙ ap (λ (x : Arrival). e.ups ++ bytes_in (x ∷ came)) (head_so what a (came_in list) (came ++ rest) next)

  brought_port : (came : List Arrival) → (then_at e s.at came).port ≡ e.port
  brought_port [] = refl
  brought_port (a ∷ came) = s.port came ∙ heard_port plan unit what e

  brings_first : Side plan unit R e sent (brings what ∷ list) last
  brings_first = record {
    at = then_at e s.at;
    begins = λ first downs j. j;
    goes_on = brought_on;
    sends = brought_sends;
    ups = brought_ups;
    port = brought_port;
    ends = s.ends;
  }

-- acts in which the automation gives nothing: what goes out was given before
pub listening : (plan : Plan) (unit : ℕ) (R : Ends → Ends → Type 0) (front : List Act) (e : Ends) (sent unsent : List ℕ) (list : List Act) (last : Ends)
    → sent_down unit e ≡ sent ++ (sent_in front ++ unsent)
    → Side plan unit R (heard_up plan unit (came_in front) e) (sent ++ sent_in front) list last
    → Side plan unit R e sent (front ++ list) last
listening plan unit R [] e sent unsent list last is s =
    subst (λ (l : List ℕ). Side plan unit R e l list last) (append-nil sent) s
listening plan unit R (sends b ∷ front) e sent unsent list last is s =
    act_first plan unit R e sent (sent ++ b) (sends b) b (front ++ list) last (λ l. refl) (λ l. refl) refl
    (listening plan unit R front e (sent ++ b) unsent list last
    (is ∙ ap (λ (l : List ℕ). sent ++ l) (append_assoc b (sent_in front) unsent)
    ∙ sym (append_assoc sent b (sent_in front ++ unsent)))
    (subst (λ (l : List ℕ). Side plan unit R (heard_up plan unit (came_in front) e) l list last)
    (sym (append_assoc sent b (sent_in front))) s))
listening plan unit R (brings a ∷ front) e sent unsent list last is s =
    brings_first plan unit R e sent (sent_in front ++ unsent) a (front ++ list) last is
    (listening plan unit R front (hears_in plan unit a e) sent unsent list last (heard_down plan unit a e ∙ is) s)
listening plan unit R (drops ∷ front) e sent unsent list last is s =
    act_first plan unit R e sent sent drops [] (front ++ list) last (λ l. refl) (λ l. refl) (sym (append-nil sent))
    (listening plan unit R front e sent unsent list last is s)
listening plan unit R (fails ∷ front) e sent unsent list last is s =
    act_first plan unit R e sent sent fails [] (front ++ list) last (λ l. refl) (λ l. refl) (sym (append-nil sent))
    (listening plan unit R front e sent unsent list last is s)

-- these acts end it
pub last_side : (plan : Plan) (unit : ℕ) (R : Ends → Ends → Type 0) (e : Ends) (sent unsent : List ℕ) (list : List Act) → came_in list ≡ []
    → sent_down unit e ≡ sent ++ (sent_in list ++ unsent) → Side plan unit R e sent list e
last_side plan unit R e sent unsent list none is =
    subst (λ (l : List Act). Side plan unit R e sent l e) (append-nil list)
    (listening plan unit R list e sent unsent [] e is
    (subst (λ (l : List Arrival). Side plan unit R (heard_up plan unit l e) (sent ++ sent_in list) [] e) (sym none)
    (no_act plan unit R e (sent ++ sent_in list) unsent (is ∙ sym (append_assoc sent (sent_in list) unsent)))))

-- A run.

-- one round: what is given goes out, and something comes
one_round : (plan : Plan) (unit : ℕ) (R : Ends → Ends → Type 0) (o : Option Command) (e : Ends) (sent : List ℕ) (what : Arrival) (list : List Act)
    (last : Ends) → sent_down unit e ≡ sent ++ bytes_of unit (option_to_list o)
    → Side plan unit R (hears_in plan unit what e) (sent_down unit (hears_in plan unit what e)) list last
    → Side plan unit R e sent (first_acts unit o ++ brings what ∷ list) last
one_round plan unit R None e sent what list last is s =
    brings_first plan unit R e sent [] what list last is
    (subst (λ (l : List ℕ). Side plan unit R (hears_in plan unit what e) l list last)
    (heard_down plan unit what e ∙ is ∙ append-nil sent) s)
one_round plan unit R (Some c) e sent what list last is s =
    let b : List ℕ = command_bytes unit c in
    let all : sent_down unit e ≡ sent ++ b = is ∙ ap (λ (l : List ℕ). sent ++ l) (append-nil b) in
    act_first plan unit R e sent (sent ++ b) (sends b) b (brings what ∷ list) last (λ l. refl) (λ l. refl) refl
    (brings_first plan unit R e (sent ++ b) [] what list last (all ∙ sym (append-nil (sent ++ b)))
    (subst (λ (l : List ℕ). Side plan unit R (hears_in plan unit what e) l list last) (heard_down plan unit what e ∙ all) s))

-- what happens first, and then these acts
pub events_side : (plan : Plan) (unit : ℕ) (R : Ends → Ends → Type 0) (leads : Leads plan unit R) (out : List Act) (last : Ends)
    (events : List Event) (e : Ends) → AreMade at_once plan unit (driver_of e.automation) events
    → Side plan unit R (ends_by plan unit e events) (sent_down unit (ends_by plan unit e events)) out last
    → Side plan unit R e (sent_down unit e)
    (acts_in (steps_of at_once plan unit (driver_of e.automation) events) ++ out) last
events_side plan unit R leads out last [] e made s = s
events_side plan unit R leads out last (calls c ∷ later) e made s =
    led_first plan unit R e (with_call c e) (sent_down unit e) _ _
    (λ first downs j. leads.on (two.calls c made.0) tt j) refl refl
    (events_side plan unit R leads out last later (with_call c e) made.1 s)
events_side plan unit R leads out last (arrives what ∷ later) e made s =
    let now : Ends = with_command plan e in
    let then : Ends = hears_in plan unit what now in
    let a : Auto Held = driver_of e.automation in
    let x : Auto Held = auto.listens at_once plan unit what (auto.gives a) in
    let same : driver_of then.automation ≡ x =
    ap driver_of (heard_by plan unit what now) ∙ listens_so plan unit what (gives e.automation) in
    let acts_then : List Act = acts_in (steps_of at_once plan unit x later) in
    led_first plan unit R e now (sent_down unit e) _ last (λ first downs j. leads.on two.gave tt j) refl refl
    (subst (λ (l : List Act). Side plan unit R now (sent_down unit e) l last)
    (sym (ap (λ (l : List Act). l ++ out) (round_so plan unit what a (steps_of at_once plan unit x later))
    ∙ append_assoc (first_acts unit (given plan a.state)) (brings what ∷ acts_then) out))
    (one_round plan unit R (given plan e.automation.state) now (sent_down unit e) what (acts_then ++ out) last
    (sent_more unit e (option_to_list (given plan e.automation.state)))
    (subst (λ (y : Auto Held). Side plan unit R then (sent_down unit then)
    (acts_in (steps_of at_once plan unit y later) ++ out) last) same
    (events_side plan unit R leads out last later then
    (subst (λ (y : Auto Held). AreMade at_once plan unit y later) (sym same) made) s))))

-- the next command is given, of which a beginning goes out
pub given_side : (plan : Plan) (unit : ℕ) (R : Ends → Ends → Type 0) (leads : Leads plan unit R) (e : Ends) (out : List Act)
    (unsent : List ℕ) → came_in out ≡ []
    → bytes_of unit (option_to_list (given plan e.automation.state)) ≡ sent_in out ++ unsent
    → Side plan unit R e (sent_down unit e) out (with_command plan e)
given_side plan unit R leads e out unsent none part =
    led_first plan unit R e (with_command plan e) (sent_down unit e) out (with_command plan e)
    (λ first downs j. leads.on two.gave tt j) refl refl
    (last_side plan unit R (with_command plan e) (sent_down unit e) unsent out none
    (sent_more unit e (option_to_list (given plan e.automation.state)) ∙ ap (λ (l : List ℕ). sent_down unit e ++ l) part))

pub side_of : (plan : Plan) (unit count : ℕ) (R : Ends → Ends → Type 0) (leads : Leads plan unit R) (e : Ends) (answer : Result Ran BrokenOff) (a' : Auto Held)
    → (run : IsRun at_once plan unit count (driver_of e.automation) a' answer)
    → Side plan unit R e (sent_down unit e) (acts_in (steps_in run))
    (with_command plan (ends_by plan unit e run.events))
side_of plan unit count R leads e answer a' run =
    let now : Ends = ends_by plan unit e run.events in
    let more : List Act = acts_in run.more in
    let last = last_so plan unit count run.events (driver_of now.automation) a' answer run.more
    (subst (λ (x : Auto Held). Ending at_once plan unit count run.events x answer run.more a')
    (sym (ap driver_of (automation_so plan unit e run.events) ∙ led_so plan unit e.automation run.events)) run.ending) in
    subst (λ (l : List Act). Side plan unit R e (sent_down unit e) l (with_command plan now))
    (sym (acts_both (steps_of at_once plan unit (driver_of e.automation) run.events) run.more))
    (events_side plan unit R leads more (with_command plan now) run.events e run.made
    (given_side plan unit R leads now more (last.unsent ++ bytes_of unit last.others) last.none
    (ap (bytes_of unit) last.given_is
    ∙ flat_map-append (command_bytes unit) (commands_kept (kept_in run.more)) last.others
    ∙ ap (λ (l : List ℕ). l ++ bytes_of unit last.others) last.part
    ∙ append_assoc (sent_in more) last.unsent (bytes_of unit last.others))))
