-- A run that is made anew, row by row.
use Rattle.std.proofs.Common.{◌≡◌, ◌⊎◌, inl, inr, ℕ, ◌+◌, ◌*◌, ◌≤◌, zero, suc, Bool, true, false, List, [], ◌∷◌, ◌++◌, Option, None, Some, length, take, refl, sym, ap, subst, ◌∙◌, arith, true≢false}
use Rattle.std.proofs.Math.Nat.{min-eq_left, min-eq_right, min-le_left, min-le_right, le-min, le_trans, mul-le-mul_left}
use Rattle.std.proofs.lemmas.Nat.{mul-le}
use Rattle.std.proofs.lemmas.List.Sums.{sum_by_push}
use Rattle.std.specs.Prelude.{if◌then◌else◌, is_some, min, nat_le, slice_get}
use Rattle.vdcp_auto.specs.Course.{Call}
use Rattle.vdcp_auto.specs.Plan.{Plan, View, plan_of}
use Rattle.vdcp_auto.specs.Snapshots.{CanStand, state_in}
use Rattle.vdcp_auto.specs.declared.phase.Mode.{Mode}
use Rattle.vdcp_auto.specs.declared.snapshot.Snapshot.{Snapshot}
use Rattle.vdcp_auto.specs.State.{State, Ended}
use Rattle.vdcp_auto.specs.Turn.{ended_by, outcome_of, start}
use Rattle.vdcp_auto.specs.declared.exchange.Heard.{Heard}
use Rattle.vdcp_auto.specs.declared.outcome.Outcome.{Outcome}
use Rattle.vdcp_auto.specs.declared.outcome.Outcome.TheVariants.{Lost}
use Rattle.vdcp_journal.proofs.Raised.{EndedOr, called, raised, told_raised}
use Rattle.vdcp_journal.proofs.Told.{after_more, told_more}
use Rattle.vdcp_journal.specs.RunsSoFar.{IsMadeBy, IsCalled, IsRaised, Remembers, RunView, again_of, again_under, call_if, limit_now}
use Rattle.vdcp_journal.specs.Resume.{AllStand, AreTold, Stands, Tells, after_call_if, after_rows, call_of, is_loss, limit_after, losses, plan_after}
use Rattle.vdcp_journal.specs.declared.row.Note.{Note}
use Rattle.vdcp_journal.specs.declared.row.Note.TheVariants as note
use Rattle.vdcp_journal.specs.declared.row.Row.{Row}
use Rattle.vdcp_value.specs.declared.part.Item.{Item}

-- ---- one row more

-- the row at a place of these rows and one more: it stands among them, or is that one
abbrev AtOrLast : List Row → Row → Row → ℕ → Type 0
AtOrLast rows last row k = ((slice_get rows k ≡ Some row) × (take k (rows ++ last ∷ []) ≡ take k rows))
    ⊎ ((row ≡ last) × (take k (rows ++ last ∷ []) ≡ rows))

pushed_on : (first : Row) (rows : List Row) (k : ℕ) (last row : Row) → AtOrLast rows last row k
    → AtOrLast (first ∷ rows) last row (suc k)
pushed_on first rows k last row (inl (at, front)) = inl (at, ap (λ (rs : List Row). first ∷ rs) front)
pushed_on first rows k last row (inr (is, front)) = inr (is, ap (λ (rs : List Row). first ∷ rs) front)

pushed : (rows : List Row) (last row : Row) (k : ℕ) → slice_get (rows ++ last ∷ []) k ≡ Some row
    → AtOrLast rows last row k
pushed [] last row zero at = inr (cc at, refl)
pushed [] last row (suc k) at = cc at
pushed (first ∷ rows) last row zero at = inl (at, refl)
pushed (first ∷ rows) last row (suc k) at = pushed_on first rows k last row (pushed rows last row k at)

stands_so : (plan : Plan) (rows : List Row) (last row : Row) (k : ℕ) → AllStand plan rows → Stands plan rows last.note
    → AtOrLast rows last row k → Stands plan (take k (rows ++ last ∷ [])) row.note
stands_so plan rows last row k all one (inl (at, front)) =
    subst (λ (rs : List Row). Stands plan rs row.note) (sym front) (all k row at)
stands_so plan rows last row k all one (inr (is, front)) =
    subst (λ (rs : List Row). Stands plan rs row.note) (sym front)
    (subst (λ (r : Row). Stands plan rows r.note) (sym is) one)

all_stand : (plan : Plan) (rows : List Row) (last : Row) → AllStand plan rows → Stands plan rows last.note
    → AllStand plan (rows ++ last ∷ [])
all_stand plan rows last all one = λ k row at.
    stands_so plan rows last row k all one (pushed rows last row k at)

-- how often a run was lost

losses_more : (rows : List Row) (row : Row) → losses (rows ++ row ∷ []) ≡ losses rows + (if is_loss row.note then 1 else 0)
losses_more rows row = sum_by_push (λ (r : Row). if is_loss r.note then 1 else 0) rows row

no_loss_more : (rows : List Row) (row : Row) → is_loss row.note ≡ false → losses (rows ++ row ∷ []) ≡ losses rows
no_loss_more rows row is =
    losses_more rows row ∙ ap (λ (b : Bool). losses rows + (if b then 1 else 0)) is ∙ omega arith

one_loss_more : (rows : List Row) (row : Row) → is_loss row.note ≡ true → losses (rows ++ row ∷ []) ≡ losses rows + 1
one_loss_more rows row is = losses_more rows row ∙ ap (λ (b : Bool). losses rows + (if b then 1 else 0)) is

-- only a note that says so is a loss
is_lost : (n : Note) → is_loss n ≡ true → n ≡ note.End Lost
is_lost (note.End Lost) is = refl
is_lost other is = cc is

-- a run that was lost so often has the same limits as one that was lost 1,000 times at the most

all_of : (limit lost : ℕ) → 1 ≤ limit → 1000 ≤ lost → limit_after limit lost ≡ 1000
all_of limit lost some many =
    let enough : 1 * 1000 ≤ limit * (lost + 1) = mul-le 1 1000 limit (lost + 1) some (omega (arith, many)) in
    min-eq_left (omega (arith, enough))

next_by : (limit lost : ℕ) → 1 ≤ limit → (lost ≤ 1000) ⊎ (1000 ≤ lost)
    → (limit_after limit (min 1000 lost + 1) ≡ limit_after limit (lost + 1)) × (min 1000 (min 1000 lost + 1) ≡ min 1000 (lost + 1))
next_by limit lost some (inl few) =
    let same : min 1000 lost ≡ lost = min-eq_right few in
    (ap (λ (n : ℕ). limit_after limit (n + 1)) same, ap (λ (n : ℕ). min 1000 (n + 1)) same)
next_by limit lost some (inr many) =
    let full : min 1000 lost ≡ 1000 = min-eq_left many in
    let next : 1000 ≤ min 1000 lost + 1 = omega (arith, full) in
    let later : 1000 ≤ lost + 1 = omega (arith, many) in
    (all_of limit (min 1000 lost + 1) some next ∙ sym (all_of limit (lost + 1) some later), min-eq_left next ∙ sym (min-eq_left later))

split_by : (lost : ℕ) (b : Bool) → nat_le lost 1000 ≡ b → (lost ≤ 1000) ⊎ (1000 ≤ lost)
split_by lost true is = inl (grind arith)
split_by lost false is = inr (grind arith)

split : (lost : ℕ) → (lost ≤ 1000) ⊎ (1000 ≤ lost)
split lost = split_by lost (nat_le lost 1000) refl

pub grows : (limit lost : ℕ) → limit_after limit lost ≤ limit_after limit (lost + 1)
grows limit lost =
    le-min (min-le_left 1000 (limit * (lost + 1)))
    (le_trans (min-le_right 1000 (limit * (lost + 1))) (mul-le-mul_left limit (omega arith)))

-- ---- a call

-- a controller of which a row tells a call goes on

awaits_none : (plan : Plan) (came : Option Heard) (s : State) (outcome : Outcome) → s.stage ≡ Ended outcome
    → is_some (ended_by plan came s) ≡ true → ⊥
awaits_none plan came s outcome is ends = cc

tells_going_by : (plan : Plan) (n : Note) (call : Call) (s : State) (outcome : Outcome) → call_of n ≡ Some call
    → Tells plan s n → s.stage ≡ Ended outcome → ⊥
tells_going_by plan (note.From k) call s outcome is tells ended = tells
tells_going_by plan (note.Left k) call s outcome is tells ended = tells
tells_going_by plan other call s outcome is tells ended = cc

same_of : (s t : State) → ((outcome : Outcome) → s.stage ≡ Ended outcome → ⊥) → EndedOr s t → t ≡ s
same_of s t goes (inl (outcome, is)) = absurd (goes outcome is)
same_of s t goes (inr is) = is

-- as long as it goes on a controller stands where one of a greater limit does
there : {S : Type 0} (items : S → List Item) (plan : Plan) (source : S) (rows : List Row) (run : RunView S)
    → IsMadeBy items plan source rows run → ((outcome : Outcome) → run.controller.state.stage ≡ Ended outcome → ⊥)
    → (limit : ℕ) → limit_now plan rows ≤ limit → after_rows (raised limit plan) start rows ≡ run.controller.state
there {S} items plan source rows run f goes limit few =
    let now : ℕ = limit_now plan rows in
    let is : again_under plan now run ≡ run.controller.state = sym (f.again now (omega arith)) ∙ sym f.state_is in
    f.again limit few
    ∙ same_of (again_under plan now run) (again_under plan limit run)
    (λ outcome ended. goes outcome (ap (λ (s : State). s.stage) (sym is) ∙ ended))
    (called (raised now plan) limit (call_if run.last) (state_in run.before) few)
    ∙ is

-- what is remembered is what the rows make under each greater limit
again_by : {S : Type 0} (items : S → List Item) (plan : Plan) (source : S) (rows : List Row) (row : Row) (old new : RunView S)
    → IsMadeBy items plan source rows old → (call : Option Call) → call_of row.note ≡ call
    → Tells (plan_of items old.controller) old.controller.state row.note → Remembers items call row.note old new
    → (limit : ℕ) → limit_now plan rows ≤ limit
    → after_call_if (raised limit plan) (call_of row.note) (after_rows (raised limit plan) start rows)
    ≡ again_under plan limit new
again_by {S} items plan source rows row old new f None is tells (before, last) limit few =
    ap (λ (c : Option Call). after_call_if (raised limit plan) c (after_rows (raised limit plan) start rows)) is
    ∙ f.again limit few
    ∙ sym (ap (λ (s : Snapshot). after_call_if (raised limit plan) (call_if old.last) (state_in s)) before)
    ∙ sym (ap (λ (n : Option Note). after_call_if (raised limit plan) (call_if n) (state_in new.before)) last)
again_by {S} items plan source rows row old new f (Some call) is tells (last, stood, can) limit few =
    ap (after_call_if (raised limit plan) (call_of row.note))
    (there items plan source rows old f
    (λ outcome ended. tells_going_by (plan_of items old.controller) row.note call old.controller.state outcome is tells ended)
    limit few
    ∙ ap (λ (v : View S). v.state) stood)
    ∙ sym (ap (λ (n : Option Note). after_call_if (raised limit plan) (call_if n) (state_in new.before)) last)

-- the controller that is remembered could stand there
record Stood {S : Type 0} (plan : Plan) (rows : List Row) (run : RunView S) : Type 0 where
  pub can_stand : CanStand (length plan.list) run.before
  pub mode_is : run.before.mode ≡ plan.mode
  pub port_is : run.before.port ≡ plan.port
  pub less : run.before.limit ≤ limit_now plan rows

stood_by : {S : Type 0} (items : S → List Item) (plan : Plan) (source : S) (rows : List Row) (n : Note) (old new : RunView S)
    → IsMadeBy items plan source rows old → (call : Option Call) → Remembers items call n old new → Stood plan rows new
stood_by {S} items plan source rows n old new f None (before, last) = record {
  can_stand = subst (CanStand (length plan.list)) (sym before) f.can_stand;
  mode_is = ap (λ (s : Snapshot). s.mode) before ∙ f.mode_is;
  port_is = ap (λ (s : Snapshot). s.port) before ∙ f.port_is;
  less = subst (λ (s : Snapshot). s.limit ≤ limit_now plan rows) (sym before) f.less;
}
stood_by {S} items plan source rows n old new f (Some call) (last, stood, can) = record {
  can_stand = subst (λ (p : Plan). CanStand (length p.list) new.before) f.plan_is can;
  mode_is = ap (λ (v : View S). v.mode) (sym stood) ∙ ap (λ (p : Plan). p.mode) f.plan_is;
  port_is = ap (λ (v : View S). v.port) (sym stood) ∙ ap (λ (p : Plan). p.port) f.plan_is;
  less = omega (arith, ap (λ (v : View S). v.limit) stood, ap (λ (p : Plan). p.limit) f.plan_is);
}

pub calls : {S : Type 0} (items : S → List Item) (plan : Plan) (source : S) (rows : List Row) (row : Row) (old new : RunView S)
    → IsMadeBy items plan source rows old → is_loss row.note ≡ false
    → Tells (plan_of items old.controller) old.controller.state row.note → IsCalled items row.note old new
    → IsMadeBy items plan source (rows ++ row ∷ []) new
calls {S} items plan source rows row old new f other tells c =
    let more : List Row = rows ++ row ∷ [] in
    let same : losses more ≡ losses rows = no_loss_more rows row other in
    let limit : limit_now plan more ≡ limit_now plan rows = ap (limit_after plan.limit) same in
    let plan_same : plan_after plan more ≡ plan_after plan rows = ap (λ (n : ℕ). raised n plan) limit in
    let told : Tells (plan_after plan rows) (after_rows (plan_after plan rows) start rows) row.note =
    subst (λ (s : State). Tells (plan_after plan rows) s row.note) f.state_is
    (subst (λ (p : Plan). Tells p old.controller.state row.note) f.plan_is tells) in
    let stood = stood_by items plan source rows row.note old new f (call_of row.note) c.remembers in
    record {
      some = f.some;
      few = f.few;
      stand = all_stand plan rows row f.stand (told, λ loss. absurd (true≢false (sym loss ∙ other)));
      told = subst (λ (p : Plan). AreTold p start more) (sym plan_same)
          (told_more (plan_after plan rows) start rows row f.told told);
      source_is = ap (λ (v : View S). v.source) c.controller ∙ f.source_is;
      plan_is = ap (plan_of items) c.controller ∙ f.plan_is ∙ sym plan_same;
      state_is = ap (λ (v : View S). v.state) c.controller
          ∙ ap (λ (p : Plan). after_call_if p (call_of row.note) old.controller.state) f.plan_is
          ∙ ap (after_call_if (plan_after plan rows) (call_of row.note)) f.state_is
          ∙ sym (after_more (plan_after plan rows) start rows row)
          ∙ sym (ap (λ (p : Plan). after_rows p start more) plan_same);
      can_stand = stood.can_stand;
      mode_is = stood.mode_is;
      port_is = stood.port_is;
      begun_with = c.begun_with ∙ f.begun_with;
      lost_is = c.lost_is ∙ f.lost_is ∙ sym (ap (min 1000) same);
      less = omega (arith, stood.less, limit);
      again = λ n few. after_more (raised n plan) start rows row
          ∙ again_by items plan source rows row old new f (call_of row.note) refl tells c.remembers n (omega (arith, few, limit));
    }

-- ---- a loss

abbrev plan_with : Mode → List Item → ℕ → ℕ → Plan
plan_with mode list port limit = record { mode = mode; list = list; port = port; limit = limit }

plan_eq : {m m' : Mode} {l l' : List Item} {p p' n n' : ℕ} → m ≡ m' → l ≡ l' → p ≡ p' → n ≡ n'
    → plan_with m l p n ≡ plan_with m' l' p' n'
plan_eq a b c d = cc

pub raises : {S : Type 0} (items : S → List Item) (plan : Plan) (source : S) (rows : List Row) (row : Row)
    (old new : RunView S) → IsMadeBy items plan source rows old → is_loss row.note ≡ true
    → outcome_of old.controller.state.stage ≡ Some Lost → IsRaised items old new
    → IsMadeBy items plan source (rows ++ row ∷ []) new
raises {S} items plan source rows row old new f says lost r =
    let more : List Row = rows ++ row ∷ [] in
    let note : row.note ≡ note.End Lost = is_lost row.note says in
    let count : losses more ≡ losses rows + 1 = one_loss_more rows row says in
    let limit : limit_now plan more ≡ limit_after plan.limit (losses rows + 1) = ap (limit_after plan.limit) count in
    let next = next_by plan.limit (losses rows) f.some (split (losses rows)) in
    let limit_is : limit_after old.limit (old.lost + 1) ≡ limit_now plan more =
    ap (λ (n : ℕ). limit_after n (old.lost + 1)) f.begun_with
    ∙ ap (λ (n : ℕ). limit_after plan.limit (n + 1)) f.lost_is ∙ next.0 ∙ sym limit in
    let above : limit_now plan rows ≤ limit_now plan more = omega (arith, grows plan.limit (losses rows), limit) in
    let was : outcome_of (after_rows (plan_after plan rows) start rows).stage ≡ Some Lost =
    sym (ap (λ (s : State). outcome_of s.stage) f.state_is) ∙ lost in
    let told : AreTold (plan_after plan more) start rows =
    told_raised (plan_after plan rows) (limit_now plan more) rows start above f.told (inr was) in
    let tells : (p : Plan) (s : State) → Tells p s row.note = λ p s. subst (Tells p s) (sym note) tt in
    let stays : (p : Plan) → after_rows p start more ≡ after_rows p start rows = λ p.
    after_more p start rows row ∙ ap (λ (n : Note). after_call_if p (call_of n) (after_rows p start rows)) note in
    let plan_old : plan_of items old.controller ≡ plan_after plan rows = f.plan_is in
    let view : new.controller ≡ again_of items old.controller.source old.before old.last (limit_after old.limit (old.lost + 1)) =
    ap (λ (v : RunView S). v.controller) r in
    let plan_new : plan_of items new.controller ≡ plan_after plan more =
    ap (plan_of items) view
    ∙ plan_eq f.mode_is (ap (λ (p : Plan). p.list) plan_old) f.port_is limit_is in
    record {
      some = f.some;
      few = f.few;
      stand = all_stand plan rows row f.stand (tells (plan_after plan rows) (after_rows (plan_after plan rows) start rows), λ loss. was);
      told = told_more (plan_after plan more) start rows row told (tells (plan_after plan more) (after_rows (plan_after plan more) start rows));
      source_is = ap (λ (v : View S). v.source) view ∙ f.source_is;
      plan_is = plan_new;
      state_is = ap (λ (v : View S). v.state) view
          ∙ ap (λ (p : Plan). after_call_if p (call_if old.last) (state_in old.before))
          (sym (ap (plan_of items) view) ∙ plan_new)
          ∙ sym (f.again (limit_now plan more) above)
          ∙ sym (stays (plan_after plan more));
      can_stand = subst (λ (v : RunView S). CanStand (length plan.list) v.before) (sym r) f.can_stand;
      mode_is = ap (λ (v : RunView S). v.before.mode) r ∙ f.mode_is;
      port_is = ap (λ (v : RunView S). v.before.port) r ∙ f.port_is;
      begun_with = ap (λ (v : RunView S). v.limit) r ∙ f.begun_with;
      lost_is = ap (λ (v : RunView S). v.lost) r ∙ ap (λ (n : ℕ). min 1000 (n + 1)) f.lost_is ∙ next.1 ∙ sym (ap (min 1000) count);
      less = omega (arith, ap (λ (v : RunView S). v.before.limit) r, f.less, above);
      again = λ n few. stays (raised n plan) ∙ f.again n (omega (arith, above, few))
          ∙ sym (ap (λ (v : RunView S). after_call_if (raised n plan) (call_if v.last) (state_in v.before)) r);
    }

-- ---- what a run needs to go on

pub raises_more : (limit lost : ℕ) → 1 ≤ limit → lost ≤ 1000
    → limit_after limit (lost + 1) ≤ limit_after limit (min 1000 (lost + 1) + 1)
raises_more limit lost some few =
    let next = next_by limit (lost + 1) some (split (lost + 1)) in omega (arith, next.0, grows limit (lost + 1))
