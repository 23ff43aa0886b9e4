-- Courses: what a course leaves is reached, with the course as its log; and courses one after another.
use Rattle.std.proofs.Common.{◌≡◌, Bool, true, false, Option, None, Some, List, [], ◌∷◌, ◌++◌, refl, sym, ap, subst, ◌∙◌, append_assoc}
use Rattle.std.specs.Prelude.{if◌then◌else◌, is_some}
use Rattle.std.specs.Option.{option_map_or, option_to_list}
use Rattle.std.proofs.lemmas.List.{append-nil}
use Rattle.vdcp_words.specs.declared.command.Command.{Command}
use Rattle.vdcp_auto.specs.declared.exchange.Exchange.{Exchange}
use Rattle.vdcp_auto.specs.declared.exchange.Heard.{Heard}
use Rattle.vdcp_auto.specs.declared.exchange.Input.{Input}
use Rattle.vdcp_auto.specs.declared.exchange.Input.TheVariants as input
use Rattle.vdcp_auto.specs.State.{Stage}
use Rattle.vdcp_auto.specs.State.{Ready, Awaiting, Ended}
use Rattle.vdcp_auto.specs.State.{State}
use Rattle.vdcp_auto.specs.Course.{course_from, after_input, ended_by_input, after_inputs_from, Tick, Receive, Take, Stop, logged, Reached, called}
use Rattle.vdcp_auto.specs.Plan.{Plan}
use Rattle.vdcp_auto.specs.Turn.{is_ready, tick_in, ticked, awaited_in, awaited, ended_in, exchange_of, ended_by, came_to, taken, stopped}

if_so : {A : Type 0} (b : Bool) (xs ys : List A) → b ≡ true → (if b then xs else ys) ≡ xs
if_so true xs ys is = refl
if_so false xs ys is = cc

if_not : {A : Type 0} (b : Bool) (xs ys : List A) → b ≡ false → (if b then xs else ys) ≡ ys
if_not true xs ys is = cc
if_not false xs ys is = refl

-- Nothing is awaited, and never will be.

abbrev IsOver : Plan → Stage → Type 0
IsOver plan stage = (is_ready stage ≡ false) × (awaited_in plan stage ≡ None)

tick_same : (stage : Stage) (s : State) → is_ready stage ≡ false → tick_in stage s ≡ s
tick_same (Ready p) s is = cc
tick_same (Awaiting p) s is = refl
tick_same (Ended outcome) s is = refl

tick_unready : (stage : Stage) (s : State) → s.stage ≡ stage → is_ready (tick_in stage s).stage ≡ false
tick_unready (Ready p) s is = refl
tick_unready (Awaiting p) s is = ap is_ready is
tick_unready (Ended outcome) s is = ap is_ready is

came_same : (plan : Plan) (came : Option Heard) (s : State) → awaited plan s ≡ None → came_to plan came s ≡ s
came_same plan came s is = ap (λ c. option_map_or (λ e. ended_in plan s.stage e s) (exchange_of plan.mode came c) s) is

over_came : (plan : Plan) (came : Option Heard) (s : State) → IsOver plan s.stage → came_to plan came (ticked s) ≡ s
over_came plan came s over = ap (came_to plan came) (tick_same s.stage s over.0) ∙ came_same plan came s over.1

over_awaits : (plan : Plan) (s : State) → IsOver plan s.stage → is_some (awaited plan (ticked s)) ≡ false
over_awaits plan s over = ap is_some (ap (awaited plan) (tick_same s.stage s over.0) ∙ over.1)

over_course : (plan : Plan) (inputs : List Input) (s : State) → IsOver plan s.stage → course_from plan s inputs ≡ []
over_course plan [] s over = refl
over_course plan (input.Take ∷ inputs) s over = over_course plan inputs (taken s) over
over_course plan (input.Stop ∷ inputs) s over = over_course plan inputs (stopped s) over
over_course plan (input.Heard h ∷ inputs) s over = if_not (is_some (awaited plan (ticked s))) _ []
    (over_awaits plan s over)
over_course plan (input.Silence ∷ inputs) s over = if_not (is_some (awaited plan (ticked s))) _ []
    (over_awaits plan s over)

-- If something comes, or silence.

abbrev rest : Plan → Option Heard → List Input → State → List Exchange
rest plan came inputs s = option_to_list (ended_by plan came s) ++ course_from plan (came_to plan came s) inputs

rest_if : (plan : Plan) (came : Option Heard) (inputs : List Input) (s : State) → is_ready s.stage ≡ false
    → (c : Option Command) → awaited plan s ≡ c
    → (if is_some (awaited plan s) then rest plan came inputs s else []) ≡ rest plan came inputs s
rest_if plan came inputs s unready (Some c) is = if_so (is_some (awaited plan s)) (rest plan came inputs s) []
    (ap is_some is)
rest_if plan came inputs s unready None is =
    if_not (is_some (awaited plan s)) (rest plan came inputs s) [] (ap is_some is)
    ∙ sym (ap (λ c. option_to_list (exchange_of plan.mode came c) ++ course_from plan (came_to plan came s) inputs) is
    ∙ ap (λ t. course_from plan t inputs) (came_same plan came s is) ∙ over_course plan inputs s (unready, is))

course_came : (plan : Plan) (came : Option Heard) (inputs : List Input) (s : State)
    → (if is_some (awaited plan (ticked s)) then rest plan came inputs (ticked s) else [])
    ≡ rest plan came inputs (ticked s)
course_came plan came inputs s = rest_if plan came inputs (ticked s) (tick_unready s.stage s refl)
    (awaited plan (ticked s)) refl

course_input : (plan : Plan) (x : Input) (inputs : List Input) (s : State)
    → course_from plan s (x ∷ inputs) ≡ option_to_list (ended_by_input plan s x)
    ++ course_from plan (after_input plan s x) inputs
course_input plan input.Take inputs s = refl
course_input plan input.Stop inputs s = refl
course_input plan (input.Heard h) inputs s = course_came plan (Some h) inputs s
course_input plan input.Silence inputs s = course_came plan None inputs s

-- Courses one after another.

pub after_joined : (plan : Plan) (xs ys : List Input) (s : State)
    → after_inputs_from plan s (xs ++ ys) ≡ after_inputs_from plan (after_inputs_from plan s xs) ys
after_joined plan [] ys s = refl
after_joined plan (x ∷ xs) ys s = after_joined plan xs ys (after_input plan s x)

pub course_joined : (plan : Plan) (xs ys : List Input) (s : State)
    → course_from plan s (xs ++ ys) ≡ course_from plan s xs ++ course_from plan (after_inputs_from plan s xs) ys
course_joined plan [] ys s = refl
course_joined plan (x ∷ xs) ys s =
    let first = option_to_list (ended_by_input plan s x) in
    let next = after_input plan s x in
    course_input plan x (xs ++ ys) s ∙ ap (λ more. first ++ more) (course_joined plan xs ys next)
    ∙ sym (append_assoc first (course_from plan next xs) (course_from plan (after_inputs_from plan next xs) ys))
    ∙ ap (λ front. front ++ course_from plan (after_inputs_from plan next xs) ys) (sym (course_input plan x xs s))

-- the course's first exchange, if there is one, joins the log
logged_first : (log : List Exchange) (o : Option Exchange) (more : List Exchange)
    → logged log o ++ more ≡ log ++ (option_to_list o ++ more)
logged_first log None more = refl
logged_first log (Some e) more = append_assoc log (e ∷ []) more

pub course_more : (plan : Plan) (s : State) (xs : List Input) (x : Input)
    → course_from plan s (xs ++ x ∷ []) ≡ logged (course_from plan s xs)
    (ended_by_input plan (after_inputs_from plan s xs) x)
course_more plan s xs x =
    let before = course_from plan s xs in
    let left = after_inputs_from plan s xs in
    course_joined plan xs (x ∷ []) s ∙ ap (λ more. before ++ more) (course_input plan x [] left)
    ∙ sym (logged_first before (ended_by_input plan left x) [])
    ∙ append-nil (logged before (ended_by_input plan left x))

-- What a course leaves is reached.

reached_input : (plan : Plan) (s : State) (log : List Exchange) (x : Input) → Reached plan s log
    → Reached plan (after_input plan s x) (logged log (ended_by_input plan s x))
reached_input plan s log input.Take r = called r Take
reached_input plan s log input.Stop r = called r Stop
reached_input plan s log (input.Heard h) r = called (called r Tick) (Receive (Some h))
reached_input plan s log input.Silence r = called (called r Tick) (Receive None)

pub reached_after : (plan : Plan) (inputs : List Input) (s : State) (log : List Exchange) → Reached plan s log
    → Reached plan (after_inputs_from plan s inputs) (log ++ course_from plan s inputs)
reached_after plan [] s log r = subst (Reached plan s) (sym (append-nil log)) r
reached_after plan (x ∷ inputs) s log r =
    let next = after_input plan s x in
    subst (Reached plan (after_inputs_from plan next inputs))
    (logged_first log (ended_by_input plan s x) (course_from plan next inputs)
    ∙ ap (λ more. log ++ more) (sym (course_input plan x inputs s)))
    (reached_after plan inputs next (logged log (ended_by_input plan s x)) (reached_input plan s log x r))
