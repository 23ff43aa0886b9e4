-- Rows that tell what a new controller does: the controller that they leave is reached, with the log that they show.
use Rattle.std.proofs.Common.{◌≡◌, ℕ, ◌+◌, ◌<◌, zero, suc, arith, length, get_or, add-one, take, Bool, true, false, Option, None, Some, List, [], ◌∷◌, ◌++◌, refl, sym, ap, subst, ◌∙◌, append_assoc, true≢false}
use Rattle.std.proofs.lemmas.List.{append-nil}
use Rattle.std.proofs.Math.Seq.{take-suc}
use Rattle.std.specs.Option.{option_map_or}
use Rattle.std.specs.Prelude.{if◌then◌else◌, is_some, slice_get}
use Rattle.vdcp_auto.specs.Course.{Receive, Reached, Stop, Take, Tick, called, logged}
use Rattle.vdcp_auto.specs.Plan.{Plan}
use Rattle.vdcp_auto.specs.State.{Stage}
use Rattle.vdcp_auto.specs.State.{Ready, Awaiting, Ended}
use Rattle.vdcp_auto.specs.State.{State}
use Rattle.vdcp_auto.specs.Turn.{awaited, awaited_in, came_to, ended_by, ended_in, exchange_of, given_in, is_end, stage_after, stopped, taken, tick_in, ticked, transition_of}
use Rattle.vdcp_auto.specs.declared.exchange.Exchange.{Exchange}
use Rattle.vdcp_auto.specs.declared.exchange.Heard.{Heard}
use Rattle.vdcp_auto.specs.declared.phase.Mode.{Mode}
use Rattle.vdcp_auto.specs.declared.phase.Mode.TheVariants.{Plain, Confirming}
use Rattle.vdcp_auto.specs.declared.phase.Transition.{Transition}
use Rattle.vdcp_auto.specs.declared.phase.Transition.TheVariants.{Goes}
use Rattle.vdcp_journal.specs.Resume.{AreTold, Tells, after_call_if, after_rows, call_of, ended_at, exchange_with, log_from, open_after, timed_out}
use Rattle.vdcp_journal.specs.declared.row.Note.{Note}
use Rattle.vdcp_journal.specs.declared.row.Note.TheVariants as note
use Rattle.vdcp_journal.specs.declared.row.Row.{Row}
use Rattle.vdcp_words.specs.declared.command.Command.{Command}

-- a command that was given is awaited
given_awaited : (plan : Plan) (stage : Stage) (s : State) (c : Command) → s.stage ≡ stage
    → given_in plan s.stop stage ≡ Some c
    → awaited plan (tick_in stage s) ≡ Some c
given_awaited plan (Ready p) s c is g = g
given_awaited plan (Awaiting p) s c is g = cc g
given_awaited plan (Ended outcome) s c is g = cc g

-- after the end of an exchange nothing is awaited
none_awaited : (plan : Plan) (t : Transition) → awaited_in plan (stage_after t) ≡ None
none_awaited plan (Goes p) = refl
none_awaited plan other = refl

ended_awaits : (plan : Plan) (stage : Stage) (s : State) (e : Exchange) (c : Command) → awaited_in plan stage ≡ Some c
    → awaited plan (ended_in plan stage e s) ≡ None
ended_awaits plan (Ready p) s e c is = cc is
ended_awaits plan (Awaiting p) s e c is = none_awaited plan (transition_of plan s p e)
ended_awaits plan (Ended outcome) s e c is = cc is

-- what came ended the exchange of what was awaited
record Ended_by (plan : Plan) (s : State) (came : Option Heard) (asked : Option Command) : Type 0 where
  pub exchange : Exchange
  pub ends : ended_by plan came s ≡ Some exchange
  pub logs : (log : List Exchange) → exchange_with came asked log ≡ exchange ∷ log
  pub next : awaited plan (came_to plan came s) ≡ None

ends_if : (b : Bool) (e : Exchange) → is_some (if b then Some e else None) ≡ true
    → (if b then Some e else None) ≡ Some e
ends_if true e is = refl
ends_if false e is = cc is

ended_with : (plan : Plan) (s : State) (came : Option Heard) (asked : Option Command) → awaited plan s ≡ asked
    → is_some (ended_by plan came s) ≡ true
    → Ended_by plan s came asked
ended_with plan s came None is ends =
    absurd (true≢false (sym ends ∙ ap (λ c. is_some (exchange_of plan.mode came c)) is))
ended_with plan s came (Some c) is ends =
    let e : Exchange = record { command = c; heard = came } in
    let same : ended_by plan came s ≡ (if is_end plan.mode c came then Some e else None) =
    ap (exchange_of plan.mode came) is in
    let ended : ended_by plan came s ≡ Some e =
    same ∙ ends_if (is_end plan.mode c came) e (sym (ap is_some same) ∙ ends) in
    record {
      exchange = e;
      ends = ended;
      logs = λ log. refl;
      next = ap (λ o. awaited plan (option_map_or (λ x. ended_in plan s.stage x s) o s)) ended
          ∙ ended_awaits plan s.stage s e c is;
    }

-- silence ends any exchange
silence_ends : (mode : Mode) (c : Command) → is_end mode c None ≡ true
silence_ends Plain c = refl
silence_ends Confirming c = refl

-- The log so far, with what the rows from there on show.

logs_on : (log : List Exchange) (o : Option Exchange) (e : Exchange) (more : List Exchange) → o ≡ Some e
    → logged log o ++ more ≡ log ++ (e ∷ more)
logs_on log o e more is = ap (λ x. logged log x ++ more) is ∙ append_assoc log (e ∷ []) more

-- a row, and then the rows after it, if those are reached from wherever the row leads
abbrev Reaches : Plan → List Row → Type 0
Reaches plan rows =
    (s : State) (log : List Exchange) (asked : Option Command) → Reached plan s log → awaited plan s ≡ asked
    → AreTold plan s rows
    → Reached plan (timed_out plan (after_rows plan s rows)) (log ++ log_from asked rows)

reaches_none : (plan : Plan) → Reaches plan []
reaches_none plan s log None r is told =
    subst (λ l. Reached plan (timed_out plan s) l)
    (ap (λ c. logged log (exchange_of plan.mode None c)) is ∙ sym (append-nil log)) (called r (Receive None))
reaches_none plan s log (Some c) r is told =
    let e : Exchange = record { command = c; heard = None } in
    let ends : ended_by plan None s ≡ Some e =
    ap (exchange_of plan.mode None) is ∙ ap (λ b. if b then Some e else None) (silence_ends plan.mode c) in
    subst (λ l. Reached plan (timed_out plan s) l) (ap (logged log) ends) (called r (Receive None))

reaches_came : (plan : Plan) (came : Option Heard) (rows : List Row) → Reaches plan rows
    → (s : State) (log : List Exchange) (asked : Option Command)
    → Reached plan s log → awaited plan s ≡ asked → is_some (ended_by plan came s) ≡ true
    → AreTold plan (came_to plan came s) rows
    → Reached plan (timed_out plan (after_rows plan (came_to plan came s) rows))
    (log ++ exchange_with came asked (log_from None rows))
reaches_came plan came rows more s log asked r is ends told =
    let h = ended_with plan s came asked is ends in
    subst (λ l. Reached plan (timed_out plan (after_rows plan (came_to plan came s) rows)) l)
    (logs_on log (ended_by plan came s) h.exchange (log_from None rows) h.ends
    ∙ ap (λ l. log ++ l) (sym (h.logs (log_from None rows))))
    (more (came_to plan came s) (logged log (ended_by plan came s)) None (called r (Receive came)) h.next told)

reaches_row : (plan : Plan) (n : Note) (rows : List Row) → Reaches plan rows
    → (s : State) (log : List Exchange) (asked : Option Command)
    → Reached plan s log → awaited plan s ≡ asked → Tells plan s n
    → AreTold plan (after_call_if plan (call_of n) s) rows
    → Reached plan (timed_out plan (after_rows plan (after_call_if plan (call_of n) s) rows))
    (log ++ ended_at asked n (log_from (open_after asked n) rows))
reaches_row plan (note.Sent c) rows more s log asked r is tells told =
    more (ticked s) log (Some c) (called r Tick) (given_awaited plan s.stage s c refl tells) told
reaches_row plan (note.Heard h) rows more s log asked r is tells told =
    reaches_came plan (Some h) rows more s log asked r is tells told
reaches_row plan note.Silence rows more s log asked r is tells told =
    reaches_came plan None rows more s log asked r is tells told
reaches_row plan note.Take rows more s log asked r is tells told = more (taken s) log asked (called r Take) is told
reaches_row plan note.Stop rows more s log asked r is tells told = more (stopped s) log asked (called r Stop) is told
reaches_row plan (note.List c) rows more s log asked r is tells told = more s log asked r is told
reaches_row plan (note.End outcome) rows more s log asked r is tells told = more s log asked r is told
reaches_row plan (note.From k) rows more s log asked r is tells told = absurd tells
reaches_row plan (note.Left k) rows more s log asked r is tells told = absurd tells

pub reaches : (plan : Plan) (rows : List Row) → Reaches plan rows
reaches plan [] = reaches_none plan
reaches plan (row ∷ rows) =
    λ s log asked r is told. reaches_row plan row.note rows (reaches plan rows) s log asked r is told.0 told.1

-- ---- rows one after another

pub after_more : (plan : Plan) (s : State) (rows : List Row) (row : Row)
    → after_rows plan s (rows ++ row ∷ []) ≡ after_call_if plan (call_of row.note) (after_rows plan s rows)
after_more plan s [] row = refl
after_more plan s (first ∷ rows) row = after_more plan (after_call_if plan (call_of first.note) s) rows row

pub told_more : (plan : Plan) (s : State) (rows : List Row) (row : Row) → AreTold plan s rows
    → Tells plan (after_rows plan s rows) row.note
    → AreTold plan s (rows ++ row ∷ [])
told_more plan s [] row told tells = (tells, tt)
told_more plan s (first ∷ rows) row told tells =
    (told.0, told_more plan (after_call_if plan (call_of first.note) s) rows row told.1 tells)

-- one row more of a front of the rows

front_more : (rows : List Row) (k : ℕ) (d : Row) → k < length rows
    → take (k + 1) rows ≡ take k rows ++ get_or rows k d ∷ []
front_more rows k d below = ap (λ n. take n rows) (add-one k) ∙ take-suc rows k d below

pub after_front : (plan : Plan) (s : State) (rows : List Row) (k : ℕ) (d : Row) → k < length rows
    → after_rows plan s (take (k + 1) rows) ≡ after_call_if plan (call_of (get_or rows k d).note)
    (after_rows plan s (take k rows))
after_front plan s rows k d below =
    ap (after_rows plan s) (front_more rows k d below) ∙ after_more plan s (take k rows) (get_or rows k d)

pub told_front : (plan : Plan) (s : State) (rows : List Row) (k : ℕ) (d : Row) → k < length rows
    → AreTold plan s (take k rows)
    → Tells plan (after_rows plan s (take k rows)) (get_or rows k d).note → AreTold plan s (take (k + 1) rows)
told_front plan s rows k d below told tells =
    subst (AreTold plan s) (sym (front_more rows k d below))
    (told_more plan s (take k rows) (get_or rows k d) told tells)

pub at_place : (rows : List Row) (k : ℕ) (d : Row) → k < length rows → slice_get rows k ≡ Some (get_or rows k d)
at_place [] k d below = absurd (omega (arith, below))
at_place (row ∷ rows) zero d below = refl
at_place (row ∷ rows) (suc k) d below = at_place rows k d (omega (arith, below))
