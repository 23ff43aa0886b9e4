-- The log that a journal shows is the automation's, if the command that stands last was timed out.
use Rattle.std.proofs.Common.{ℕ, ◌≡◌, Bool, List, [], ◌∷◌, ◌++◌, map, refl, sym, ap, ap₂, subst, ◌∙◌, append_assoc, append-nil, arith}
use Rattle.std.proofs.lemmas.Grind.{common_steps}
use Rattle.std.specs.Option.{option_map_or}
use Rattle.std.specs.Prelude.{Option, None, Some, if◌then◌else◌}
use Rattle.vdcp_frame.specs.Message.{Content}
use Rattle.vdcp_words.specs.declared.command.Command.{Command}
use Rattle.vdcp_port.specs.Clock.{ClockedPort}
use Rattle.vdcp_auto.specs.Course.{logged}
use Rattle.vdcp_auto.specs.Heard.{heard_as}
use Rattle.vdcp_auto.specs.Plan.{Plan}
use Rattle.vdcp_auto.specs.State.{State}
use Rattle.vdcp_auto.specs.Turn.{awaited, came_to, ended_by, ended_in, exchange_of, given, ticked}
use Rattle.vdcp_auto.specs.declared.exchange.Exchange.{Exchange}
use Rattle.vdcp_auto.specs.declared.exchange.Heard.{Heard}
use Rattle.vdcp_journal.specs.Resume.{ended_at, exchange_with, log_from, log_of, open_after}
use Rattle.vdcp_journal.specs.declared.row.Note.{Note}
use Rattle.vdcp_journal.specs.declared.row.Row.{Row}
use Rattle.vdcp_drive.specs.Auto as auto
use Rattle.vdcp_drive.specs.Steps.{end_of, given_notes}
use Rattle.vdcp_drive.specs.declared.hooks.Call.{Call}
use Rattle.vdcp_drive.specs.declared.hooks.Call.TheVariants as call
use Rattle.vdcp_drive.specs.declared.hooks.Kept.TheVariants as kept
use Rattle.vdcp_journal_file.specs.Recorded.{note_for}
use Rattle.vdcp_laws.specs.Automation.{end_notes}
use Rattle.vdcp_laws.specs.Automation.{Prompt, hears, hears_all}
use Rattle.vdcp_drive.specs.Reading.{completed}
use Rattle.vdcp_laws.specs.TwoEnds.{AreJoined, begun, went_on, gave, asks, came_up, came_down, waited, passed, paused, shut, calls, resumed, restarted}
use Rattle.vdcp_laws.specs.TwoEnds.{Ends, GoesOn, as_announced, as_noted, log_now, notes_ended, notes_given, notes_heard, with_call, with_command, with_heard}
use Rattle.vdcp_laws.proofs.Commands.{awaits_none_in, ends_alone, exchange_is, hears_comes}

-- the command that is open after notes, and the exchanges that they end
abbrev pub open_through : Option Command → List Note → Option Command
open_through asked [] = asked
open_through asked (n ∷ notes) = open_through (open_after asked n) notes

abbrev pub closed_from : Option Command → List Note → List Exchange
closed_from asked [] = []
closed_from asked (n ∷ notes) = ended_at asked n (closed_from (open_after asked n) notes)

with_last : (h : Option Heard) (asked : Option Command) (xs ys : List Exchange)
    → exchange_with h asked (xs ++ ys) ≡ exchange_with h asked xs ++ ys
with_last h None xs ys = refl
with_last h (Some c) xs ys = refl

ended_more : (asked : Option Command) (n : Note) (xs ys : List Exchange)
    → ended_at asked n (xs ++ ys) ≡ ended_at asked n xs ++ ys
ended_more asked n xs ys = grind (arith, with_last)

pub closed_more : (asked : Option Command) (notes more : List Note)
    → closed_from asked (notes ++ more) ≡ closed_from asked notes ++ closed_from (open_through asked notes) more
closed_more asked [] more = refl
closed_more asked (n ∷ notes) more =
    ap (ended_at asked n) (closed_more (open_after asked n) notes more)
    ∙ ended_more asked n (closed_from (open_after asked n) notes)
    (closed_from (open_through (open_after asked n) notes) more)

pub open_more : (asked : Option Command) (notes more : List Note)
    → open_through asked (notes ++ more) ≡ open_through (open_through asked notes) more
open_more asked [] more = refl
open_more asked (n ∷ notes) more = open_more (open_after asked n) notes more

pub of_rows : (asked : Option Command) (rows : List Row)
    → log_from asked rows ≡ closed_from asked (map (λ row. row.note) rows)
    ++ exchange_with None (open_through asked (map (λ row. row.note) rows)) []
of_rows asked [] = refl
of_rows asked (row ∷ rows) =
    let notes : List Note = map (λ row. row.note) rows in
    let next : Option Command = open_after asked row.note in
    ap (ended_at asked row.note) (of_rows next rows)
    ∙ ended_more asked row.note (closed_from next notes) (exchange_with None (open_through next notes) [])

-- One step: notes that lead from a state, with what it awaits, to another one, with the exchanges that they end.
record Leads (plan : Plan) (state state' : State) (log log' : List Exchange) (notes : List Note) : Type 0 where
  open_is : open_through (awaited plan state) notes ≡ awaited plan state'
  closed_is : log' ≡ log ++ closed_from (awaited plan state) notes

none_given : (plan : Plan) (s : State) → given plan s ≡ None → awaited plan (ticked s) ≡ awaited plan s
none_given plan s h = grind (arith, common_steps)

some_given : (plan : Plan) (s : State) (c : Command) → given plan s ≡ Some c → awaited plan (ticked s) ≡ Some c
some_given plan s c h = grind (arith, common_steps)

given_leads : (plan : Plan) (s : State) (log : List Exchange) (command : Option Command) → given plan s ≡ command
    → Leads plan s (ticked s) log log (map note_for (given_notes command))
given_leads plan s log None is = record { open_is = sym (none_given plan s is); closed_is = sym (append-nil log) }
given_leads plan s log (Some c) is = record { open_is = sym (some_given plan s c is); closed_is = sym (append-nil log) }

end_closes : (h : Option Heard) (asked : Option Command)
    → closed_from asked (note_for (end_of h) ∷ []) ≡ exchange_with h asked []
end_closes None asked = refl
end_closes (Some h) asked = refl

end_opens : (h : Option Heard) (asked : Option Command) → open_through asked (note_for (end_of h) ∷ []) ≡ None
end_opens None asked = refl
end_opens (Some h) asked = refl

ended_leads : (plan : Plan) (s : State) (log : List Exchange) (h : Option Heard) (by : Option Exchange)
    → ended_by plan h s ≡ by
    → Leads plan s (option_map_or (λ e. ended_in plan s.stage e s) by s) log (logged log by) (map note_for (end_notes by))
ended_leads plan s log h None is = record { open_is = refl; closed_is = sym (append-nil log) }
ended_leads plan s log h (Some e) is =
    let awaits : awaited plan s ≡ Some e.command = exchange_is plan.mode h (awaited plan s) e is in record {
      open_is = end_opens e.heard (awaited plan s) ∙ sym (awaits_none_in plan s.stage e s awaits);
      closed_is = ap (λ (l : List Exchange). log ++ l)
          (sym (end_closes e.heard (awaited plan s) ∙ ap (λ (c : Option Command). exchange_with e.heard c []) awaits));
    }

leads_on : (plan : Plan) (s t u : State) (xs ys zs : List Exchange) (notes more : List Note) → Leads plan s t xs ys notes
    → Leads plan t u ys zs more → Leads plan s u xs zs (notes ++ more)
leads_on plan s t u xs ys zs notes more a b = record {
  open_is = open_more (awaited plan s) notes more
      ∙ ap (λ (c : Option Command). open_through c more) a.open_is ∙ b.open_is;
  closed_is = b.closed_is ∙ ap (λ (l : List Exchange). l ++ closed_from (awaited plan t) more) a.closed_is
      ∙ append_assoc xs (closed_from (awaited plan s) notes) (closed_from (awaited plan t) more)
      ∙ ap (λ (l : List Exchange). xs ++ l)
      (ap (λ (c : Option Command). closed_from (awaited plan s) notes ++ closed_from c more) (sym a.open_is)
      ∙ sym (closed_more (awaited plan s) notes more));
}

heard_leads : (plan : Plan) (unit : ℕ) (ms : List Content) (p : Prompt)
    → Leads plan p.state (hears_all plan unit ms p).state p.log (hears_all plan unit ms p).log
    (notes_heard plan unit ms p)
heard_leads plan unit [] p = record { open_is = refl; closed_is = sym (append-nil p.log) }
heard_leads plan unit (m ∷ ms) p =
    let h : Option Heard = Some (heard_as unit m) in
    let q : Prompt = hears plan unit m p in
    let r : Prompt = hears_all plan unit ms q in
    let comes = hears_comes plan unit m p in
    leads_on plan p.state q.state r.state p.log q.log r.log (notes_ended plan h p.state) (notes_heard plan unit ms q)
    (subst (λ (s : State). Leads plan p.state s p.log q.log (notes_ended plan h p.state)) (sym comes.state_is)
    (subst (λ (l : List Exchange). Leads plan p.state (came_to plan h p.state) p.log l (notes_ended plan h p.state))
    (sym comes.log_is) (ended_leads plan p.state p.log h (ended_by plan h p.state) refl)))
    (heard_leads plan unit ms q)

-- All steps.

pub record IsLogged (plan : Plan) (e : Ends) : Type 0 where
  pub open_is : open_through None e.notes ≡ awaited plan e.automation.state
  pub closed_is : log_now e ≡ closed_from None e.notes

logs_on : (plan : Plan) (e : Ends) (state : State) (log : List Exchange) (notes : List Note) → IsLogged plan e
    → Leads plan e.automation.state state e.automation.log log notes
    → (open_through None (e.notes ++ notes) ≡ awaited plan state)
    × (e.log_before ++ log ≡ closed_from None (e.notes ++ notes))
logs_on plan e state log notes l s =
    let was : Option Command = awaited plan e.automation.state in (
      open_more None e.notes notes ∙ ap (λ (c : Option Command). open_through c notes) l.open_is ∙ s.open_is,
      ap (λ (x : List Exchange). e.log_before ++ x) s.closed_is
          ∙ sym (append_assoc e.log_before e.automation.log (closed_from was notes))
          ∙ ap₂ (λ (x : List Exchange) (c : Option Command). x ++ closed_from c notes) l.closed_is (sym l.open_is)
          ∙ sym (closed_more None e.notes notes),
    )

call_leads : (plan : Plan) (s : State) (log : List Exchange) (c : Call)
    → Leads plan s (auto.called c s) log log (note_for (kept.Called c) ∷ [])
call_leads plan s log call.Take = record { open_is = refl; closed_is = sym (append-nil log) }
call_leads plan s log call.Stop = record { open_is = refl; closed_is = sym (append-nil log) }
call_leads plan s log (call.List c) = record { open_is = refl; closed_is = sym (append-nil log) }

time_leads : (plan : Plan) (p : Prompt)
    → Leads plan p.state (came_to plan None p.state) p.log (logged p.log (ended_by plan None p.state))
    (notes_ended plan None p.state)
time_leads plan p = ended_leads plan p.state p.log None (ended_by plan None p.state) refl

gave_logged : (plan : Plan) (e : Ends) → IsLogged plan e → IsLogged plan (with_command plan e)
gave_logged plan e logged_so =
    let p : Prompt = e.automation in
    let l = logs_on plan e (ticked p.state) p.log (notes_given plan p.state) logged_so
    (given_leads plan p.state p.log (given plan p.state) refl) in
    record { open_is = l.0; closed_is = l.1 }

called_logged : (plan : Plan) (c : Call) (e : Ends) → IsLogged plan e → IsLogged plan (with_call c e)
called_logged plan c e logged_so =
    let p : Prompt = e.automation in
    let l = logs_on plan e (auto.called c p.state) p.log (note_for (kept.Called c) ∷ []) logged_so
    (call_leads plan p.state p.log c) in
    record { open_is = l.0; closed_is = l.1 }

heard_logged : (plan : Plan) (h : Heard) (e : Ends) → IsLogged plan e → IsLogged plan (with_heard plan h e)
heard_logged plan h e logged_so =
    let p : Prompt = e.automation in
    let l = logs_on plan e (came_to plan (Some h) p.state) (logged p.log (ended_by plan (Some h) p.state))
    (notes_ended plan (Some h) p.state) logged_so
    (ended_leads plan p.state p.log (Some h) (ended_by plan (Some h) p.state) refl) in
    record { open_is = l.0; closed_is = l.1 }

goes_logged : (plan : Plan) (e on : Ends) → IsLogged plan e → GoesOn plan e on → IsLogged plan on
goes_logged plan e _ l as_noted = l
goes_logged plan e _ l (as_announced h a) =
    gave_logged plan (with_heard plan h (with_call call.Take (with_command plan e)))
    (heard_logged plan h (with_call call.Take (with_command plan e))
    (called_logged plan call.Take (with_command plan e) (gave_logged plan e l)))

connects_logged : (plan : Plan) (e : Ends) → IsLogged plan e
    → (open_through None (e.notes ++ notes_ended plan None e.automation.state)
    ≡ awaited plan (came_to plan None e.automation.state))
    × ((e.log_before ++ logged e.automation.log (ended_by plan None e.automation.state)) ++ []
    ≡ closed_from None (e.notes ++ notes_ended plan None e.automation.state))
connects_logged plan e logged_so =
    let p : Prompt = e.automation in
    let log : List Exchange = logged p.log (ended_by plan None p.state) in
    let l = logs_on plan e (came_to plan None p.state) log (notes_ended plan None p.state) logged_so (time_leads plan p) in
    (l.0, append-nil (e.log_before ++ log) ∙ l.1)

pub are_logged : (plan : Plan) (port : ClockedPort) (asked : List Command) (e : Ends) → AreJoined plan port asked e → IsLogged plan e
are_logged plan port asked _ begun = record { open_is = refl; closed_is = refl }
are_logged plan port asked _ (went_on {e} j gave) = gave_logged plan e (are_logged plan port asked e j)
are_logged plan port asked _ (went_on {e} j (asks question c is)) =
    let l = are_logged plan port asked e j in record { open_is = l.open_is; closed_is = l.closed_is }
are_logged plan port asked _ (went_on {e} j (came_up piece rest is)) =
    let p : Prompt = e.automation in
    let ms : List Content = completed p.held piece in
    let q : Prompt = hears_all plan port.state.unit ms p in
    let l = logs_on plan e q.state q.log (notes_heard plan port.state.unit ms p) (are_logged plan port asked e j)
    (heard_leads plan port.state.unit ms p) in
    record { open_is = l.0; closed_is = l.1 }
are_logged plan port asked _ (went_on {e} j (came_down piece rest is)) =
    let l = are_logged plan port asked e j in record { open_is = l.open_is; closed_is = l.closed_is }
are_logged plan port asked _ (went_on {e} j waited) =
    let p : Prompt = e.automation in
    let l = logs_on plan e (came_to plan None p.state) (logged p.log (ended_by plan None p.state))
    (notes_ended plan None p.state) (are_logged plan port asked e j) (time_leads plan p) in
    record { open_is = l.0; closed_is = l.1 }
are_logged plan port asked _ (went_on {e} j passed) =
    let l = are_logged plan port asked e j in record { open_is = l.open_is; closed_is = l.closed_is }
are_logged plan port asked _ (went_on {e} j paused) =
    let l = are_logged plan port asked e j in record { open_is = l.open_is; closed_is = l.closed_is }
are_logged plan port asked _ (went_on {e} j shut) =
    let l = are_logged plan port asked e j in record { open_is = l.open_is; closed_is = l.closed_is }
are_logged plan port asked _ (went_on {e} j (calls c on)) = called_logged plan c e (are_logged plan port asked e j)
are_logged plan port asked _ (went_on {e} j (resumed {on} goes)) =
    let l = connects_logged plan on (goes_logged plan e on (are_logged plan port asked e j) goes) in
    record { open_is = l.0; closed_is = l.1 }
are_logged plan port asked _ (went_on {e} j (restarted {on} goes)) =
    let l = connects_logged plan on (goes_logged plan e on (are_logged plan port asked e j) goes) in
    record { open_is = l.0; closed_is = l.1 }

last_timed_out : (plan : Plan) (s : State) (log : List Exchange) (asked : Option Command) → awaited plan s ≡ asked
    → log ++ exchange_with None asked [] ≡ logged log (ended_by plan None s)
last_timed_out plan s log None is =
    append-nil log ∙ ap (λ (c : Option Command). logged log (exchange_of plan.mode None c)) (sym is)
last_timed_out plan s log (Some c) is =
    ap (λ (b : Bool). logged log (if b then Some (record { command = c; heard = None }) else None))
    (sym (ends_alone plan.mode c))
    ∙ ap (λ (x : Option Command). logged log (exchange_of plan.mode None x)) (sym is)

pub rows_show : (plan : Plan) (port : ClockedPort) (asked : List Command) (e : Ends) (rows : List Row) → AreJoined plan port asked e
    → map (λ row. row.note) rows ≡ e.notes
    → log_of rows ≡ logged (log_now e) (ended_by plan None e.automation.state)
rows_show plan port asked e rows j is =
    let l = are_logged plan port asked e j in
    of_rows None rows
    ∙ ap (λ (notes : List Note). closed_from None notes ++ exchange_with None (open_through None notes) []) is
    ∙ ap₂ (λ (x : List Exchange) (c : Option Command). x ++ exchange_with None c []) (sym l.closed_is) l.open_is
    ∙ last_timed_out plan e.automation.state (log_now e) (awaited plan e.automation.state) refl
