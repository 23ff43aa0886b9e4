-- What is kept in a run.
use Rattle.std.proofs.Common.{ℕ, ◌≡◌, Bool, true, false, List, [], ◌∷◌, ◌++◌, map, refl, sym, ap, subst, ◌∙◌, append_assoc, append-nil}
use Rattle.std.specs.Prelude.{Option, Some, Result, Err}
use Rattle.vdcp_auto.specs.Plan.{Plan}
use Rattle.vdcp_auto.specs.State.{State, Stage, Ready, Awaiting, Ended}
use Rattle.vdcp_auto.specs.Turn.{given, ticked, tick_in}
use Rattle.vdcp_auto.specs.declared.exchange.Exchange.{Exchange}
use Rattle.vdcp_wire.specs.Acts.{Act, sends, brings, fails, Tells}
use Rattle.vdcp_wire.specs.Wires.{Arrival, Told}
use Rattle.vdcp_drive.specs.Auto.{Auto, Event, after, arrives, calls, ended, gives, heeds, listens, log_of}
use Rattle.vdcp_drive.specs.Ears.{Fold, inputs}
use Rattle.vdcp_drive.specs.Keeping.{HasKept, KeepsRun, notes_of}
use Rattle.vdcp_drive.specs.Leaves.{Ending, by_itself, asked_before, by_hooks, in_keep, in_drop, in_send, in_listen, HasRun, steps_in}
use Rattle.vdcp_drive.specs.Steps.{Chain, Step, acts, asks, keeps, misses, Rules, World, Does, Happens, command_bytes, dropping, sending, given_notes, ended_notes, opening, round, steps_of}
use Rattle.vdcp_drive.specs.Traces.{acts_in, kept_in, sent_in, came_in, commands_kept, bytes_of, exchanged, kept_of, awaited_notes}
use Rattle.vdcp_drive.specs.declared.hooks.Kept.{Kept}
use Rattle.vdcp_drive.specs.declared.hooks.Next.{Next}
use Rattle.vdcp_drive.specs.declared.hooks.BrokenOff.{BrokenOff}
use Rattle.vdcp_drive.specs.declared.hooks.BrokenOff.TheVariants as fault
use Rattle.vdcp_drive.specs.declared.line.Ran.{Ran}
use Rattle.vdcp_drive.proofs.Chains.{chain_split}
use Rattle.vdcp_drive.proofs.Telling.{came_told, run_carries, sent_told, told_after_all}
use Rattle.vdcp_drive.proofs.Tracing.{acts_of_acts, exchanged_both, given_exchanged, gives_notes, rows_both, rows_of_acts, sending_bytes, sending_came, steps_bytes, steps_came, steps_kept, traces}

ticked_at : (stage : Stage) (s : State) → s.stage ≡ stage → ticked (tick_in stage s) ≡ tick_in stage s
ticked_at (Ready p) s is = refl
ticked_at (Awaiting p) s is = ap (λ (x : Stage). tick_in x s) is
ticked_at (Ended outcome) s is = ap (λ (x : Stage). tick_in x s) is

ticked_twice : (s : State) → ticked (ticked s) ≡ ticked s
ticked_twice s = ticked_at s.stage s refl

-- all commands of these steps are kept
abbrev MissesNone : List Step → Type 0
MissesNone [] = Unit {0}
MissesNone (misses c ∷ later) = ⊥
MissesNone (step ∷ later) = MissesNone later

none_both : (xs ys : List Step) → MissesNone xs → MissesNone ys → MissesNone (xs ++ ys)
none_both [] ys h g = g
none_both (misses c ∷ xs) ys h g = absurd h
none_both (x ∷ xs) ys h g = none_both xs ys h g

none_acts : (xs : List Act) → MissesNone (map acts xs)
none_acts [] = tt
none_acts (x ∷ xs) = none_acts xs

none_keeps : (xs : List Kept) → MissesNone (map keeps xs)
none_keeps [] = tt
none_keeps (x ∷ xs) = none_keeps xs

none_opening : {E : Type 0} (fold : Fold E) (plan : Plan) (unit : ℕ) (a : Auto E) → MissesNone (opening fold plan unit a)
none_opening fold plan unit a =
    none_both (map keeps (given_notes (given plan a.state))) (map acts (sending fold.drops unit (given plan a.state)))
    (none_keeps (given_notes (given plan a.state))) (none_acts (sending fold.drops unit (given plan a.state)))

none_steps : {E : Type 0} (fold : Fold E) (plan : Plan) (unit : ℕ) (a : Auto E) (events : List Event)
    → MissesNone (steps_of fold plan unit a events)
none_steps fold plan unit a [] = tt
none_steps fold plan unit a (calls c ∷ later) = none_steps fold plan unit (heeds c a) later
none_steps {E} fold plan unit a (arrives what ∷ later) =
    let b : Auto E = listens fold plan unit what (gives a) in
    let es : List Exchange = ended plan (inputs fold unit what a.ear) (ticked a.state) in
    let ends : List Step = map keeps (ended_notes es) in
    none_both (round fold plan unit what a) (steps_of fold plan unit b later)
    (none_both (opening fold plan unit a) (acts (brings what) ∷ ends)
    (none_opening fold plan unit a) (none_keeps (ended_notes es)))
    (none_steps fold plan unit b later)

-- to be asked changes nothing in what keeps them
abbrev LeavesIt : {W J : Type 0} → Rules W J → Type 0
LeavesIt {W} {J} rules = (s : State) (n : Next) (old new : J) → rules.asks s n old new → new ≡ old

-- what happens to what keeps them
on_keep : {W J : Type 0} (rules : Rules W J) → LeavesIt rules → (xs : List Step) (old new : World W J) → MissesNone xs
    → Happens rules xs old new → Chain rules.adds (kept_in xs) old.keep new.keep
on_keep {W} {J} rules still [] old new none h = ap (λ (w : World W J). w.keep) h
on_keep rules still (asks s n ∷ xs) old new none h =
    rw (still s n old.keep h.0.keep h.1.0) at (on_keep rules still xs h.0 new none h.2)
on_keep rules still (keeps r ∷ xs) old new none h = (h.0.keep, h.1.0, on_keep rules still xs h.0 new none h.2)
on_keep rules still (misses c ∷ xs) old new none h = absurd none
on_keep rules still (acts a ∷ xs) old new none h = rw h.1.1 at (on_keep rules still xs h.0 new none h.2)

-- if the wire failed after these were kept
device_keeps : {W J : Type 0} (rules : Rules W J) → LeavesIt rules → (steps more : List Step) (old new : World W J)
    (answer : Result Ran BrokenOff) → answer ≡ Err fault.Device → MissesNone steps → MissesNone more
    → Happens rules (steps ++ more) old new
    → HasKept rules.adds rules.loses answer (kept_in (steps ++ more)) old.keep new.keep
device_keeps rules still steps more old new answer is none last h =
    rw is (on_keep rules still (steps ++ more) old new (none_both steps more none last) h)

-- if the next one couldn't be kept
unkept_keeps : {W J : Type 0} (rules : Rules W J) → LeavesIt rules → (steps more : List Step) (at : State) (n : Next) (c : Kept)
    (old new : World W J) (answer : Result Ran BrokenOff) → answer ≡ Err fault.Unkept → more ≡ asks at n ∷ misses c ∷ []
    → MissesNone steps → Happens rules (steps ++ more) old new
    → HasKept rules.adds rules.loses answer (kept_in (steps ++ more)) old.keep new.keep
unkept_keeps {W} {J} rules still steps more at n c old new answer is are none h =
    let s = chain_split (Does rules) steps (asks at n ∷ misses c ∷ []) old new (rw are at h) in
    let next : World W J = s.2.0 in
    rw (is, are) (
      next.keep,
      c,
      rw (still at n s.0.keep next.keep s.2.1.0) (simp (rows_both, append-nil) (on_keep rules still steps old s.0 none s.1)),
      subst (λ (w : World W J). rules.loses c next.keep w.keep) (sym s.2.2.2) s.2.2.1.0,
    )

keeps_so : {E W J : Type 0} (rules : Rules W J) → LeavesIt rules → (steps : List Step) (old new : World W J) (fold : Fold E)
    (plan : Plan) (unit count : ℕ) (events : List Event) (b : Auto E) (answer : Result Ran BrokenOff) (more : List Step)
    (a' : Auto E) → MissesNone steps → Happens rules (steps ++ more) old new
    → Ending fold plan unit count events b answer more a'
    → HasKept rules.adds rules.loses answer (kept_in (steps ++ more)) old.keep new.keep
keeps_so rules still steps old new fold plan unit count events b answer more a' safe h (by_itself r is to none left) =
    rw is (on_keep rules still (steps ++ more) old new (none_both steps more safe (rw none tt)) h)
keeps_so rules still steps old new fold plan unit count events b answer more a' safe h (by_hooks is going are stays) =
    rw is (on_keep rules still (steps ++ more) old new (none_both steps more safe (rw are tt)) h)
keeps_so rules still steps old new fold plan unit count events b answer more a' safe h (in_keep c is going are left) =
    unkept_keeps rules still steps more b.state (asked_before c) c old new answer is are safe h
keeps_so rules still steps old new fold plan unit count events b answer more a' safe h (in_drop c is first gives_it are left) =
    device_keeps rules still steps more old new answer is safe (rw are tt) h
keeps_so rules still steps old new fold plan unit count events b answer more a' safe h
    (in_send c front rest is gives_it parts are left) =
    device_keeps rules still steps more old new answer is safe
    (rw are (none_acts (dropping fold.drops ++ sends front ∷ []))) h
keeps_so rules still steps old new fold plan unit count events b answer more a' safe h (in_listen is are left) =
    device_keeps rules still steps more old new answer is safe (rw are (none_both (opening fold plan unit b)
    (acts fails ∷ []) (none_opening fold plan unit b) tt)) h

-- The last steps: what is kept in them, and what went out of that.
record Last {E : Type 0} (fold : Fold E) (plan : Plan) (unit : ℕ) (b a' : Auto E) (answer : Result Ran BrokenOff)
    (more : List Step) : Type 0 where
  shows : (log : List Exchange) → kept_of log ++ (awaited_notes plan b.state ++ exchanged (kept_in more))
      ≡ notes_of plan log a'.state answer
  unsent : List ℕ
  sent : sent_in (acts_in more) ++ unsent ≡ bytes_of unit (commands_kept (kept_in more))
  nothing_came : came_in (acts_in more) ≡ []

send_sent : (first : Bool) (front : List ℕ) → sent_in (dropping first ++ sends front ∷ []) ≡ front
send_sent true front = append-nil front
send_sent false front = append-nil front

send_came : (first : Bool) (front : List ℕ) → came_in (dropping first ++ sends front ∷ []) ≡ []
send_came true front = refl
send_came false front = refl

last_of : {E : Type 0} (fold : Fold E) (plan : Plan) (unit count : ℕ) (events : List Event) (b : Auto E)
    (answer : Result Ran BrokenOff) (more : List Step) (a' : Auto E) → Ending fold plan unit count events b answer more a'
    → Last fold plan unit b a' answer more
last_of fold plan unit count events b answer more a' (by_itself r is to none left) = rw (is, none, left) (record {
  shows = λ log. simp append-nil;
  unsent = [];
  sent = refl;
  nothing_came = refl;
})
last_of fold plan unit count events b answer more a' (by_hooks is going are stays) = rw (is, are, stays) (record {
  shows = λ log. simp append-nil;
  unsent = [];
  sent = refl;
  nothing_came = refl;
})
last_of fold plan unit count events b answer more a' (in_keep c is going are left) = rw (is, are, left) (record {
  shows = λ log. simp append-nil;
  unsent = [];
  sent = refl;
  nothing_came = refl;
})
last_of fold plan unit count events b answer more a' (in_drop c is first gives_it are left) = rw (is, are, left) (record {
  shows = λ log. ap (λ (l : List Kept). kept_of log ++ l) (gives_notes plan b.state (Some c) gives_it);
  unsent = command_bytes unit c;
  sent = sym (append-nil (command_bytes unit c));
  nothing_came = refl;
})
last_of fold plan unit count events b answer more a' (in_send c front rest is gives_it parts are left) =
    rw (is, are, left) (record {
      shows = λ log. simp (traces, given_exchanged, ticked_twice)
          (ap (λ (l : List Kept). kept_of log ++ l) (gives_notes plan b.state (Some c) gives_it));
      unsent = rest;
      sent = simp (acts_of_acts, rows_of_acts, send_sent) (sym parts ∙ sym (append-nil (command_bytes unit c)));
      nothing_came = simp (acts_of_acts, send_came);
    })
last_of fold plan unit count events b answer more a' (in_listen is are left) = rw (is, are, left) (record {
  shows = λ log. simp (traces, given_exchanged, ticked_twice)
      (ap (λ (l : List Kept). kept_of log ++ l) (gives_notes plan b.state (given plan b.state) refl));
  unsent = [];
  sent = simp (traces, sending_bytes);
  nothing_came = simp (traces, sending_came);
})

pub run_keeps : {E W J : Type 0} (rules : Rules W J) → LeavesIt rules → (told : W → Option Told)
    → ((act : Act) (old new : W) → rules.does act old new → Tells act (told old) (told new))
    → (fold : Fold E) (plan : Plan) (unit count : ℕ) (a a' : Auto E) (world world' : World W J)
    (answer : Result Ran BrokenOff) → (h : HasRun rules fold plan unit count a a' world world' answer)
    → KeepsRun rules.adds rules.loses told fold plan unit a a' world.wire world'.wire answer world.keep world'.keep
    h.run.events (kept_in (steps_in h.run))
run_keeps {E} rules still told law fold plan unit count a a' world world' answer h =
    let b : Auto E = after fold plan unit a h.run.events in
    let steps : List Step = steps_of fold plan unit a h.run.events in
    let all : List Step = steps ++ h.run.more in
    let log : List Exchange = log_of fold plan unit a h.run.events in
    let l : Last fold plan unit b a' answer h.run.more = last_of fold plan unit count h.run.events b answer h.run.more a' h.run.ending in
    record {
      noted = keeps_so rules still steps world world' fold plan unit count h.run.events b answer h.run.more a'
          (none_steps fold plan unit a h.run.events) h.happened h.run.ending;
      shows = rw (rows_both steps h.run.more, exchanged_both (kept_in steps) (kept_in h.run.more)) (cc (
        steps_kept fold plan unit a h.run.events,
        l.shows log,
        append_assoc (awaited_notes plan a.state) (exchanged (kept_in steps)) (exchanged (kept_in h.run.more)),
        append_assoc (kept_of log) (awaited_notes plan b.state) (exchanged (kept_in h.run.more)),
      ));
      sends = λ t is. (
        told_after_all (acts_in all) t,
        run_carries rules told law all world world' t h.happened is,
        (l.unsent, simp (sent_told, traces, steps_bytes fold plan unit a h.run.events, l.sent)),
      );
      comes = λ t is still. (
        told_after_all (acts_in all) t,
        run_carries rules told law all world world' t h.happened is,
        came_told (acts_in all) t still ∙ ap (λ (x : List Arrival). t.came ++ x)
            (simp (traces, steps_came fold plan unit a h.run.events, l.nothing_came, h.run.closes_last)),
      );
    }
