-- What going on writes behind a killed run's safe rows was given.
use Rattle.std.proofs.Common.{◌≡◌, ℕ, ◌+◌, ◌*◌, ◌≤◌, zero, suc, arith, Bool, true, false, cond, List, [], ◌∷◌, ◌++◌, Option, None, Some, append-nil, append_assoc, map, refl, sym, ap, ap₂, subst, ◌∙◌}
use Rattle.std.proofs.Math.Nat.{one-le-mul}
use Rattle.std.proofs.lemmas.List.{map-append}
use Rattle.std.proofs.lemmas.List.Sums.{sum_by-append}
use Rattle.std.proofs.lemmas.Nat.{mul-le}
use Rattle.std.specs.Prelude.{IsTrue, is_some}
use Rattle.vdcp_value.specs.declared.part.Item.{Item}
use Rattle.vdcp_port.specs.Clock.{ClockedPort, after_frames}
use Rattle.vdcp_words.specs.declared.command.Command.{Command}
use Rattle.vdcp_words.specs.declared.command.Command.TheVariants as command
use Rattle.vdcp_auto.specs.Plan.{Plan}
use Rattle.vdcp_auto.specs.State.{Stage, Ready, Awaiting, Ended, State}
use Rattle.vdcp_auto.specs.Turn.{awaited, awaited_in, came_to, ended_by, given, given_in, outcome_of, start, taken, ticked}
use Rattle.vdcp_auto.specs.declared.exchange.Heard.{Heard}
use Rattle.vdcp_auto.specs.declared.outcome.Outcome.{Outcome}
use Rattle.vdcp_auto.specs.declared.outcome.Outcome.TheVariants.{Lost}
use Rattle.vdcp_journal.specs.Mending.{after_notes, announced_state, is_said, last_note, loss_at, loss_notes, mended, mended_at, rows_at, unkept_at, unkept_notes}
use Rattle.vdcp_journal.specs.Resume.{AreTold, IsLostAfter, Tells, after_call_if, after_rows, call_of, is_loss, limit_after, losses, plan_after, timed_out}
use Rattle.vdcp_journal.specs.Runs.{Run, begins_at, first_run, last_after, last_run, run_after}
use Rattle.vdcp_journal.specs.Thinned.{AreThinned, IsThinned, asks_state, before_play, heard_after, heard_from, heard_last, hears_done, hears_free, hears_state, notes_in, takes, whole, without}
use Rattle.vdcp_journal.specs.declared.moment.Moment.{Moment}
use Rattle.vdcp_journal.specs.declared.row.Note.{Note}
use Rattle.vdcp_journal.specs.declared.row.Note.TheVariants as note
use Rattle.vdcp_journal.specs.declared.row.Row.{Row}
use Rattle.vdcp_drive.specs.Serving.{Service}
use Rattle.vdcp_drive.specs.Steps.{given_notes}
use Rattle.vdcp_drive.specs.Turns.{frame}
use Rattle.vdcp_journal_file.specs.Recorded.{note_for}
use Rattle.vdcp_laws.specs.Announced.{Announces, came_again}
use Rattle.vdcp_journal_file.specs.Recording.{IsTimedOut, rows_left, seen_before}
use Rattle.vdcp_journal_file.specs.declared.pending.Pending.{Pending}
use Rattle.vdcp_journal_file.specs.declared.pending.Pending.TheVariants as pending
use Rattle.vdcp_laws.specs.Mended as safe
use Rattle.vdcp_laws.specs.Mended.{AreOfJoined, AreRejoined, AreSafe, AreUnkept, Finds, IsGoneOnWith, IsSession, MayLack, anew, behind, state_in, without_losses}
use Rattle.vdcp_laws.specs.Raised.{with_state}
use Rattle.vdcp_laws.specs.TwoEnds.{AreJoined, CanJoin, Ends, GoesOn, aired_now, as_announced, as_noted, connected_anew, gave, heard_again, notes_ended, notes_given, passed, port_now, restarted, resumed, server_new, with_command, with_down}
use Rattle.vdcp_laws.proofs.Announced.{after_play, none_some, on_refusal_plays, on_silence_plays, one_is, sent_of, thinned_more, ticked_twice}
use Rattle.vdcp_laws.proofs.Asked.{no_notes}
use Rattle.vdcp_laws.proofs.Commands as commands
use Rattle.vdcp_laws.proofs.Commands.{awaits_none_in, exchange_is, left_by}
use Rattle.vdcp_laws.proofs.Journaled.{AllTold, after_more, given_awaited, of_rows, rows_told, same_state}
use Rattle.vdcp_laws.proofs.Frames.{items_with_frame, left_with_frame}
use Rattle.vdcp_laws.proofs.Killed.{again_noted}
use Rattle.vdcp_laws.proofs.Limits.{raised}
use Rattle.vdcp_laws.proofs.RaisedEnds.{are_joined, no_change}
use Rattle.vdcp_laws.proofs.Rejoined.{after_so, losses_behind, steps_on, told_so}
use Rattle.vdcp_laws.proofs.Running.{last_more}

-- What is heard last stays if rows leave out what says nothing new.

hears_anew : (n : Note) (before other : Option Heard) → IsTrue (hears_state n)
    → heard_after before n ≡ heard_after other n
hears_anew n before other is = grind arith

last_same : (before some others : List Note) → ((x : Option Heard) → heard_from x some ≡ heard_from x others)
    → heard_last (before ++ some) ≡ heard_last (before ++ others)
last_same before some others same =
    last_more None before some ∙ same (heard_last before) ∙ sym (last_more None before others)

same_heard : (all rows : List Note) → IsThinned all rows → heard_last rows ≡ heard_last all
same_heard all _ whole = refl
same_heard all _ (without before after asks hears a h thin) =
    last_same before _ _ (λ x. ap (λ (y : Option Heard). heard_from (heard_after y asks) after)
    (hears_anew hears (heard_after x asks) (heard_after (heard_after (heard_after x asks) hears) asks) h))
    ∙ same_heard all _ thin
same_heard all _ (before_play before after true asks hears free a h f thin) =
    last_same before _ _ (λ x. refl) ∙ same_heard all _ thin
same_heard all _ (before_play before after false asks hears free a h f thin) =
    last_same before _ _ (λ x. refl) ∙ same_heard all _ thin

-- And in the last run it is that of the journal.

pub noted_behind : (rows more : List Row) → notes_in (rows ++ more) ≡ notes_in rows ++ notes_in more
noted_behind rows more = map-append (λ row. row.note) rows more

run_heard : (begins : Option ℕ) (row : Row) (run : Run) → begins_at row.note ≡ begins
    → heard_last (notes_in (run_after begins row run).rows) ≡ heard_after (heard_last (notes_in run.rows)) row.note
run_heard None row run is =
    ap heard_last (noted_behind run.rows (row ∷ [])) ∙ last_more None (notes_in run.rows) (row.note ∷ [])
run_heard (Some k) row run is = grind arith

runs_heard : (run : Run) (rows : List Row)
    → heard_last (notes_in (last_after run rows).rows) ≡ heard_from (heard_last (notes_in run.rows)) (notes_in rows)
runs_heard run [] = refl
runs_heard run (row ∷ rows) = runs_heard (run_after (begins_at row.note) row run) rows
    ∙ ap (λ (x : Option Heard). heard_from x (notes_in rows)) (run_heard (begins_at row.note) row run refl)

-- If something was heard last, and a command is open, that is the last note, and the operator doesn't want to stop.

record Asks (notes : List Note) (s : State) (c : Command) : Type 0 where
  front : List Note
  ends : notes ≡ front ++ note.Sent c ∷ []
  goes_on : s.stop ≡ false

abbrev AsksIf : Plan → List Note → State → Option Heard → Type 0
AsksIf plan notes s last = (h : Heard) (c : Command) → last ≡ Some h → awaited plan s ≡ Some c → Asks notes s c

rests : (plan : Plan) (s : State) (h : Heard) → IsTrue (is_some (ended_by plan (Some h) s))
    → awaited plan (came_to plan (Some h) s) ≡ None
rests plan s h some = grind (arith, awaits_none_in, exchange_is)

asks_next : (plan : Plan) (before : List Note) (s : State) (last : Option Heard) (n : Note) → Tells plan s n
    → AsksIf plan (before ++ n ∷ []) (after_call_if plan (call_of n) s) (heard_after last n)
asks_next plan before s last (note.Sent c) told h q is awaits = record {
  front = before;
  ends = ap (λ (x : Command). before ++ note.Sent x ∷ [])
      (one_is (sym (given_awaited plan s.stage s c told) ∙ awaits));
  goes_on = grind arith;
}
asks_next plan before s last (note.Heard x) told h q is awaits =
    absurd (none_some (sym (rests plan s x told) ∙ awaits))
asks_next plan before s last n told h q is awaits = absurd (none_some is)

asks_last : (plan : Plan) (before : List Note) (s : State) (last : Option Heard) (notes more : List Note)
    → AllTold plan s (notes ++ more) → AsksIf plan before s last
    → AsksIf plan (before ++ notes) (after_notes plan s notes) (heard_from last notes)
asks_last plan before s last [] more told so = subst (λ (l : List Note). AsksIf plan l s last) (sym (append-nil before)) so
asks_last plan before s last (n ∷ notes) more told so =
    let t : State = after_call_if plan (call_of n) s in
    subst (λ (l : List Note). AsksIf plan l (after_notes plan t notes) (heard_from (heard_after last n) notes))
    (append_assoc before (n ∷ []) notes)
    (asks_last plan (before ++ n ∷ []) t (heard_after last n) notes more told.1 (asks_next plan before s last n told.0))

-- A journal's notes make the controller, and tell what it does.

abbrev pub PlaysNext : Plan → State → Heard → Heard → Type 0
PlaysNext plan s h free = (given plan (came_to plan (Some h) (taken (ticked s))) ≡ Some command.Play)
    × IsTrue (hears_done (note.Heard h)) × IsTrue (hears_free (note.Heard free))

pub record Below : Type 0 where
  pub comes : (plan : Plan) (state : State) (h free : Heard) → announced_state (Some h) state.stage ≡ Some free
      → state.stop ≡ false → PlaysNext plan state h free
  pub makes : (plan : Plan) (port : ClockedPort) (asked : List Command) (e : Ends) (all rows : List Row)
      → CanJoin plan port asked → AreRejoined plan port asked e → notes_in all ≡ e.notes → AreThinned all rows
      → after_rows plan start rows ≡ e.automation.state
  pub told : (plan : Plan) (port : ClockedPort) (asked : List Command) (e : Ends) (all rows : List Row)
      → CanJoin plan port asked → AreRejoined plan port asked e → notes_in all ≡ e.notes → AreThinned all rows
      → AreTold plan start rows

noted : (time : Moment) (notes : List Note) → notes_in (rows_at time notes) ≡ notes
noted time [] = refl
noted time (n ∷ notes) = ap (λ (l : List Note). n ∷ l) (noted time notes)

pub notes_told : (plan : Plan) (s : State) (rows : List Row) → AreTold plan s rows → AllTold plan s (notes_in rows)
notes_told plan s [] told = tt
notes_told plan s (row ∷ rows) told =
    (told.0, notes_told plan (after_call_if plan (call_of row.note) s) rows told.1)

pub told_behind : (plan : Plan) (s : State) (notes more : List Note) → AllTold plan s (notes ++ more)
    → AllTold plan (after_notes plan s notes) more
told_behind plan s [] more told = told
told_behind plan s (n ∷ notes) more told = told_behind plan (after_call_if plan (call_of n) s) notes more told.1

-- of ends whose notes say nothing of losses
pub record Laws : Type 0 where
  pub comes : (plan : Plan) (state : State) (h free : Heard) → announced_state (Some h) state.stage ≡ Some free
      → state.stop ≡ false → PlaysNext plan state h free
  pub makes : (plan : Plan) (port : ClockedPort) (asked : List Command) (e : Ends) (all rows : List Row)
      → CanJoin plan port asked → AreJoined plan port asked e → notes_in all ≡ e.notes → AreThinned all rows
      → after_rows plan start rows ≡ e.automation.state
  pub told : (plan : Plan) (port : ClockedPort) (asked : List Command) (e : Ends) (all rows : List Row)
      → CanJoin plan port asked → AreJoined plan port asked e → notes_in all ≡ e.notes → AreThinned all rows
      → AreTold plan start rows
  pub thinned_makes : (plan : Plan) (all rows : List Row) → AreThinned all rows → AreTold plan start all
      → after_rows plan start rows ≡ after_rows plan start all
  pub thinned_told : (plan : Plan) (all rows : List Row) → AreThinned all rows → AreTold plan start all → AreTold plan start rows

abbrev without_rows : List Row → List Row
without_rows [] = []
without_rows (row ∷ rows) = rows_at row.time (without_losses (notes_in (row ∷ rows)))

without_is : (rows : List Row) → notes_in (without_rows rows) ≡ without_losses (notes_in rows)
without_is [] = refl
without_is (row ∷ rows) = noted row.time (without_losses (notes_in (row ∷ rows)))

module _ (law : Laws) (plan : Plan) (port : ClockedPort) (asked : List Command) (e : Ends) (all : List Row)
    (can : CanJoin plan port asked) (j : AreRejoined plan port asked e) (is : notes_in all ≡ e.notes) where
  abbrev less : Ends
  less = record e { notes = without_losses e.notes }

  less_is : notes_in (without_rows all) ≡ without_losses e.notes
  less_is = without_is all ∙ ap without_losses is

  all_told : AreTold plan start all
  all_told = rows_told plan start all (told_so plan start (notes_in all)
      (subst (AllTold plan start) (without_is all) (notes_told plan start (without_rows all)
      (law.told plan port asked less (without_rows all) (without_rows all) can j less_is whole))))

  all_make : after_rows plan start all ≡ e.automation.state
  all_make = of_rows plan start all ∙ sym (after_so plan start (notes_in all))
      ∙ ap (after_notes plan start) (sym (without_is all)) ∙ sym (of_rows plan start (without_rows all))
      ∙ law.makes plan port asked less (without_rows all) (without_rows all) can j less_is whole

pub below_of : Laws → Below
below_of law = record {
  comes = law.comes;
  makes = λ plan port asked e all rows can j is thin.
      law.thinned_makes plan all rows thin (all_told law plan port asked e all can j is)
      ∙ all_make law plan port asked e all can j is;
  told = λ plan port asked e all rows can j is thin.
      law.thinned_told plan all rows thin (all_told law plan port asked e all can j is);
}

-- these notes, and more behind them
pub record Made (plan : Plan) (e : Ends) (notes more : List Note) : Type 0 where
  pub told : AllTold plan start (notes ++ more)
  pub state_is : after_notes plan (after_notes plan start notes) more ≡ e.automation.state

-- with the time of some row
pub made : Below → (time : Moment) (plan : Plan) (port : ClockedPort) (asked : List Command) (e : Ends) → CanJoin plan port asked
    → AreRejoined plan port asked e → (notes more : List Note) → IsThinned e.notes (notes ++ more) → Made plan e notes more
made below time plan port asked e can j notes more thin =
    let all : List Row = rows_at time e.notes in
    let rows : List Row = rows_at time (notes ++ more) in
    let so : notes_in rows ≡ notes ++ more = noted time (notes ++ more) in
    let both : AreThinned all rows = subst (λ (l : List Note). IsThinned l (notes_in rows)) (sym (noted time e.notes))
    (subst (IsThinned e.notes) (sym so) thin) in record {
      told = subst (AllTold plan start) so (notes_told plan start rows
          (below.told plan port asked e all rows can j (noted time e.notes) both));
      state_is = sym (after_more plan start notes more) ∙ ap (after_notes plan start) (sym so)
          ∙ sym (of_rows plan start rows) ∙ below.makes plan port asked e all rows can j (noted time e.notes) both;
    }

-- What may have gone out is taken for given.

-- it goes on as it was, or with its next command taken for given
data GoesOnGiven (plan : Plan) (e : Ends) : Ends → Type 0 where
  as_kept : {on : Ends} → GoesOn plan e on → GoesOnGiven plan e on
  as_given : {on : Ends} → GoesOn plan (with_command plan e) on → GoesOnGiven plan e on

record Adds (plan : Plan) (e : Ends) (notes added : List Note) : Type 0 where
  on : Ends
  goes_on : GoesOnGiven plan e on
  thinned : IsThinned on.notes (notes ++ added)

as_it_is : (plan : Plan) (e : Ends) (notes added : List Note) → IsThinned e.notes (notes ++ added) → Adds plan e notes added
as_it_is plan e notes added thin = record { on = e; goes_on = as_kept as_noted; thinned = thin }

given_too : (plan : Plan) (e : Ends) (notes : List Note) (c : Command) → given plan e.automation.state ≡ Some c
    → IsThinned e.notes (notes ++ []) → IsThinned (with_command plan e).notes (notes ++ note.Sent c ∷ [])
given_too plan e notes c is thin =
    subst (λ (o : Option Command). IsThinned (e.notes ++ map note_for (given_notes o)) (notes ++ note.Sent c ∷ [])) (sym is)
    (thinned_more e.notes notes (note.Sent c ∷ []) (subst (IsThinned e.notes) (append-nil notes) thin))

with_next : (plan : Plan) (e : Ends) (notes : List Note) (c : Command) → given plan e.automation.state ≡ Some c
    → IsThinned e.notes (notes ++ []) → Adds plan e notes (note.Sent c ∷ [])
with_next plan e notes c is thin =
    record { on = with_command plan e; goes_on = as_given as_noted; thinned = given_too plan e notes c is thin }

awaits_state : (plan : Plan) (s : State) (last : Option Heard) (free : Heard) (c : Command)
    → announced_state last s.stage ≡ Some free → awaited plan s ≡ Some c → IsTrue (asks_state (note.Sent c))
awaits_state plan s last free c ann is = grind arith

gives_none : (plan : Plan) (s : State) (c : Command) → awaited plan s ≡ Some c → given plan s ≡ None
gives_none plan s c is = grind arith

wants_none : (plan : Plan) (s : State) (groups : ℕ) → given plan s ≡ Some (command.Status groups) → s.stop ≡ false
wants_none plan s groups is = grind arith

-- PLAY comes only after a state with the cue done
heard_done : (plan : Plan) (t : State) (last : Option Heard) (free h : Heard) (c : Command)
    → announced_state last t.stage ≡ Some free → awaited plan t ≡ Some c
    → given plan (came_to plan (Some h) t) ≡ Some command.Play → IsTrue (hears_done (note.Heard h))
heard_done plan t last free h c ann is plays = grind (arith, after_play, on_refusal_plays, on_silence_plays)

pub still_announced : (plan : Plan) (s : State) (last : Option Heard) (free : Heard) (groups : ℕ)
    → announced_state last s.stage ≡ Some free → given plan s ≡ Some (command.Status groups)
    → announced_state last (ticked s).stage ≡ Some free
still_announced plan s last free groups ann gives = grind arith

-- the PLAY may stand behind that state, or another one
frees : (all notes front : List Note) (c : Command) (took : Bool) (h free : Heard) → notes ≡ front ++ note.Sent c ∷ []
    → IsTrue (asks_state (note.Sent c)) → IsTrue (hears_done (note.Heard h)) → IsTrue (hears_free (note.Heard free))
    → IsThinned all (notes ++ (takes took ++ note.Heard h ∷ note.Sent command.Play ∷ []))
    → IsThinned all (notes ++ note.Heard free ∷ note.Sent command.Play ∷ [])
frees all notes front c took h free ends asks done lets thin =
    let came : List Note = takes took ++ note.Heard h ∷ note.Sent command.Play ∷ [] in
    let plays_so : List Note = note.Heard free ∷ note.Sent command.Play ∷ [] in
    subst (IsThinned all) (sym (append_assoc front (note.Sent c ∷ []) plays_so) ∙ ap (λ (l : List Note). l ++ plays_so) (sym ends))
    (before_play front [] took (note.Sent c) (note.Heard h) (note.Heard free) asks done lets
    (subst (IsThinned all) (ap (λ (l : List Note). l ++ came) ends ∙ append_assoc front (note.Sent c ∷ []) came) thin))

-- the ends, of which the state was asked, go on with that PLAY
plays_on : (plan : Plan) (e : Ends) (notes front : List Note) (c : Command) (h free : Heard)
    → notes ≡ front ++ note.Sent c ∷ [] → IsThinned e.notes notes → IsTrue (asks_state (note.Sent c))
    → PlaysNext plan e.automation.state h free → heard_last notes ≡ Some h → given plan e.automation.state ≡ None
    → (on : Ends) × GoesOn plan e on × IsThinned on.notes (notes ++ note.Heard free ∷ note.Sent command.Play ∷ [])
plays_on plan e notes front c h free ends thin asks next last none =
    let came : List Note = note.Take ∷ note.Heard h ∷ [] in
    let plays_so : List Note = note.Sent command.Play ∷ [] in
    let a : Announces plan e.automation.state e.notes h =
    record { last = sym (same_heard e.notes notes thin) ∙ last; plays = next.0 } in
    let noted_so : (with_command plan (heard_again plan h e)).notes ≡ e.notes ++ (came ++ plays_so) =
    ap (λ (l : List Note). l ++ notes_given plan (came_again plan h e.automation.state))
    (again_noted plan e h a ∙ ap (λ (o : Option Command). e.notes ++ (sent_of o ++ came)) none)
    ∙ ap (λ (o : Option Command). (e.notes ++ came) ++ map note_for (given_notes o)) a.plays
    ∙ append_assoc e.notes came plays_so in (
      with_command plan (heard_again plan h e),
      as_announced h a,
      subst (λ (l : List Note). IsThinned l (notes ++ note.Heard free ∷ plays_so)) (sym noted_so)
          (frees (e.notes ++ (came ++ plays_so)) notes front c true h free ends asks next.1 next.2
          (thinned_more e.notes notes (came ++ plays_so) thin)),
    )

-- the same, if the state is asked next
asks_on : Below → (plan : Plan) (e : Ends) (notes : List Note) (s : State) (groups : ℕ) (h free : Heard)
    → given plan s ≡ Some (command.Status groups) → announced_state (Some h) s.stage ≡ Some free
    → heard_last notes ≡ Some h → ticked s ≡ e.automation.state
    → IsThinned e.notes (notes ++ note.Sent (command.Status groups) ∷ []) → (on : Ends) × GoesOn plan e on
    × IsThinned on.notes (notes ++ note.Sent (command.Status groups) ∷ note.Heard free ∷ note.Sent command.Play ∷ [])
asks_on below plan e notes s groups h free gives ann last is thin =
    let asks_so : List Note = note.Sent (command.Status groups) ∷ [] in
    let next = below.comes plan s h free ann (wants_none plan s groups gives) in
    let stays = ticked_twice plan s.stage s (command.Status groups) gives in
    let (on, goes_on, thinned) = plays_on plan e (notes ++ asks_so) notes (command.Status groups) h free refl thin refl
    (subst (λ (x : State). PlaysNext plan x h free) is
    (ap (λ (x : State). given plan (came_to plan (Some h) (taken x))) stays.0 ∙ next.0, next.1, next.2))
    (last_more None notes asks_so ∙ last) (ap (given plan) (sym is) ∙ stays.1) in
    (on, goes_on, subst (IsThinned on.notes) (append_assoc notes asks_so (note.Heard free ∷ note.Sent command.Play ∷ [])) thinned)

-- by what is open, comes next, is announced and was heard last, and what went out
adds : Below → (plan : Plan) (e : Ends) (notes : List Note) (s : State) → AsksIf plan notes s (heard_last notes)
    → (unended next : Option Command) (announced last : Option Heard) → awaited plan s ≡ unended → given plan s ≡ next
    → announced_state last s.stage ≡ announced → heard_last notes ≡ last → (unkept : List Note)
    → AreUnkept unended next announced unkept → IsThinned e.notes (notes ++ unkept)
    → AllTold plan s unkept → after_notes plan s unkept ≡ e.automation.state
    → Adds plan e notes (unkept_notes unended next announced)
adds below plan e notes s so (Some c) next (Some free) (Some h) waits gives ann last _ safe.none thin told is =
    let q = so h c last waits in
    let (on, goes_on, thinned) = plays_on plan e notes q.front c h free q.ends
    (subst (IsThinned e.notes) (append-nil notes) thin) (awaits_state plan s (Some h) free c ann waits)
    (subst (λ (x : State). PlaysNext plan x h free) is (below.comes plan s h free ann q.goes_on)) last
    (ap (given plan) (sym is) ∙ gives_none plan s c waits) in
    record { on = on; goes_on = as_kept goes_on; thinned = thinned }
adds below plan e notes s so (Some c) next (Some free) (Some h) waits gives ann last _ (safe.hears x) thin told is =
    let q = so h c last waits in
    as_it_is plan e notes (note.Heard free ∷ note.Sent command.Play ∷ []) (frees e.notes notes q.front c false x free q.ends
    (awaits_state plan s (Some h) free c ann waits) (heard_done plan s (Some h) free x c ann waits told.1.0)
    (below.comes plan s h free ann q.goes_on).2 thin)
adds below plan e notes s so None (Some (command.Status g)) (Some free) (Some h) waits gives ann last _ safe.none thin told is =
    let (on, goes_on, thinned) = asks_on below plan (with_command plan e) notes s g h free gives ann last (ap ticked is)
    (given_too plan e notes (command.Status g) (ap (given plan) (sym is) ∙ gives) thin) in
    record { on = on; goes_on = as_given goes_on; thinned = thinned }
adds below plan e notes s so None (Some (command.Status g)) (Some free) (Some h) waits gives ann last _ safe.asks thin told is =
    let (on, goes_on, thinned) = asks_on below plan e notes s g h free gives ann last is thin in
    record { on = on; goes_on = as_kept goes_on; thinned = thinned }
adds below plan e notes s so None (Some (command.Status g)) (Some free) (Some h) waits gives ann last _
    (safe.asks_and_hears x) thin told is =
    as_it_is plan e notes (note.Sent (command.Status g) ∷ note.Heard free ∷ note.Sent command.Play ∷ [])
    (before_play notes [] false (note.Sent (command.Status g)) (note.Heard x) (note.Heard free) refl
    (heard_done plan (ticked s) (Some h) free x (command.Status g) (still_announced plan s (Some h) free g ann gives)
    (given_awaited plan s.stage s (command.Status g) gives) told.1.1.0)
    (below.comes plan s h free ann (wants_none plan s g gives)).2 thin)
adds below plan e notes s so unended next (Some free) None waits gives ann last _ which thin told is =
    absurd (grind arith)
adds below plan e notes s so None (Some (command.Status g)) None heard waits gives ann last _ safe.none thin told is =
    with_next plan e notes (command.Status g) (ap (given plan) (sym is) ∙ gives) thin
adds below plan e notes s so None (Some (command.Status g)) None heard waits gives ann last _ safe.asks thin told is =
    as_it_is plan e notes (note.Sent (command.Status g) ∷ []) thin
adds below plan e notes s so None (Some command.Play) announced heard waits gives ann last _ safe.none thin told is =
    with_next plan e notes command.Play (ap (given plan) (sym is) ∙ gives) thin
adds below plan e notes s so None (Some command.Play) announced heard waits gives ann last _ safe.plays thin told is =
    as_it_is plan e notes (note.Sent command.Play ∷ []) thin
adds below plan e notes s so unended next announced heard waits gives ann last _ safe.none thin told is =
    as_it_is plan e notes [] thin

-- The loss.

-- how often notes at the end of these say that a run was lost: never, and they are a journal of what goes on; or once, and the
-- others are one of that once what is open timed out
data AreMended (plan : Plan) (on : Ends) : List Note → ℕ → Type 0 where
  goes : {notes : List Note} → IsThinned on.notes notes → AreMended plan on notes 0
  lost : {notes : List Note} → IsThinned (on.notes ++ notes_ended plan None on.automation.state) notes
      → AreMended plan on (notes ++ note.End Lost ∷ []) 1

abbrev pub silence_if : Option Command → List Note
silence_if None = []
silence_if (Some c) = note.Silence ∷ []

loss_so : (unended : Option Command) → loss_notes (Some Lost) false unended ≡ silence_if unended ++ note.End Lost ∷ []
loss_so None = refl
loss_so (Some c) = refl

twice : (plan : Plan) (s : State) → timed_out plan (timed_out plan s) ≡ timed_out plan s
twice plan s = same_state plan (timed_out plan s) (commands.timed_out plan s)

loss_times : (plan : Plan) (s : State) (o : Option Outcome) (said : Bool) (unended : Option Command)
    → timed_out plan (after_notes plan s (loss_notes o said unended)) ≡ timed_out plan s
loss_times plan s o said unended = grind (arith, twice)

-- the controller that notes make is this one, once what is open timed out
record Alike (plan : Plan) (from on : State) : Type 0 where
  times : timed_out plan from ≡ timed_out plan on
  silent : notes_ended plan None on ≡ silence_if (awaited plan from)

silenced : (plan : Plan) (s : State) (unended : Option Command) → awaited plan s ≡ unended
    → IsTrue (is_some (ended_by plan None s)) → silence_if unended ≡ note.Silence ∷ []
silenced plan s unended is some = grind arith

alike : (plan : Plan) (from on : State) (unended : Option Command) → awaited plan on ≡ unended
    → after_notes plan from (notes_ended plan None on) ≡ timed_out plan on
    → AllTold plan from (notes_ended plan None on) → Alike plan from on
alike plan from on unended is after told = grind (arith, twice, silenced)

losses_in : (time : Moment) (unended : Option Command) → losses (rows_at time (loss_notes (Some Lost) false unended)) ≡ 1
losses_in time None = refl
losses_in time (Some c) = refl

mends : (time : Moment) (plan : Plan) (on : Ends) (notes : List Note) (from : State) (o : Option Outcome) (said : Bool)
    → Alike plan from on.automation.state → IsThinned on.notes notes
    → AreMended plan on (notes ++ loss_notes o said (awaited plan from)) (losses (rows_at time (loss_notes o said (awaited plan from))))
mends time plan on notes from (Some Lost) false same thin =
    let unended : Option Command = awaited plan from in
    let ends : List Note = notes_ended plan None on.automation.state in
    subst (AreMended plan on (notes ++ loss_notes (Some Lost) false unended)) (sym (losses_in time unended))
    (subst (λ (l : List Note). AreMended plan on l 1)
    (append_assoc notes ends (note.End Lost ∷ [])
    ∙ ap (λ (l : List Note). notes ++ (l ++ note.End Lost ∷ [])) same.silent
    ∙ ap (λ (l : List Note). notes ++ l) (sym (loss_so unended)))
    (lost (thinned_more on.notes notes ends thin)))
mends time plan on notes from o said same thin = goes (subst (IsThinned on.notes) (sym (append-nil notes)) thin)

-- All of it.

-- what goes on has the server that there was

same_server : (plan : Plan) (e on : Ends) → GoesOn plan e on → (port_now on ≡ port_now e) × (aired_now on ≡ aired_now e)
same_server plan e _ as_noted = (refl, refl)
same_server plan e _ (as_announced h a) = (refl, refl)

its_server : (plan : Plan) (e on : Ends) → GoesOnGiven plan e on → (port_now on ≡ port_now e) × (aired_now on ≡ aired_now e)
its_server plan e on (as_kept so) = same_server plan e on so
its_server plan e on (as_given so) = same_server plan (with_command plan e) on so

-- a frame passes before it goes on
passes : (plan : Plan) (e on : Ends) → GoesOn plan e on → GoesOn plan (with_down frame e) (with_down frame on)
passes plan e _ as_noted = as_noted
passes plan e _ (as_announced h a) = as_announced h a

connects : (plan : Plan) (port found : ClockedPort) (asked : List Command) (e on : Ends) → AreRejoined plan port asked e
    → GoesOn plan e on → Finds (port_now on) found → AreRejoined plan port asked (connected_anew plan found on)
connects plan port _ asked e on j so (safe.the_same zero) = steps_on plan port asked e _ j (resumed so)
connects plan port _ asked e on j so (safe.the_same (suc frames)) =
    let later : Ends = with_down frame on in
    subst (AreRejoined plan port asked)
    (ap₂ (λ (p : ClockedPort) (aired : List Item). record (connected_anew plan p on) { aired_before = aired })
    (ap (λ (s : Service). after_frames frames s.port) (left_with_frame (server_new on) on.downs))
    (ap (λ (items : List Item). on.aired_before ++ items) (items_with_frame (server_new on) on.downs)))
    (connects plan port (after_frames frames (port_now later)) asked (with_down frame e) later
    (steps_on plan port asked e (with_down frame e) j passed) (passes plan e on so) (safe.the_same frames))
connects plan port _ asked e on j so safe.a_new_one = steps_on plan port asked e _ j (restarted so)

joins : (plan : Plan) (port found : ClockedPort) (asked : List Command) (e on : Ends) → AreRejoined plan port asked e
    → GoesOnGiven plan e on → Finds (port_now on) found → AreRejoined plan port asked (connected_anew plan found on)
joins plan port found asked e on j (as_kept so) finds = connects plan port found asked e on j so finds
joins plan port found asked e on j (as_given so) finds =
    connects plan port found asked (with_command plan e) on (steps_on plan port asked e _ j gave) so finds

pub waits_so : (o : Option Command) (waits : Pending) → IsTimedOut o waits
    → (notes_in (rows_left waits) ≡ silence_if o) × (seen_before waits ≡ None)
waits_so None waits is = (ap (λ (p : Pending). notes_in (rows_left p)) is, ap seen_before is)
waits_so (Some c) waits (time, is) = (ap (λ (p : Pending). notes_in (rows_left p)) is, ap seen_before is)

pub waits_at : Moment → (o : Option Command) → (waits : Pending) × IsTimedOut o waits
waits_at time None = (pending.Nothing, refl)
waits_at time (Some c) = (pending.End (record { time = time; note = note.Silence }), (time, refl))

-- nothing is awaited once what was open timed out
pub ready : (plan : Plan) (rows : List Row) → awaited plan (state_in plan rows) ≡ None
ready plan rows = commands.timed_out plan (after_rows plan start rows)

-- of what goes on, and of rows that are its journal, a session begins
goes_same : Below → (plan : Plan) (port found : ClockedPort) (asked : List Command) (time : Moment) (on : Ends)
    (aired : List Item) (rows : List Row) (notes : List Note) → CanJoin plan port asked
    → (let next : Ends = connected_anew plan found on in AreRejoined plan port asked next
    → AreRejoined plan port asked (behind next.log_before aired next.notes (anew found (state_in plan rows)))
    → notes_in rows ≡ notes → IsThinned on.notes notes → IsGoneOnWith plan port asked found aired rows)
goes_same below plan port found asked time on aired rows notes can j joined notes_are thin =
    let next : Ends = connected_anew plan found on in
    let ends : List Note = notes_ended plan None on.automation.state in
    let both : IsThinned next.notes (notes ++ ends) = thinned_more on.notes notes ends thin in
    let later = made below time plan port asked next can j notes ends both in
    let same : Alike plan (after_notes plan start notes) on.automation.state =
    alike plan (after_notes plan start notes) on.automation.state (awaited plan on.automation.state) refl later.state_is
    (told_behind plan start notes ends later.told) in
    let from_is : after_rows plan start rows ≡ after_notes plan start notes =
    of_rows plan start rows ∙ ap (after_notes plan start) notes_are in record {
      log = next.log_before;
      notes = next.notes;
      begins = λ waits is.
          let w = waits_so (awaited plan (after_rows plan start rows)) waits is in record {
            joined = joined;
            ready = ready plan rows;
            thinned = subst (IsThinned next.notes)
                (ap (λ (l : List Note). notes ++ l) (same.silent
                ∙ ap (λ (x : State). silence_if (awaited plan x)) (sym from_is) ∙ sym w.0)
                ∙ ap (λ (l : List Note). l ++ notes_in (rows_left waits)) (sym notes_are)
                ∙ sym (noted_behind rows (rows_left waits))) both;
            unended = (awaited plan (after_rows plan start rows), is);
          };
    }

-- or if they say at the end that it was lost, under a greater limit
goes_raised : Below → (plan : Plan) (limit : ℕ) (port found : ClockedPort) (asked : List Command) (time : Moment) (on : Ends)
    (aired : List Item) (rows : List Row) (notes : List Note) → plan.limit ≤ limit → CanJoin (raised limit plan) port asked
    → AreRejoined plan port asked (connected_anew plan found on) → aired_now on ≡ aired
    → notes_in rows ≡ notes ++ note.End Lost ∷ []
    → IsThinned (on.notes ++ notes_ended plan None on.automation.state) notes
    → IsGoneOnWith (raised limit plan) port asked found aired rows
goes_raised below plan limit port found asked time on aired rows notes few can j aired_are notes_are thin =
    let next : Ends = connected_anew plan found on in
    let said : List Note = note.End Lost ∷ [] in
    let all : List Note = next.notes ++ said in
    let r = are_joined plan limit port asked (record next { notes = without_losses next.notes }) few j in
    let s : State = r.state in
    let none : awaited plan s ≡ None = r.ready (commands.timed_out plan on.automation.state) in
    let e : Ends = behind next.log_before aired all (anew found s) in
    let joined : AreRejoined (raised limit plan) port asked e =
    subst (AreJoined (raised limit plan) port asked)
    (ap₂ (λ (items : List Item) (l : List Note). record e { aired_before = items; notes = l }) aired_are
    (sym (losses_behind next.notes said ∙ append-nil (without_losses next.notes)))) r.joined in
    let both : IsThinned all (notes ++ said) = thinned_more next.notes notes said thin in
    let makes : after_rows (raised limit plan) start rows ≡ s =
    below.makes (raised limit plan) port asked e (rows_at time all) rows can joined (noted time all)
    (subst (λ (l : List Note). IsThinned l (notes_in rows)) (sym (noted time all))
    (subst (IsThinned all) (sym notes_are) both)) in
    let times : state_in (raised limit plan) rows ≡ s =
    ap (timed_out (raised limit plan)) makes ∙ no_change (raised limit plan) None s none in record {
      log = next.log_before;
      notes = all;
      begins = λ waits is.
          let w = waits_so (awaited plan (after_rows (raised limit plan) start rows)) waits is in
          subst (λ (x : State). IsSession (raised limit plan) port asked rows waits (behind next.log_before aired all (anew found x)))
          (sym times) (record {
            joined = joined;
            ready = none;
            thinned = subst (IsThinned all)
                (sym (append-nil (notes ++ said))
                ∙ ap (λ (l : List Note). (notes ++ said) ++ l)
                (sym (w.0 ∙ ap silence_if (ap (awaited plan) makes ∙ none)))
                ∙ ap (λ (l : List Note). l ++ notes_in (rows_left waits)) (sym notes_are)
                ∙ sym (noted_behind rows (rows_left waits))) both;
            unended = (awaited (raised limit plan) (after_rows (raised limit plan) start rows), is);
          });
    }

-- The limit that a run has which was lost so often.

abbrev pub under : Plan → ℕ → Plan
under plan n = record plan { limit = limit_after plan.limit n }

limits : (limit n : ℕ) → 1 ≤ limit → (1 ≤ limit_after limit n) × (limit_after limit n ≤ 1000)
limits limit n some =
    let more : 1 ≤ limit * (n + 1) = one-le-mul some (omega arith) in (omega (arith, more), omega arith)

more_limit : (limit n : ℕ) → limit_after limit n ≤ limit_after limit (n + 1)
more_limit limit n =
    let more : limit * (n + 1) ≤ limit * (n + 1 + 1) = mul-le limit (n + 1) limit (n + 1 + 1) (omega arith) (omega arith) in
    omega (arith, more)

pub can_under : (plan : Plan) (n : ℕ) (port : ClockedPort) (asked : List Command) → CanJoin plan port asked
    → CanJoin (under plan n) port asked
can_under plan n port asked can =
    let start_so = can.can_start in
    let limit = limits plan.limit n start_so.some in record {
      can_start = record {
        some = limit.0;
        few = limit.1;
        unit_fits = start_so.unit_fits;
        port_fits = start_so.port_fits;
        of_bytes = start_so.of_bytes;
        nothing_cued = start_so.nothing_cued;
        asked = start_so.asked;
        answered = start_so.answered;
      };
      only_asks = can.only_asks;
    }

goes_with : Below → (plan : Plan) (before : ℕ) (port found : ClockedPort) (asked : List Command) (time : Moment) (on : Ends)
    (aired : List Item) (rows : List Row) (notes : List Note) (n : ℕ) → CanJoin plan port asked
    → (let next : Ends = connected_anew (under plan before) found on in AreRejoined (under plan before) port asked next
    → AreRejoined (under plan before) port asked
    (behind next.log_before aired next.notes (anew found (state_in (under plan before) rows))) → aired_now on ≡ aired
    → notes_in rows ≡ notes → losses rows ≡ before + n → AreMended (under plan before) on notes n
    → IsGoneOnWith (plan_after plan rows) port asked found aired rows)
goes_with below plan before port found asked time on aired rows notes _ can j joined aired_are notes_are count (goes thin) =
    let same : losses rows ≡ before = omega (arith, count) in
    subst (λ (k : ℕ). IsGoneOnWith (under plan k) port asked found aired rows) (sym same)
    (goes_same below (under plan before) port found asked time on aired rows notes (can_under plan before port asked can) j joined
    notes_are thin)
goes_with below plan before port found asked time on aired rows _ _ can j joined aired_are notes_are count (lost {notes} thin) =
    subst (λ (k : ℕ). IsGoneOnWith (under plan k) port asked found aired rows) (sym count)
    (goes_raised below (under plan before) (limit_after plan.limit (before + 1)) port found asked time on aired rows notes
    (more_limit plan.limit before) (can_under plan (before + 1) port asked can) j aired_are notes_are thin)

-- what goes on, with these that are its own
with_these : (plan : Plan) (port found : ClockedPort) (asked : List Command) (on : Ends) (aired : List Item) (s : State)
    → aired_now on ≡ aired → s ≡ timed_out plan on.automation.state → (let next : Ends = connected_anew plan found on in
    AreRejoined plan port asked next → AreRejoined plan port asked (behind next.log_before aired next.notes (anew found s)))
with_these plan port found asked on aired s aired_are is j =
    let next : Ends = connected_anew plan found on in
    subst (λ (l : List Item). AreRejoined plan port asked (behind next.log_before l next.notes (anew found s))) aired_are
    (subst (λ (x : State). AreRejoined plan port asked (behind next.log_before (aired_now on) next.notes (anew found x))) (sym is) j)

-- how often rows say that the run was lost

pub losses_more : (rows more : List Row) → losses (rows ++ more) ≡ losses rows + losses more
losses_more rows more = sum_by-append (λ (row : Row). cond (is_loss row.note) 1 0) rows more

none_more : (n : ℕ) → 0 + n ≡ n
none_more n = omega arith

none_unkept : (time : Moment) (asked next : Option Command) (announced : Option Heard)
    → losses (rows_at time (unkept_notes asked next announced)) ≡ 0
none_unkept time (Some asks) next (Some state) = refl
none_unkept time (Some asks) next None = refl
none_unkept time None (Some (command.Status groups)) (Some state) = refl
none_unkept time None (Some (command.Status groups)) None = refl
none_unkept time None (Some command.Play) announced = refl
none_unkept time None next announced = refl

pub is_mended : Below → (plan : Plan) (port now found : ClockedPort) (asked : List Command) (aired : List Item)
    (journal : List Row) (time : Moment) → CanJoin plan port asked → (let run : List Row = (last_run journal).rows in
    AreOfJoined (plan_after plan run) port asked now aired run → Finds now found
    → (let rows : List Row = run ++ rows_at time (mended (plan_after plan run) journal run) in
    IsGoneOnWith (plan_after plan rows) port asked found aired rows))
is_mended below base port now found asked aired journal time can_base left finds =
    let plan : Plan = plan_after base (last_run journal).rows in
    let can : CanJoin plan port asked = can_under base (losses (last_run journal).rows) port asked can_base in
    let e : Ends = left.ends in
    let kept : AreSafe plan e (last_run journal).rows = left.safe in
    let rows : List Row = (last_run journal).rows in
    let notes : List Note = notes_in rows in
    let last : Option Heard = heard_last notes in
    let s : State = after_notes plan start notes in
    let s_is : after_rows plan start rows ≡ s = of_rows plan start rows in
    let first = made below time plan port asked e can left.joined notes kept.unkept kept.thinned in
    let a = adds below plan e notes s
    (asks_last plan [] start None notes kept.unkept first.told (λ h c is awaits. absurd (none_some is)))
    (awaited plan s) (given plan s) (announced_state last s.stage) last refl refl refl refl kept.unkept
    (subst (λ (x : State). MayLack plan x last kept.unkept) s_is kept.may_lack) kept.thinned
    (told_behind plan start notes kept.unkept first.told) first.state_is in
    let on : State = a.on.automation.state in
    let unkept : List Note = unkept_at plan s last in
    let from : State = after_notes plan s unkept in
    let from_is : after_notes plan start (notes ++ unkept) ≡ from = after_more plan start notes unkept in
    let said : Bool = is_said unkept (last_note journal) in
    let ended : Option Outcome = outcome_of (timed_out plan from).stage in
    let loss : List Note = loss_at plan from said in
    let ends : List Note = notes_ended plan None on in
    let server = its_server plan e a.on a.goes_on in
    let joined = joins plan port found asked e a.on left.joined a.goes_on
    (subst (λ (p : ClockedPort). Finds p found) (sym (server.0 ∙ left.port_is)) finds) in
    let later = made below time plan port asked (connected_anew plan found a.on) can joined (notes ++ unkept) ends (thinned_more a.on.notes (notes ++ unkept) ends a.thinned) in
    let same : Alike plan from on = subst (λ (x : State). Alike plan x on) from_is
    (alike plan (after_notes plan start (notes ++ unkept)) on (awaited plan on) refl later.state_is
    (told_behind plan start (notes ++ unkept) ends later.told)) in
    let more : List Row = rows ++ rows_at time (unkept ++ loss) in
    let more_is : notes_in more ≡ (notes ++ unkept) ++ loss =
    noted_behind rows (rows_at time (unkept ++ loss)) ∙ ap (λ (l : List Note). notes ++ l) (noted time (unkept ++ loss))
    ∙ sym (append_assoc notes unkept loss) in
    let makes : state_in plan more ≡ timed_out plan on =
    ap (timed_out plan) (of_rows plan start more ∙ ap (after_notes plan start) more_is
    ∙ after_more plan start (notes ++ unkept) loss ∙ ap (λ (x : State). after_notes plan x loss) from_is)
    ∙ loss_times plan from ended said (awaited plan from) ∙ same.times in
    let loss_rows : List Row = rows_at time loss in
    let count : losses more ≡ losses rows + losses loss_rows =
    losses_more rows (rows_at time (unkept ++ loss)) ∙ ap (λ (k : ℕ). losses rows + k)
    (ap losses (map-append (λ n. record { time = time; note = n }) unkept loss) ∙ losses_more (rows_at time unkept) loss_rows
    ∙ ap (λ (k : ℕ). k + losses loss_rows)
    (none_unkept time (awaited plan s) (given plan s) (announced_state last s.stage)) ∙ none_more (losses loss_rows)) in
    subst (λ (l : List Note). IsGoneOnWith (plan_after base (rows ++ rows_at time l)) port asked found aired (rows ++ rows_at time l))
    (sym (ap₂ (λ (x : State) (h : Option Heard). mended_at plan x (last_note journal) h) s_is
    (sym (runs_heard first_run journal))))
    (goes_with below base (losses rows) port found asked time a.on aired more (notes_in more) (losses loss_rows) can_base joined
    (with_these plan port found asked a.on aired (state_in plan more) (server.1 ∙ left.aired_are) makes joined)
    (server.1 ∙ left.aired_are) refl count
    (subst (λ (l : List Note). AreMended plan a.on l (losses loss_rows)) (sym more_is)
    (mends time plan a.on (notes ++ unkept) from ended said same a.thinned)))

-- Rows that say that the run was lost.

ends_none : (plan : Plan) (stop : Bool) (stage : Stage) (o : Outcome) → outcome_of stage ≡ Some o
    → (awaited_in plan stage ≡ None) × (given_in plan stop stage ≡ None)
ends_none plan stop (Ready p) o is = cc is
ends_none plan stop (Awaiting p) o is = cc is
ends_none plan stop (Ended outcome) o is = (refl, refl)

all_kept : (announced : Option Heard) (unkept : List Note) → AreUnkept None None announced unkept → unkept ≡ []
all_kept announced _ safe.none = refl

is_lost : (plan : Plan) (s : State) (heard : Option Heard) (unkept : List Note) → outcome_of s.stage ≡ Some Lost
    → MayLack plan s heard unkept → unkept ≡ []
is_lost plan s heard unkept is lacks =
    let none = ends_none plan s.stop s.stage Lost is in
    all_kept (announced_state heard s.stage) unkept
    (subst (λ (o : Option Command). AreUnkept None o (announced_state heard s.stage) unkept) none.1
    (subst (λ (o : Option Command). AreUnkept o (given plan s) (announced_state heard s.stage) unkept) none.0 lacks))

pub lost_safe : (plan : Plan) (port now : ClockedPort) (asked : List Command) (aired : List Item) (rows : List Row) (time : Moment)
    → AreOfJoined (plan_after plan rows) port asked now aired rows → IsLostAfter plan rows
    → (let told : List Row = rows ++ rows_at time (note.End Lost ∷ []) in
    AreOfJoined (plan_after plan told) port asked now aired told)
lost_safe plan port now asked aired rows time left is =
    let e : Ends = left.ends in
    let said : List Note = note.End Lost ∷ [] in
    let told : List Row = rows ++ rows_at time said in
    let begun : Plan = plan_after plan rows in
    let r = are_joined begun (limit_after plan.limit (losses rows + 1)) port asked (record e { notes = without_losses e.notes })
    (more_limit plan.limit (losses rows)) left.joined in
    let none : left.safe.unkept ≡ [] =
    is_lost begun (after_rows begun start rows) (heard_last (notes_in rows)) left.safe.unkept is left.safe.may_lack in
    let thin : IsThinned e.notes (notes_in rows) =
    subst (IsThinned e.notes) (ap (λ (l : List Note). notes_in rows ++ l) none ∙ append-nil (notes_in rows)) left.safe.thinned in
    subst (λ (k : ℕ). AreOfJoined (under plan k) port asked now aired told) (sym (losses_more rows (rows_at time said))) (record {
      ends = record (with_state r.state e) { notes = e.notes ++ said };
      joined = subst (AreJoined (under plan (losses rows + 1)) port asked)
          (ap (λ (l : List Note). record (with_state r.state e) { notes = l })
          (sym (losses_behind e.notes said ∙ append-nil (without_losses e.notes)))) r.joined;
      port_is = left.port_is;
      aired_are = left.aired_are;
      safe = record {
        unkept = [];
        may_lack = safe.none;
        thinned = subst (IsThinned (e.notes ++ said))
            (sym (append-nil (notes_in told) ∙ noted_behind rows (rows_at time said)))
            (thinned_more e.notes (notes_in rows) said thin);
      };
    })

-- A session that kept nothing.

pub begins_again : (plan : Plan) (port found : ClockedPort) (asked : List Command) (rows : List Row) (waits : Pending) (e : Ends)
    → IsSession plan port asked rows waits e → Finds (port_now e) found
    → IsSession plan port asked rows waits (connected_anew plan found e)
begins_again plan port found asked rows waits e s finds =
    let a : State = e.automation.state in record {
      joined = connects plan port found asked e e s.joined as_noted finds;
      ready = commands.timed_out plan a;
      thinned = subst (λ (l : List Note). IsThinned l (notes_in (rows ++ rows_left waits)))
          (sym (ap (λ (l : List Note). e.notes ++ l) (no_notes plan None a s.ready) ∙ append-nil e.notes)) s.thinned;
      unended = s.unended;
    }
