-- What waits for a later row is what rows may lack.
use Rattle.std.proofs.Common.{◌≡◌, ℕ, arith, Bool, true, false, List, [], ◌∷◌, ◌++◌, Option, None, Some, append-nil, append_assoc, map, refl, sym, ap, subst, ◌∙◌, if◌then◌else◌}
use Rattle.std.specs.Prelude.{IsTrue, ◌&&◌, bit_and}
use Rattle.vdcp_port.specs.Clock.{ClockedPort}
use Rattle.vdcp_words.specs.declared.command.Command.{Command}
use Rattle.vdcp_words.specs.declared.command.Command.TheVariants as command
use Rattle.vdcp_words.specs.declared.reply.Reply.TheVariants as reply
use Rattle.vdcp_auto.specs.Plan.{Plan}
use Rattle.vdcp_auto.specs.Replies.{is_done, is_playing}
use Rattle.vdcp_auto.specs.State.{Stage, Ready, State}
use Rattle.vdcp_auto.specs.Turn.{awaited, came_to, given, start, ticked}
use Rattle.vdcp_auto.specs.declared.exchange.Heard.{Heard}
use Rattle.vdcp_auto.specs.declared.exchange.Heard.TheVariants as heard
use Rattle.vdcp_auto.specs.declared.phase.Phase.TheVariants as phase
use Rattle.vdcp_journal.specs.Mending.{after_notes, announced_state, free_state}
use Rattle.vdcp_journal.specs.Resume.{Tells, after_call_if, call_of}
use Rattle.vdcp_journal.specs.Thinned.{IsThinned, asks_state, before_play, heard_from, heard_last, notes_in, takes, whole, without}
use Rattle.vdcp_journal.specs.declared.moment.Moment.{Moment}
use Rattle.vdcp_journal.specs.declared.row.Note.{Note}
use Rattle.vdcp_journal.specs.declared.row.Note.TheVariants as note
use Rattle.vdcp_journal.specs.declared.row.Row.{Row}
use Rattle.vdcp_drive.specs.declared.hooks.Kept.{Kept}
use Rattle.vdcp_journal_file.specs.Recorded.{WaitsSince, Waits, is_end, note_for}
use Rattle.vdcp_journal_file.specs.Recording.{announces, notes_seen, rows_left, seen_before}
use Rattle.vdcp_journal_file.specs.declared.pending.Pending.{Pending}
use Rattle.vdcp_journal_file.specs.declared.pending.Pending.TheVariants as pending
use Rattle.vdcp_journal_file.specs.declared.pending.Seen.{Seen}
use Rattle.vdcp_laws.specs.Mended as safe
use Rattle.vdcp_laws.specs.Mended.{AreRejoined, AreSafe, AreUnkept, MayLack}
use Rattle.vdcp_laws.specs.TwoEnds.{CanJoin, Ends}
use Rattle.vdcp_laws.proofs.Announced.{thinned_more}
use Rattle.vdcp_laws.proofs.Journaled.{AllTold, after_more, given_awaited, of_rows}
use Rattle.vdcp_laws.proofs.Mended.{Below, made, noted_behind, still_announced, told_behind}
use Rattle.vdcp_laws.proofs.Running.{last_more}

-- What was heard last is lost.

-- the last of the rows that wait, if it says what was heard
abbrev pub heard_since : List Row → List Note
heard_since [] = []
heard_since (row ∷ []) = if is_end row.note then row.note ∷ [] else []
heard_since (row ∷ later ∷ rows) = heard_since (later ∷ rows)

abbrev unheard : List Note → List Note
unheard [] = []
unheard (n ∷ []) = if is_end n then [] else n ∷ []
unheard (n ∷ next ∷ notes) = n ∷ unheard (next ∷ notes)

unheard_behind : (front : List Note) (n : Note) (notes : List Note)
    → unheard (front ++ n ∷ notes) ≡ front ++ unheard (n ∷ notes)
unheard_behind [] n notes = refl
unheard_behind (x ∷ []) n notes = refl
unheard_behind (x ∷ y ∷ front) n notes = ap (λ (l : List Note). x ∷ l) (unheard_behind (y ∷ front) n notes)

unheard_after : (n : Note) (notes : List Note) → is_end n ≡ false → unheard (n ∷ notes) ≡ n ∷ unheard notes
unheard_after n [] is = ap (λ (b : Bool). if b then [] else n ∷ []) is
unheard_after n (x ∷ notes) is = refl

without_end : (front : List Note) (n : Note) → is_end n ≡ true → unheard (front ++ n ∷ []) ≡ front
without_end front n is = unheard_behind front n [] ∙ ap (λ (b : Bool). front ++ (if b then [] else n ∷ [])) is
    ∙ append-nil front

asks_no_end : (n : Note) → asks_state n ≡ true → is_end n ≡ false
asks_no_end n asks = grind arith

unheard_asks : (front : List Note) (asks : Note) (after : List Note) → IsTrue (asks_state asks)
    → unheard (front ++ asks ∷ after) ≡ front ++ (asks ∷ unheard after)
unheard_asks front asks after is = unheard_behind front asks after
    ∙ ap (λ (l : List Note). front ++ l) (unheard_after asks after (asks_no_end asks is))

thinned_unheard : (all rows : List Note) → IsThinned all rows → IsThinned (unheard all) (unheard rows)
thinned_unheard all _ whole = whole
thinned_unheard all _ (without before after asks hears a h thin) =
    let twice : List Note = asks ∷ hears ∷ asks ∷ hears ∷ [] in
    let once : List Note = asks ∷ hears ∷ [] in
    subst (IsThinned (unheard all))
    (sym (append_assoc before once (asks ∷ unheard after)) ∙ sym (unheard_asks (before ++ once) asks after a)
    ∙ ap unheard (append_assoc before once (asks ∷ after)))
    (without before (unheard after) asks hears a h
    (subst (IsThinned (unheard all))
    (ap unheard (sym (append_assoc before twice (asks ∷ after))) ∙ unheard_asks (before ++ twice) asks after a
    ∙ append_assoc before twice (asks ∷ unheard after))
    (thinned_unheard all _ thin)))
thinned_unheard all _ (before_play before after took asks hears free a h f thin) =
    let plays : Note = note.Sent command.Play in
    let more : List Note = asks ∷ (takes took ++ hears ∷ []) in
    let less : List Note = asks ∷ free ∷ [] in
    let joined : (rest : List Note) → before ++ (asks ∷ (takes took ++ (hears ∷ rest))) ≡ (before ++ more) ++ rest =
    λ rest. sym (append_assoc before more rest
    ∙ ap (λ (l : List Note). before ++ (asks ∷ l)) (append_assoc (takes took) (hears ∷ []) rest)) in
    subst (IsThinned (unheard all))
    (sym (append_assoc before less (plays ∷ unheard after)) ∙ ap (λ (l : List Note). (before ++ less) ++ l) (sym (unheard_after plays after refl))
    ∙ sym (unheard_behind (before ++ less) plays after)
    ∙ ap unheard (append_assoc before less (plays ∷ after)))
    (before_play before (unheard after) took asks hears free a h f
    (subst (IsThinned (unheard all))
    (ap unheard (joined (plays ∷ after)) ∙ unheard_behind (before ++ more) plays after
    ∙ ap (λ (l : List Note). (before ++ more) ++ l) (unheard_after plays after refl)
    ∙ sym (joined (plays ∷ unheard after)))
    (thinned_unheard all _ thin)))

thinned_before : (all rows : List Note) (n : Note) → is_end n ≡ true → IsThinned (all ++ n ∷ []) (rows ++ n ∷ [])
    → IsThinned all rows
thinned_before all rows n is thin =
    subst (λ (l : List Note). IsThinned l rows) (without_end all n is)
    (subst (IsThinned (unheard (all ++ n ∷ []))) (without_end rows n is) (thinned_unheard _ _ thin))

-- What the next command is.

unawaited : (plan : Plan) (s : State) (g : ℕ) → given plan s ≡ Some (command.Status g) → awaited plan s ≡ None
unawaited plan s g is = grind arith

lacks_next : (plan : Plan) (s : State) (announced : Option Heard) (g : ℕ) → given plan s ≡ Some (command.Status g)
    → AreUnkept (awaited plan s) (given plan s) announced (note.Sent (command.Status g) ∷ [])
lacks_next plan s announced g is =
    subst (λ (o : Option Command). AreUnkept o (given plan s) announced (note.Sent (command.Status g) ∷ [])) (sym (unawaited plan s g is))
    (subst (λ (o : Option Command). AreUnkept None o announced (note.Sent (command.Status g) ∷ [])) (sym is) safe.asks)

-- A state that announces a PLAY, after which the state is asked, and then PLAY given.

abbrev pub seen_heard : ℕ → ℕ → Heard
seen_heard groups state = heard.Reply (reply.State groups (Some state))

abbrev waits_in : Stage → Bool
waits_in (Ready (phase.Wait k)) = true
waits_in (Ready phase.Drain) = true
waits_in _ = false

waits_then : (plan : Plan) (s : State) (a g groups state : ℕ) → given plan s ≡ Some (command.Status a)
    → is_done (reply.State groups (Some state)) ≡ true
    → given plan (came_to plan (Some (seen_heard groups state)) (ticked s)) ≡ Some (command.Status g)
    → waits_in (came_to plan (Some (seen_heard groups state)) (ticked s)).stage ≡ true
waits_then plan s a g groups state is done next = grind arith

drains_on : (plan : Plan) (s : State) (x : Note) → s.stage ≡ Ready phase.Drain → is_end x ≡ true
    → given plan (after_call_if plan (call_of x) (ticked s)) ≡ Some command.Play → ⊥
drains_on plan s x is ends plays = grind arith

silence_waits : (plan : Plan) (s : State) (k : ℕ) → s.stage ≡ Ready (phase.Wait k)
    → given plan (came_to plan None (ticked s)) ≡ Some command.Play → ⊥
silence_waits plan s k is plays = grind arith

abbrev pub free_of : ℕ → ℕ → Heard
free_of groups state = heard.Reply (reply.State groups (Some (bit_and state 0xFB)))

record Lacks (plan : Plan) (s : State) (h : Heard) (x : Note) : Type 0 where
  free : Heard
  announced : announced_state (Some h) s.stage ≡ Some free
  heard_so : Heard
  is_heard : x ≡ note.Heard heard_so

frees : (groups state : ℕ) → is_done (reply.State groups (Some state)) ≡ true
    → free_state (Some (seen_heard groups state)) ≡ Some (free_of groups state)
frees groups state done =
    ap (λ (b : Bool). if b then Some (free_of groups state) else None) done

lacks_in : (plan : Plan) (s : State) (stage : Stage) (g groups state : ℕ) (x : Note) → s.stage ≡ stage
    → waits_in stage ≡ true → is_done (reply.State groups (Some state)) ≡ true → given plan s ≡ Some (command.Status g)
    → is_end x ≡ true → given plan (after_call_if plan (call_of x) (ticked s)) ≡ Some command.Play
    → Lacks plan s (seen_heard groups state) x
lacks_in plan s (Ready (phase.Wait k)) g groups state (note.Heard y) is waits done gives ends plays = record {
  free = free_of groups state;
  announced = ap (announced_state (Some (seen_heard groups state))) is ∙ frees groups state done;
  heard_so = y;
  is_heard = refl;
}
lacks_in plan s (Ready (phase.Wait k)) g groups state note.Silence is waits done gives ends plays =
    absurd (silence_waits plan s k is plays)
lacks_in plan s (Ready (phase.Wait k)) g groups state x is waits done gives ends plays = cc ends
lacks_in plan s (Ready phase.Drain) g groups state x is waits done gives ends plays =
    absurd (drains_on plan s x is ends plays)
lacks_in plan s stage g groups state x is waits done gives ends plays = cc waits

-- By what is left.

record Unkept (plan : Plan) (e : Ends) (rows : List Note) : Type 0 where
  unkept : List Note
  may_lack : MayLack plan (after_notes plan start rows) (heard_last rows) unkept
  thinned : IsThinned e.notes (rows ++ unkept)

nothing_unkept : (plan : Plan) (e : Ends) (rows : List Note) → IsThinned e.notes rows → Unkept plan e rows
nothing_unkept plan e rows thin = record {
  unkept = [];
  may_lack = safe.none;
  thinned = subst (IsThinned e.notes) (sym (append-nil rows)) thin;
}

less : (all rows : List Note) → IsThinned (all ++ []) rows → IsThinned all rows
less all rows thin = subst (λ (l : List Note). IsThinned l rows) (append-nil all) thin

-- rows that are a journal of what the ends noted tell what their controller does
abbrev pub AllTell : Plan → Ends → Type 0
AllTell plan e = Moment → (rows : List Note) → IsThinned e.notes rows → AllTold plan start rows

asks_is : (n : Note) → asks_state n ≡ true → (g : ℕ) × (n ≡ note.Sent (command.Status g))
asks_is (note.Sent (command.Status g)) is = (g, refl)
asks_is (note.Sent c) is = cc is
asks_is n is = cc is

asks_unkept : (plan : Plan) (e : Ends) → AllTell plan e → Moment → (rows : List Note) (asks : Note) → asks_state asks ≡ true
    → IsThinned e.notes (rows ++ asks ∷ []) → Unkept plan e rows
asks_unkept plan e tell time rows asks is thin =
    let q = asks_is asks is in
    let s : State = after_notes plan start rows in
    let told = told_behind plan start rows (asks ∷ []) (tell time (rows ++ asks ∷ []) thin) in record {
      unkept = note.Sent (command.Status q.0) ∷ [];
      may_lack = lacks_next plan s (announced_state (heard_last rows) s.stage) q.0 (subst (Tells plan s) q.1 told.0);
      thinned = subst (λ (n : Note). IsThinned e.notes (rows ++ n ∷ [])) q.1 thin;
    }

lacks_play : (plan : Plan) (s : State) (g : ℕ) (h free : Heard) (last : Option Heard)
    → given plan s ≡ Some (command.Status g) → announced_state last s.stage ≡ Some free
    → MayLack plan s last (note.Sent (command.Status g) ∷ note.Heard h ∷ note.Sent command.Play ∷ [])
lacks_play plan s g h free last is announced =
    let unkept : List Note = note.Sent (command.Status g) ∷ note.Heard h ∷ note.Sent command.Play ∷ [] in
    subst (λ (o : Option Command). AreUnkept o (given plan s) (announced_state last s.stage) unkept) (sym (unawaited plan s g is))
    (subst (λ (o : Option Command). AreUnkept None o (announced_state last s.stage) unkept) (sym is)
    (subst (λ (o : Option Heard). AreUnkept None (Some (command.Status g)) o unkept) (sym announced) (safe.asks_and_hears h)))

first_so : (a b : Bool) → (a && b) ≡ true → a ≡ true
first_so a b is = grind arith

-- A state is asked once more behind one that announces a PLAY, and then PLAY given.
record Waited (plan : Plan) (rows : List Note) (asks hears : Note) : Type 0 where
  groups : ℕ
  asks_so : asks ≡ note.Sent (command.Status groups)
  came : Heard
  hears_so : hears ≡ note.Heard came
  last : Heard
  last_so : heard_last rows ≡ Some last
  free : Heard
  announced : announced_state (Some last) (after_notes plan start rows).stage ≡ Some free
  gives : given plan (after_notes plan start rows) ≡ Some (command.Status groups)

waited_so : (plan : Plan) (front : List Note) (seen : Seen) (asks hears : Note) → IsTrue (announces (Some seen))
    → asks_state asks ≡ true → is_end hears ≡ true
    → AllTold plan start ((front ++ notes_seen (Some seen)) ++ asks ∷ hears ∷ note.Sent command.Play ∷ [])
    → Waited plan (front ++ notes_seen (Some seen)) asks hears
waited_so plan front seen asks hears announced is ends all_told =
    let q = asks_is asks is in
    let before : List Note = notes_seen (Some seen) in
    let h : Heard = seen_heard seen.groups seen.state in
    let asked_so : Note = note.Sent (command.Status q.0) in
    let plays : Note = note.Sent command.Play in
    let t : State = after_notes plan start front in
    let s : State = came_to plan (Some h) (ticked t) in
    let s_is : after_notes plan start (front ++ before) ≡ s = after_more plan start front before in
    let told = told_behind plan start front (before ++ asked_so ∷ hears ∷ plays ∷ [])
    (subst (AllTold plan start) (append_assoc front before (asked_so ∷ hears ∷ plays ∷ []))
    (subst (λ (n : Note). AllTold plan start ((front ++ before) ++ n ∷ hears ∷ plays ∷ [])) q.1 all_told)) in
    let done : is_done (reply.State seen.groups (Some seen.state)) ≡ true =
    first_so (is_done (reply.State seen.groups (Some seen.state))) (is_playing (reply.State seen.groups (Some seen.state))) announced in
    let l : Lacks plan s h hears = lacks_in plan s s.stage q.0 seen.groups seen.state hears refl
    (waits_then plan t seen.asked q.0 seen.groups seen.state told.0 done told.1.1.0) done told.1.1.0 ends told.1.1.1.1.0 in record {
      groups = q.0;
      asks_so = q.1;
      came = l.heard_so;
      hears_so = l.is_heard;
      last = h;
      last_so = last_more None front before;
      free = l.free;
      announced = ap (λ (x : State). announced_state (Some h) x.stage) s_is ∙ l.announced;
      gives = ap (given plan) s_is ∙ told.1.1.0;
    }

-- So the rows may lack all of it, or what comes behind the command that asks, or the PLAY alone.

all_unkept : (plan : Plan) (e : Ends) (rows : List Note) (asks hears : Note) → Waited plan rows asks hears
    → IsThinned e.notes (rows ++ asks ∷ hears ∷ note.Sent command.Play ∷ []) → Unkept plan e rows
all_unkept plan e rows asks hears w thin =
    let s : State = after_notes plan start rows in
    let plays : Note = note.Sent command.Play in
    let unkept : List Note = note.Sent (command.Status w.groups) ∷ note.Heard w.came ∷ plays ∷ [] in record {
      unkept = unkept;
      may_lack = subst (λ (x : Option Heard). MayLack plan s x unkept) (sym w.last_so)
          (lacks_play plan s w.groups w.came w.free (Some w.last) w.gives w.announced);
      thinned = subst (λ (n : Note). IsThinned e.notes (rows ++ note.Sent (command.Status w.groups) ∷ n ∷ plays ∷ [])) w.hears_so
          (subst (λ (n : Note). IsThinned e.notes (rows ++ n ∷ hears ∷ plays ∷ [])) w.asks_so thin);
    }

hears_unkept : (plan : Plan) (e : Ends) (rows : List Note) (asks hears : Note) → Waited plan rows asks hears
    → IsThinned e.notes (rows ++ asks ∷ hears ∷ note.Sent command.Play ∷ []) → Unkept plan e (rows ++ asks ∷ [])
hears_unkept plan e rows asks hears w thin =
    let s : State = after_notes plan start rows in
    let asked : Note = note.Sent (command.Status w.groups) in
    let plays : Note = note.Sent command.Play in
    let unkept : List Note = note.Heard w.came ∷ plays ∷ [] in
    let last : heard_last (rows ++ asked ∷ []) ≡ Some w.last =
    last_more None rows (asked ∷ []) ∙ ap (λ (x : Option Heard). heard_from x (asked ∷ [])) w.last_so in
    subst (λ (n : Note). Unkept plan e (rows ++ n ∷ [])) (sym w.asks_so) (record {
      unkept = unkept;
      may_lack = subst (λ (x : State). MayLack plan x (heard_last (rows ++ asked ∷ [])) unkept)
          (sym (after_more plan start rows (asked ∷ [])))
          (subst (λ (x : Option Heard). MayLack plan (ticked s) x unkept) (sym last)
          (subst (λ (o : Option Command).
          AreUnkept o (given plan (ticked s)) (announced_state (Some w.last) (ticked s).stage) unkept)
          (sym (given_awaited plan s.stage s (command.Status w.groups) w.gives))
          (subst (λ (o : Option Heard). AreUnkept (Some (command.Status w.groups)) (given plan (ticked s)) o unkept)
          (sym (still_announced plan s (Some w.last) w.free w.groups w.announced w.gives))
          (safe.hears w.came))));
      thinned = subst (IsThinned e.notes) (sym (append_assoc rows (asked ∷ []) unkept))
          (subst (λ (n : Note). IsThinned e.notes (rows ++ asked ∷ n ∷ plays ∷ [])) w.hears_so
          (subst (λ (n : Note). IsThinned e.notes (rows ++ n ∷ hears ∷ plays ∷ [])) w.asks_so thin));
    })

unawaited_play : (plan : Plan) (s : State) → given plan s ≡ Some command.Play → awaited plan s ≡ None
unawaited_play plan s is = grind arith

play_unkept : (plan : Plan) (e : Ends) (rows : List Note)
    → AllTold plan start (rows ++ note.Sent command.Play ∷ []) → IsThinned e.notes (rows ++ note.Sent command.Play ∷ [])
    → Unkept plan e rows
play_unkept plan e rows all_told thin =
    let s : State = after_notes plan start rows in
    let plays : List Note = note.Sent command.Play ∷ [] in
    let announced : Option Heard = announced_state (heard_last rows) s.stage in
    let told = told_behind plan start rows plays all_told in record {
      unkept = plays;
      may_lack = subst (λ (o : Option Command). AreUnkept o (given plan s) announced plays) (sym (unawaited_play plan s told.0))
          (subst (λ (o : Option Command). AreUnkept None o announced plays) (sym told.0) safe.plays);
      thinned = thin;
    }

-- The first of what waits may be safe, if a kill tore what made it so.

data Splits : List Row → List Row → List Row → Type 0 where
  here : {rest : List Row} → Splits rest [] rest
  next : {waits part rest : List Row} (row : Row) → Splits waits part rest → Splits (row ∷ waits) (row ∷ part) rest

splits : (waits part rest : List Row) → waits ≡ part ++ rest → Splits waits part rest
splits waits [] rest is = subst (λ (l : List Row). Splits l [] rest) (sym is) here
splits [] (x ∷ part) rest is = cc is
splits (y ∷ waits) (x ∷ part) rest is =
    subst (λ (r : Row). Splits (y ∷ waits) (r ∷ part) rest) (cc is) (next y (splits waits part rest (cc is)))

at_first : (plan : Plan) (e : Ends) (rows : List Note) → Unkept plan e rows → Unkept plan e (rows ++ [])
at_first plan e rows u = subst (Unkept plan e) (sym (append-nil rows)) u

-- an end of which nothing is safe is lost
lost : (all rows : List Note) (row : Row) → is_end row.note ≡ true
    → IsThinned (all ++ heard_since (row ∷ [])) (rows ++ row.note ∷ []) → IsThinned all rows
lost all rows row is thin =
    thinned_before all rows row.note is
    (subst (λ (l : List Note). IsThinned (all ++ l) (rows ++ row.note ∷ []))
    (ap (λ (b : Bool). if b then row.note ∷ [] else []) is) thin)

lost_behind : (all rows waits : List Note) (row : Row) → is_end row.note ≡ true
    → IsThinned (all ++ heard_since (row ∷ [])) (rows ++ (waits ++ row.note ∷ [])) → IsThinned all (rows ++ waits)
lost_behind all rows waits row is thin =
    lost all (rows ++ waits) row is
    (subst (IsThinned (all ++ heard_since (row ∷ []))) (sym (append_assoc rows waits (row.note ∷ []))) thin)

-- nothing was heard since
unlost : (all rows : List Note) (row : Row) → is_end row.note ≡ false → IsThinned (all ++ heard_since (row ∷ [])) rows
    → IsThinned all rows
unlost all rows row is thin =
    less all rows (subst (λ (l : List Note). IsThinned (all ++ l) rows)
    (ap (λ (b : Bool). if b then row.note ∷ [] else []) is) thin)

plays_no_end : (n : Note) → n ≡ note.Sent command.Play → is_end n ≡ false
plays_no_end n is = ap is_end is

-- What a PLAY waits with.
record Plays (plan : Plan) (e : Ends) (rows : List Note) (asks hears : Note) : Type 0 where
  waited : Waited plan rows asks hears
  thinned : IsThinned e.notes (rows ++ asks ∷ hears ∷ note.Sent command.Play ∷ [])
  told : AllTold plan start (rows ++ asks ∷ hears ∷ note.Sent command.Play ∷ [])

plays_in : (plan : Plan) (e : Ends) → AllTell plan e → Moment → (rows front : List Note) (seen : Seen) (asks hears plays : Note)
    → rows ≡ front ++ notes_seen (Some seen) → IsTrue (announces (Some seen)) → plays ≡ note.Sent command.Play
    → asks_state asks ≡ true → is_end hears ≡ true → IsThinned e.notes (rows ++ asks ∷ hears ∷ plays ∷ [])
    → Plays plan e rows asks hears
plays_in plan e tell time rows front seen asks hears plays stands announced plays_is is ends thin =
    let more : List Note = asks ∷ hears ∷ note.Sent command.Play ∷ [] in
    let thin_so : IsThinned e.notes (rows ++ more) =
    subst (λ (n : Note). IsThinned e.notes (rows ++ asks ∷ hears ∷ n ∷ [])) plays_is thin in
    let told : AllTold plan start (rows ++ more) = tell time (rows ++ more) thin_so in record {
      waited = subst (λ (l : List Note). Waited plan l asks hears) (sym stands)
          (waited_so plan front seen asks hears announced is ends
          (subst (λ (l : List Note). AllTold plan start (l ++ more)) stands told));
      thinned = thin_so;
      told = told;
    }

last_play : (plan : Plan) (e : Ends) (rows : List Note) (asks hears : Note) → Plays plan e rows asks hears
    → Unkept plan e (rows ++ asks ∷ hears ∷ [])
last_play plan e rows asks hears p =
    let both : List Note = asks ∷ hears ∷ [] in
    let last : List Note = note.Sent command.Play ∷ [] in
    play_unkept plan e (rows ++ both) (subst (AllTold plan start) (sym (append_assoc rows both last)) p.told)
    (subst (IsThinned e.notes) (sym (append_assoc rows both last)) p.thinned)

played_by : (plan : Plan) (e : Ends) (rows : List Note) (asks hears plays : Row) (part rest : List Row)
    → Splits (asks ∷ hears ∷ plays ∷ []) part rest → is_end plays.note ≡ false
    → IsThinned (e.notes ++ heard_since rest) (rows ++ asks.note ∷ hears.note ∷ plays.note ∷ [])
    → (IsThinned e.notes (rows ++ asks.note ∷ hears.note ∷ plays.note ∷ []) → Plays plan e rows asks.note hears.note)
    → Unkept plan e (rows ++ notes_in part)
played_by plan e rows asks hears plays _ _ here no_end thin so =
    let p = so (unlost e.notes _ plays no_end thin) in
    at_first plan e rows (all_unkept plan e rows asks.note hears.note p.waited p.thinned)
played_by plan e rows asks hears plays _ _ (next _ here) no_end thin so =
    let p = so (unlost e.notes _ plays no_end thin) in
    hears_unkept plan e rows asks.note hears.note p.waited p.thinned
played_by plan e rows asks hears plays _ _ (next _ (next _ here)) no_end thin so =
    last_play plan e rows asks.note hears.note (so (unlost e.notes _ plays no_end thin))
played_by plan e rows asks hears plays _ _ (next _ (next _ (next _ here))) no_end thin so =
    nothing_unkept plan e _ (less e.notes _ thin)

over_by : (plan : Plan) (e : Ends) (rows : List Note) (asks hears plays row : Row) (part rest : List Row)
    → Splits (asks ∷ hears ∷ plays ∷ row ∷ []) part rest → is_end row.note ≡ true
    → IsThinned (e.notes ++ heard_since rest) (rows ++ asks.note ∷ hears.note ∷ plays.note ∷ row.note ∷ [])
    → (IsThinned e.notes (rows ++ asks.note ∷ hears.note ∷ plays.note ∷ []) → Plays plan e rows asks.note hears.note)
    → Unkept plan e (rows ++ notes_in part)
over_by plan e rows asks hears plays row _ _ here ends thin so =
    let p = so (lost_behind e.notes rows (asks.note ∷ hears.note ∷ plays.note ∷ []) row ends thin) in
    at_first plan e rows (all_unkept plan e rows asks.note hears.note p.waited p.thinned)
over_by plan e rows asks hears plays row _ _ (next _ here) ends thin so =
    let p = so (lost_behind e.notes rows (asks.note ∷ hears.note ∷ plays.note ∷ []) row ends thin) in
    hears_unkept plan e rows asks.note hears.note p.waited p.thinned
over_by plan e rows asks hears plays row _ _ (next _ (next _ here)) ends thin so =
    last_play plan e rows asks.note hears.note
    (so (lost_behind e.notes rows (asks.note ∷ hears.note ∷ plays.note ∷ []) row ends thin))
over_by plan e rows asks hears plays row _ _ (next _ (next _ (next _ here))) ends thin so =
    nothing_unkept plan e _ (lost_behind e.notes rows (asks.note ∷ hears.note ∷ plays.note ∷ []) row ends thin)
over_by plan e rows asks hears plays row _ _ (next _ (next _ (next _ (next _ here)))) ends thin so =
    nothing_unkept plan e _ (less e.notes _ thin)

unkept_at : (plan : Plan) (e : Ends) → AllTell plan e → (rows : List Note) (left : Pending) (part rest : List Row)
    → Splits (rows_left left) part rest → Waits (e.notes ++ heard_since rest) rows left
    → Unkept plan e (rows ++ notes_in part)
unkept_at plan e tell rows pending.Nothing _ _ here w =
    nothing_unkept plan e (rows ++ []) (less e.notes (rows ++ []) w.thinned)
unkept_at plan e tell rows (pending.Failed f) _ _ here w =
    nothing_unkept plan e (rows ++ []) (less e.notes (rows ++ []) w.thinned)
unkept_at plan e tell rows (pending.End row) _ _ here w =
    at_first plan e rows (nothing_unkept plan e rows (lost e.notes rows row w.holds w.thinned))
unkept_at plan e tell rows (pending.End row) _ _ (next _ here) w =
    nothing_unkept plan e (rows ++ row.note ∷ []) (less e.notes (rows ++ row.note ∷ []) w.thinned)
unkept_at plan e tell rows (pending.Asked before asks) _ _ here w =
    at_first plan e rows (asks_unkept plan e tell asks.time rows asks.note w.holds
    (unlost e.notes (rows ++ asks.note ∷ []) asks (asks_no_end asks.note w.holds) w.thinned))
unkept_at plan e tell rows (pending.Asked before asks) _ _ (next _ here) w =
    nothing_unkept plan e (rows ++ asks.note ∷ []) (less e.notes (rows ++ asks.note ∷ []) w.thinned)
unkept_at plan e tell rows (pending.Answered before asks hears) _ _ here w =
    at_first plan e rows (asks_unkept plan e tell asks.time rows asks.note w.holds.0
    (lost_behind e.notes rows (asks.note ∷ []) hears w.holds.1 w.thinned))
unkept_at plan e tell rows (pending.Answered before asks hears) _ _ (next _ here) w =
    nothing_unkept plan e (rows ++ asks.note ∷ [])
    (lost_behind e.notes rows (asks.note ∷ []) hears w.holds.1 w.thinned)
unkept_at plan e tell rows (pending.Answered before asks hears) _ _ (next _ (next _ here)) w =
    let all : List Note = rows ++ asks.note ∷ hears.note ∷ [] in
    nothing_unkept plan e all (less e.notes all w.thinned)
unkept_at plan e tell rows (pending.Played before asks hears plays) part rest so w =
    played_by plan e rows asks hears plays part rest so (plays_no_end plays.note w.holds.1) w.thinned
    (plays_in plan e tell asks.time rows w.front before asks.note hears.note plays.note w.stands w.holds.0 w.holds.1 w.holds.2
    w.holds.3)
unkept_at plan e tell rows (pending.Over before asks hears plays row) part rest so w =
    over_by plan e rows asks hears plays row part rest so w.holds.4 w.thinned
    (plays_in plan e tell asks.time rows w.front before asks.note hears.note plays.note w.stands w.holds.0 w.holds.1 w.holds.2
    w.holds.3)

-- All of it.

-- of these notes, and more behind them
thinned_on : (all earlier some rows : List Note) → IsThinned all (earlier ++ some) → IsThinned some rows
    → IsThinned all (earlier ++ rows)
thinned_on all earlier some _ first whole = first
thinned_on all earlier some _ first (without before after asks hears a h thin) =
    subst (IsThinned all) (append_assoc earlier before (asks ∷ hears ∷ asks ∷ after))
    (without (earlier ++ before) after asks hears a h
    (subst (IsThinned all) (sym (append_assoc earlier before (asks ∷ hears ∷ asks ∷ hears ∷ asks ∷ after)))
    (thinned_on all earlier some _ first thin)))
thinned_on all earlier some _ first (before_play before after took asks hears free a h f thin) =
    let last : List Note = note.Sent command.Play ∷ after in
    subst (IsThinned all) (append_assoc earlier before (asks ∷ free ∷ last))
    (before_play (earlier ++ before) after took asks hears free a h f
    (subst (IsThinned all) (sym (append_assoc earlier before (asks ∷ (takes took ++ (hears ∷ last)))))
    (thinned_on all earlier some _ first thin)))

-- the rows of a run behind earlier ones
pub waits_behind : (before left : Pending) (earlier rows : List Row) (all : List Note) (notes : List Kept)
    → IsThinned all (notes_in (earlier ++ rows_left before)) → seen_before before ≡ None
    → WaitsSince before notes rows left → Waits (all ++ map note_for notes) (notes_in (earlier ++ rows)) left
waits_behind before left earlier rows all notes thin none w =
    let more : List Note = map note_for notes in
    let waits : List Note = notes_in (rows_left left) in
    let mine : List Note = notes_in (rows_left before) in
    let since : Waits (mine ++ more) (notes_in rows) left =
    subst (λ (o : Option Seen). Waits (notes_seen o ++ (mine ++ more)) (notes_seen o ++ notes_in rows) left) none w in
    record {
      holds = since.holds;
      front = notes_in earlier ++ since.front;
      stands = noted_behind earlier rows ∙ ap (λ (l : List Note). notes_in earlier ++ l) since.stands
          ∙ sym (append_assoc (notes_in earlier) since.front (notes_seen (seen_before left)));
      thinned = subst (IsThinned (all ++ more))
          (sym (append_assoc (notes_in earlier) (notes_in rows) waits)
          ∙ ap (λ (l : List Note). l ++ waits) (sym (noted_behind earlier rows)))
          (thinned_on (all ++ more) (notes_in earlier) (mine ++ more) (notes_in rows ++ waits)
          (subst (IsThinned (all ++ more)) (append_assoc (notes_in earlier) mine more)
          (thinned_more all (notes_in earlier ++ mine) more
          (subst (IsThinned all) (noted_behind earlier (rows_left before)) thin)))
          since.thinned);
    }

pub is_safe : Below → (plan : Plan) (port : ClockedPort) (asked : List Command) (e : Ends) (before left : Pending)
    (earlier rows part rest : List Row) (all : List Note) (notes : List Kept) → CanJoin plan port asked → AreRejoined plan port asked e
    → IsThinned all (notes_in (earlier ++ rows_left before)) → seen_before before ≡ None → WaitsSince before notes rows left
    → rows_left left ≡ part ++ rest → e.notes ++ heard_since rest ≡ all ++ map note_for notes
    → AreSafe plan e ((earlier ++ rows) ++ part)
is_safe below plan port asked e before left earlier rows part rest all notes can j thin none w split is =
    let kept : List Note = notes_in ((earlier ++ rows) ++ part) in
    let u : Unkept plan e kept = subst (Unkept plan e) (sym (noted_behind (earlier ++ rows) part))
    (unkept_at plan e (λ time noted thinned. (made below time plan port asked e can j [] noted thinned).told)
    (notes_in (earlier ++ rows)) left part rest (splits (rows_left left) part rest split)
    (subst (λ (l : List Note). Waits l (notes_in (earlier ++ rows)) left) (sym is)
    (waits_behind before left earlier rows all notes thin none w))) in record {
      unkept = u.unkept;
      may_lack = subst (λ (s : State). MayLack plan s (heard_last kept) u.unkept)
          (sym (of_rows plan start ((earlier ++ rows) ++ part))) u.may_lack;
      thinned = u.thinned;
    }
