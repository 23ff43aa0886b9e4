-- What a recorder has written once it was given things to keep, one after another.
use Rattle.std.proofs.Common.{ℕ, ◌≡◌, inl, inr, List, [], ◌∷◌, ◌++◌, Bool, true, false, cond, not, map, take, drop, refl, sym, ap, subst, ◌∙◌, append_assoc, append-nil, arith}
use Rattle.std.proofs.lemmas.Grind.{flat_map-append}
use Rattle.std.proofs.lemmas.List.{take-append-drop}
use Rattle.std.proofs.lemmas.List.Elements.{filter-append}
use Rattle.std.specs.Io.KnownBytes.{Appends}
use Rattle.std.specs.Option.{option_to_list}
use Rattle.std.specs.Prelude.{Option, None, Some, Result, Ok, Err, IfErr, OnErr, OnOk, ◌==◌, ◌&&◌, if◌then◌else◌}
use Rattle.vdcp_auto.specs.Commands.{is_status_command}
use Rattle.vdcp_auto.specs.Plan.{Plan}
use Rattle.vdcp_auto.specs.State.{State}
use Rattle.vdcp_auto.specs.Turn.{awaited, ticked}
use Rattle.vdcp_auto.specs.declared.exchange.Exchange.{Exchange}
use Rattle.vdcp_auto.specs.declared.exchange.Heard.{Heard}
use Rattle.vdcp_auto.specs.declared.exchange.Heard.TheVariants as heard
use Rattle.vdcp_drive.specs.Auto.{Auto, Event, log_of}
use Rattle.vdcp_drive.specs.Ears.{Fold}
use Rattle.vdcp_drive.specs.Keeping.{KeepsRun, notes_of}
use Rattle.vdcp_drive.specs.Steps.{Chain, end_of}
use Rattle.vdcp_drive.specs.Traces.{commands_kept, exchanged, kept_of}
use Rattle.vdcp_drive.specs.declared.hooks.Call.{Call}
use Rattle.vdcp_drive.specs.declared.hooks.Call.TheVariants as call
use Rattle.vdcp_drive.specs.declared.hooks.Kept.{Kept}
use Rattle.vdcp_drive.specs.declared.hooks.Kept.TheVariants as kept
use Rattle.vdcp_drive.specs.declared.hooks.BrokenOff.{BrokenOff}
use Rattle.vdcp_drive.specs.declared.hooks.BrokenOff.TheVariants as fault
use Rattle.vdcp_drive.specs.declared.line.Ran.{Ran}
use Rattle.vdcp_journal.specs.Rows.{fields_text, row_fields, rows_text}
use Rattle.vdcp_journal.specs.Thinned.{IsThinned, asks_state, before_play, notes_in, takes, whole, without}
use Rattle.vdcp_journal.specs.declared.moment.Moment.{Moment}
use Rattle.vdcp_journal.specs.declared.row.Note.{Note}
use Rattle.vdcp_journal.specs.declared.row.Note.TheVariants as note
use Rattle.vdcp_journal.specs.declared.row.Row.{Row}
use Rattle.vdcp_journal_file.specs.Recorded.{AsksState, HasSafe, IsEnd, IsRecorded, IsTornBy, MayBeLeft, MayHold, KeepsRow, Loses, LosesRow, Notes, NotesEnd, WaitsSince, acting, call_note, commands_of_note, commands_of_rows, is_end, note_for}
use Rattle.vdcp_journal_file.specs.Recording.{MakesBeginning, MakesSafe, Recording, after_row, announces, end_note, ended, is_again, is_announced, notes_seen, rows_due, rows_left, says_nothing_new, seen_before, seen_last, seen_of, with_play}
use Rattle.vdcp_journal_file.specs.declared.pending.Pending.{Pending}
use Rattle.vdcp_journal_file.specs.declared.pending.Pending.TheVariants as pending
use Rattle.vdcp_journal_file.specs.declared.pending.RecordFault.{RecordFault}
use Rattle.vdcp_journal_file.specs.declared.pending.Seen.{Seen}
use Rattle.vdcp_wire.specs.Wires.{Told}
use Rattle.vdcp_words.specs.declared.command.Command.{Command}
use Rattle.vdcp_words.specs.declared.command.Command.TheVariants as command
use Rattle.vdcp_words.specs.declared.reply.Reply.TheVariants as reply

-- Lists.

appends_nothing : (known : Option (List ℕ)) → Appends known known []
appends_nothing None = tt
appends_nothing (Some xs) = sym (append-nil xs)

appends_both : (a b c : Option (List ℕ)) (xs ys : List ℕ) → Appends a b xs → Appends b c ys → Appends a c (xs ++ ys)
appends_both None b c xs ys first next = tt
appends_both (Some a) None c xs ys first next = absurd first
appends_both (Some a) (Some b) None xs ys first next = absurd next
appends_both (Some a) (Some b) (Some c) xs ys first next =
    next ∙ ap (λ (l : List ℕ). l ++ ys) first ∙ append_assoc a xs ys

text_both : (unit : ℕ) (xs ys : List Row) → rows_text unit (xs ++ ys) ≡ rows_text unit xs ++ rows_text unit ys
text_both unit xs ys = flat_map-append (λ (row : Row). fields_text (row_fields unit row)) xs ys

commands_both : (xs ys : List Row) → commands_of_rows (xs ++ ys) ≡ commands_of_rows xs ++ commands_of_rows ys
commands_both xs ys = flat_map-append (λ (row : Row). commands_of_note row.note) xs ys

notes_both : (xs ys : List Row) → notes_in (xs ++ ys) ≡ notes_in xs ++ notes_in ys
notes_both [] ys = refl
notes_both (x ∷ xs) ys = ap (λ (l : List Note). x.note ∷ l) (notes_both xs ys)

acting_both : (xs ys : List Command) → acting (xs ++ ys) ≡ acting xs ++ acting ys
acting_both xs ys = filter-append (λ (c : Command). not (is_status_command c)) xs ys

acting_one : (c : Command) (b : Bool) → is_status_command c ≡ b → acting (c ∷ []) ≡ cond (not b) (c ∷ []) []
acting_one c b is = ap (λ (t : Bool). cond (not t) (c ∷ []) []) is

-- the acting commands of one row more
acting_rows : (x : Row) (xs : List Row)
    → acting (commands_of_rows (x ∷ xs)) ≡ acting (commands_of_note x.note) ++ acting (commands_of_rows xs)
acting_rows x xs = acting_both (commands_of_note x.note) (commands_of_rows xs)

acting_none : (x : Row) (xs : List Row) → acting (commands_of_note x.note) ≡ []
    → acting (commands_of_rows (x ∷ xs)) ≡ acting (commands_of_rows xs)
acting_none x xs none = acting_rows x xs ∙ ap (λ (l : List Command). l ++ acting (commands_of_rows xs)) none

asking_no_act : (n : Note) → asks_state n ≡ true → acting (commands_of_note n) ≡ []
asking_no_act (note.Sent c) asks = acting_one c true asks
asking_no_act n asks = cc asks

asks_none : (x : Row) (xs : List Row) → AsksState x → acting (commands_of_rows (x ∷ xs)) ≡ acting (commands_of_rows xs)
asks_none x xs asks = acting_none x xs (asking_no_act x.note asks)

end_no_act : (n : Note) → is_end n ≡ true → acting (commands_of_note n) ≡ []
end_no_act (note.Heard h) is = refl
end_no_act note.Silence is = refl
end_no_act n is = cc is

ends_none : (x : Row) (xs : List Row) → IsEnd x → acting (commands_of_rows (x ∷ xs)) ≡ acting (commands_of_rows xs)
ends_none x xs is = acting_none x xs (end_no_act x.note is)

-- the acting commands that are still to be written
abbrev held : Pending → List Command
held p = acting (commands_of_rows (rows_left p))

-- What is left out.

thinned_then : (all some few : List Note) → IsThinned all some → IsThinned some few → IsThinned all few
thinned_then all some _ first whole = first
thinned_then all some _ first (without before after asks hears is h thin) =
    without before after asks hears is h (thinned_then all some _ first thin)
thinned_then all some _ first (before_play before after took asks hears free is h f thin) =
    before_play before after took asks hears free is h f (thinned_then all some _ first thin)

thinned_behind : (front all few : List Note) → IsThinned all few → IsThinned (front ++ all) (front ++ few)
thinned_behind front all _ whole = whole
thinned_behind front all _ (without before after asks hears is h thin) =
    subst (IsThinned (front ++ all)) (append_assoc front before (asks ∷ hears ∷ asks ∷ after))
    (without (front ++ before) after asks hears is h
    (subst (IsThinned (front ++ all)) (sym (append_assoc front before (asks ∷ hears ∷ asks ∷ hears ∷ asks ∷ after)))
    (thinned_behind front all _ thin)))
thinned_behind front all _ (before_play before after took asks hears free is h f thin) =
    let last : List Note = note.Sent command.Play ∷ after in
    subst (IsThinned (front ++ all)) (append_assoc front before (asks ∷ free ∷ last))
    (before_play (front ++ before) after took asks hears free is h f
    (subst (IsThinned (front ++ all)) (sym (append_assoc front before (asks ∷ (takes took ++ (hears ∷ last)))))
    (thinned_behind front all _ thin)))

thinned_as : (all few all' few' : List Note) → all ≡ all' → few ≡ few' → IsThinned all few → IsThinned all' few'
thinned_as all few all' few' all_is few_is thin =
    subst (λ (l : List Note). IsThinned l few') all_is (subst (IsThinned all) few_is thin)

-- A state that is seen.

seen_notes : (a h : Note) (s : Seen) → seen_of a h ≡ Some s → a ∷ h ∷ [] ≡ notes_seen (Some s)
seen_notes (note.Sent (command.Status asked)) (note.Heard (heard.Reply (reply.State groups (Some state)))) s is =
    ap notes_seen is
seen_notes _ _ s is = cc is

left_seen : (p : Pending) (s : Seen) → seen_last p ≡ Some s → notes_in (rows_left p) ≡ notes_seen (Some s)
left_seen (pending.Answered before asks hears) s is = seen_notes asks.note hears.note s is
left_seen _ s is = cc is

-- what is left ends with what was seen last
record Front (left : List Note) (last : Option Seen) : Type 0 where
  front : List Note
  is : left ≡ front ++ notes_seen last

front_of : (left : List Note) (last : Option Seen) → ((s : Seen) → last ≡ Some s → left ≡ notes_seen (Some s))
    → Front left last
front_of left None seen = record { front = left; is = sym (append-nil left) }
front_of left (Some s) seen = record { front = []; is = seen s refl }

record Twice (before last : Option Seen) (n : Note) : Type 0 where
  seen : Seen
  first : before ≡ Some seen
  second : last ≡ Some seen
  asks : n ≡ note.Sent (command.Status seen.asked)

twice_at : (b l : Seen) (asked : ℕ)
    → (b.asked == l.asked && b.groups == l.groups && b.state == l.state && asked == b.asked) ≡ true
    → Twice (Some b) (Some l) (note.Sent (command.Status asked))
twice_at b l asked same =
    let first : l.asked ≡ b.asked = grind (arith, same) in
    let second : l.groups ≡ b.groups = grind (arith, same) in
    let third : l.state ≡ b.state = grind (arith, same) in
    let fourth : asked ≡ b.asked = grind (arith, same) in
    record {
      seen = b;
      first = refl;
      second = ap (λ (k : ℕ). Some (record { asked = k; groups = l.groups; state = l.state })) first
          ∙ ap (λ (k : ℕ). Some (record { asked = b.asked; groups = k; state = l.state })) second
          ∙ ap (λ (k : ℕ). Some (record { asked = b.asked; groups = b.groups; state = k })) third;
      asks = ap (λ (k : ℕ). note.Sent (command.Status k)) fourth;
    }

twice : (before last : Option Seen) (n : Note) → is_again before last n ≡ true → Twice before last n
twice (Some b) (Some l) (note.Sent (command.Status asked)) same = twice_at b l asked same
twice _ _ _ same = cc same

-- Commands and ends.

-- an end is noted that isn't written, or nothing is written any more
abbrev is_pending : Pending → Bool
is_pending pending.Nothing = false
is_pending (pending.End row) = true
is_pending (pending.Asked before asks) = false
is_pending (pending.Answered before asks hears) = true
is_pending (pending.Played before asks hears plays) = false
is_pending (pending.Over before asks hears plays row) = true
is_pending (pending.Failed f) = true

-- after each end comes a command, also after one that is pending at first
abbrev Alternates : Bool → List Kept → Type 0
Alternates b [] = Unit {0}
Alternates b (kept.Sent c ∷ more) = Alternates false more
Alternates b (kept.Called c ∷ more) = Alternates false more
Alternates false (kept.Heard h ∷ more) = Alternates true more
Alternates false (kept.Silence ∷ more) = Alternates true more
Alternates true (kept.Heard h ∷ more) = ⊥
Alternates true (kept.Silence ∷ more) = ⊥

end_alternates : (heard : Option Heard) (more : List Kept) → Alternates true more → Alternates false (end_of heard ∷ more)
end_alternates None more h = h
end_alternates (Some x) more h = h

log_alternates : (b : Bool) (log : List Exchange) (c : Option Command)
    → Alternates b (kept_of log ++ map kept.Sent (option_to_list c))
log_alternates b [] None = tt
log_alternates b [] (Some c) = tt
log_alternates b (e ∷ log) c =
    end_alternates e.heard (kept_of log ++ map kept.Sent (option_to_list c)) (log_alternates true log c)

notes_alternate : (b : Bool) (plan : Plan) (log : List Exchange) (state : State) (answer : Result Ran BrokenOff)
    → Alternates b (notes_of plan log state answer)
notes_alternate b plan log state (Ok ran) = log_alternates b log (awaited plan state)
notes_alternate b plan log state (Err fault.Device) = log_alternates b log (awaited plan (ticked state))
notes_alternate b plan log state (Err fault.Unkept) = log_alternates b log (awaited plan state)
notes_alternate b plan log state (Err fault.Left) = log_alternates b log (awaited plan state)

alternates_less : (b : Bool) (notes : List Kept) → Alternates b notes → Alternates false notes
alternates_less false notes h = h
alternates_less true [] h = h
alternates_less true (kept.Sent c ∷ more) h = h
alternates_less true (kept.Called c ∷ more) h = h
alternates_less true (kept.Heard x ∷ more) h = absurd h
alternates_less true (kept.Silence ∷ more) h = absurd h

-- also with the calls
calls_alternate : (b : Bool) (notes : List Kept) → Alternates b (exchanged notes) → Alternates b notes
calls_alternate b [] h = tt
calls_alternate b (kept.Sent c ∷ more) h = calls_alternate false more h
calls_alternate b (kept.Called c ∷ more) h = calls_alternate false more (alternates_less b (exchanged more) h)
calls_alternate false (kept.Heard x ∷ more) h = calls_alternate true more h
calls_alternate false (kept.Silence ∷ more) h = calls_alternate true more h
calls_alternate true (kept.Heard x ∷ more) h = absurd h
calls_alternate true (kept.Silence ∷ more) h = absurd h

end_no_command : (heard : Option Heard) (more : List Kept) → commands_kept (end_of heard ∷ more) ≡ commands_kept more
end_no_command None more = refl
end_no_command (Some h) more = refl

pub end_note_ends : (heard : Option Heard) (time : Moment) → IsEnd (record { time = time; note = end_note heard })
end_note_ends None time = refl
end_note_ends (Some h) time = refl

pub ended_may_hold : (p : Pending) (row : Row) → IsEnd row → MayHold p → MayHold (ended p row)
ended_may_hold pending.Nothing row h may = h
ended_may_hold (pending.End before) row h may = h
ended_may_hold (pending.Asked before asks) row h may = (may, h)
ended_may_hold (pending.Answered before asks hears) row h may = (may.0, h)
ended_may_hold (pending.Played before asks hears plays) row h may = (may.0, may.1, may.2, may.3, h)
ended_may_hold (pending.Over before asks hears plays last) row h may = (may.0, may.1, may.2, may.3, h)
ended_may_hold (pending.Failed f) row h may = may

seen_ended : (p : Pending) (row : Row) → seen_before (ended p row) ≡ seen_before p
seen_ended pending.Nothing row = refl
seen_ended p row = refl

held_ended : (p : Pending) (row : Row) → IsEnd row → MayHold p → held (ended p row) ≡ held p
held_ended pending.Nothing row h may = ends_none row [] h
held_ended (pending.End before) row h may = ends_none row [] h ∙ sym (ends_none before [] may)
held_ended (pending.Asked before asks) row h may =
    asks_none asks (row ∷ []) may ∙ ends_none row [] h ∙ sym (asks_none asks [] may)
held_ended (pending.Answered before asks hears) row h may =
    asks_none asks (row ∷ []) may.0 ∙ ends_none row [] h
    ∙ sym (asks_none asks (hears ∷ []) may.0 ∙ ends_none hears [] may.1)
held_ended (pending.Played before asks hears plays) row h may =
    asks_none asks (hears ∷ plays ∷ row ∷ []) may.2 ∙ ends_none hears (plays ∷ row ∷ []) may.3
    ∙ acting_rows plays (row ∷ [])
    ∙ ap (λ (l : List Command). acting (commands_of_note plays.note) ++ l) (ends_none row [] h)
    ∙ sym (asks_none asks (hears ∷ plays ∷ []) may.2 ∙ ends_none hears (plays ∷ []) may.3 ∙ acting_rows plays [])
held_ended (pending.Over before asks hears plays last) row h may =
    asks_none asks (hears ∷ plays ∷ row ∷ []) may.2 ∙ ends_none hears (plays ∷ row ∷ []) may.3
    ∙ acting_rows plays (row ∷ [])
    ∙ ap (λ (l : List Command). acting (commands_of_note plays.note) ++ l)
    (ends_none row [] h ∙ sym (ends_none last [] may.4))
    ∙ sym (asks_none asks (hears ∷ plays ∷ last ∷ []) may.2 ∙ ends_none hears (plays ∷ last ∷ []) may.3
    ∙ acting_rows plays (last ∷ []))
held_ended (pending.Failed f) row h may = refl

-- A PLAY that is announced.

pub record PlaysAfter (p : Pending) (n : Note) : Type 0 where
  pub seen : Seen
  pub first : Row
  pub second : Row
  pub left : p ≡ pending.Answered (Some seen) first second
  pub plays : n ≡ note.Sent command.Play
  pub done : announces (Some seen) ≡ true

pub plays_after : (p : Pending) (n : Note) → is_announced p n ≡ true → PlaysAfter p n
plays_after (pending.Answered (Some seen) first second) (note.Sent command.Play) is =
    record { seen = seen; first = first; second = second; left = refl; plays = refl; done = is }
plays_after (pending.Answered None first second) (note.Sent command.Play) is = cc is
plays_after _ _ is = cc is

pub play_asks_not : (p : Pending) (n : Note) → is_announced p n ≡ true → asks_state n ≡ false
play_asks_not p n is = ap asks_state (plays_after p n is).plays

abbrev pub due : Pending → Row → Bool → Bool → Bool → List Row
due left row says plays asks =
    if asks then (if says then [] else rows_left left) else (if plays then [] else rows_left left ++ row ∷ [])

abbrev pub left_after : Pending → Row → Bool → Bool → Pending
left_after left row plays asks =
    if asks then pending.Asked (seen_last left) row else (if plays then with_play left row else pending.Nothing)

play_may_hold : (p : Pending) (row : Row) → (a : PlaysAfter p row.note) → MayHold p → MayHold (with_play p row)
play_may_hold p row a may =
    subst (λ (q : Pending). MayHold (with_play q row)) (sym a.left)
    (a.done, a.plays, (subst MayHold a.left may).0, (subst MayHold a.left may).1)

pub row_may_hold : (p : Pending) (row : Row) (plays asks : Bool) → is_announced p row.note ≡ plays
    → (asks ≡ true → AsksState row) → MayHold p → MayHold (left_after p row plays asks)
row_may_hold p row plays true is none may = none refl
row_may_hold p row true false is none may = play_may_hold p row (plays_after p row.note is) may
row_may_hold p row false false is none may = tt

-- of what says nothing new nothing acts
nothing_held : (p : Pending) (s : Seen) → seen_last p ≡ Some s → MayHold p → held p ≡ []
nothing_held (pending.Answered before asks hears) s is may =
    asks_none asks (hears ∷ []) may.0 ∙ ends_none hears [] may.1
nothing_held _ s is may = cc is

held_with : (p : Pending) (row : Row)
    → held p ++ acting (commands_of_note row.note) ≡ acting (commands_of_rows (rows_left p ++ row ∷ []))
held_with p row =
    ap (λ (l : List Command). held p ++ acting l) (sym (append-nil (commands_of_note row.note)))
    ∙ sym (ap acting (commands_both (rows_left p) (row ∷ []))
    ∙ acting_both (commands_of_rows (rows_left p)) (commands_of_rows (row ∷ [])))

-- what is due, and what is held then, have the command
row_acts : (p : Pending) (row : Row) (says plays asks : Bool) → says_nothing_new p row.note ≡ says
    → is_announced p row.note ≡ plays → MayHold p
    → held p ++ acting (commands_of_note row.note)
    ≡ acting (commands_of_rows (due p row says plays asks)) ++ held (left_after p row plays asks)
row_acts p row true plays true s is may =
    let t = twice (seen_before p) (seen_last p) row.note s in
    ap (λ (l : List Command). l ++ acting (commands_of_note row.note)) (nothing_held p t.seen t.second may)
    ∙ ap acting (sym (append-nil (commands_of_note row.note)))
row_acts p row false plays true s is may =
    ap (λ (l : List Command). held p ++ acting l) (sym (append-nil (commands_of_note row.note)))
row_acts p row says true false s is may =
    let after = plays_after p row.note is in
    held_with p row
    ∙ subst (λ (q : Pending). acting (commands_of_rows (rows_left q ++ row ∷ [])) ≡ held (with_play q row)) (sym after.left) refl
row_acts p row says false false s is may =
    held_with p row ∙ sym (append-nil (acting (commands_of_rows (rows_left p ++ row ∷ []))))

-- it is a front of what is left, and the command
due_front : (p : Pending) (row : Row) (says plays asks : Bool)
    → (more : List Row) × (due p row says plays asks ++ more ≡ rows_left p ++ row ∷ [])
due_front p row true plays true = (rows_left p ++ row ∷ [], refl)
due_front p row false plays true = (row ∷ [], refl)
due_front p row says true false = (rows_left p ++ row ∷ [], refl)
due_front p row says false false = ([], append-nil (rows_left p ++ row ∷ []))

due_torn : (unit count : ℕ) (p : Pending) (row : Row) (says plays asks : Bool) → (rest : List ℕ)
    × (take count (rows_text unit (due p row says plays asks)) ++ rest ≡ rows_text unit (rows_left p ++ row ∷ []))
due_torn unit count p row says plays asks =
    let front = due_front p row says plays asks in
    let text : List ℕ = rows_text unit (due p row says plays asks) in (
      drop count text ++ rows_text unit front.0,
      sym (append_assoc (take count text) (drop count text) (rows_text unit front.0))
          ∙ ap (λ (l : List ℕ). l ++ rows_text unit front.0) (take-append-drop count text)
          ∙ sym (text_both unit (due p row says plays asks) front.0)
          ∙ ap (rows_text unit) front.1,
    )

pub notes_end : {F : Type 0} (safe : F → Option (List ℕ)) (heard : Option Heard) (k l : Recording F)
    → NotesEnd heard k l → Notes safe (end_of heard) k l
notes_end safe None k l n = n
notes_end safe (Some h) k l n = n

-- Chains.

-- what was seen before stands last
record Stands (notes : List Note) (before : Option Seen) : Type 0 where
  front : List Note
  is : notes ≡ front ++ notes_seen before

-- what is told with what is pending, of what was noted before and then this
abbrev Tells : Pending → List Note → List Note → Type 0
Tells p noted told = IsThinned (notes_seen (seen_before p) ++ (notes_in (rows_left p) ++ noted)) (notes_seen (seen_before p) ++ told)

-- these rows are safe in the file since, which have the commands that do more than ask for the state; with what is pending
-- they are all that was noted, but for what says nothing new, if ends and commands alternate
record RowsOf {F : Type 0} (safe : F → Option (List ℕ)) (notes : List Kept) (k m : Recording F) : Type 0 where
  rows : List Row
  appends : Appends (safe k.file) (safe m.file) (rows_text k.unit rows)
  united : m.unit ≡ k.unit
  acts : MayHold k.pending → held k.pending ++ acting (commands_kept notes) ≡ acting (commands_of_rows rows) ++ held m.pending
  holds : MayHold k.pending → MayHold m.pending
  stands : Stands (notes_seen (seen_before k.pending) ++ notes_in rows) (seen_before m.pending)
  tells : Alternates (is_pending k.pending) notes
      → Tells k.pending (map note_for notes) (notes_in (rows ++ rows_left m.pending))

none_more : {F : Type 0} (safe : F → Option (List ℕ)) (k m : Recording F) → m ≡ k → RowsOf safe [] k m
none_more {F} safe k m is = record {
  rows = [];
  appends = subst (λ (x : Recording F). Appends (safe k.file) (safe x.file) []) (sym is) (appends_nothing (safe k.file));
  united = ap (λ (x : Recording F). x.unit) is;
  acts = λ may. append-nil (held k.pending) ∙ ap (λ (x : Recording F). held x.pending) (sym is);
  holds = λ may. subst (λ (x : Recording F). MayHold x.pending) (sym is) may;
  stands = record {
    front = [];
    is = append-nil (notes_seen (seen_before k.pending))
        ∙ ap (λ (x : Recording F). notes_seen (seen_before x.pending)) (sym is);
  };
  tells = λ alternate.
      let before : List Note = notes_seen (seen_before k.pending) in
      let all : List Note = before ++ (notes_in (rows_left k.pending) ++ []) in
      subst (IsThinned all)
      (ap (λ (l : List Note). before ++ l) (append-nil (notes_in (rows_left k.pending)))
      ∙ ap (λ (x : Recording F). before ++ notes_in (rows_left x.pending)) (sym is)) whole;
}

-- what a command makes of what is noted, if it leads to this
abbrev Leads : Pending → Row → Bool → Bool → Bool → List Note → List Note → Type 0
Leads p row says plays asks more told = Tells (left_after p row plays asks) more told
    → Tells p (row.note ∷ more) (notes_in (due p row says plays asks) ++ told)

-- the same was seen twice
again_leads : (p : Pending) (row : Row) (plays : Bool) (more told : List Note) (s : Seen) → seen_before p ≡ Some s
    → seen_last p ≡ Some s → notes_in (rows_left p) ≡ notes_seen (Some s)
    → row.note ≡ note.Sent (command.Status s.asked) → Leads p row true plays true more told
again_leads p row plays more told s before last left asks thin =
    let seen : List Note = notes_seen (Some s) in
    let q : Note = note.Sent (command.Status s.asked) in
    let next : IsThinned (seen ++ (q ∷ more)) (seen ++ told) =
    thinned_as _ _ _ _
    (ap (λ (o : Option Seen). notes_seen o ++ (row.note ∷ more)) last
    ∙ ap (λ (n : Note). seen ++ (n ∷ more)) asks)
    (ap (λ (o : Option Seen). notes_seen o ++ told) last) thin in
    let once : IsThinned (seen ++ (seen ++ (q ∷ more))) (seen ++ (q ∷ more)) =
    without [] more q (note.Heard (heard.Reply (reply.State s.groups (Some s.state)))) refl refl whole in
    thinned_as _ _ _ _
    (ap (λ (n : Note). seen ++ (seen ++ (n ∷ more))) (sym asks)
    ∙ ap (λ (l : List Note). seen ++ (l ++ (row.note ∷ more))) (sym left)
    ∙ ap (λ (o : Option Seen). notes_seen o ++ (notes_in (rows_left p) ++ (row.note ∷ more))) (sym before))
    (ap (λ (o : Option Seen). notes_seen o ++ told) (sym before))
    (thinned_then _ _ _ once next)

-- the state is asked after something else
asks_leads : (p : Pending) (row : Row) (plays : Bool) (more told : List Note)
    → Front (notes_in (rows_left p)) (seen_last p) → Leads p row false plays true more told
asks_leads p row plays more told f thin =
    let before : List Note = notes_seen (seen_before p) in
    let seen : List Note = notes_seen (seen_last p) in
    let joined : (rest : List Note)
    → (before ++ f.front) ++ (seen ++ rest) ≡ before ++ (notes_in (rows_left p) ++ rest) =
    λ rest. append_assoc before f.front (seen ++ rest)
    ∙ ap (λ (l : List Note). before ++ l) (sym (append_assoc f.front seen rest))
    ∙ ap (λ (l : List Note). before ++ (l ++ rest)) (sym f.is) in
    thinned_as _ _ _ _ (joined (row.note ∷ more)) (joined told)
    (thinned_behind (before ++ f.front) _ _ thin)

-- another command
acts_leads : (p : Pending) (row : Row) (says : Bool) (more told : List Note) → Leads p row says false false more told
acts_leads p row says more told thin =
    let before : List Note = notes_seen (seen_before p) in
    let left : List Note = notes_in (rows_left p) in
    let n : Note = row.note in
    let joined : (rest : List Note) → (before ++ (left ++ n ∷ [])) ++ rest ≡ before ++ (left ++ (n ∷ rest)) =
    λ rest. append_assoc before (left ++ n ∷ []) rest
    ∙ ap (λ (l : List Note). before ++ l) (append_assoc left (n ∷ []) rest) in
    thinned_as _ _ _ _ (joined more)
    (joined told ∙ ap (λ (l : List Note). before ++ l)
    (sym (ap (λ (l : List Note). l ++ told) (notes_both (rows_left p) (row ∷ []))
    ∙ append_assoc left (n ∷ []) told)))
    (thinned_behind (before ++ (left ++ n ∷ [])) _ _ thin)

-- a PLAY that is announced
play_leads : (p : Pending) (row : Row) (says : Bool) (more told : List Note) → PlaysAfter p row.note
    → Leads p row says true false more told
play_leads p row says more told a =
    subst (λ (q : Pending). Leads q row says true false more told) (sym a.left) (λ thin. thin)

leads : (p : Pending) (row : Row) (more told : List Note) (says plays asks : Bool) → says_nothing_new p row.note ≡ says
    → is_announced p row.note ≡ plays → Leads p row says plays asks more told
leads p row more told true plays true s is =
    let t = twice (seen_before p) (seen_last p) row.note s in
    again_leads p row plays more told t.seen t.first t.second (left_seen p t.seen t.second) t.asks
leads p row more told false plays true s is =
    asks_leads p row plays more told (front_of (notes_in (rows_left p)) (seen_last p) (left_seen p))
leads p row more told says true false s is = play_leads p row says more told (plays_after p row.note is)
leads p row more told says false false s is = acts_leads p row says more told

-- what stands last then
stands_then : (p : Pending) (row : Row) (says plays asks : Bool) → says_nothing_new p row.note ≡ says
    → is_announced p row.note ≡ plays
    → Stands (notes_seen (seen_before p) ++ notes_in (due p row says plays asks)) (seen_before (left_after p row plays asks))
stands_then p row true plays true s is =
    let t = twice (seen_before p) (seen_last p) row.note s in record {
      front = [];
      is = append-nil (notes_seen (seen_before p)) ∙ ap notes_seen (t.first ∙ sym t.second);
    }
stands_then p row false plays true s is =
    let f = front_of (notes_in (rows_left p)) (seen_last p) (left_seen p) in record {
      front = notes_seen (seen_before p) ++ f.front;
      is = ap (λ (l : List Note). notes_seen (seen_before p) ++ l) f.is
          ∙ sym (append_assoc (notes_seen (seen_before p)) f.front (notes_seen (seen_last p)));
    }
stands_then p row says true false s is = record {
  front = [];
  is = append-nil (notes_seen (seen_before p))
      ∙ subst (λ (q : Pending). notes_seen (seen_before q) ≡ notes_seen (seen_before (with_play q row)))
      (sym (plays_after p row.note is).left) refl;
}
stands_then p row says false false s is = record { front = _; is = sym (append-nil _) }

-- An answer of which more is known.

pub on_ok_both : {T E : Type 0} (r : Result T E) (P Q R : Type 0) → (P → Q → R) → OnOk r P → OnOk r Q → OnOk r R
on_ok_both (Ok x) P Q R f p q = f p q
on_ok_both (Err e) P Q R f p q = tt

pub on_err_both : {T E : Type 0} (r : Result T E) (P R : Type 0) (Q : E → Type 0) → ((e : E) → P → Q e → R)
    → OnErr r P → IfErr r Q → OnErr r R
on_err_both (Ok x) P R Q f p q = tt
on_err_both (Err e) P R Q f p q = f e p q

-- What a recorder does before a command goes out, or a call is given.

pub keeps_row : {F : Type 0} (safe : F → Option (List ℕ)) (one : Note) (row : Row) (old new : Recording F)
    → row.note ≡ one → MakesSafe safe old new (rows_due old.pending row)
    → new ≡ record old { file = new.file; pending = after_row old.pending row } → KeepsRow safe one old new
keeps_row safe one row old new is rows rest =
    subst (λ (n : Note). KeepsRow safe n old new) is (row.time, rows, rest)

pub loses_row : {F : Type 0} (safe : F → Option (List ℕ)) (one : Note) (row : Row) (old new : Recording F)
    (fault : RecordFault) → row.note ≡ one → MakesBeginning safe old new (rows_due old.pending row)
    → new ≡ record old { file = new.file; pending = pending.Failed fault } → LosesRow safe one old new
loses_row safe one row old new fault is rows rest =
    subst (λ (n : Note). LosesRow safe n old new) is (row.time, fault, rows, rest)

-- what does more than ask for the state, and isn't announced
pub acts_due : (p : Pending) (row : Row) → asks_state row.note ≡ false → is_announced p row.note ≡ false
    → rows_due p row ≡ rows_left p ++ row ∷ []
acts_due p row acts unannounced =
    ap (due p row (says_nothing_new p row.note) (is_announced p row.note)) acts
    ∙ ap (λ (plays : Bool). due p row (says_nothing_new p row.note) plays false) unannounced

pub acts_after : (p : Pending) (row : Row) → asks_state row.note ≡ false → is_announced p row.note ≡ false
    → after_row p row ≡ pending.Nothing
acts_after p row acts unannounced =
    ap (left_after p row (is_announced p row.note)) acts
    ∙ ap (λ (plays : Bool). left_after p row plays false) unannounced

-- what is announced
pub announced_due : (p : Pending) (row : Row) → is_announced p row.note ≡ true → rows_due p row ≡ []
announced_due p row is =
    ap (due p row (says_nothing_new p row.note) (is_announced p row.note)) (play_asks_not p row.note is)
    ∙ ap (λ (plays : Bool). due p row (says_nothing_new p row.note) plays false) is

pub announced_after : (p : Pending) (row : Row) → is_announced p row.note ≡ true → after_row p row ≡ with_play p row
announced_after p row is =
    ap (left_after p row (is_announced p row.note)) (play_asks_not p row.note is)
    ∙ ap (λ (plays : Bool). left_after p row plays false) is

pub announced_may_hold : (p : Pending) (row : Row) → is_announced p row.note ≡ true → MayHold p → MayHold (with_play p row)
announced_may_hold p row is may = play_may_hold p row (plays_after p row.note is) may

-- nothing is written for it
pub makes_nothing : {F : Type 0} (safe : F → Option (List ℕ)) (k m : Recording F) → m.file ≡ k.file → MakesSafe safe k m []
makes_nothing {F} safe k m is = subst (λ (f : F). Appends (safe k.file) (safe f) []) (sym is) (appends_nothing (safe k.file))

pub play_kept : {F : Type 0} (safe : F → Option (List ℕ)) (one : Note) (row : Row) (old new : Recording F)
    → row.note ≡ one → is_announced old.pending row.note ≡ true
    → new ≡ record old { pending = with_play old.pending row } → KeepsRow safe one old new
play_kept {F} safe one row old new is announced left =
    let file : new.file ≡ old.file = ap (λ (x : Recording F). x.file) left in
    keeps_row safe one row old new is
    (subst (MakesSafe safe old new) (sym (announced_due old.pending row announced)) (makes_nothing safe old new file))
    (left ∙ ap (λ (f : F). record old { file = f; pending = with_play old.pending row }) (sym file)
    ∙ ap (λ (p : Pending). record old { file = new.file; pending = p }) (sym (announced_after old.pending row announced)))

-- all that is left is written, and the row
pub write_kept : {T E : Type 0} (r : Result T E) {F : Type 0} (safe : F → Option (List ℕ)) (one : Note) (row : Row)
    (old mid new : Recording F) → row.note ≡ one → asks_state row.note ≡ false → is_announced old.pending row.note ≡ false
    → mid ≡ old → OnOk r (MakesSafe safe mid new (rows_left mid.pending ++ row ∷ []))
    → OnOk r (new ≡ record mid { file = new.file; pending = pending.Nothing }) → OnOk r (KeepsRow safe one old new)
write_kept r {F} safe one row old mid new is acts unannounced same =
    subst (λ (m : Recording F). OnOk r (MakesSafe safe m new (rows_left m.pending ++ row ∷ []))
    → OnOk r (new ≡ record m { file = new.file; pending = pending.Nothing }) → OnOk r (KeepsRow safe one old new)) (sym same)
    (λ rows rest. on_ok_both r _ _ _ (λ p q. keeps_row safe one row old new is
    (subst (MakesSafe safe old new) (sym (acts_due old.pending row acts unannounced)) p)
    (q ∙ ap (λ (x : Pending). record old { file = new.file; pending = x }) (sym (acts_after old.pending row acts unannounced))))
    rows rest)

pub write_lost : {T : Type 0} (r : Result T RecordFault) {F : Type 0} (safe : F → Option (List ℕ)) (one : Note) (row : Row)
    (old mid new : Recording F) → row.note ≡ one → asks_state row.note ≡ false → is_announced old.pending row.note ≡ false
    → mid ≡ old → OnErr r (MakesBeginning safe mid new (rows_left mid.pending ++ row ∷ []))
    → IfErr r (λ fault. new ≡ record mid { file = new.file; pending = pending.Failed fault })
    → OnErr r (LosesRow safe one old new)
write_lost r {F} safe one row old mid new is acts unannounced same =
    subst (λ (m : Recording F). OnErr r (MakesBeginning safe m new (rows_left m.pending ++ row ∷ []))
    → IfErr r (λ fault. new ≡ record m { file = new.file; pending = pending.Failed fault })
    → OnErr r (LosesRow safe one old new)) (sym same)
    (λ rows rest. on_err_both r _ _ _ (λ fault p q. loses_row safe one row old new fault is
    (subst (MakesBeginning safe old new) (sym (acts_due old.pending row acts unannounced)) p) q) rows rest)

not_pending : (p : Pending) (row : Row) (plays asks : Bool) → is_announced p row.note ≡ plays
    → is_pending (left_after p row plays asks) ≡ false
not_pending p row plays true is = refl
not_pending p row true false is =
    subst (λ (q : Pending). is_pending (with_play q row) ≡ false) (sym (plays_after p row.note is).left) refl
not_pending p row false false is = refl

-- the acts of one command and of those after it
more_acts : (p q : Pending) (now rows : List Row) (last c more : List Command)
    → held p ++ c ≡ acting (commands_of_rows now) ++ held q → held q ++ more ≡ acting (commands_of_rows rows) ++ last
    → held p ++ (c ++ more) ≡ acting (commands_of_rows (now ++ rows)) ++ last
more_acts p q now rows last c more first next =
    sym (append_assoc (held p) c more)
    ∙ ap (λ (l : List Command). l ++ more) first
    ∙ append_assoc (acting (commands_of_rows now)) (held q) more
    ∙ ap (λ (l : List Command). acting (commands_of_rows now) ++ l) next
    ∙ sym (append_assoc (acting (commands_of_rows now)) (acting (commands_of_rows rows)) last)
    ∙ ap (λ (l : List Command). l ++ last)
    (sym (ap acting (commands_both now rows) ∙ acting_both (commands_of_rows now) (commands_of_rows rows)))

more_stands : (before seen : List Note) (now rows : List Row) (last : Option Seen) → (front : List Note)
    → before ++ notes_in now ≡ front ++ seen → Stands (seen ++ notes_in rows) last
    → Stands (before ++ notes_in (now ++ rows)) last
more_stands before seen now rows last front first next = record {
  front = front ++ next.front;
  is = ap (λ (l : List Note). before ++ l) (notes_both now rows)
      ∙ sym (append_assoc before (notes_in now) (notes_in rows))
      ∙ ap (λ (l : List Note). l ++ notes_in rows) first
      ∙ append_assoc front seen (notes_in rows)
      ∙ ap (λ (l : List Note). front ++ l) next.is
      ∙ sym (append_assoc front next.front (notes_seen last));
}

-- a command or a call
row_more : {F : Type 0} (safe : F → Option (List ℕ)) (one : Kept) (more : List Kept) (k l m : Recording F)
    → acting (commands_kept (one ∷ more)) ≡ acting (commands_of_note (note_for one)) ++ acting (commands_kept more)
    → (Alternates (is_pending k.pending) (one ∷ more) → Alternates false more)
    → KeepsRow safe (note_for one) k l → RowsOf safe more l m → RowsOf safe (one ∷ more) k m
row_more {F} safe one more k l m parts goes n r =
    let row : Row = record { time = n.0; note = note_for one } in
    let p : Pending = k.pending in
    let now : List Row = rows_due p row in
    let left : l.pending ≡ after_row p row = ap (λ (x : Recording F). x.pending) n.2 in
    let same : l.unit ≡ k.unit = ap (λ (x : Recording F). x.unit) n.2 in
    let may : MayHold k.pending → MayHold l.pending = λ may.
    subst MayHold (sym left) (row_may_hold p row (is_announced p row.note) (asks_state row.note) refl (λ asks. asks) may) in
    let next_stands = stands_then p row (says_nothing_new p row.note) (is_announced p row.note) (asks_state row.note) refl refl in
    record {
      rows = now ++ r.rows;
      appends = subst (λ (b : List ℕ). Appends (safe k.file) (safe m.file) b)
          (ap (λ (u : ℕ). rows_text k.unit now ++ rows_text u r.rows) same ∙ sym (text_both k.unit now r.rows))
          (appends_both (safe k.file) (safe l.file) (safe m.file) (rows_text k.unit now) (rows_text l.unit r.rows) n.1
          r.appends);
      united = r.united ∙ same;
      acts = λ is.
          ap (λ (l : List Command). held p ++ l) parts
          ∙ more_acts p (after_row p row) now r.rows (held m.pending) (acting (commands_of_note (note_for one))) (acting (commands_kept more))
          (row_acts p row (says_nothing_new p row.note) (is_announced p row.note) (asks_state row.note) refl refl is)
          (subst (λ (q : Pending). held q ++ acting (commands_kept more) ≡ acting (commands_of_rows r.rows) ++ held m.pending)
          left (r.acts (may is)));
      holds = λ is. r.holds (may is);
      stands = more_stands (notes_seen (seen_before p)) (notes_seen (seen_before (after_row p row))) now r.rows
          (seen_before m.pending) next_stands.front next_stands.is
          (subst (λ (q : Pending). Stands (notes_seen (seen_before q) ++ notes_in r.rows) (seen_before m.pending)) left
          r.stands);
      tells = λ alternate.
          let told : List Note = notes_in (r.rows ++ rows_left m.pending) in
          let next : Tells (after_row p row) (map note_for more) told =
          subst (λ (q : Pending). Tells q (map note_for more) told) left
          (r.tells (subst (λ (b : Bool). Alternates b more)
          (sym (ap is_pending left ∙ not_pending p row (is_announced p row.note) (asks_state row.note) refl)) (goes alternate))) in
          subst (IsThinned (notes_seen (seen_before p) ++ (notes_in (rows_left p) ++ (note_for one ∷ map note_for more))))
          (ap (λ (l : List Note). notes_seen (seen_before p) ++ l)
          (sym (ap notes_in (append_assoc now r.rows (rows_left m.pending))
          ∙ notes_both now (r.rows ++ rows_left m.pending))))
          (leads p row (map note_for more) told (says_nothing_new p row.note) (is_announced p row.note)
          (asks_state row.note) refl refl next);
    }

call_parts : (c : Call) (more : List Kept)
    → acting (commands_kept (kept.Called c ∷ more)) ≡ acting (commands_of_note (call_note c)) ++ acting (commands_kept more)
call_parts call.Take more = refl
call_parts call.Stop more = refl
call_parts (call.List l) more = refl

-- an end comes if none is pending
end_tells : (p : Pending) (heard : Option Heard) (time : Moment) (more : List Kept) (told : List Note)
    → Alternates (is_pending p) (end_of heard ∷ more)
    → (Alternates (is_pending (ended p (record { time = time; note = end_note heard }))) more
    → Tells (ended p (record { time = time; note = end_note heard })) (map note_for more) told)
    → Tells p (map note_for (end_of heard ∷ more)) told
end_tells pending.Nothing None time more told alternate tells = tells alternate
end_tells pending.Nothing (Some h) time more told alternate tells = tells alternate
end_tells (pending.Asked before asks) None time more told alternate tells = tells alternate
end_tells (pending.Asked before asks) (Some h) time more told alternate tells = tells alternate
end_tells (pending.Played before asks hears plays) None time more told alternate tells = tells alternate
end_tells (pending.Played before asks hears plays) (Some h) time more told alternate tells = tells alternate
end_tells p None time more told alternate tells = absurd alternate
end_tells p (Some h) time more told alternate tells = absurd alternate

end_more : {F : Type 0} (safe : F → Option (List ℕ)) (heard : Option Heard) (more : List Kept) (k l m : Recording F)
    → NotesEnd heard k l → RowsOf safe more l m → RowsOf safe (end_of heard ∷ more) k m
end_more {F} safe heard more k l m n r =
    let row : Row = record { time = n.0; note = end_note heard } in
    let left : l.pending ≡ ended k.pending row = ap (λ (x : Recording F). x.pending) n.1 in
    let same : l.unit ≡ k.unit = ap (λ (x : Recording F). x.unit) n.1 in
    let stays : l.file ≡ k.file = ap (λ (x : Recording F). x.file) n.1 in
    let may : MayHold k.pending → MayHold l.pending = λ is.
    subst MayHold (sym left) (ended_may_hold k.pending row (end_note_ends heard n.0) is) in record {
      rows = r.rows;
      appends = subst (λ (f : F). Appends (safe f) (safe m.file) (rows_text k.unit r.rows)) stays
          (subst (λ (u : ℕ). Appends (safe l.file) (safe m.file) (rows_text u r.rows)) same r.appends);
      united = r.united ∙ same;
      acts = λ is.
          ap (λ (l : List Command). held k.pending ++ acting l) (end_no_command heard more)
          ∙ ap (λ (l : List Command). l ++ acting (commands_kept more))
          (sym (ap held left ∙ held_ended k.pending row (end_note_ends heard n.0) is))
          ∙ r.acts (may is);
      holds = λ is. r.holds (may is);
      stands = subst (λ (o : Option Seen). Stands (notes_seen o ++ notes_in r.rows) (seen_before m.pending))
          (ap seen_before left ∙ seen_ended k.pending row) r.stands;
      tells = λ alternate.
          let told : List Note = notes_in (r.rows ++ rows_left m.pending) in
          end_tells k.pending heard n.0 more told alternate
          (subst (λ (q : Pending). Alternates (is_pending q) more → Tells q (map note_for more) told) left r.tells);
    }

rows_of : {F : Type 0} (safe : F → Option (List ℕ)) (notes : List Kept) (k m : Recording F)
    → Chain (Notes safe) notes k m → RowsOf safe notes k m
rows_of safe [] k m chain = none_more safe k m chain
rows_of safe (kept.Sent c ∷ more) k m chain =
    row_more safe (kept.Sent c) more k chain.0 m (acting_both (c ∷ []) (commands_kept more)) (λ h. h) chain.1
    (rows_of safe more chain.0 m chain.2)
rows_of safe (kept.Called c ∷ more) k m chain =
    row_more safe (kept.Called c) more k chain.0 m (call_parts c more) (λ h. h) chain.1
    (rows_of safe more chain.0 m chain.2)
rows_of safe (kept.Heard h ∷ more) k m chain =
    end_more safe (Some h) more k chain.0 m chain.1 (rows_of safe more chain.0 m chain.2)
rows_of safe (kept.Silence ∷ more) k m chain =
    end_more safe None more k chain.0 m chain.1 (rows_of safe more chain.0 m chain.2)

-- Runs.

-- of what is left only a PLAY acts
may_be_left : (q : Pending) (notes : List Note) → Stands notes (seen_before q) → MayHold q → MayBeLeft notes (held q)
may_be_left pending.Nothing notes stands may = inl refl
may_be_left (pending.End row) notes stands may = inl (ends_none row [] may)
may_be_left (pending.Asked before asks) notes stands may = inl (asks_none asks [] may)
may_be_left (pending.Answered before asks hears) notes stands may =
    inl (asks_none asks (hears ∷ []) may.0 ∙ ends_none hears [] may.1)
may_be_left (pending.Played before asks hears plays) notes stands may = inr (
  asks_none asks (hears ∷ plays ∷ []) may.2
      ∙ ends_none hears (plays ∷ []) may.3
      ∙ ap (λ (n : Note). acting (commands_of_note n ++ [])) may.1,
  record {
    before = stands.front;
    asks = note.Sent (command.Status before.asked);
    hears = note.Heard (heard.Reply (reply.State before.groups (Some before.state)));
    end_so = stands.is;
    asked = refl;
    waiting = may.0;
  },
)
may_be_left (pending.Over before asks hears plays row) notes stands may = inr (
  asks_none asks (hears ∷ plays ∷ row ∷ []) may.2
      ∙ ends_none hears (plays ∷ row ∷ []) may.3
      ∙ acting_rows plays (row ∷ [])
      ∙ ap (λ (l : List Command). acting (commands_of_note plays.note) ++ l) (ends_none row [] may.4)
      ∙ ap (λ (n : Note). acting (commands_of_note n) ++ []) may.1,
  record {
    before = stands.front;
    asks = note.Sent (command.Status before.asked);
    hears = note.Heard (heard.Reply (reply.State before.groups (Some before.state)));
    end_so = stands.is;
    asked = refl;
    waiting = may.0;
  },
)
may_be_left (pending.Failed f) notes stands may = inl refl

-- ends and commands alternate if nothing was awaited before
shown : {E W K : Type 0} (adds loses : Kept → K → K → Type 0) (told : W → Option Told)
    (fold : Fold E) (plan : Plan) (unit : ℕ) (a a' : Auto E) (wire wire' : W) (answer : Result Ran BrokenOff) (k m : K)
    (events : List Event) (notes : List Kept)
    → KeepsRun adds loses told fold plan unit a a' wire wire' answer k m events notes
    → (b : Bool) → awaited plan a.state ≡ None → Alternates b notes
shown adds loses told fold plan unit a a' wire wire' answer k m events notes n b none =
    calls_alternate b notes
    (subst (Alternates b) (sym (ap (λ (c : Option Command). map kept.Sent (option_to_list c) ++ exchanged notes) (sym none)
    ∙ n.shows)) (notes_alternate b plan (log_of fold plan unit a events) a'.state answer))

-- what rows have, with nothing behind them
has_rows : {F : Type 0} (safe : F → Option (List ℕ)) (notes : List Kept) (k m : Recording F) → MayHold k.pending
    → (r : RowsOf safe notes k m) → HasSafe safe k m (commands_kept notes) r.rows []
has_rows safe notes k m none r = record {
  safe_since = subst (λ (b : List ℕ). Appends (safe k.file) (safe m.file) b) (sym (append-nil (rows_text k.unit r.rows)))
      r.appends;
  left = held m.pending;
  kept = r.acts none;
  unkept = may_be_left m.pending _ r.stands (r.holds none);
}

pub rows_at : {F : Type 0} (safe : F → Option (List ℕ)) (notes : List Kept) (k m : Recording F) → MayHold k.pending
    → Chain (Notes safe) notes k m → (rows : List Row) × HasSafe safe k m (commands_kept notes) rows []
rows_at safe notes k m none chain =
    let r = rows_of safe notes k m chain in (r.rows, has_rows safe notes k m none r)

-- what waits behind them
waits_so : {F : Type 0} (safe : F → Option (List ℕ)) (notes : List Kept) (k m : Recording F) → MayHold k.pending
    → (r : RowsOf safe notes k m) → Alternates (is_pending k.pending) notes → WaitsSince k.pending notes r.rows m.pending
waits_so safe notes k m none r alternate =
    let before : List Note = notes_seen (seen_before k.pending) in record {
      holds = r.holds none;
      front = r.stands.front;
      stands = r.stands.is;
      thinned = subst (IsThinned (before ++ (notes_in (rows_left k.pending) ++ map note_for notes)))
          (ap (λ (l : List Note). before ++ l) (notes_both r.rows (rows_left m.pending))
          ∙ sym (append_assoc before (notes_in r.rows) (notes_in (rows_left m.pending))))
          (r.tells alternate);
    }

-- and a beginning of what was noted
alternates_first : (b : Bool) (some more : List Kept) → Alternates b (some ++ more) → Alternates b some
alternates_first b [] more h = tt
alternates_first b (kept.Sent c ∷ some) more h = alternates_first false some more h
alternates_first b (kept.Called c ∷ some) more h = alternates_first false some more h
alternates_first false (kept.Heard x ∷ some) more h = alternates_first true some more h
alternates_first false (kept.Silence ∷ some) more h = alternates_first true some more h
alternates_first true (kept.Heard x ∷ some) more h = absurd h
alternates_first true (kept.Silence ∷ some) more h = absurd h

pub waits_at : {E W F : Type 0} (safe : F → Option (List ℕ)) (told : W → Option Told) (fold : Fold E) (plan : Plan)
    (unit : ℕ) (a a' : Auto E) (wire wire' : W) (answer : Result Ran BrokenOff) (k m l : Recording F) (events : List Event)
    (some more : List Kept) → MayHold k.pending → awaited plan a.state ≡ None
    → KeepsRun (Notes safe) (Loses safe) told fold plan unit a a' wire wire' answer k m events (some ++ more)
    → Chain (Notes safe) some k l
    → (rows : List Row) × HasSafe safe k l (commands_kept some) rows [] × WaitsSince k.pending some rows l.pending
waits_at safe told fold plan unit a a' wire wire' answer k m l events some more none idle n chain =
    let r = rows_of safe some k l chain in (
      r.rows,
      has_rows safe some k l none r,
      waits_so safe some k l none r (alternates_first (is_pending k.pending) some more
          (shown (Notes safe) (Loses safe) told fold plan unit a a' wire wire' answer k m events (some ++ more) n
          (is_pending k.pending) idle)),
    )

-- if each command was kept
whole_run : {E W F : Type 0} (safe : F → Option (List ℕ)) (told : W → Option Told) (fold : Fold E) (plan : Plan)
    (unit : ℕ) (a a' : Auto E) (wire wire' : W) (answer : Result Ran BrokenOff) (k m : Recording F)
    (events : List Event) (notes : List Kept)
    → KeepsRun (Notes safe) (Loses safe) told fold plan unit a a' wire wire' answer k m events notes
    → MayHold k.pending → Chain (Notes safe) notes k m
    → IsTornBy answer k.unit (rows_left m.pending) []
    → IsRecorded safe told fold plan unit a a' wire wire' answer k m events notes
whole_run safe told fold plan unit a a' wire wire' answer k m events notes n none chain untorn =
    let r = rows_of safe notes k m chain in record {
      rows = r.rows;
      last = m.pending;
      torn = [];
      torn_by = untorn;
      commands = commands_kept notes;
      sends = n.sends;
      has = has_rows safe notes k m none r;
      waits = r.holds none;
      comes = n.comes;
      shows = λ idle. waits_so safe notes k m none r
          (shown (Notes safe) (Loses safe) told fold plan unit a a' wire wire' answer k m events notes n (is_pending k.pending) idle);
    }

-- if the next one couldn't be kept
lost_run : {E W F : Type 0} (safe : F → Option (List ℕ)) (told : W → Option Told) (fold : Fold E) (plan : Plan)
    (unit : ℕ) (a a' : Auto E) (wire wire' : W) (k l m : Recording F) (one : Kept) (events : List Event)
    (notes : List Kept)
    → KeepsRun (Notes safe) (Loses safe) told fold plan unit a a' wire wire' (Err fault.Unkept) k m events notes
    → MayHold k.pending → Chain (Notes safe) notes k l → Loses safe one l m
    → IsRecorded safe told fold plan unit a a' wire wire' (Err fault.Unkept) k m events notes
lost_run {F = F} safe told fold plan unit a a' wire wire' k l m one events notes n none chain lost =
    let r = rows_of safe notes k l chain in
    let row : Row = record { time = lost.0; note = note_for one } in
    let text : List ℕ = rows_text l.unit (rows_due l.pending row) in
    let torn = due_torn l.unit lost.2.0 l.pending row (says_nothing_new l.pending row.note) (is_announced l.pending row.note)
    (asks_state row.note) in
    record {
      rows = r.rows;
      last = l.pending;
      torn = take lost.2.0 text;
      torn_by = (
        row,
        torn.0,
        torn.1 ∙ ap (λ (u : ℕ). rows_text u (rows_left l.pending ++ row ∷ [])) r.united,
      );
      commands = commands_kept notes;
      sends = n.sends;
      has = record {
        safe_since = appends_both (safe k.file) (safe l.file) (safe m.file) (rows_text k.unit r.rows)
            (take lost.2.0 text) r.appends lost.2.1;
        left = held l.pending;
        kept = r.acts none;
        unkept = may_be_left l.pending _ r.stands (r.holds none);
      };
      waits = subst MayHold (sym (ap (λ (x : Recording F). x.pending) lost.3)) tt;
      comes = n.comes;
      shows = λ idle. waits_so safe notes k l none r
          (shown (Notes safe) (Loses safe) told fold plan unit a a' wire wire' (Err fault.Unkept) k m events notes n
          (is_pending k.pending) idle);
    }

-- what is kept in a run is recorded
pub run_is_recorded : {E W F : Type 0} (safe : F → Option (List ℕ)) (told : W → Option Told) (fold : Fold E) (plan : Plan)
    (unit : ℕ) (a a' : Auto E) (wire wire' : W) (answer : Result Ran BrokenOff) (k m : Recording F) (events : List Event)
    (notes : List Kept) → MayHold k.pending
    → KeepsRun (Notes safe) (Loses safe) told fold plan unit a a' wire wire' answer k m events notes
    → IsRecorded safe told fold plan unit a a' wire wire' answer k m events notes
run_is_recorded safe told fold plan unit a a' wire wire' (Err fault.Unkept) k m events notes none n =
    lost_run safe told fold plan unit a a' wire wire' k n.noted.0 m n.noted.1 events notes n none n.noted.2 n.noted.3
run_is_recorded safe told fold plan unit a a' wire wire' answer k m events notes none n =
    whole_run safe told fold plan unit a a' wire wire' answer k m events notes n none n.noted refl
