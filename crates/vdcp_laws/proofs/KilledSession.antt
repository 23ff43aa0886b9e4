-- A session that was killed leaves rows that are safe of joined ends.
use Rattle.std.proofs.Common.{ℕ, ◌≡◌, Bool, true, false, List, [], ◌∷◌, ◌++◌, map, refl, sym, ap, ap₂, ◌∙◌, append_assoc, append-nil}
use Rattle.std.proofs.lemmas.List.{map-append}
use Rattle.std.specs.Option.{option_map_or, option_to_list}
use Rattle.std.specs.Prelude.{Option, None, Some, if◌then◌else◌}
use Rattle.vdcp_value.specs.declared.part.Item.{Item}
use Rattle.vdcp_words.specs.declared.command.Command.{Command}
use Rattle.vdcp_words.specs.declared.command.Command.TheVariants as command
use Rattle.vdcp_port.specs.Clock.{ClockedPort}
use Rattle.vdcp_auto.specs.Plan.{Plan}
use Rattle.vdcp_auto.specs.Turn.{given}
use Rattle.vdcp_journal.specs.Thinned.{IsThinned, before_play, notes_in, takes, whole, without}
use Rattle.vdcp_journal.specs.declared.row.Note.{Note}
use Rattle.vdcp_journal.specs.declared.row.Note.TheVariants as note
use Rattle.vdcp_journal.specs.declared.row.Row.{Row}
use Rattle.vdcp_wire.specs.Acts.{Act}
use Rattle.vdcp_drive.specs.Auto.{AreMade, Event}
use Rattle.vdcp_drive.specs.Hearing.{at_once}
use Rattle.vdcp_drive.specs.Steps.{Step, given_notes, steps_of}
use Rattle.vdcp_drive.specs.Traces.{acts_in, bytes_of, kept_in, sent_in}
use Rattle.vdcp_drive.specs.declared.hooks.Kept.{Kept}
use Rattle.vdcp_drive.specs.declared.hooks.Kept.TheVariants as kept
use Rattle.vdcp_journal_file.specs.Recorded.{WaitsSince, is_end, note_for}
use Rattle.vdcp_journal_file.specs.Recording.{notes_seen, rows_left, seen_before}
use Rattle.vdcp_journal_file.specs.declared.pending.Pending.{Pending}
use Rattle.vdcp_laws.specs.Carried.{MayGive, driver_of, next, nothing}
use Rattle.vdcp_laws.specs.Mended.{AreOfJoined, AreRejoined}
use Rattle.vdcp_laws.specs.OneConnection.{ends_by}
use Rattle.vdcp_laws.specs.TwoEnds.{CanJoin, Ends, aired_now, port_now}
use Rattle.vdcp_laws.proofs.Bytes.{none_before}
use Rattle.vdcp_laws.proofs.Carrying.{sent_both}
use Rattle.vdcp_laws.proofs.Mended.{Below}
use Rattle.vdcp_laws.proofs.Unwritten.{Sends, before_last, last_behind, last_mapped, last_of, no_end, unheard, with_last}
use Rattle.vdcp_laws.proofs.Waiting.{heard_since, is_safe}

-- The last note is the last of the rows that were written or wait.

thinned_last : (all rows : List Note) → IsThinned all rows → last_of all ≡ last_of rows
thinned_last all _ whole = refl
thinned_last all _ (without before after asks hears a h thin) =
    thinned_last all _ thin
    ∙ last_behind before asks (hears ∷ asks ∷ hears ∷ asks ∷ after)
    ∙ sym (last_behind before asks (hears ∷ asks ∷ after))
thinned_last all _ (before_play before after took asks hears free a h f thin) =
    thinned_last all _ thin
    ∙ last_behind before asks (takes took ++ (hears ∷ note.Sent command.Play ∷ after))
    ∙ last_behind (asks ∷ takes took) hears (note.Sent command.Play ∷ after)
    ∙ sym (last_behind before asks (free ∷ note.Sent command.Play ∷ after))

since_by : (rest : List Row) (n : Note) → last_of (notes_in rest) ≡ Some n
    → heard_since rest ≡ (if is_end n then n ∷ [] else [])
since_by [] n is = cc is
since_by (row ∷ []) n is = ap (λ (o : Option Note). option_map_or (λ (m : Note). if is_end m then m ∷ [] else []) o []) is
since_by (row ∷ later ∷ rows) n is = since_by (later ∷ rows) n is

-- what a kill loses is the last of what was noted, if that ended an exchange, or nothing
lost_by : (before waits : Pending) (first last : Kept) (more : List Kept) (written part rest : List Row)
    → WaitsSince before (first ∷ more) written waits → rows_left waits ≡ part ++ rest
    → last_of (first ∷ more) ≡ Some last → (row : Row) (rows : List Row) → rest ≡ row ∷ rows
    → heard_since rest ≡ (if is_end (note_for last) then note_for last ∷ [] else [])
lost_by before waits first last more written part rest w split is row rows there =
    let seen : List Note = notes_seen (seen_before before) in
    let old : List Note = notes_in (rows_left before) in
    let new : List Note = map note_for (first ∷ more) in
    let front : List Note = seen ++ notes_in written in
    since_by rest (note_for last)
    (ap (λ (l : List Row). last_of (notes_in l)) there
    ∙ sym (last_behind (front ++ notes_in part) row.note (notes_in rows))
    ∙ ap last_of (append_assoc front (notes_in part) (notes_in (row ∷ rows))
    ∙ ap (λ (l : List Note). front ++ l) (sym (map-append (λ (r : Row). r.note) part (row ∷ rows))
    ∙ ap (λ (l : List Row). notes_in (part ++ l)) (sym there) ∙ ap notes_in (sym split)))
    ∙ sym (thinned_last (seen ++ (old ++ new)) (front ++ notes_in (rows_left waits)) w.thinned)
    ∙ ap last_of (sym (append_assoc seen old new))
    ∙ last_behind (seen ++ old) (note_for first) (map note_for more)
    ∙ last_mapped note_for (first ∷ more) last is)

record Some_of (notes : List Kept) : Type 0 where
  last : Kept
  is : last_of notes ≡ Some last

some_of : (first : Kept) (more : List Kept) → Some_of (first ∷ more)
some_of first [] = record { last = first; is = refl }
some_of first (second ∷ more) = let s = some_of second more in record { last = s.last; is = s.is }

-- a command that was kept is no end of an exchange
given_last : (plan : Plan) (unit : ℕ) (now last : Ends) (noted rows : List Kept) (out : List Act) (k : Kept)
    → MayGive plan unit now rows out last → last_of (noted ++ rows) ≡ Some k → is_end (note_for k) ≡ true
    → (rows ≡ []) × (sent_in out ≡ [])
given_last plan unit now last noted _ _ k nothing is ends = (refl, refl)
given_last plan unit now last noted _ _ k (next out unsent none part) is ends = by (given plan now.automation.state) refl where
  by : (o : Option Command) → given plan now.automation.state ≡ o
      → (given_notes (given plan now.automation.state) ≡ []) × (sent_in out ≡ [])
  by None so = (
    ap given_notes so,
    none_before (sent_in out) unsent (sym (ap (λ (o : Option Command). bytes_of unit (option_to_list o)) so) ∙ part),
  )
  by (Some c) so =
      let last_so : Some (kept.Sent c) ≡ Some k =
      sym (last_behind noted (kept.Sent c) []) ∙ ap (λ (o : Option Command). last_of (noted ++ given_notes o)) (sym so) ∙ is in
      absurd (no_end (kept.Sent c) k refl last_so ends)

-- Where a kill leaves the ends: these are joined, with this port and what aired, and these notes came to theirs.

pub record LeftBy (plan : Plan) (port : ClockedPort) (asked : List Command) (left : ClockedPort) (aired : List Item)
    (notes : List Note) (kept : List Kept) : Type 0 where
  pub ends : Ends
  pub joined : AreRejoined plan port asked ends
  pub port_is : port_now ends ≡ left
  pub aired_are : aired_now ends ≡ aired
  pub notes_are : ends.notes ≡ notes ++ map note_for kept

abbrev pub steps_at : Plan → ClockedPort → Ends → List Event → List Step
steps_at plan port now events = steps_of at_once plan port.state.unit (driver_of now.automation) events

-- after whatever events the wire's acts are those of
abbrev pub Kills : Plan → ClockedPort → List Command → ClockedPort → List Item → (e now : Ends) → (first all : List Act) → Type 0
Kills plan port asked left aired e now first all =
    (events : List Event) (rows : List Kept) (out since : List Act) (last : Ends)
    → AreMade at_once plan port.state.unit (driver_of now.automation) events
    → MayGive plan port.state.unit (ends_by plan port.state.unit now events) rows out last → sent_in since ≡ []
    → all ≡ first ++ (acts_in (steps_at plan port now events) ++ (out ++ since))
    → LeftBy plan port asked left aired e.notes (kept_in (steps_at plan port now events) ++ rows)

module _ (below : Below) (sends : Sends) (plan : Plan) (port : ClockedPort) (asked : List Command) (left : ClockedPort)
    (aired : List Item) (e now : Ends) (first all : List Act) (kills : Kills plan port asked left aired e now first all)
    (can : CanJoin plan port asked) (before waits : Pending) (earlier written part rest : List Row)
    (thin : IsThinned e.notes (notes_in (earlier ++ rows_left before))) (unseen : seen_before before ≡ None) where
  safe_of : (noted kept : List Kept) → WaitsSince before noted written waits → rows_left waits ≡ part ++ rest
      → (by : LeftBy plan port asked left aired e.notes kept) → map note_for noted ≡ map note_for kept ++ heard_since rest
      → AreOfJoined plan port asked left aired ((earlier ++ written) ++ part)
  safe_of noted kept w split by is = record {
    ends = by.ends;
    joined = by.joined;
    port_is = by.port_is;
    aired_are = by.aired_are;
    safe = is_safe below plan port asked by.ends before waits earlier written part rest e.notes noted can by.joined thin
        unseen w split (ap (λ (l : List Note). l ++ heard_since rest) by.notes_are
        ∙ append_assoc e.notes (map note_for kept) (heard_since rest)
        ∙ ap (λ (l : List Note). e.notes ++ l) (sym is));
  }

  -- nothing is lost
  all_safe : (events : List Event) (rows : List Kept) (out since : List Act) (last : Ends) (noted : List Kept)
      → AreMade at_once plan port.state.unit (driver_of now.automation) events
      → MayGive plan port.state.unit (ends_by plan port.state.unit now events) rows out last → sent_in since ≡ []
      → all ≡ first ++ (acts_in (steps_at plan port now events) ++ (out ++ since))
      → kept_in (steps_at plan port now events) ++ rows ≡ noted → WaitsSince before noted written waits
      → rows_left waits ≡ part ++ rest → heard_since rest ≡ [] → AreOfJoined plan port asked left aired ((earlier ++ written) ++ part)
  all_safe events rows out since last noted made may unsent acts kept w split none =
      safe_of noted (kept_in (steps_at plan port now events) ++ rows) w split (kills events rows out since last made may unsent acts)
      (ap (map note_for) (sym kept) ∙ sym (append-nil (map note_for (kept_in (steps_at plan port now events) ++ rows)))
      ∙ ap (λ (l : List Note). map note_for (kept_in (steps_at plan port now events) ++ rows) ++ l) (sym none))

  -- what was heard last is
  but_the_last : (events : List Event) (rows : List Kept) (out since : List Act) (last : Ends) (noted : List Kept) (k : Kept)
      → AreMade at_once plan port.state.unit (driver_of now.automation) events
      → MayGive plan port.state.unit (ends_by plan port.state.unit now events) rows out last → sent_in since ≡ []
      → all ≡ first ++ (acts_in (steps_at plan port now events) ++ (out ++ since))
      → kept_in (steps_at plan port now events) ++ rows ≡ noted → WaitsSince before noted written waits
      → rows_left waits ≡ part ++ rest → last_of noted ≡ Some k → is_end (note_for k) ≡ true
      → heard_since rest ≡ note_for k ∷ [] → AreOfJoined plan port asked left aired ((earlier ++ written) ++ part)
  but_the_last events rows out since last noted k made may unsent acts kept w split is ends lost =
      let steps : List Step = steps_at plan port now events in
      let given_so = given_last plan port.state.unit (ends_by plan port.state.unit now events) last (kept_in steps) rows out k may
      (ap last_of kept ∙ is) ends in
      let all_kept : kept_in steps ≡ noted =
      sym (append-nil (kept_in steps)) ∙ ap (λ (l : List Kept). kept_in steps ++ l) (sym given_so.0) ∙ kept in
      let u = unheard sends plan port.state.unit (driver_of now.automation) now events k refl made (ap last_of all_kept ∙ is) ends in
      let had : List Act = acts_in (steps_at plan port now u.before) in
      let later : List Act = out ++ since in
      safe_of noted (kept_in (steps_at plan port now u.before) ++ u.rows) w split
      (kills u.before u.rows u.out (u.since ++ later) u.last u.made u.gives
      (sent_both u.since later ∙ ap₂ (λ (x y : List ℕ). x ++ y) u.unsent
      (sent_both out since ∙ ap₂ (λ (x y : List ℕ). x ++ y) given_so.1 unsent))
      (acts ∙ ap (λ (l : List Act). first ++ l) (ap (λ (l : List Act). l ++ later) u.acts_are
      ∙ append_assoc had (u.out ++ u.since) later
      ∙ ap (λ (l : List Act). had ++ l) (append_assoc u.out u.since later))))
      (ap (map note_for) (with_last noted k is)
      ∙ map-append note_for (before_last noted) (k ∷ [])
      ∙ ap₂ (λ (l m : List Note). l ++ m) (ap (λ (l : List Kept). map note_for (before_last l)) (sym all_kept)
      ∙ ap (map note_for) (sym u.kept_is)) (sym lost))

  pub is_left_safe : (events : List Event) (rows : List Kept) (out since : List Act) (last : Ends) (one : Kept) (more : List Kept)
      → AreMade at_once plan port.state.unit (driver_of now.automation) events
      → MayGive plan port.state.unit (ends_by plan port.state.unit now events) rows out last → sent_in since ≡ []
      → all ≡ first ++ (acts_in (steps_at plan port now events) ++ (out ++ since))
      → kept_in (steps_at plan port now events) ++ rows ≡ one ∷ more → WaitsSince before (one ∷ more) written waits
      → rows_left waits ≡ part ++ rest → AreOfJoined plan port asked left aired ((earlier ++ written) ++ part)
  is_left_safe events rows out since last one more made may unsent acts kept w split = by rest refl where
    k : Some_of (one ∷ more)
    k = some_of one more

    by_end : (b : Bool) → is_end (note_for k.last) ≡ b → (row : Row) (later : List Row) → rest ≡ row ∷ later
        → AreOfJoined plan port asked left aired ((earlier ++ written) ++ part)
    by_end true ends row later there =
        but_the_last events rows out since last (one ∷ more) k.last made may unsent acts kept w split k.is ends
        (lost_by before waits one k.last more written part rest w split k.is row later there
        ∙ ap (λ (b : Bool). if b then note_for k.last ∷ [] else []) ends)
    by_end false ends row later there =
        all_safe events rows out since last (one ∷ more) made may unsent acts kept w split
        (lost_by before waits one k.last more written part rest w split k.is row later there
        ∙ ap (λ (b : Bool). if b then note_for k.last ∷ [] else []) ends)

    by : (rows_then : List Row) → rest ≡ rows_then → AreOfJoined plan port asked left aired ((earlier ++ written) ++ part)
    by [] none = all_safe events rows out since last (one ∷ more) made may unsent acts kept w split (ap heard_since none)
    by (row ∷ later) there = by_end (is_end (note_for k.last)) refl row later there
