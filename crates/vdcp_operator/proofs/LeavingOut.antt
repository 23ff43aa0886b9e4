-- What spans leave out.
use Rattle.std.proofs.Common.{◌≡◌, ◌<◌, ◌≤◌, ◌+◌, ◌-◌, inl, inr, ℕ, zero, suc, Bool, true, false, Option, None, Some, List, [], ◌∷◌, refl, subst, sym, ap, ◌∙◌, cond, arith}
use Rattle.std.proofs.lemmas.Bool.{and_from, and_parts, cases_Bool, cases_lt, eq-eqb, eqb-false, eqb-true, le-leb, leb-false, leb-true, lt-leb, lt-ltb, ltb-false, ltb-true, or_cases, or_left, or_right, true≢false}
use Rattle.std.specs.List.{find, list_all, list_any, range_with_len}
use Rattle.std.specs.Option.{option_or}
use Rattle.std.specs.Prelude.{◌&&◌, ◌||◌, length, if◌then◌else◌, is_some, nat_eq, nat_le, nat_lt, not}
use Rattle.vdcp_operator.specs.LeftOut.{Adds, IsNextKept, LeavesOutAhead, adding, fault_at, fixed_fault, has, has_no_other, has_room, is_left_out, is_replaceable, joined, jump_fault_at, last_fault, merged, only, past_fault, room_fault, skip_fault_at, touches, unless, up_to}
use Rattle.vdcp_auto.specs.declared.list_call.ListCall.TheVariants as list_call
use Rattle.vdcp_drive.specs.declared.hooks.Call.{Call}
use Rattle.vdcp_drive.specs.declared.hooks.Call.TheVariants as call
use Rattle.vdcp_operator.specs.OnList.{list_called}
use Rattle.vdcp_operator.specs.Waiting.{call_at, call_or_none, first_call, skipping}
use Rattle.vdcp_operator.specs.declared.ahead.Ahead.{Ahead}
use Rattle.vdcp_operator.specs.declared.ahead.Cued.TheVariants as cues
use Rattle.vdcp_operator.specs.declared.left_out.CallFault.{CallFault}
use Rattle.vdcp_operator.specs.declared.left_out.CallFault.TheVariants as faults
use Rattle.vdcp_operator.specs.declared.left_out.LeftOut.{LeftOut}
use Rattle.vdcp_operator.specs.declared.left_out.Span.{Span}
use Rattle.vdcp_operator.specs.declared.on_list.OnList.{OnList}
use Rattle.vdcp_operator.specs.declared.typed.Said.{Said}
use Rattle.vdcp_operator.specs.declared.typed.Said.TheVariants as said

abbrev pub any : List Span → ℕ → Bool
any spans k = list_any (λ span. has span k) spans

abbrev pub first_with : List Span → ℕ → Option Span
first_with spans k = find (λ span. has span k) spans

-- the first span that has an event leaves out all that it has
found_by : (b : Bool) (first : Span) (rest : List Span) (event : ℕ) (span : Span) → has first event ≡ b
    → cond b (Some first) (first_with rest event) ≡ Some span
    → (first_with rest event ≡ Some span → (k : ℕ) → has span k ≡ true → any rest k ≡ true)
    → (k : ℕ) → has span k ≡ true → any (first ∷ rest) k ≡ true
found_by true first rest event span is found later k h =
    let same : first ≡ span = cc found in
    rw (ap (λ s. has s k) same ∙ h) refl
found_by false first rest event span is found later k h = elim (cases_Bool (has first k)) [
  | inl w ↦ rw w refl
  | inr w ↦ rw w (later found k h)
]

pub found_out : (spans : List Span) (event : ℕ) (span : Span) → first_with spans event ≡ Some span
    → (k : ℕ) → has span k ≡ true → any spans k ≡ true
found_out [] event span found k h = cc found
found_out (first ∷ rest) event span found k h =
    found_by (has first event) first rest event span refl found (found_out rest event span) k h

has_by : (b : Bool) (first : Span) (rest : List Span) (event : ℕ) (span : Span) → has first event ≡ b
    → cond b (Some first) (first_with rest event) ≡ Some span
    → (first_with rest event ≡ Some span → has span event ≡ true) → has span event ≡ true
has_by true first rest event span is found later =
    let same : first ≡ span = cc found in
    sym (ap (λ s. has s event) same) ∙ is
has_by false first rest event span is found later = later found

pub found_has : (spans : List Span) (event : ℕ) (span : Span) → first_with spans event ≡ Some span
    → has span event ≡ true
found_has [] event span found = cc found
found_has (first ∷ rest) event span found =
    has_by (has first event) first rest event span refl found (found_has rest event span)

any_by : (b : Bool) (first : Span) (rest : List Span) (event : ℕ)
    → is_some (first_with rest event) ≡ any rest event
    → is_some (cond b (Some first) (first_with rest event)) ≡ (b || any rest event)
any_by true first rest event same = refl
any_by false first rest event same = same

-- a span is found just if one leaves out the event
pub is_found : (spans : List Span) (event : ℕ) → is_some (first_with spans event) ≡ any spans event
is_found [] event = refl
is_found (first ∷ rest) event = any_by (has first event) first rest event (is_found rest event)

pub none_found : (spans : List Span) (event : ℕ) → first_with spans event ≡ None → any spans event ≡ false
none_found spans event none = sym (is_found spans event) ∙ ap is_some none

pub has_from : (span : Span) (k : ℕ) → span.first ≤ k → k < span.end → has span k ≡ true
has_from span k from below =
    and_from (nat_le span.first k) (nat_lt k span.end) (le-leb span.first k from) (lt-ltb k span.end below)

pub has_parts : (span : Span) (k : ℕ) → has span k ≡ true → (span.first ≤ k) × (k < span.end)
has_parts span k h =
    let parts = and_parts (nat_le span.first k) (nat_lt k span.end) h in
    (leb-true span.first k parts.0, ltb-true k span.end parts.1)

-- ---- spans as one

not_true : (b : Bool) → (b ≡ true → ⊥) → b ≡ false
not_true true never = absurd (never refl)
not_true false never = refl

same_if : (a b : Bool) → (a ≡ true → b ≡ true) → (b ≡ true → a ≡ true) → a ≡ b
same_if true b to from = sym (to refl)
same_if false true to from = from refl
same_if false false to from = refl

-- a span that is joined with one that it touches has what both have
joined_has : (a b : Span) (k : ℕ) → touches a b ≡ true → has (joined a b) k ≡ (has a k || has b k)
joined_has a b k touch =
    let meets = and_parts (nat_le a.first b.end) (nat_le b.first a.end) touch in
    let below = leb-true a.first b.end meets.0 in
    let above = leb-true b.first a.end meets.1 in
    same_if (has (joined a b) k) (has a k || has b k)
    (λ h.
    let parts = has_parts (joined a b) k h in
    elim (cases_lt k a.first) [
      | inl w ↦ or_right (has a k) (has b k) (has_from b k (omega (arith, w, parts.0)) (omega (arith, w, below)))
      | inr w ↦ elim (cases_lt k a.end) [
        | inl v ↦ or_left (has a k) (has b k) (has_from a k w v)
        | inr v ↦ or_right (has a k) (has b k) (has_from b k (omega (arith, v, above)) (omega (arith, v, parts.1)))
      ]
    ])
    (λ h. elim (or_cases (has a k) (has b k) h) [
      | inl w ↦
          let parts = has_parts a k w in
          has_from (joined a b) k (omega (arith, parts.0)) (omega (arith, parts.1))
      | inr w ↦
          let parts = has_parts b k w in
          has_from (joined a b) k (omega (arith, parts.0)) (omega (arith, parts.1))
    ])

or_turned : (a b c : Bool) → (a || (b || c)) ≡ (b || (a || c))
or_turned true true c = refl
or_turned true false c = refl
or_turned false b c = refl

or_grouped : (a b c : Bool) → (a || (b || c)) ≡ ((a || b) || c)
or_grouped true b c = refl
or_grouped false b c = refl

merged_by : (b : Bool) (span : Span) (spans : List Span) (more : Span) (k : ℕ) → touches span more ≡ b
    → ((whole : Span) → any (merged spans whole) k ≡ (any spans k || has whole k))
    → any (if b then merged spans (joined span more) else span ∷ merged spans more) k
    ≡ ((has span k || any spans k) || has more k)
merged_by true span spans more k touch later =
    later (joined span more)
    ∙ ap (λ it. any spans k || it) (joined_has span more k touch)
    ∙ or_turned (any spans k) (has span k) (has more k)
    ∙ or_grouped (has span k) (any spans k) (has more k)
merged_by false span spans more k touch later =
    ap (λ it. has span k || it) (later more) ∙ or_grouped (has span k) (any spans k) (has more k)

-- one more span leaves out what it has
pub merged_has : (spans : List Span) (more : Span) (k : ℕ) → any (merged spans more) k ≡ (any spans k || has more k)
merged_has [] more k = or_false (has more k) where
  or_false : (b : Bool) → (b || false) ≡ b
  or_false true = refl
  or_false false = refl
merged_has (span ∷ spans) more k =
    merged_by (touches span more) span spans more k refl (λ whole. merged_has spans whole k)

pub spans_are : (b : Bool) (all spans : List Span) → Some spans ≡ (if b then Some all else None) → spans ≡ all
spans_are true all spans is = cc is
spans_are false all spans is = cc is

-- a span without events has none
has_none : (more : Span) (k : ℕ) → nat_lt more.first more.end ≡ false → has more k ≡ false
has_none more k none = not_true (has more k) (λ h.
    let parts = has_parts more k h in
    let past = ltb-false more.first more.end none in
    omega (arith, parts.0, parts.1, past))

or_no_more : (a b : Bool) → b ≡ false → a ≡ (a || b)
or_no_more true b e = refl
or_no_more false b e = sym e

adds_by : (some fits : Bool) (more : Span) (left : LeftOut) → nat_lt more.first more.end ≡ some
    → (some ≡ true → fits ≡ true)
    → Adds more left (if some && fits then record left { spans = record { items = merged left.spans.items more } } else left)
adds_by true true more left some fit = (refl, λ k. merged_has left.spans.items more k)
adds_by true false more left some fit = absurd (true≢false (sym (fit refl)))
adds_by false fits more left none fit = (refl, λ k. or_no_more (is_left_out left k) (has more k) (has_none more k none))

room_by : (none fits : Bool) → (none || fits) ≡ true → none ≡ false → fits ≡ true
room_by true fits h e = absurd (true≢false e)
room_by false fits h e = h

pub adding_adds : (more : Span) (left : LeftOut) → has_room left more ≡ true → Adds more left (adding more left)
adding_adds more left room =
    adds_by (nat_lt more.first more.end) (nat_le (length (merged left.spans.items more)) 512) more left refl
    (λ some. room_by (nat_le more.end more.first) (nat_le (length (merged left.spans.items more)) 512) room
    (lt-leb more.end more.first (ltb-true more.first more.end some)))

-- ---- which events are kept

all_pass : (p : ℕ → Bool) (first count : ℕ) → ((k : ℕ) → first ≤ k → k < first + count → p k ≡ true)
    → list_all p (range_with_len first count) ≡ true
all_pass p first zero h = refl
all_pass p first (suc count) h =
    and_from (p first) (list_all p (range_with_len (first + 1) count)) (h first (omega arith) (omega arith))
    (all_pass p (first + 1) count (λ k from below. h k (omega (arith, from)) (omega (arith, below))))

each_passes : (p : ℕ → Bool) (first count k : ℕ) → list_all p (range_with_len first count) ≡ true → first ≤ k → k < first + count
    → p k ≡ true
each_passes p first zero k h from below = absurd (omega (arith, from, below))
each_passes p first (suc count) k h from below =
    let parts = and_parts (p first) (list_all p (range_with_len (first + 1) count)) h in
    elim (cases_lt first k) [
      | inl w ↦ each_passes p (first + 1) count k parts.1 (omega (arith, w)) (omega (arith, below))
      | inr w ↦ subst (λ it. p it ≡ true) (omega (arith, from, w)) parts.0
    ]

-- one of these numbers fails the test
abbrev Fails : (ℕ → Bool) → (first count : ℕ) → Type 0
Fails p first count = (k : ℕ) × (first ≤ k) × (k < first + count) × (p k ≡ false)

fails_by : (b : Bool) (p : ℕ → Bool) (first count : ℕ) → p first ≡ b
    → (b && list_all p (range_with_len (first + 1) count)) ≡ false
    → (list_all p (range_with_len (first + 1) count) ≡ false → Fails p (first + 1) count) → Fails p first (suc count)
fails_by true p first count is h later =
    let found = later h in (found.0, omega (arith, found.1), omega (arith, found.2), found.3)
fails_by false p first count is h later = (first, omega arith, omega arith, is)

one_fails : (p : ℕ → Bool) (first count : ℕ) → list_all p (range_with_len first count) ≡ false → Fails p first count
one_fails p first zero h = absurd (true≢false h)
one_fails p first (suc count) h = fails_by (p first) p first count refl h (one_fails p (first + 1) count)

-- whether an event is another one, or left out
abbrev is_out_or : LeftOut → (event : ℕ) → ℕ → Bool
is_out_or left event k = nat_eq k event || is_left_out left k

pub no_other : (left : LeftOut) (span : Span) (event kept : ℕ) → IsNextKept left span.first kept → span.end ≤ kept
    → has_no_other left span event ≡ true
no_other left span event kept next past =
    all_pass (is_out_or left event) span.first (span.end - span.first)
    (λ k from below. or_right (nat_eq k event) (is_left_out left k) (next.passed k from (omega (arith, below, past, from))))

pub no_other_behind : (left : LeftOut) (span : Span) (event later : ℕ) → IsNextKept left span.first event
    → IsNextKept left (event + 1) later → span.end ≤ later → has_no_other left span event ≡ true
no_other_behind left span event later next next' past =
    all_pass (is_out_or left event) span.first (span.end - span.first)
    (λ k from below. elim (cases_lt k event) [
      | inl w ↦ or_right (nat_eq k event) (is_left_out left k) (next.passed k from w)
      | inr w ↦ elim (cases_lt event k) [
        | inl v ↦ or_right (nat_eq k event) (is_left_out left k)
            (next'.passed k (omega (arith, v)) (omega (arith, below, past, from)))
        | inr v ↦ or_left (nat_eq k event) (is_left_out left k) (eq-eqb k event (omega (arith, v, w)))
      ]
    ])

pub another : (left : LeftOut) (span : Span) (event k : ℕ) → span.first ≤ k → k < span.end → is_left_out left k ≡ false
    → (k ≡ event → ⊥) → has_no_other left span event ≡ false
another left span event k from below kept other = not_true (has_no_other left span event) (λ none.
    elim (or_cases (nat_eq k event) (is_left_out left k)
    (each_passes (is_out_or left event) span.first (span.end - span.first) k none from (omega (arith, from, below)))) [
      | inl w ↦ other (eqb-true k event w)
      | inr w ↦ true≢false (sym w ∙ kept)
    ])

-- ---- what is left out after a line

pub leaves_nothing : (ahead : Ahead) (left : LeftOut) → LeavesOutAhead ahead left left
leaves_nothing ahead left = record {
  more = λ k h. h;
  ahead_only = λ k h. inl h;
  replaced = λ e h. h;
  stays = refl;
  no_stay = λ e. refl;
}

-- an event of a span is kept, and isn't one of others
abbrev KeepsBut : LeftOut → Span → (others : Span) → Type 0
KeepsBut left span others = (k : ℕ) × (has span k ≡ true) × (is_left_out left k ≡ false) × (has others k ≡ false)

-- what follows where there is no fault
record IsFree (ahead : Ahead) (more : Span) (old : LeftOut) : Type 0 where
  stays : old.stays ≡ true
  within : (k : ℕ) → has more k ≡ true → has ahead.events k ≡ true
  replaced : ahead.cued ≡ cues.Replaceable → KeepsBut old ahead.events more

or_neither : (a b : Bool) → a ≡ false → b ≡ false → (a || b) ≡ false
or_neither a b e f = rw (e, f) refl

adds_ahead : (ahead : Ahead) (more : Span) (old new : LeftOut) → IsFree ahead more old → Adds more old new
    → LeavesOutAhead ahead old new
adds_ahead ahead more old new free adds = record {
  more = λ k h. adds.1 k ∙ or_left (is_left_out old k) (has more k) h;
  ahead_only = λ k h. elim (or_cases (is_left_out old k) (has more k) (sym (adds.1 k) ∙ h)) [
    | inl w ↦ inl w
    | inr w ↦ inr (free.within k w)
  ];
  replaced = λ e one.
      let one' = free.replaced e in
      (one'.0, one'.1, adds.1 one'.0 ∙ or_neither (is_left_out old one'.0) (has more one'.0) one'.2 one'.3);
  stays = adds.0;
  no_stay = λ e. absurd (true≢false (sym free.stays ∙ e));
}

none_if : (stays above below out : Bool) (a b c d : CallFault)
    → (if not stays then Some a else if above then Some b else if below then Some c else if out then Some d else None) ≡ None
    → (stays ≡ true) × (above ≡ false) × (below ≡ false) × (out ≡ false)
none_if true false false false a b c d h = (refl, refl, refl, refl)
none_if true false false true a b c d h = cc h
none_if true false true out a b c d h = cc h
none_if true true below out a b c d h = cc h
none_if false above below out a b c d h = cc h

-- what follows where an event can be left out or gone on with
record IsHere (left : LeftOut) (ahead : Ahead) (event : ℕ) : Type 0 where
  stays : left.stays ≡ true
  from : ahead.events.first ≤ event
  below : event < ahead.events.end
  kept : is_left_out left event ≡ false

no_fault : (left : LeftOut) (ahead : Ahead) (event : ℕ) → fault_at left ahead event ≡ None → IsHere left ahead event
no_fault left ahead event none =
    let h = none_if left.stays (nat_le ahead.events.end event) (nat_lt event ahead.events.first) (is_left_out left event)
    faults.NoStay (faults.NoEvent event) (past_fault ahead.cued event) (faults.LeftOut event) none in
    record {
      stays = h.0;
      from = ltb-false event ahead.events.first h.2;
      below = leb-false ahead.events.end event h.1;
      kept = h.3;
    }

neither : (first second : Option CallFault) → option_or first second ≡ None → (first ≡ None) × (second ≡ None)
neither (Some fault) second none = cc none
neither None second none = (refl, none)

-- if another event has to replace what is cued, one is kept
not_last : (b : Bool) (fault : CallFault) → (if b then Some fault else None) ≡ None → b ≡ false
not_last true fault none = cc none
not_last false fault none = refl

other_kept : (left : LeftOut) (ahead : Ahead) (event : ℕ) → has_no_other left ahead.events event ≡ false
    → KeepsBut left ahead.events (only event)
other_kept left ahead event fails =
    let span = ahead.events in
    let found = one_fails (is_out_or left event) span.first (span.end - span.first) fails in
    let k = found.0 in
    let other : nat_eq k event ≡ false =
    not_true (nat_eq k event) (λ is. true≢false (sym (or_left (nat_eq k event) (is_left_out left k) is) ∙ found.3)) in
    let kept : is_left_out left k ≡ false =
    not_true (is_left_out left k) (λ is. true≢false (sym (or_right (nat_eq k event) (is_left_out left k) is) ∙ found.3)) in (
      k,
      has_from span k found.1 (omega (arith, found.1, found.2)),
      kept,
      not_true (has (only event) k) (λ is.
          let parts = has_parts (only event) k is in
          eqb-false k event other (omega (arith, parts.0, parts.1))),
    )

skips_free : (left : LeftOut) (ahead : Ahead) (event : ℕ) → skip_fault_at left ahead event ≡ None → IsFree ahead (only event) left
skips_free left ahead event none =
    let parts = neither (fault_at left ahead event) (option_or (last_fault left ahead event) (room_fault left (only event))) none in
    let here = no_fault left ahead event parts.0 in
    let last = (neither (last_fault left ahead event) (room_fault left (only event)) parts.1).0 in
    record {
      stays = here.stays;
      within = λ k h.
          let bounds = has_parts (only event) k h in
          has_from ahead.events k (omega (arith, here.from, bounds.0)) (omega (arith, here.below, bounds.1));
      replaced = λ e. other_kept left ahead event
          (ap (λ it. is_replaceable it && has_no_other left ahead.events event) (sym e)
          ∙ not_last (is_replaceable ahead.cued && has_no_other left ahead.events event) (faults.Last event) last);
    }

jumps_free : (left : LeftOut) (ahead : Ahead) (event : ℕ) → jump_fault_at left ahead event ≡ None
    → IsFree ahead (up_to ahead.events event) left
jumps_free left ahead event none =
    let parts = neither (option_or (fault_at left ahead event) (fixed_fault ahead.cued)) (room_fault left (up_to ahead.events event)) none in
    let here = no_fault left ahead event (neither (fault_at left ahead event) (fixed_fault ahead.cued) parts.0).0 in
    record {
      stays = here.stays;
      within = λ k h.
          let bounds = has_parts (up_to ahead.events event) k h in
          has_from ahead.events k bounds.0 (omega (arith, here.below, bounds.1));
      replaced = λ e. (
        event,
        has_from ahead.events event here.from here.below,
        here.kept,
        not_true (has (up_to ahead.events event) event) (λ is. omega (arith, (has_parts (up_to ahead.events event) event is).1)),
      );
    }

room_there : (b : Bool) → (if b then None else Some faults.Full) ≡ None → b ≡ true
room_there true none = refl
room_there false none = cc none

skips_fit : (left : LeftOut) (ahead : Ahead) (event : ℕ) → skip_fault_at left ahead event ≡ None → has_room left (only event) ≡ true
skips_fit left ahead event none =
    let rest = (neither (fault_at left ahead event) (option_or (last_fault left ahead event) (room_fault left (only event))) none).1 in
    room_there (has_room left (only event)) (neither (last_fault left ahead event) (room_fault left (only event)) rest).1

jumps_fit : (left : LeftOut) (ahead : Ahead) (event : ℕ) → jump_fault_at left ahead event ≡ None
    → has_room left (up_to ahead.events event) ≡ true
jumps_fit left ahead event none =
    room_there (has_room left (up_to ahead.events event))
    (neither (option_or (fault_at left ahead event) (fixed_fault ahead.cued)) (room_fault left (up_to ahead.events event)) none).1

-- a call that is obeyed leaves out only events ahead

abbrev Heeded : Ahead → OnList → Option Call → Type 0
Heeded ahead list call = (c : Call) → call ≡ Some c → LeavesOutAhead ahead list.left_out (list_called c list).left_out

some_same : (a c : Call) → Some a ≡ Some c → a ≡ c
some_same a c is = cc is

heeded_as : (ahead : Ahead) (list : OnList) (a : Call) → LeavesOutAhead ahead list.left_out (list_called a list).left_out
    → Heeded ahead list (Some a)
heeded_as ahead list a leaves c is =
    subst (λ (it : Call). LeavesOutAhead ahead list.left_out (list_called it list).left_out) (some_same a c is) leaves

skip_heeded : (fault : Option CallFault) (more : Span) (ahead : Ahead) (list : OnList)
    → (fault ≡ None → IsFree ahead more list.left_out) → (fault ≡ None → has_room list.left_out more ≡ true)
    → Heeded ahead list (call_or_none (skipping (unless fault more)))
skip_heeded None more ahead list free fits c is =
    heeded_as ahead list (call.List (list_call.Skip more.first more.end))
    (adds_ahead ahead more list.left_out (adding more list.left_out) (free refl) (adding_adds more list.left_out (fits refl))) c is
skip_heeded (Some fault) more ahead list free fits c is = cc is

said_heeded : (ahead : Ahead) (list : OnList) (s : Said) → Heeded ahead list (call_or_none (call_at list.left_out ahead s))
said_heeded ahead list said.Take c is = heeded_as ahead list call.Take (leaves_nothing ahead list.left_out) c is
said_heeded ahead list said.Stop c is = heeded_as ahead list call.Stop (leaves_nothing ahead list.left_out) c is
said_heeded ahead list said.Hold c is = heeded_as ahead list (call.List list_call.Hold) (leaves_nothing ahead list.left_out) c is
said_heeded ahead list said.Go c is = heeded_as ahead list (call.List list_call.Go) (leaves_nothing ahead list.left_out) c is
said_heeded ahead list (said.Skip event) c is =
    skip_heeded (skip_fault_at list.left_out ahead event) (only event) ahead list (skips_free list.left_out ahead event)
    (skips_fit list.left_out ahead event) c is
said_heeded ahead list (said.Jump event) c is =
    skip_heeded (jump_fault_at list.left_out ahead event) (up_to ahead.events event) ahead list (jumps_free list.left_out ahead event)
    (jumps_fit list.left_out ahead event) c is
said_heeded ahead list said.Other c is = cc is

pub first_heeded : (ahead : Ahead) (list : OnList) (waiting : List Said) → Heeded ahead list (first_call list.left_out ahead waiting)
first_heeded ahead list [] c is = cc is
first_heeded ahead list (first ∷ waiting) c is = said_heeded ahead list first c is
