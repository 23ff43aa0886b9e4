-- The rows of a journal, one after another: which events they show to be aired, and when.
use Rattle.std.proofs.Common.{◌≡◌, ◌≢◌, ℕ, ◌+◌, ◌<◌, ◌≤◌, arith, length, Bool, true, false, not, ◌||◌, ◌&&◌, Option, None, Some, List, [], ◌∷◌, ◌++◌, ◌⊎◌, inl, inr, refl, sym, ap, ap₂, subst, ◌∙◌, append_assoc}
use Rattle.std.proofs.lemmas.Bool.{cases_lt, or_from, or_parts}
use Rattle.std.proofs.lemmas.List.{append-nil, length-append, length-set}
use Rattle.std.proofs.lemmas.List.Folds.{list_any-append}
use Rattle.std.proofs.lemmas.Grind.{common_steps}
use Rattle.std.proofs.lemmas.Option.{gets}
use Rattle.std.specs.List.{list_any}
use Rattle.std.specs.Option.{option_or}
use Rattle.std.specs.Prelude.{if◌then◌else◌, slice_get, slice_set}
use Rattle.vdcp_auto.specs.Log.{is_answered, is_play}
use Rattle.vdcp_auto.specs.Settled.{has_open_play, may_have_aired, settled, settles, tells_of_play}
use Rattle.vdcp_auto.specs.declared.exchange.Exchange.{Exchange}
use Rattle.vdcp_auto.specs.declared.phase.Mode.{Mode}
use Rattle.vdcp_journal.specs.Airings.{AreAirings, FoundSoFar, IsAiring, IsLastPlayIf, announces_after, announces_from, asked_after, asks_play, end_in, ended_by, ended_from, is_play_row, may_have_played, sends_play, settled_in, unsettled_event}
use Rattle.vdcp_journal.specs.Resume.{ended_at, exchange_with, log_from, log_of, open_after}
use Rattle.vdcp_journal.specs.Runs.{Run}
use Rattle.vdcp_journal.specs.declared.airings.Airing.{Airing}
use Rattle.vdcp_journal.specs.declared.airings.AiringsSoFar.{AiringsSoFar}
use Rattle.vdcp_journal.specs.declared.moment.Moment.{Moment}
use Rattle.vdcp_journal.specs.declared.row.Note.{Note}
use Rattle.vdcp_journal.specs.declared.row.Row.{Row}
use Rattle.vdcp_value.specs.declared.part.Item.{Item}
use Rattle.vdcp_words.specs.declared.command.Command.{Command}

-- The exchanges that rows end, and the command that is open after them.

pub at_front : (asked : Option Command) (n : Note) (log more : List Exchange)
    → ended_at asked n (log ++ more) ≡ ended_at asked n log ++ more
at_front asked n log more = grind arith

ended_on : (asked : Option Command) (rows : List Row) (row : Row)
    → ended_from asked (rows ++ row ∷ []) ≡ ended_from asked rows ++ ended_at (asked_after asked rows) row.note []
ended_on asked [] row = refl
ended_on asked (first ∷ rows) row = let rest = ended_on (open_after asked first.note) rows row in grind (arith, at_front)

pub asked_on : (asked : Option Command) (rows : List Row) (row : Row)
    → asked_after asked (rows ++ row ∷ []) ≡ open_after (asked_after asked rows) row.note
asked_on asked [] row = refl
asked_on asked (first ∷ rows) row = asked_on (open_after asked first.note) rows row

log_is : (asked : Option Command) (rows : List Row)
    → log_from asked rows ≡ ended_from asked rows ++ exchange_with None (asked_after asked rows) []
log_is asked [] = refl
log_is asked (first ∷ rows) = let rest = log_is (open_after asked first.note) rows in grind (arith, at_front)

-- the exchanges that have ended, and the command that is open, in all rows
abbrev pub ended_in : List Row → List Exchange
ended_in rows = ended_from None rows

abbrev pub asked_in : List Row → Option Command
asked_in rows = asked_after None rows

pub ended_more : (rows : List Row) (row : Row) (asked : Option Command) → asked ≡ asked_in rows
    → ended_in rows ++ ended_at asked row.note [] ≡ ended_in (rows ++ row ∷ [])
ended_more rows row asked is = ap (λ c. ended_in rows ++ ended_at c row.note []) is ∙ sym (ended_on None rows row)

-- a row ends no exchange, or that of the command that was open
abbrev RowEnds : List Row → Row → Type 0
RowEnds rows row = (ended_in (rows ++ row ∷ []) ≡ ended_in rows) ⊎ ((e : Exchange)
    × (ended_in (rows ++ row ∷ []) ≡ ended_in rows ++ e ∷ []) × (asked_in rows ≡ Some e.command) × (asked_in (rows ++ row ∷ []) ≡ None))

row_ends : (rows : List Row) (row : Row) → RowEnds rows row
row_ends rows row =
    let ended = ended_on None rows row in
    let asked = asked_on None rows row in
    grind (arith, append-nil)

-- so there are no more of them than rows
no_more : (asked : Option Command) (rows : List Row) → length (ended_from asked rows) ≤ length rows
no_more asked [] = omega arith
no_more asked (row ∷ rows) = let rest = no_more (open_after asked row.note) rows in grind arith

pub fits : (asked : Option Command) (rows : List Row) (n : Note)
    → length (ended_in rows) + length (ended_at asked n []) ≤ length rows + 1
fits asked rows n = let few = no_more None rows in grind arith

-- What an exchange settles.

abbrev pub SettledGrows : Type 0
SettledGrows = (mode : Mode) (log : List Exchange) (e : Exchange) → settled mode (log ++ e ∷ [])
    ≡ (if settles mode log e then settled mode log + 1 else settled mode log)

abbrev pub OpenGrows : Type 0
OpenGrows = (log : List Exchange) (e : Exchange) → has_open_play (log ++ e ∷ [])
    ≡ (if tells_of_play e then is_play e && not (is_answered e) else has_open_play log)

abbrev pub AiringGrows : Type 0
AiringGrows = (mode : Mode) (log : List Exchange) (e : Exchange) → may_have_aired mode (log ++ e ∷ [])
    ≡ (not (settles mode log e) && (is_play e || may_have_aired mode log))

-- nothing that was timed out
silence_settles : (mode : Mode) (log : List Exchange) (c : Command)
    → settles mode log (record { command = c; heard = None }) ≡ false
silence_settles mode log c = grind arith

silent_settled : SettledGrows → (mode : Mode) (log : List Exchange) (asked : Option Command)
    → settled mode (log ++ exchange_with None asked []) ≡ settled mode log
silent_settled law mode log None = ap (settled mode) (append-nil log)
silent_settled law mode log (Some c) = law mode log _ ∙ ap (λ b. if b then settled mode log + 1 else settled mode log) (silence_settles mode log c)

silent_airing : AiringGrows → (mode : Mode) (log : List Exchange) (asked : Option Command)
    → may_have_aired mode (log ++ exchange_with None asked []) ≡ (asks_play asked || may_have_aired mode log)
silent_airing law mode log asked = grind (arith, append-nil, law, silence_settles)

-- so the rows show as much as their exchanges that have ended
shown_is : SettledGrows → (mode : Mode) (rows : List Row) → settled_in mode rows ≡ settled mode (ended_in rows)
shown_is law mode rows = ap (settled mode) (log_is None rows) ∙ silent_settled law mode (ended_in rows) (asked_in rows)

-- and those and the command that is open say which event may have aired besides
pub unsettled_is : {S : Type 0} (items : S → List Item) → SettledGrows → AiringGrows → (mode : Mode) (run : Run) (left : Bool)
    (so_far : AiringsSoFar S) → FoundSoFar items mode run.rows so_far → run.left ≡ left
    → (if (asks_play so_far.asked || so_far.judge.may_have_aired) || (so_far.announced && not left)
    then Some so_far.judge.settled else None) ≡ unsettled_event mode run
unsettled_is items law airs mode run left so_far found left_is =
    let rows = run.rows in
    let log = ended_in rows in
    let has = found.knows.airing ∙ ap (λ m. may_have_aired m log) found.mode_is in
    let count = found.knows.settled ∙ ap (λ m. settled m log) found.mode_is in
    let may : (asks_play so_far.asked || so_far.judge.may_have_aired) ≡ may_have_aired mode (log_of rows) =
    ap₂ (λ c b. asks_play c || b) found.asked_is has
    ∙ sym (ap (may_have_aired mode) (log_is None rows) ∙ silent_airing airs mode log (asked_in rows)) in
    ap₂ (λ (a b : Bool). if a || b then Some so_far.judge.settled else None) may
    (ap₂ (λ (a b : Bool). a && not b) found.announced_is (sym left_is))
    ∙ ap (λ n. if may_have_played mode run then Some n else None) (count ∙ sym (shown_is law mode rows))

-- What one row more shows.

nothing_settles : (mode : Mode) (log : List Exchange) (e : Exchange) → has_open_play log ≡ false → is_play e ≡ false
    → settles mode log e ≡ false
nothing_settles mode log e shut other = grind arith

stays_shut : OpenGrows → (log : List Exchange) (e : Exchange) → has_open_play log ≡ false → is_play e ≡ false
    → has_open_play (log ++ e ∷ []) ≡ false
stays_shut law log e shut other = let grown = law log e in grind arith

-- what settles leaves no PLAY open
shuts : OpenGrows → (mode : Mode) (log : List Exchange) (e : Exchange) → settles mode log e ≡ true
    → has_open_play (log ++ e ∷ []) ≡ false
shuts law mode log e is = let grown = law log e in grind arith

asks_after : (asked : Option Command) (n : Note) → asks_play asked ≡ false → sends_play n ≡ false
    → asks_play (open_after asked n) ≡ false
asks_after asked n before now = grind arith

grows : (b : Bool) (n m : ℕ) → m ≡ (if b then n + 1 else n)
    → (n ≤ m) × (m ≤ n + 1) × (b ≡ false → m ≡ n) × (n < m → b ≡ true)
grows b n m is = grind arith

-- a PLAY is open, whether its exchange goes on or has ended
abbrev plays : List Row → Bool
plays rows = has_open_play (ended_in rows) || asks_play (asked_in rows)

-- a row settles one event at the most, and that only if a PLAY is open, which then is open no more; and a row that is
-- no PLAY opens none
record Step (mode : Mode) (rows all : List Row) (row : Row) : Type 0 where
  pub least : settled mode (ended_in rows) ≤ settled mode (ended_in all)
  pub most : settled mode (ended_in all) ≤ settled mode (ended_in rows) + 1
  pub settles : plays rows ≡ false → settled mode (ended_in all) ≡ settled mode (ended_in rows)
  pub opens : plays rows ≡ false → is_play_row row ≡ false → plays all ≡ false
  pub shuts : settled mode (ended_in rows) < settled mode (ended_in all) → plays all ≡ false

step : SettledGrows → OpenGrows → (mode : Mode) (rows : List Row) (row : Row) → Step mode rows (rows ++ row ∷ []) row
step law opens mode rows row =
    let log = ended_in rows in
    elim (row_ends rows row) [
      | inl none ↦
          let same = ap (settled mode) none in
          record {
            least = omega (arith, same);
            most = omega (arith, same);
            settles = λ _. same;
            opens = λ idle other.
                let parts = or_parts (has_open_play log) (asks_play (asked_in rows)) idle in
                or_from _ _ (ap has_open_play none ∙ parts.0)
                (ap asks_play (asked_on None rows row) ∙ asks_after (asked_in rows) row.note parts.1 other);
            shuts = λ more. absurd (omega (arith, more, same));
          }
      | inr w ↦
          let grown = grows (settles mode log w.0) _ _ (ap (settled mode) w.1 ∙ law mode log w.0) in
          let shut = λ (idle : plays rows ≡ false). (or_parts (has_open_play log) (asks_play (asked_in rows)) idle).0 in
          let other = λ (idle : plays rows ≡ false).
          ap asks_play (sym w.2) ∙ (or_parts (has_open_play log) (asks_play (asked_in rows)) idle).1 in
          record {
            least = grown.0;
            most = grown.1;
            settles = λ idle. grown.2 (nothing_settles mode log w.0 (shut idle) (other idle));
            opens = λ idle _. or_from _ _
                (ap has_open_play w.1 ∙ stays_shut opens log w.0 (shut idle) (other idle)) (ap asks_play w.3);
            shuts = λ more. or_from _ _
                (ap has_open_play w.1 ∙ shuts opens mode log w.0 (grown.3 more)) (ap asks_play w.3);
          }
    ]

quiet_rows : SettledGrows → OpenGrows → (mode : Mode) (rows more : List Row) → plays rows ≡ false
    → list_any is_play_row more ≡ false
    → (settled mode (ended_in (rows ++ more)) ≡ settled mode (ended_in rows)) × (plays (rows ++ more) ≡ false)
quiet_rows law opens mode rows [] idle none =
    let all = append-nil rows in (ap (λ (l : List Row). settled mode (ended_in l)) all, ap plays all ∙ idle)
quiet_rows law opens mode rows (row ∷ more) idle none =
    let parts = or_parts (is_play_row row) (list_any is_play_row more) none in
    let first = step law opens mode rows row in
    let rest = quiet_rows law opens mode (rows ++ row ∷ []) more (first.opens idle parts.0) parts.1 in
    let all = sym (append_assoc rows (row ∷ []) more) in
    (ap (λ (l : List Row). settled mode (ended_in l)) all ∙ rest.0 ∙ first.settles idle, ap plays all ∙ rest.1)

-- The last PLAY that went out.

pub played_on : (rows : List Row) (row : Row) (b : Bool) (played : Option Moment) → is_play_row row ≡ b
    → IsLastPlayIf rows played → IsLastPlayIf (rows ++ row ∷ []) (if b then Some row.time else played)
played_on rows row true played is h = record {
  before = rows;
  play = row;
  after = [];
  in_order = refl;
  is_play = is;
  last = refl;
  time_is = refl;
}
played_on rows row false None is h =
    list_any-append is_play_row rows (row ∷ []) ∙ ap₂ (λ a b. a || (b || false)) h is
played_on rows row false (Some time) is h = record {
  before = h.before;
  play = h.play;
  after = h.after ++ row ∷ [];
  in_order = ap (λ l. l ++ row ∷ []) h.in_order ∙ append_assoc h.before (h.play ∷ h.after) (row ∷ []);
  is_play = h.is_play;
  last = list_any-append is_play_row h.after (row ∷ []) ∙ ap₂ (λ a b. a || (b || false)) h.last is;
  time_is = h.time_is;
}

-- The ends of airings.

pub end_more : (rows : List Row) (row : Row) → end_in (rows ++ row ∷ []) ≡ option_or (end_in rows) (end_in (row ∷ []))
end_more [] row = refl
end_more (first ∷ rows) row =
    let rest = end_more rows row in
    grind arith

no_plays : (rows : List Row) → end_in rows ≡ None → list_any is_play_row rows ≡ false
no_plays [] e = refl
no_plays (row ∷ rows) e = let rest = no_plays rows in grind arith

-- nothing is settled after an airing whose end wasn't seen
open_is_last : SettledGrows → OpenGrows → (mode : Mode) (rows : List Row) (k : ℕ) (airing : Airing)
    → IsAiring mode rows k airing → airing.ended ≡ None → settled mode (ended_in rows) ≡ k + 1
open_is_last law opens mode rows k airing h unended =
    let front = h.before ++ (h.play ∷ h.between) in
    let upto = front ++ h.settling ∷ [] in
    let whole : upto ++ h.after ≡ rows = append_assoc front (h.settling ∷ []) h.after
    ∙ append_assoc h.before (h.play ∷ h.between) (h.settling ∷ h.after) ∙ sym h.in_order in
    let was : settled mode (ended_in front) ≡ k = sym (shown_is law mode front) ∙ h.unsettled in
    let now : settled mode (ended_in upto) ≡ k + 1 = sym (shown_is law mode upto)
    ∙ ap (settled_in mode) (append_assoc h.before (h.play ∷ h.between) (h.settling ∷ [])) ∙ h.settles in
    let idle = (step law opens mode front h.settling).shuts (omega (arith, was, now)) in
    let none = or_parts _ _ (no_plays (h.settling ∷ h.after) (sym h.ended ∙ unended)) in
    ap (λ (l : List Row). settled mode (ended_in l)) (sym whole)
    ∙ (quiet_rows law opens mode upto h.after idle none.1).0
    ∙ now

-- The airings so far.

abbrev Are : Mode → List Row → List Airing → Type 0
Are mode rows airings =
    (k : ℕ) (airing : Airing) → slice_get airings k ≡ Some airing → IsAiring mode rows k airing

more_rows : (mode : Mode) (rows : List Row) (row : Row) (k : ℕ) (airing : Airing) → IsAiring mode rows k airing
    → IsAiring mode (rows ++ row ∷ []) k (ended_by (end_in (row ∷ [])) airing)
more_rows mode rows row k airing h = record {
  before = h.before;
  play = h.play;
  between = h.between;
  settling = h.settling;
  after = h.after ++ row ∷ [];
  in_order = ap (λ l. l ++ row ∷ []) h.in_order
      ∙ append_assoc h.before (h.play ∷ (h.between ++ (h.settling ∷ h.after))) (row ∷ [])
      ∙ ap (λ l. h.before ++ (h.play ∷ l)) (append_assoc h.between (h.settling ∷ h.after) (row ∷ []));
  is_play = h.is_play;
  last_play = h.last_play;
  unsettled = h.unsettled;
  settles = h.settles;
  played = h.played;
  known = h.known;
  ended = ap (λ t. option_or t (end_in (row ∷ []))) h.ended ∙ sym (end_more (h.settling ∷ h.after) row);
}

stays : (airing : Airing) (row : Row) → airing.ended ≢ None → ended_by (end_in (row ∷ [])) airing ≡ airing
stays airing row some = grind arith

-- what stands in a list after a write was written, or stood there
found_set : (xs : List Airing) (n k : ℕ) (x y : Airing) → slice_get (slice_set xs n x) k ≡ Some y
    → ((n ≡ k) × (x ≡ y)) ⊎ ((n ≢ k) × (slice_get xs k ≡ Some y))
found_set xs n k x y e = grind (arith, common_steps, gets)

some_last : (a : Airing) (airings : List Airing) → (last : Airing) × (slice_get (a ∷ airings) (length airings) ≡ Some last)
some_last a [] = (a, refl)
some_last a (b ∷ airings) = some_last b airings

-- what a row leaves of the airings so far, of which all but the last have ended
pub record Noted (row : Row) (airings airings' : List Airing) : Type 0 where
  pub last : (k : ℕ) (last : Airing) → length airings ≡ k + 1 → slice_get airings k ≡ Some last
      → airings' ≡ slice_set airings k (ended_by (end_in (row ∷ [])) last)
  pub none : airings ≡ [] → airings' ≡ []

noted : SettledGrows → OpenGrows → (mode : Mode) (rows : List Row) (row : Row) (airings airings' : List Airing)
    → Are mode rows airings → length airings ≡ settled mode (ended_in rows) → Noted row airings airings'
    → Are mode (rows ++ row ∷ []) airings' × (length airings' ≡ length airings)
noted law opens mode rows row [] airings' are one_each n =
    let is = n.none refl in (λ k airing at. cc (ap (λ l. slice_get l k) (sym is) ∙ at), ap length is)
noted law opens mode rows row (a ∷ airings) airings' are one_each n =
    let old = a ∷ airings in
    let place = length airings in
    let last = some_last a airings in
    let size : length old ≡ place + 1 = omega arith in
    let is = n.last place last.0 size last.1 in
    let found = λ (k : ℕ) (airing : Airing) (at : slice_get airings' k ≡ Some airing).
    found_set old place k (ended_by (end_in (row ∷ [])) last.0) airing (ap (λ l. slice_get l k) (sym is) ∙ at) in (
      λ k airing at. elim (found k airing at) [
        | inl w ↦ subst (λ (n : ℕ). IsAiring mode (rows ++ row ∷ []) n airing) w.0
            (subst (IsAiring mode (rows ++ row ∷ []) place) w.1
            (more_rows mode rows row place last.0 (are place last.0 last.1)))
        | inr w ↦
            let here = are k airing w.1 in
            let has_ended : airing.ended ≢ None = λ unended. w.0
            (omega (arith, size, one_each, open_is_last law opens mode rows k airing here unended)) in
            subst (IsAiring mode (rows ++ row ∷ []) k) (stays airing row has_ended)
            (more_rows mode rows row k airing here)
      ],
      ap length is ∙ length-set old place (ended_by (end_in (row ∷ [])) last.0),
    )

-- what stands in a longer list stood in the shorter one, or is the last
found_push : (xs : List Airing) (x y : Airing) (k : ℕ) → slice_get (xs ++ x ∷ []) k ≡ Some y
    → (slice_get xs k ≡ Some y) ⊎ ((length xs ≡ k) × (x ≡ y))
found_push xs x y k e = grind (arith, common_steps, gets)

one_more : (mode : Mode) (rows : List Row) (airings : List Airing) (a : Airing) → Are mode rows airings
    → IsAiring mode rows (length airings) a → Are mode rows (airings ++ a ∷ [])
one_more mode rows airings a are new = λ k airing at. elim (found_push airings a airing k at) [
  | inl w ↦ are k airing w
  | inr w ↦ subst (λ (n : ℕ). IsAiring mode rows n airing) w.0 (subst (IsAiring mode rows (length airings)) w.1 new)
]

-- the airing of an event that was played then, and that a row settles
abbrev new_airing : Moment → Row → Airing
new_airing time row = record { played = time; known = row.time; ended = end_in (row ∷ []) }

-- if a row settles an event, a PLAY went out
settled_now : SettledGrows → OpenGrows → (mode : Mode) (rows : List Row) (row : Row) (k : ℕ) (played : Option Moment)
    → IsLastPlayIf rows played → settled mode (ended_in rows) ≡ k → settled mode (ended_in (rows ++ row ∷ [])) ≡ k + 1
    → (time : Moment) × (played ≡ Some time) × IsAiring mode (rows ++ row ∷ []) k (new_airing time row)
settled_now law opens mode rows row k None none was now =
    let idle = (quiet_rows law opens mode [] rows refl none).1 in
    absurd (omega (arith, was, now, (step law opens mode rows row).settles idle))
settled_now law opens mode rows row k (Some time) h was now =
    let all : rows ++ row ∷ [] ≡ h.before ++ (h.play ∷ (h.after ++ row ∷ [])) =
    ap (λ l. l ++ row ∷ []) h.in_order ∙ append_assoc h.before (h.play ∷ h.after) (row ∷ []) in (
      time,
      refl,
      record {
        before = h.before;
        play = h.play;
        between = h.after;
        settling = row;
        after = [];
        in_order = all;
        is_play = h.is_play;
        last_play = h.last;
        unsettled = ap (settled_in mode) (sym h.in_order) ∙ shown_is law mode rows ∙ was;
        settles = ap (settled_in mode) (sym all) ∙ shown_is law mode (rows ++ row ∷ []) ∙ now;
        played = h.time_is;
        known = refl;
        ended = refl;
      },
    )

-- what is added to the airings for this many settled events
pub record Added (played : Option Moment) (row : Row) (count : ℕ) (airings airings' : List Airing) : Type 0 where
  pub same : count ≤ length airings → airings' ≡ airings
  pub more : length airings < count → (time : Moment) → played ≡ Some time → airings' ≡ airings ++ new_airing time row ∷ []

added : SettledGrows → OpenGrows → (mode : Mode) (rows : List Row) (row : Row) (played : Option Moment)
    (airings airings' : List Airing) → IsLastPlayIf rows played → length airings ≡ settled mode (ended_in rows)
    → Are mode (rows ++ row ∷ []) airings
    → Added played row (settled mode (ended_in (rows ++ row ∷ []))) airings airings'
    → Are mode (rows ++ row ∷ []) airings' × (length airings' ≡ settled mode (ended_in (rows ++ row ∷ [])))
added law opens mode rows row played airings airings' last one_each are a =
    let all = rows ++ row ∷ [] in
    let grown = step law opens mode rows row in
    elim (cases_lt (length airings) (settled mode (ended_in all))) [
      | inl many ↦
          let now : settled mode (ended_in all) ≡ length airings + 1 = omega (arith, many, grown.most, one_each) in
          let new = settled_now law opens mode rows row (length airings) played last (sym one_each) now in
          let is = a.more many new.0 new.1 in (
            subst (Are mode all) (sym is) (one_more mode all airings (new_airing new.0 row) are new.2),
            ap length is ∙ length-append airings (new_airing new.0 row ∷ []) ∙ sym now,
          )
      | inr few ↦
          let is = a.same few in (subst (Are mode all) (sym is) are, ap length is ∙ (omega (arith, few, grown.least, one_each)))
    ]

-- the airings after one row more
pub airings_more : SettledGrows → OpenGrows → (mode : Mode) (rows : List Row) (row : Row) (played : Option Moment)
    (airings airings' airings'' : List Airing) (count : ℕ) → AreAirings mode rows airings
    → IsLastPlayIf rows played → Noted row airings airings' → count ≡ settled mode (ended_in (rows ++ row ∷ []))
    → Added played row count airings' airings''
    → AreAirings mode (rows ++ row ∷ []) airings''
airings_more law opens mode rows row played airings airings' airings'' count h last n count_is a =
    let one_each = h.one_each ∙ shown_is law mode rows in
    let old = noted law opens mode rows row airings airings' h.are one_each n in
    let new = added law opens mode rows row played airings' airings'' last (old.1 ∙ one_each) old.0
    (subst (λ (m : ℕ). Added played row m airings' airings'') count_is a) in
    record {
      one_each = new.1 ∙ sym (shown_is law mode (rows ++ row ∷ []));
      are = new.0;
    }

-- what is announced after one row more
pub announces_more : (before : Bool) (rows : List Row) (row : Row)
    → announces_from before (rows ++ row ∷ []) ≡ announces_after (announces_from before rows) row.note
announces_more before [] row = refl
announces_more before (first ∷ rows) row = announces_more (announces_after before first.note) rows row
