-- A search by halves: which clips it finds of any table, and that it finds all of one that ascends.
use Rattle.std.proofs.Common.{ℕ, ◌≡◌, ◌+◌, ◌-◌, ◌^◌, ◌<◌, ◌≤◌, suc, zero, Bool, true, false, List, [], ◌∷◌, length, get_or, refl, sym, subst, ap, ap₂, ◌∙◌, pow-suc, pow_pos, ltb-true, ltb-false, lt-ltb, le-ltb, eq-eqb, ⊎_elim, eq-or-lt_of_le, arith}
use Rattle.std.proofs.lemmas.List.{get_or-map, length-map}
use Rattle.std.proofs.lemmas.Nat.{leading_length}
use Rattle.std.specs.Int.{leading_zeros, w64}
use Rattle.std.specs.List.Sorted.{IsStrictlyIncreasing}
use Rattle.std.specs.Prelude.{Option, None, Some, IsTrue, ◌↔◌, ◌&&◌, nat_eq, nat_lt, slice_index, if◌then◌else◌}
use Rattle.vdcp_value.specs.Ids.{id_of, is_same_id}
use Rattle.vdcp_value.specs.declared.clip_id.ClipId.{ClipId}
use Rattle.vdcp_value.specs.declared.rate.Rate.{Rate}
use Rattle.vdcp_value.specs.declared.timecode.Timecode.{Timecode}
use Rattle.vdcp_port.specs.Clips.{length_of}
use Rattle.vdcp_c.specs.declared.clip.vdcp_clip.{vdcp_clip}
use Rattle.vdcp_c.specs.Clips.{Ascends, clips_of, ends_at, every_clip, found_from, is_before, key_of, keys_of, own_length, own_of, place_of, time_of, with_row}
use Rattle.vdcp_c.proofs.Times.{own_or, row_is}

pub key_count : (rows : List vdcp_clip) → length (keys_of rows) ≡ length rows
key_count rows = length-map rows (λ (row : vdcp_clip). key_of (id_of row.id))

pub key_there : (rows : List vdcp_clip) (at : ℕ) (row : vdcp_clip) → at < length rows
    → slice_index (keys_of rows) at ≡ key_of (id_of (get_or rows at row).id)
key_there rows at row less = get_or-map (λ (r : vdcp_clip). key_of (id_of r.id)) rows at row 0 less

-- keys that don't ascend at a place
pub not_ascending : (rows : List vdcp_clip) (k : ℕ) → Ascends rows → 1 ≤ k → k < length rows
    → slice_index (keys_of rows) k ≤ slice_index (keys_of rows) (k - 1) → ⊥
not_ascending rows k up some less down =
    let e : k - 1 + 1 ≡ k = omega (arith, some) in
    let step : slice_index (keys_of rows) (k - 1) < slice_index (keys_of rows) k =
    subst (λ (i : ℕ). slice_index (keys_of rows) (k - 1) < slice_index (keys_of rows) i) e
    (up (k - 1) (omega (arith, some, less, key_count rows))) in
    omega (arith, step, down)

-- one key more that ascends
pub ascends_on : (keys : List ℕ) (k : ℕ) → 1 ≤ k
    → ((i : ℕ) → i + 1 < k → slice_index keys i < slice_index keys (i + 1))
    → slice_index keys (k - 1) < slice_index keys k
    → (i : ℕ) → i + 1 < k + 1 → slice_index keys i < slice_index keys (i + 1)
ascends_on keys k some up step i less = ⊎_elim
    (λ (e : i ≡ k - 1). subst (λ (j : ℕ). slice_index keys j < slice_index keys (j + 1)) (sym e)
    (subst (λ (j : ℕ). slice_index keys (k - 1) < slice_index keys j) (omega (arith, some)) step))
    (λ (l : i < k - 1). up i (omega (arith, l)))
    (eq-or-lt_of_le (omega (arith, less, some)))

pub halves : (bits : ℕ) → 0 < bits → (2 ^ bits ≡ 2 ^ (bits - 1) + 2 ^ (bits - 1)) × (0 < 2 ^ (bits - 1))
halves zero some = absurd (omega (arith, some))
halves (suc k) some =
    let e : suc k - 1 ≡ k = omega arith in
    rw e (omega (arith, pow-suc 2 k), pow_pos k)

-- one step of a search
pub goes_up : (before : ℕ → Bool) (bits k at next : ℕ) → bits ≡ suc k → next ≡ at + 2 ^ k → before (next - 1) ≡ true
    → ends_at before bits at ≡ ends_at before k next
goes_up before bits k at next e f g =
    ap (λ (b : ℕ). ends_at before b at) e
    ∙ ap (λ (n : ℕ). ends_at before k (if before (n - 1) then n else at)) (sym f)
    ∙ ap (λ (b : Bool). ends_at before k (if b then next else at)) g

pub stays : (before : ℕ → Bool) (bits k at next : ℕ) → bits ≡ suc k → next ≡ at + 2 ^ k → before (next - 1) ≡ false
    → ends_at before bits at ≡ ends_at before k at
stays before bits k at next e f g =
    ap (λ (b : ℕ). ends_at before b at) e
    ∙ ap (λ (n : ℕ). ends_at before k (if before (n - 1) then n else at)) (sym f)
    ∙ ap (λ (b : Bool). ends_at before k (if b then next else at)) g

none_of : (b e : Bool) (o : Option Timecode) → (b ≡ true → e ≡ false) → own_of b (own_of e o) ≡ None
none_of true true o is = cc (is refl)
none_of true false o is = refl
none_of false e o is = refl

one_of : (b e : Bool) (o rest : Option Timecode) → (b ≡ true → e ≡ true) → rest ≡ None
    → own_or (own_of b (own_of e o)) rest ≡ own_of b o
one_of true true None rest is none = none
one_of true true (Some t) rest is none = refl
one_of true false o rest is none = cc (is refl)
one_of false e o rest is none = none

-- one ID has one place
one_place : ((a b : ClipId) → IsTrue (is_same_id a b) ↔ (a ≡ b)) → (keys : List ℕ) (id a : ClipId) → is_same_id id a ≡ true
    → place_of keys (key_of a) ≡ place_of keys (key_of id)
one_place same keys id a e = ap (λ (x : ClipId). place_of keys (key_of x)) (sym ((same id a).0 e))

-- no row from here on is that of an ID whose place is before
none_from : ((a b : ClipId) → IsTrue (is_same_id a b) ↔ (a ≡ b)) → (rate : Rate) (keys : List ℕ) (id : ClipId) (at : ℕ)
    (rows : List vdcp_clip) → place_of keys (key_of id) < at → length_of (found_from rate keys at rows) id ≡ None
none_from same rate keys id at [] less = refl
none_from same rate keys id at (row ∷ rows) less =
    let a = id_of row.id in
    let there = nat_eq (place_of keys (key_of a)) at in
    let rest = found_from rate keys (suc at) rows in
    row_is a id (own_of there (time_of rate row.length)) rest
    ∙ ap (λ (o : Option Timecode). own_or o (length_of rest id))
    (none_of (is_same_id id a) there (time_of rate row.length) (λ e. grind (arith, one_place same keys id a e, less)))
    ∙ none_from same rate keys id (suc at) rows (omega (arith, less))

-- the length that the row at a place has for an ID
abbrev own_at : Rate → ClipId → ℕ → List vdcp_clip → Option Timecode
own_at rate id p [] = None
own_at rate id zero (row ∷ rows) = own_length rate row id
own_at rate id (suc p) (row ∷ rows) = own_at rate id p rows

found_at : ((a b : ClipId) → IsTrue (is_same_id a b) ↔ (a ≡ b)) → (rate : Rate) (keys : List ℕ) (id : ClipId) (at p : ℕ)
    (rows : List vdcp_clip) → place_of keys (key_of id) ≡ at + p
    → length_of (found_from rate keys at rows) id ≡ own_at rate id p rows
found_at same rate keys id at p [] is = refl
found_at same rate keys id at zero (row ∷ rows) is =
    let a = id_of row.id in
    let there = nat_eq (place_of keys (key_of a)) at in
    let rest = found_from rate keys (suc at) rows in
    row_is a id (own_of there (time_of rate row.length)) rest
    ∙ one_of (is_same_id id a) there (time_of rate row.length) (length_of rest id)
    (λ e. grind (arith, one_place same keys id a e, is))
    (none_from same rate keys id (suc at) rows (omega (arith, is)))
found_at same rate keys id at (suc p) (row ∷ rows) is =
    let a = id_of row.id in
    let there = nat_eq (place_of keys (key_of a)) at in
    let rest = found_from rate keys (suc at) rows in
    row_is a id (own_of there (time_of rate row.length)) rest
    ∙ ap (λ (o : Option Timecode). own_or o (length_of rest id))
    (none_of (is_same_id id a) there (time_of rate row.length) (λ e. grind (arith, one_place same keys id a e, is)))
    ∙ found_at same rate keys id (suc at) p rows (omega (arith, is))

own_there : (rate : Rate) (id : ClipId) (p : ℕ) (rows : List vdcp_clip) (row : vdcp_clip) → p < length rows → row ≡ get_or rows p row
    → own_at rate id p rows ≡ own_length rate row id
own_there rate id p [] row less is = absurd (omega (arith, less))
own_there rate id zero (r ∷ rows) row less is = ap (λ (x : vdcp_clip). own_length rate x id) (sym is)
own_there rate id (suc p) (r ∷ rows) row less is = own_there rate id p rows row (omega (arith, less)) is

own_nowhere : (rate : Rate) (id : ClipId) (p : ℕ) (rows : List vdcp_clip) → length rows ≤ p → own_at rate id p rows ≡ None
own_nowhere rate id p [] most = refl
own_nowhere rate id zero (r ∷ rows) most = absurd (omega (arith, most))
own_nowhere rate id (suc p) (r ∷ rows) most = own_nowhere rate id p rows (omega (arith, most))

pub found_there : ((a b : ClipId) → IsTrue (is_same_id a b) ↔ (a ≡ b)) → (rate : Rate) (rows : List vdcp_clip) (id : ClipId) (p : ℕ)
    (row : vdcp_clip) → p ≡ place_of (keys_of rows) (key_of id) → p < length rows → row ≡ get_or rows p row
    → own_length rate row id ≡ length_of (clips_of rate rows) id
found_there same rate rows id p row place less is =
    sym (found_at same rate (keys_of rows) id 0 p rows (omega (arith, place)) ∙ own_there rate id p rows row less is)

pub found_nowhere : ((a b : ClipId) → IsTrue (is_same_id a b) ↔ (a ≡ b)) → (rate : Rate) (rows : List vdcp_clip) (id : ClipId) (p : ℕ)
    → p ≡ place_of (keys_of rows) (key_of id) → length rows ≤ p → None ≡ length_of (clips_of rate rows) id
found_nowhere same rate rows id p place most =
    sym (found_at same rate (keys_of rows) id 0 p rows (omega (arith, place)) ∙ own_nowhere rate id p rows most)

-- a search ends at c if the places before c are those before
ends_in : (before : ℕ → Bool) (c k at : ℕ) (b : Bool)
    → ((from : ℕ) → from ≤ c → c < from + 2 ^ k → ends_at before k from ≡ c)
    → at ≤ c → c < at + 2 ^ suc k → nat_lt (at + 2 ^ k - 1) c ≡ b → ends_at before k (if b then at + 2 ^ k else at) ≡ c
ends_in before c k at true there low high e =
    there (at + 2 ^ k) (omega (arith, ltb-true (at + 2 ^ k - 1) c e)) (omega (arith, high, pow-suc 2 k))
ends_in before c k at false there low high e =
    there at low (omega (arith, ltb-false (at + 2 ^ k - 1) c e, pow_pos k))

ends_there : (before : ℕ → Bool) (c k at : ℕ) → ((i : ℕ) → before i ≡ nat_lt i c) → at ≤ c → c < at + 2 ^ k
    → ends_at before k at ≡ c
ends_there before c zero at is low high = omega (arith, low, high)
ends_there before c (suc k) at is low high =
    ap (λ (b : Bool). ends_at before k (if b then at + 2 ^ k else at)) (is (at + 2 ^ k - 1))
    ∙ ends_in before c k at (nat_lt (at + 2 ^ k - 1) c) (λ from l h. ends_there before c k from is l h) low high refl

-- what ascends step by step ascends
ascends_far : (keys : List ℕ) → IsStrictlyIncreasing keys → (i n : ℕ) → i + n < length keys
    → slice_index keys i + n ≤ slice_index keys (i + n)
ascends_far keys up i zero within =
    let e : i ≡ i + zero = omega arith in
    subst (λ (k : ℕ). slice_index keys i + 0 ≤ slice_index keys k) e (omega arith)
ascends_far keys up i (suc n) within =
    let e : i + n + 1 ≡ i + suc n = omega arith in
    let step : slice_index keys (i + n) < slice_index keys (i + suc n) =
    subst (λ (k : ℕ). slice_index keys (i + n) < slice_index keys k) e (up (i + n) (omega (arith, within))) in
    omega (arith, ascends_far keys up i n (omega (arith, within)), step)

ascends_to : (keys : List ℕ) → IsStrictlyIncreasing keys → (i j : ℕ) → i ≤ j → j < length keys
    → slice_index keys i + (j - i) ≤ slice_index keys j
ascends_to keys up i j less within =
    let e : i + (j - i) ≡ j = omega (arith, less) in
    subst (λ (k : ℕ). slice_index keys i + (j - i) ≤ slice_index keys k) e
    (ascends_far keys up i (j - i) (omega (arith, less, within)))

-- before a row of a table that ascends stand those above it
not_before : (keys : List ℕ) → IsStrictlyIncreasing keys → (j i : ℕ) (b : Bool) → j ≤ i → nat_lt i (length keys) ≡ b
    → (b && nat_lt (slice_index keys i) (slice_index keys j)) ≡ false
not_before keys up j i true least e =
    le-ltb (slice_index keys i) (slice_index keys j)
    (omega (arith, ascends_to keys up j i least (ltb-true i (length keys) e)))
not_before keys up j i false least e = refl

before_if : (keys : List ℕ) → IsStrictlyIncreasing keys → (j i : ℕ) (b : Bool) → j < length keys → nat_lt i j ≡ b
    → is_before keys (slice_index keys j) i ≡ b
before_if keys up j i true within e =
    let less = ltb-true i j e in
    ap₂ (λ (x y : Bool). x && y) (lt-ltb i (length keys) (omega (arith, less, within)))
    (lt-ltb (slice_index keys i) (slice_index keys j)
    (omega (arith, less, ascends_to keys up i j (omega (arith, less)) within)))
before_if keys up j i false within e =
    not_before keys up j i (nat_lt i (length keys)) (ltb-false i j e) refl

own_place : (keys : List ℕ) → IsStrictlyIncreasing keys → length keys < 2 ^ 64 → (j : ℕ) → j < length keys
    → place_of keys (slice_index keys j) ≡ j
unfolding place_of
own_place keys up fits j within =
    let l = leading_length 64 (length keys) fits in
    let m : l.0 ≡ 64 - leading_zeros w64 (length keys) = omega (arith, l.1) in
    ends_there (is_before keys (slice_index keys j)) j (64 - leading_zeros w64 (length keys)) 0
    (λ i. before_if keys up j i (nat_lt i j) within refl) (omega arith)
    (subst (λ (k : ℕ). j < 0 + 2 ^ k) m (omega (arith, l.2, within)))

-- those that are found are all
found_all : (rate : Rate) (keys : List ℕ) (at : ℕ) (rows : List vdcp_clip)
    → ((j : ℕ) → j < length (keys_of rows) → place_of keys (slice_index (keys_of rows) j) ≡ at + j)
    → found_from rate keys at rows ≡ every_clip rate rows
found_all rate keys at [] own = refl
found_all rate keys at (row ∷ rows) own =
    ap₂ (λ (o : Option Timecode) (clips : List (ClipId × Timecode)). with_row (id_of row.id) o clips)
    (ap (λ (b : Bool). own_of b (time_of rate row.length))
    (eq-eqb (place_of keys (key_of (id_of row.id))) at (own 0 (omega arith) ∙ omega arith)))
    (found_all rate keys (suc at) rows (λ j less. own (suc j) (omega (arith, less)) ∙ omega arith))

pub all_are_found : (rate : Rate) (rows : List vdcp_clip) → Ascends rows → length rows < 2 ^ 64
    → clips_of rate rows ≡ every_clip rate rows
all_are_found rate rows up fits =
    found_all rate (keys_of rows) 0 rows
    (λ j less. own_place (keys_of rows) up (subst (λ (n : ℕ). n < 2 ^ 64) (sym (key_count rows)) fits) j less ∙ omega arith)
