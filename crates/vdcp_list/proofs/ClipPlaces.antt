-- A table's places, by IDs as numbers, are those of its clips.
use Rattle.std.proofs.Common.{◌≡◌, ℕ, ◌<◌, Bool, true, false, List, [], ◌∷◌, ◌++◌, length, refl, sym, ap, ◌∙◌, arith, zero, suc, get_or, true≢false, cond, All}
use Rattle.std.proofs.lemmas.List.Elements.{All-head, All-tail}
use Rattle.std.proofs.lemmas.Nat.{be_bytes_8}
use Rattle.std.specs.HashMap.{HashMap, get}
use Rattle.std.specs.Map.{lookup}
use Rattle.std.specs.Cmp.Lexicographic.{on_texts_equal, same_text}
use Rattle.std.specs.Cmp.{IsEquivalence}
use Rattle.std.specs.Int.{from_be_bytes, to_be_bytes, w64}
use Rattle.std.specs.Prelude.{◌≢◌, Option, None, Some, is_some, option_map, if◌then◌else◌, nat_eq}
use Rattle.vdcp_list.specs.Values.{IdLaws}
use Rattle.vdcp_list.specs.Places.{key_of, place_of}
use Rattle.vdcp_port.specs.Clips.{length_of}
use Rattle.vdcp_value.specs.Ids.{is_same_id, id_bytes}
use Rattle.vdcp_value.specs.declared.clip_id.ClipId.{ClipId}
use Rattle.vdcp_value.specs.declared.timecode.Timecode.{Timecode}

-- having the same bytes is an equality of IDs
pub same_ids : IsEquivalence is_same_id
same_ids = on_texts_equal id_bytes

byte_below : IdLaws → (id : ClipId) (i : ℕ) → get_or (id_bytes id) i 0 < 256
byte_below v id i = All-get_or_any (id_bytes id) i (((v.counted 8 (id_bytes id)).0 (v.eight id)).1)
  where
    All-get_or_any : (bytes : List ℕ) (i : ℕ) → All (λ byte. byte < 256) bytes → get_or bytes i 0 < 256
    All-get_or_any [] i below = omega arith
    All-get_or_any (byte ∷ bytes) zero below = All-head (λ b. b < 256) byte bytes below
    All-get_or_any (byte ∷ bytes) (suc i) below = All-get_or_any bytes i (All-tail (λ b. b < 256) byte bytes below)

length_of_id : IdLaws → (id : ClipId) → length (id_bytes id) ≡ 8
length_of_id v id = ((v.counted 8 (id_bytes id)).0 (v.eight id)).0

-- an ID's number is its own
pub one_key : IdLaws → (a b : ClipId) → key_of a ≡ key_of b → a ≡ b
unfolding key_of
one_key v a b e =
    v.one a b
    (sym (be_bytes_8 (id_bytes a) (from_be_bytes w64 (id_bytes a)) (length_of_id v a) (byte_below v a) refl)
    ∙ ap (to_be_bytes w64) e
    ∙ be_bytes_8 (id_bytes b) (from_be_bytes w64 (id_bytes b)) (length_of_id v b) (byte_below v b) refl)

-- IDs of the same bytes have one number
same_key : (a b : ClipId) → is_same_id a b ≡ true → key_of a ≡ key_of b
unfolding key_of
same_key a b e = ap (from_be_bytes w64) (same_text (id_bytes a) (id_bytes b) (sym e))

-- a place is that of the length
pub record Placed (clips : List (ClipId × Timecode)) (id : ClipId) (k : ℕ) : Type 0 where
  pub within : k < length clips
  pub length_is : (d : ClipId × Timecode) → length_of clips id ≡ Some (get_or clips k d).1

one_number : (a b : ℕ) → ◌≡◌ {A = Option ℕ} (Some a) (Some b) → a ≡ b
one_number a b e = cc

placed_after : (clip : ClipId × Timecode) (clips : List (ClipId × Timecode)) (id : ClipId)
    → is_same_id id clip.0 ≡ false
    → ((k : ℕ) → place_of clips id ≡ Some k → Placed clips id k)
    → (place : Option ℕ) → place_of clips id ≡ place → (k : ℕ) → option_map suc place ≡ Some k
    → Placed (clip ∷ clips) id k
placed_after clip clips id e later None is k h = cc h
placed_after clip clips id e later (Some j) is k h =
    let next : suc j ≡ k = one_number (suc j) k h in
    let p = later j is in
    rw (← next) (record { within = omega (arith, p.within); length_is = λ d. rw e (p.length_is d) })

placed_next : (clip : ClipId × Timecode) (clips : List (ClipId × Timecode)) (id : ClipId) (b : Bool)
    → is_same_id id clip.0 ≡ b
    → ((k : ℕ) → place_of clips id ≡ Some k → Placed clips id k)
    → (k : ℕ) → (if b then Some 0 else option_map suc (place_of clips id)) ≡ Some k → Placed (clip ∷ clips) id k
placed_next clip clips id true e later k h =
    let first : 0 ≡ k = one_number 0 k h in
    rw (← first) (record { within = omega arith; length_is = λ d. rw e refl })
placed_next clip clips id false e later k h = placed_after clip clips id e later (place_of clips id) refl k h

pub placed : (clips : List (ClipId × Timecode)) (id : ClipId) (k : ℕ) → place_of clips id ≡ Some k → Placed clips id k
placed [] id k e = cc e
placed (clip ∷ clips) id k e = placed_next clip clips id (is_same_id id clip.0) refl (placed clips id) k e

-- no place, no length
pub not_placed : (clips : List (ClipId × Timecode)) (id : ClipId) → place_of clips id ≡ None → length_of clips id ≡ None
not_placed [] id e = refl
not_placed (clip ∷ clips) id e = not_placed_next clip clips id (is_same_id id clip.0) refl (place_of clips id) refl e
    (not_placed clips id)
  where
    not_placed_next : (clip : ClipId × Timecode) (clips : List (ClipId × Timecode)) (id : ClipId) (b : Bool)
        → is_same_id id clip.0 ≡ b
        → (place : Option ℕ) → place_of clips id ≡ place → (if b then Some 0 else option_map suc place) ≡ None
        → (place_of clips id ≡ None → length_of clips id ≡ None) → length_of (clip ∷ clips) id ≡ None
    not_placed_next clip clips id true e place is h later = cc h
    not_placed_next clip clips id false e None is h later = rw e (later is)
    not_placed_next clip clips id false e (Some k) is h later = cc h

pub is_placed : (clips : List (ClipId × Timecode)) (id : ClipId) → length_of clips id ≡ None → place_of clips id ≡ None
is_placed [] id e = refl
is_placed (clip ∷ clips) id e = is_placed_next clip clips id (is_same_id id clip.0) refl e (is_placed clips id)
  where
    is_placed_next : (clip : ClipId × Timecode) (clips : List (ClipId × Timecode)) (id : ClipId) (b : Bool)
        → is_same_id id clip.0 ≡ b
        → cond b (Some clip.1) (length_of clips id) ≡ None → (length_of clips id ≡ None → place_of clips id ≡ None)
        → (if b then Some 0 else option_map suc (place_of clips id)) ≡ None
    is_placed_next clip clips id true e h later = cc h
    is_placed_next clip clips id false e h later = rw (later h) refl

-- one more clip
pub place_of-push_same : (clips : List (ClipId × Timecode)) (clip : ClipId × Timecode) (id : ClipId)
    → place_of clips clip.0 ≡ None → id ≡ clip.0
    → place_of (clips ++ clip ∷ []) id ≡ Some (length clips)
place_of-push_same [] clip id e same = rw (ap (λ i. is_same_id i clip.0) same ∙ same_ids.refl clip.0) refl
place_of-push_same (first ∷ clips) clip id e same =
    push_same_next first clips clip id same (is_same_id clip.0 first.0) refl (place_of clips clip.0) refl e
    (λ none. place_of-push_same clips clip id none same)
  where
    push_same_next : (first : ClipId × Timecode) (clips : List (ClipId × Timecode)) (clip : ClipId × Timecode)
        (id : ClipId) → id ≡ clip.0
        → (b : Bool) → is_same_id clip.0 first.0 ≡ b → (place : Option ℕ) → place_of clips clip.0 ≡ place
        → (if b then Some 0 else option_map suc place) ≡ None
        → (place_of clips clip.0 ≡ None → place_of (clips ++ clip ∷ []) id ≡ Some (length clips))
        → (if is_same_id id first.0 then Some 0 else option_map suc (place_of (clips ++ clip ∷ []) id))
        ≡ Some (suc (length clips))
    push_same_next first clips clip id same true is place p e later = cc e
    push_same_next first clips clip id same false is None p e later =
        rw (ap (λ i. is_same_id i first.0) same ∙ is, later p) refl
    push_same_next first clips clip id same false is (Some k) p e later = cc e

abbrev here_or_later : Bool → Option ℕ → Option ℕ
here_or_later b place = if b then Some 0 else option_map suc place

pub place_of-push_other : ((a b : ClipId) → key_of a ≡ key_of b → a ≡ b)
    → (clips : List (ClipId × Timecode)) (clip : ClipId × Timecode) (id : ClipId)
    → id ≢ clip.0
    → place_of (clips ++ clip ∷ []) id ≡ place_of clips id
place_of-push_other one [] clip id other = push_other_here (is_same_id id clip.0) refl
  where
    push_other_here : (b : Bool) → is_same_id id clip.0 ≡ b → here_or_later b None ≡ None
    push_other_here true e = absurd (other (one id clip.0 (same_key id clip.0 e)))
    push_other_here false e = refl
place_of-push_other one (first ∷ clips) clip id other =
    ap (here_or_later (is_same_id id first.0)) (place_of-push_other one clips clip id other)

-- a clip of an ID has a place and a length, or neither
pub known : (clips : List (ClipId × Timecode)) (id : ClipId)
    → is_some (place_of clips id) ≡ is_some (length_of clips id)
known [] id = refl
known (clip ∷ clips) id = known_next (is_same_id id clip.0) refl (place_of clips id) refl (known clips id)
  where
    known_next : (b : Bool) → is_same_id id clip.0 ≡ b → (place : Option ℕ) → place_of clips id ≡ place
        → is_some (place_of clips id) ≡ is_some (length_of clips id)
        → is_some (here_or_later b place) ≡ is_some (length_of (clip ∷ clips) id)
    known_next true e place is later = rw e refl
    known_next false e None is later = rw e (ap is_some (sym is) ∙ later)
    known_next false e (Some k) is later = rw e (ap is_some (sym is) ∙ later)

pub none_of : {A : Type 0} (o : Option A) → is_some o ≡ false → o ≡ None
none_of None e = refl
none_of (Some x) e = cc e

pub no_length : (clips : List (ClipId × Timecode)) (id : ClipId) → is_some (place_of clips id) ≡ false
    → length_of clips id ≡ None
no_length clips id e = none_of (length_of clips id) (sym (known clips id) ∙ e)

at_equal : (a b : ℕ) → nat_eq a b ≡ true → a ≡ b
at_equal a b e = grind arith

equal_at : (a b : ℕ) → a ≡ b → nat_eq a b ≡ true
equal_at a b e = grind arith

-- the places after one more clip, in the entries that a map has once they are written
pub places_push : {S : Type 0} → ((a b : ClipId) → key_of a ≡ key_of b → a ≡ b)
    → (clips : List (ClipId × Timecode)) (clip : ClipId × Timecode) (m : HashMap ℕ ℕ S) (written entries : List (ℕ × ℕ))
    (key place : ℕ)
    → ((id : ClipId) → get nat_eq m (key_of id) ≡ place_of clips id) → key ≡ key_of clip.0 → place ≡ length clips
    → place_of clips clip.0 ≡ None
    → ((other : ℕ) → lookup (nat_eq other) written
    ≡ cond (nat_eq key other) (Some place) (get nat_eq m other))
    → entries ≡ written
    → (id : ClipId) → lookup (nat_eq (key_of id)) entries ≡ place_of (clips ++ clip ∷ []) id
places_push one clips clip m written entries key place were is size new updates same id =
    push_at (nat_eq key (key_of id)) refl
  where
    here : lookup (nat_eq (key_of id)) entries ≡ cond (nat_eq key (key_of id)) (Some place)
        (get nat_eq m (key_of id))
    here = ap (lookup (nat_eq (key_of id))) same ∙ updates (key_of id)

    push_at : (b : Bool) → nat_eq key (key_of id) ≡ b
        → lookup (nat_eq (key_of id)) entries ≡ place_of (clips ++ clip ∷ []) id
    push_at true e =
        let same : id ≡ clip.0 = one id clip.0 (sym (at_equal key (key_of id) e) ∙ is) in
        here ∙ rw e (ap Some size) ∙ sym (place_of-push_same clips clip id new same)
    push_at false e =
        let other : id ≢ clip.0 = λ same. true≢false (sym (equal_at key (key_of id) (is ∙ ap key_of (sym same))) ∙ e) in
        here ∙ rw e (were id) ∙ sym (place_of-push_other one clips clip id other)
