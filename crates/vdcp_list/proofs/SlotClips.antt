-- A look-up among slots is one among their clips.
use Rattle.std.proofs.Common.{◌≡◌, ℕ, ◌+◌, ◌<◌, Bool, true, false, List, [], ◌∷◌, ◌++◌, length, map, take, get_or, refl, sym, ap, ◌∙◌, arith, zero, suc, cond}
use Rattle.std.proofs.lemmas.List.{map-append, take_more}
use Rattle.std.specs.Prelude.{None, Some}
use Rattle.vdcp_list.specs.declared.slots.Slot.{Slot}
use Rattle.vdcp_port.specs.Clips.{length_of}
use Rattle.vdcp_value.specs.Ids.{is_same_id}
use Rattle.vdcp_value.specs.declared.clip_id.ClipId.{ClipId}
use Rattle.vdcp_value.specs.declared.timecode.Timecode.{Timecode}

-- the clips that slots hold
abbrev pub clip_of : Slot → ClipId × Timecode
clip_of slot = (slot.id, slot.duration)

abbrev pub clips_of : List Slot → List (ClipId × Timecode)
clips_of slots = map clip_of slots

-- no clip of an ID: not the first, nor one of the rest
pub record NoneOf (clip : ClipId × Timecode) (clips : List (ClipId × Timecode)) (id : ClipId) : Type 0 where
  pub first : is_same_id id clip.0 ≡ false
  pub rest : length_of clips id ≡ None

pub none_of : (clip : ClipId × Timecode) (clips : List (ClipId × Timecode)) (id : ClipId)
    → length_of (clip ∷ clips) id ≡ None → NoneOf clip clips id
none_of clip clips id e = none_if (is_same_id id clip.0) refl e
  where
    none_if : (b : Bool) → is_same_id id clip.0 ≡ b → cond b (Some clip.1) (length_of clips id) ≡ None
        → NoneOf clip clips id
    none_if true is h = cc h
    none_if false is h = record { first = is; rest = h }

length_of-push : (clips : List (ClipId × Timecode)) (clip : ClipId × Timecode) (id : ClipId) → length_of clips id ≡ None
    → is_same_id id clip.0 ≡ false
    → length_of (clips ++ clip ∷ []) id ≡ None
length_of-push [] clip id none other = rw other refl
length_of-push (first ∷ clips) clip id none other =
    let h = none_of first clips id none in
    rw h.first (length_of-push clips clip id h.rest other)

-- the first slot of an ID gives the length
pub found_at : (slots : List Slot) (id : ClipId) (k : ℕ) (slot : Slot) → k < length slots → slot ≡ get_or slots k slot
    → length_of (clips_of (take k slots)) id ≡ None → is_same_id id slot.id ≡ true
    → length_of (clips_of slots) id ≡ Some slot.duration
found_at [] id k slot below is none same = absurd (omega (arith, below))
found_at (first ∷ slots) id zero slot below is none same =
    rw (ap (λ (s : Slot). is_same_id id s.id) (sym is) ∙ same) (ap (λ (s : Slot). Some s.duration) (sym is))
found_at (first ∷ slots) id (suc k) slot below is none same =
    let h = none_of (first.id, first.duration) (clips_of (take k slots)) id none in
    rw h.first (found_at slots id k slot (omega (arith, below)) is h.rest same)

-- one more slot of another ID
pub none_more : (slots : List Slot) (id : ClipId) (k : ℕ) (slot : Slot) → k < length slots → slot ≡ get_or slots k slot
    → length_of (clips_of (take k slots)) id ≡ None → is_same_id id slot.id ≡ false
    → length_of (clips_of (take (k + 1) slots)) id ≡ None
none_more slots id k slot below is none other =
    let one : take (k + 1) slots ≡ take k slots ++ slot ∷ [] =
    take_more slots k slot below ∙ ap (λ s. take k slots ++ s ∷ []) (sym is) in
    rw (one, map-append clip_of (take k slots) (slot ∷ []))
    (length_of-push (clips_of (take k slots)) (slot.id, slot.duration) id none other)
