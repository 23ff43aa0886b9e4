-- The clips of rows, row by row.
use Rattle.std.proofs.Common.{◌≡◌, ℕ, Bool, true, false, List, [], ◌∷◌}
use Rattle.std.proofs.Common.{◌++◌, length, map, drop, refl, sym, ap, subst, ◌∙◌, arith, suc, cond}
use Rattle.std.proofs.lemmas.List.Elements.{All-push}
use Rattle.std.proofs.lemmas.List.{map-append}
use Rattle.std.proofs.lemmas.Map.Keys.{IsDistinct-push}
use Rattle.std.specs.List.{IsDistinct, list_any}
use Rattle.std.specs.Prelude.{◌↔◌, IsSome, IsTrue, None, Some, is_some, slice_get}
use Rattle.vdcp_list.proofs.ClipPlaces.{same_ids}
use Rattle.vdcp_list.proofs.SlotClips.{none_of}
use Rattle.vdcp_list.specs.Catalogues.{CanLast, Gives, IsClipFault, StandsIn, clip_row, ids_of}
use Rattle.vdcp_list.specs.Rows.{FileRow}
use Rattle.vdcp_value.specs.declared.faults.RowFault.TheVariants.{Twice}
use Rattle.vdcp_port.specs.Clips.{length_of}
use Rattle.vdcp_value.specs.Ids.{is_same_id, text_of_id}
use Rattle.vdcp_value.specs.declared.clip_id.ClipId.{ClipId}
use Rattle.vdcp_value.specs.declared.rate.Rate.{Rate}
use Rattle.vdcp_value.specs.declared.timecode.Timecode.{Timecode}

pub no_clips : (rate : Rate) → Gives rate [] []
unfolding IsDistinct
no_clips rate = record { rows_are = refl; can_last = λ k d below. absurd (omega (arith, below)); once = tt }

-- a clip of another ID than these
not_among : (clips : List (ClipId × Timecode)) (id : ClipId) → length_of clips id ≡ None
    → list_any (is_same_id id) (ids_of clips) ≡ false
not_among [] id e = refl
not_among (clip ∷ clips) id e =
    let h = none_of clip clips id e in
    rw h.first (not_among clips id h.rest)

pub gives_push : (rate : Rate) (front : List FileRow) (clips : List (ClipId × Timecode)) (row : FileRow)
    (clip : ClipId × Timecode) → Gives rate front clips
    → clip_row clip ≡ row → CanLast rate clip.1 → length_of clips clip.0 ≡ None
    → Gives rate (front ++ row ∷ []) (clips ++ clip ∷ [])
gives_push rate front clips row clip h e can new = record {
  rows_are =
      ap (λ rs. rs ++ row ∷ []) h.rows_are ∙ ap (λ r. map clip_row clips ++ r ∷ []) (sym e)
      ∙ sym (map-append clip_row clips (clip ∷ []));
  can_last = All-push (λ (c : ClipId × Timecode). CanLast rate c.1) clips clip h.can_last can;
  once =
      rw (map-append (λ (c : ClipId × Timecode). c.0) clips (clip ∷ []))
      (IsDistinct-push same_ids (ids_of clips) clip.0 h.once (not_among clips clip.0 new));
}

-- an earlier row's ID
stands : ((a b : ClipId) → IsTrue (is_same_id a b) ↔ (a ≡ b)) → (clips : List (ClipId × Timecode)) (id : ClipId)
    → is_some (length_of clips id) ≡ true → StandsIn (map clip_row clips) id
stands same [] id e = cc e
stands same (clip ∷ clips) id e = stands_if (is_same_id id clip.0) refl e (stands same clips id)
  where
    stands_if : (b : Bool) → is_same_id id clip.0 ≡ b → is_some (cond b (Some clip.1) (length_of clips id)) ≡ true
        → (is_some (length_of clips id) ≡ true → StandsIn (map clip_row clips) id)
        → StandsIn (map clip_row (clip ∷ clips)) id
    stands_if true is h later = (0, omega arith, ap (λ i. Some (text_of_id i)) (sym ((same id clip.0).0 is)))
    stands_if false is h later = let (k, below, at) = later h in (suc k, omega (arith, below), at)

-- the next row has the ID of an earlier one
pub twice : ((a b : ClipId) → IsTrue (is_same_id a b) ↔ (a ≡ b)) → (rate : Rate) (front : List FileRow)
    → (clips : List (ClipId × Timecode)) (row : FileRow) (clip : ClipId × Timecode) → Gives rate front clips
    → clip_row clip ≡ row → CanLast rate clip.1 → IsSome (length_of clips clip.0)
    → IsClipFault rate front row Twice
twice same rate front clips row clip given e can there = (
  clip,
  e,
  can,
  subst (λ fs. StandsIn fs clip.0) (sym given.rows_are) (stands same clips clip.0 there),
)

-- a row of two fields
pub last_one : (row : FileRow) (field : List ℕ) → length row ≡ 2 → Some field ≡ slice_get row 1
    → drop 1 row ≡ field ∷ []
last_one (first ∷ second ∷ []) field size e = let same : second ≡ field = cc e in ap (λ f. f ∷ []) same
last_one other field size e = absurd (omega (arith, size))

pub one_field : (a b : List ℕ) → ◌≡◌ {A = FileRow} (a ∷ []) (b ∷ []) → a ≡ b
one_field a b e = cc
