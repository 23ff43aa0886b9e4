-- Rows have a reading as a catalogue: each gives a clip or is refused, so all of them are a catalogue, or have a fault.
use Rattle.std.proofs.Common.{◌≡◌, ℕ, ◌≤◌, List, [], ◌∷◌, ◌++◌, refl, sym, ap, ap₂, arith}
use Rattle.std.proofs.Common.{inl, inr}
use Rattle.std.specs.Prelude.{◌⊎◌, ◌↔◌, IsSome, IsTrue, Option, None, Some}
use Rattle.vdcp_list.proofs.CatalogueSteps.{gives_push, no_clips, twice}
use Rattle.vdcp_list.specs.Values.{FieldLaws}
use Rattle.vdcp_list.proofs.FieldTexts.{IsIds, IsTimes, id_or_none, none_or_some, time_or_none}
use Rattle.vdcp_list.proofs.ItemRows.{no_frames, one_some}
use Rattle.vdcp_list.proofs.SomeReading.{IsReadAll, IsReadNext, IsOwnFault, read_all}
use Rattle.vdcp_list.specs.Catalogues.{CanLast, GiveClips, IsCatalogue, IsCatalogueFault, IsClipFault, clip_row}
use Rattle.vdcp_list.specs.Reading.{IsReadFault}
use Rattle.vdcp_list.specs.Rows.{FileRow}
use Rattle.vdcp_list.specs.declared.faults.ListFault.{ListFault}
use Rattle.vdcp_value.specs.declared.faults.RowFault.TheVariants.{Columns, Id, Time, Twice}
use Rattle.vdcp_value.specs.declared.faults.RowFault.{RowFault}
use Rattle.vdcp_port.specs.Clips.{length_of}
use Rattle.vdcp_value.specs.Ids.{is_same_id, text_of_id}
use Rattle.vdcp_value.specs.Timecodes.{frames_of, rate_of, text_of}
use Rattle.vdcp_value.specs.declared.clip_id.ClipId.{ClipId}
use Rattle.vdcp_value.specs.declared.rate.Rate.{Rate}
use Rattle.vdcp_value.specs.declared.timecode.Timecode.{Timecode}

-- ---- one row

-- a clip has the row, or the row is refused whatever stands before it
abbrev HasClip : Rate → FileRow → Type 0
HasClip rate row = (clip : ClipId × Timecode) × (clip_row clip ≡ row) × CanLast rate clip.1

abbrev HasClipFault : Rate → FileRow → Type 0
HasClipFault rate row = (before : List FileRow) → (fault : RowFault) × IsClipFault rate before row fault × IsOwnFault fault

abbrev IsRead : Rate → FileRow → Type 0
IsRead rate row = HasClip rate row ⊎ HasClipFault rate row

seconds : (a b c d : List ℕ) → ◌≡◌ {A = FileRow} (a ∷ b ∷ []) (c ∷ d ∷ []) → b ≡ d
seconds a b c d e = cc

read_clip : FieldLaws → (rate : Rate) (row : FileRow) → IsRead rate row
read_clip v rate (first ∷ second ∷ []) = by (id_or_none v.ids first) (time_or_none v.times rate second)
  where
    lasting : (id : ClipId) → first ≡ text_of_id id → (time : Timecode) → rate_of time ≡ rate → second ≡ text_of time
        → (frames_of time ≡ 0) ⊎ (1 ≤ frames_of time) → IsRead rate (first ∷ second ∷ [])
    lasting id e time r t (inl none) =
        inr (λ before. (
          Time,
          (
            refl,
            (id, ap Some e),
            λ clip can h.
                no_frames v.one_time rate time clip.1 second r t none can.0
                (seconds (text_of_id clip.0) (text_of clip.1) first second h) can.1,
          ),
          λ k h. h,
        ))
    lasting id e time r t (inr some) = inl ((id, time), ap₂ (λ (a b : List ℕ). a ∷ b ∷ []) (sym e) (sym t), (r, some))

    by : IsIds first → IsTimes rate second → IsRead rate (first ∷ second ∷ [])
    by (inl (id, e)) (inl (time, r, t)) = lasting id e time r t (none_or_some (frames_of time))
    by (inl (id, e)) (inr n) =
        inr (λ before. (
          Time,
          (
            refl,
            (id, ap Some e),
            λ clip can h.
                n clip.1 can.0 (sym (seconds (text_of_id clip.0) (text_of clip.1) first second h)),
          ),
          λ k h. h,
        ))
    by (inr n) t = inr (λ before. (Id, (refl, λ h. n h.0 (one_some first (text_of_id h.0) h.1)), λ k h. h))
read_clip v rate other = inr (λ before. (Columns, λ e. omega (arith, e), λ k h. h))

-- ---- all rows

new_or_there : (o : Option Timecode) → (o ≡ None) ⊎ IsSome o
new_or_there None = inl refl
new_or_there (Some time) = inr refl

pub has_reading : FieldLaws → ((a b : ClipId) → IsTrue (is_same_id a b) ↔ (a ≡ b)) → (rate : Rate) (rows : List FileRow)
    → ((clips : List (ClipId × Timecode)) × IsCatalogue rate rows clips)
    ⊎ ((fault : ListFault) × IsCatalogueFault rate rows fault × ¬ IsReadFault fault)
has_reading v same rate rows = by (read_all (GiveClips rate) (IsClipFault rate) step ([], no_clips rate) rows)
  where
    step : (front : List FileRow) (row : FileRow) → GiveClips rate front
        → IsReadNext (GiveClips rate) (IsClipFault rate) front row
    step front row (clips, given) = next (read_clip v rate row)
      where
        added : (clip : ClipId × Timecode) → clip_row clip ≡ row → CanLast rate clip.1
            → (length_of clips clip.0 ≡ None) ⊎ IsSome (length_of clips clip.0)
            → IsReadNext (GiveClips rate) (IsClipFault rate) front row
        added clip e can (inl new) = inl (clips ++ clip ∷ [], gives_push rate front clips row clip given e can new)
        added clip e can (inr there) =
            inr (Twice, twice same rate front clips row clip given e can there, λ k h. h)

        next : IsRead rate row → IsReadNext (GiveClips rate) (IsClipFault rate) front row
        next (inl (clip, e, can)) = added clip e can (new_or_there (length_of clips clip.0))
        next (inr f) = inr (f front)

    by : IsReadAll (GiveClips rate) (IsClipFault rate) rows
        → ((clips : List (ClipId × Timecode)) × IsCatalogue rate rows clips)
        ⊎ ((fault : ListFault) × IsCatalogueFault rate rows fault × ¬ IsReadFault fault)
    by (inl (few, (clips, given))) = inl (clips, record { few = few; given = given })
    by (inr f) = inr f
