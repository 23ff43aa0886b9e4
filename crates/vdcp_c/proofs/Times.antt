-- A time code that was read is that of its bytes.
use Rattle.std.proofs.Common.{ℕ, ◌≡◌, List, Bool, true, false, refl, sym, ap, ◌∙◌, arith}
use Rattle.std.specs.Prelude.{Option, None, Some}
use Rattle.vdcp_value.specs.Bcd.{is_time, label_of_bcd}
use Rattle.vdcp_value.specs.Timecodes.{rate_of, label_of, bcd_of}
use Rattle.vdcp_value.specs.Labels.{is_lawful}
use Rattle.vdcp_value.specs.declared.label.Label.{Label}
use Rattle.vdcp_value.specs.declared.rate.Rate.{Rate}
use Rattle.vdcp_value.specs.declared.timecode.Timecode.{Timecode}
use Rattle.vdcp_value.proofs.Bcd.{lawful_is_time, label_of_own_bcd, read_is_time}
use Rattle.vdcp_value.proofs.Timecodes.{same_timecode}
use Rattle.std.specs.Prelude.{◌∷◌, if◌then◌else◌}
use Rattle.vdcp_value.specs.Ids.{is_same_id}
use Rattle.vdcp_value.specs.declared.clip_id.ClipId.{ClipId}
use Rattle.vdcp_port.specs.Clips.{length_of}
use Rattle.vdcp_c.specs.Clips.{time_at, labelled, time_of, with_row, own_of}

read_at : (rate : Rate) (label : Label) (b : Bool) (e : is_lawful rate label ≡ b) (t : Timecode) → rate_of t ≡ rate
    → label_of t ≡ label → b ≡ true → Some t ≡ time_at rate label b e
read_at rate label true e t r same is =
    ap Some (same_timecode t (record { rate = rate; label = label; lawful = e }) r same)
read_at rate label false e t r same is = cc is

pub time_read : (rate : Rate) (bytes : List ℕ) (t : Timecode) → rate_of t ≡ rate → bcd_of t ≡ bytes
    → Some t ≡ time_of rate bytes
time_read rate bytes t r same =
    let it = read_is_time rate bytes t r same in
    read_at rate (label_of_bcd bytes) (is_lawful rate (label_of_bcd bytes)) refl t r
    (sym (label_of_own_bcd t) ∙ ap label_of_bcd same) (lawful_is_time rate bytes it)
    ∙ sym (ap (λ (b : Bool). if b then labelled rate (label_of_bcd bytes) else None) it)

pub no_time : (rate : Rate) (bytes : List ℕ) → is_time rate bytes ≡ false → time_of rate bytes ≡ None
no_time rate bytes e = ap (λ (b : Bool). if b then labelled rate (label_of_bcd bytes) else None) e

abbrev pub own_or : Option Timecode → Option Timecode → Option Timecode
own_or None rest = rest
own_or (Some t) rest = Some t

row_some : (a id : ClipId) (t : Timecode) (clips : List (ClipId × Timecode)) (b : Bool) → is_same_id id a ≡ b
    → length_of ((a, t) ∷ clips) id ≡ own_or (own_of b (Some t)) (length_of clips id)
row_some a id t clips true e = grind (arith, e)
row_some a id t clips false e = grind (arith, e)

row_none : (b : Bool) (rest : Option Timecode) → rest ≡ own_or (own_of b None) rest
row_none true rest = refl
row_none false rest = refl

pub row_is : (a id : ClipId) (o : Option Timecode) (clips : List (ClipId × Timecode))
    → length_of (with_row a o clips) id ≡ own_or (own_of (is_same_id id a) o) (length_of clips id)
row_is a id None clips = row_none (is_same_id id a) (length_of clips id)
row_is a id (Some t) clips = row_some a id t clips (is_same_id id a) refl
