-- The row of an item, and the item of a row.
use Rattle.csv.specs.Records.{field_at}
use Rattle.std.proofs.Common.{◌≡◌, ℕ, ◌≤◌, Bool, true, List, [], ◌∷◌, length, refl, sym, ap, ap₂, subst, ◌∙◌, arith, zero, suc}
use Rattle.std.proofs.Math.Bool.{and-eq-true_iff}
use Rattle.std.specs.Prelude.{Option, None, Some, drop, slice_get, ◌≢◌, ◌&&◌}
use Rattle.vdcp_list.specs.Values.{TimeLaws}
use Rattle.vdcp_list.specs.Playlists.{CanName, has_parts, item_row, part_fields, time_text}
use Rattle.vdcp_list.specs.Rows.{FileRow}
use Rattle.vdcp_value.specs.Bcd.{frames_in, is_time, label_of_bcd}
use Rattle.vdcp_value.specs.Bytes.{AreBytes}
use Rattle.vdcp_value.specs.Ids.{text_of_id}
use Rattle.vdcp_value.specs.LabelText.{label_text}
use Rattle.vdcp_value.specs.Timecodes.{bcd_of, frames_of, label_of, rate_of, text_of}
use Rattle.vdcp_value.specs.declared.clip_id.ClipId.{ClipId}
use Rattle.vdcp_value.specs.declared.part.Item.{Item}
use Rattle.vdcp_value.specs.declared.part.Part.{Part}
use Rattle.vdcp_value.specs.declared.rate.Rate.{Rate}
use Rattle.vdcp_value.specs.declared.timecode.Timecode.{Timecode}

-- the field at a place
pub field_at-is : (row : FileRow) (k : ℕ) → field_at row k ≡ slice_get row k
unfolding field_at
field_at-is [] k = refl
field_at-is (field ∷ row) zero = refl
field_at-is (field ∷ row) (suc k) = field_at-is row k

-- the time code that bytes write
pub record TimeOf (rate : Rate) (bytes : List ℕ) : Type 0 where
  pub time : Timecode
  pub same_rate : rate_of time ≡ rate
  pub bytes_are : bcd_of time ≡ bytes
  pub text : text_of time ≡ time_text rate bytes
  pub frames : frames_of time ≡ frames_in rate bytes

pub time_of : TimeLaws → (rate : Rate) (bytes : List ℕ) → AreBytes 4 bytes → is_time rate bytes ≡ true
    → TimeOf rate bytes
time_of v rate bytes four e =
    let (time, r, b) = v.of_bytes rate bytes four e in
    record {
      time = time;
      same_rate = r;
      bytes_are = b;
      text = ap₂ label_text r (sym (v.label time) ∙ ap label_of_bcd b);
      frames = sym (v.number time) ∙ ap₂ frames_in r b;
    }

-- the bytes of a time code write its text
pub own_text : ((timecode : Timecode) → label_of_bcd (bcd_of timecode) ≡ label_of timecode)
    → (rate : Rate) (time : Timecode) → rate_of time ≡ rate
    → time_text rate (bcd_of time) ≡ text_of time
own_text label rate time e = ap (label_text rate) (label time) ∙ ap (λ r. label_text r (label_of time)) (sym e)

pub own_is_lawful : TimeLaws → (rate : Rate) (time : Timecode) → rate_of time ≡ rate → is_time rate (bcd_of time) ≡ true
own_is_lawful v rate time e = rw (← e) (v.lawful time)

own_frames : TimeLaws → (rate : Rate) (time : Timecode) → rate_of time ≡ rate
    → frames_in rate (bcd_of time) ≡ frames_of time
own_frames v rate time e = rw (← e) (v.number time)

both_true : (a b : Bool) → a ≡ true → b ≡ true → (a && b) ≡ true
both_true a b e h = rw (e, h) refl

-- a part that two time codes make
pub part_of_times : TimeLaws → (rate : Rate) (start duration : Timecode) → rate_of start ≡ rate
    → rate_of duration ≡ rate → 1 ≤ frames_of duration
    → CanName rate true (Some (record { start = bcd_of start; duration = bcd_of duration }))
part_of_times v rate start duration e h some = (
  refl,
  (v.four start, v.four duration),
  both_true _ _ (own_is_lawful v rate start e) (own_is_lawful v rate duration h),
  subst (λ n. 1 ≤ n) (sym (own_frames v rate duration h)) some,
)

pub fields_of_times : TimeLaws → (rate : Rate) (start duration : Timecode) → rate_of start ≡ rate
    → rate_of duration ≡ rate
    → part_fields rate (Some (record { start = bcd_of start; duration = bcd_of duration })) ≡ text_of start
    ∷ text_of duration ∷ []
fields_of_times v rate start duration e h = ap₂ (λ s d. s ∷ d ∷ []) (own_text v.label rate start e)
    (own_text v.label rate duration h)

one_first : (a b c d : List ℕ) → ◌≡◌ {A = FileRow} (a ∷ b ∷ []) (c ∷ d ∷ []) → (a ≡ c) × (b ≡ d)
one_first a b c d e = (cc, cc)

-- two fields that are no part's: the start isn't a time code's, or the duration isn't one of a frame at least
pub no_part : TimeLaws → (rate : Rate) (start duration : List ℕ) → (start ≡ [] → duration ≡ [] → ⊥)
    → ((s d : Timecode) → rate_of s ≡ rate → rate_of d ≡ rate → text_of s ≡ start → text_of d ≡ duration
    → 1 ≤ frames_of d → ⊥)
    → (part : Option Part) → CanName rate true part → part_fields rate part ≢ start ∷ duration ∷ []
no_part v rate start duration some none None can e =
    let h = one_first [] [] start duration e in some (sym h.0) (sym h.1)
no_part v rate start duration some none (Some part) can e =
    let h = one_first _ _ start duration e in
    let l = (and-eq-true_iff (is_time rate part.start) (is_time rate part.duration)).0 can.2 in
    let s = time_of v rate part.start can.1.0 l.0 in
    let d = time_of v rate part.duration can.1.1 l.1 in
    none s.time d.time s.same_rate d.same_rate (s.text ∙ h.0) (d.text ∙ h.1) (subst (λ n. 1 ≤ n) (sym d.frames) can.3)

-- a duration of frame 0 is none of one frame at least
pub no_frames : ((a b : Timecode) → rate_of a ≡ rate_of b → text_of a ≡ text_of b → a ≡ b)
    → (rate : Rate) (read d : Timecode) (duration : List ℕ) → rate_of read ≡ rate → duration ≡ text_of read
    → frames_of read ≡ 0
    → rate_of d ≡ rate → text_of d ≡ duration → 1 ≤ frames_of d → ⊥
no_frames one rate read d duration r t f r' t' some =
    let same = one d read (r' ∙ sym r) (t' ∙ t) in
    let none : frames_of d ≡ 0 = ap (λ (x : Timecode). frames_of x) same ∙ f in
    omega (arith, none, some)

-- the part that two fields name
pub part_read : TimeLaws → (rate : Rate) (s d : Timecode) (sb db start duration : List ℕ) → sb ≡ bcd_of s
    → db ≡ bcd_of d → rate_of s ≡ rate → rate_of d ≡ rate
    → start ≡ text_of s → duration ≡ text_of d → 1 ≤ frames_of d
    → (part_fields rate (Some (record { start = sb; duration = db })) ≡ start ∷ duration ∷ [])
    × CanName rate true (Some (record { start = sb; duration = db }))
part_read v rate s d sb db start duration es ed rs rd ts td some =
    rw (es, ed, ts, td) (fields_of_times v rate s d rs rd, part_of_times v rate s d rs rd some)

-- the row of an item
pub first_of : (row : FileRow) (field : List ℕ) → slice_get row 0 ≡ Some field → row ≡ field ∷ drop 1 row
first_of [] field e = cc e
first_of (first ∷ row) field e = let same : first ≡ field = cc e in ap (λ f. f ∷ row) same

alone : (row : FileRow) → length row ≡ 1 → drop 1 row ≡ []
alone [] e = absurd (omega (arith, e))
alone (first ∷ []) e = refl
alone (first ∷ next ∷ row) e = absurd (omega (arith, e))

pub whole_row : (rate : Rate) (columns : ℕ) (row : FileRow) (id : ClipId) → length row ≡ columns → columns ≡ 1
    → slice_get row 0 ≡ Some (text_of_id id)
    → item_row rate (has_parts columns) (record { id = id; part = None }) ≡ row
whole_row rate columns row id size one first =
    rw one (sym (first_of row (text_of_id id) first ∙ ap (λ rest. text_of_id id ∷ rest) (alone row (size ∙ one))))

pub part_row : (rate : Rate) (columns : ℕ) (row : FileRow) (id : ClipId) (part : Option Part) → columns ≡ 3
    → slice_get row 0 ≡ Some (text_of_id id)
    → part_fields rate part ≡ drop 1 row → item_row rate (has_parts columns) (record { id = id; part = part }) ≡ row
part_row rate columns row id part three first fields =
    rw three (ap (λ rest. text_of_id id ∷ rest) fields ∙ sym (first_of row (text_of_id id) first))

pub no_item : (rate : Rate) (columns : ℕ) (row : FileRow) → columns ≡ 3
    → ((part : Option Part) → CanName rate true part → part_fields rate part ≢ drop 1 row)
    → (item : Item) → CanName rate (has_parts columns) item.part → item_row rate (has_parts columns) item ≢ row
no_item rate columns row three none item can e =
    none item.part (rw three at can) (ap (drop 1) (rw three at e))

pub one_some : (a b : List ℕ) → ◌≡◌ {A = Option (List ℕ)} (Some a) (Some b) → a ≡ b
one_some a b e = cc

pub last_two : (row : FileRow) (start duration : List ℕ) → length row ≡ 3 → Some start ≡ slice_get row 1
    → Some duration ≡ slice_get row 2
    → drop 1 row ≡ start ∷ duration ∷ []
last_two (first ∷ second ∷ third ∷ []) start duration size e h =
    ap₂ (λ s d. s ∷ d ∷ []) (one_some second start (sym e)) (one_some third duration (sym h))
last_two other start duration size e h = absurd (omega (arith, size))
