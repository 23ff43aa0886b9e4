-- The lines of one more event.
use Rattle.std.proofs.Common.{◌≡◌, ℕ, ◌+◌, Bool, true, false, List, [], ◌∷◌, ◌++◌, length, take, refl, sym, ap, ◌∙◌, arith, zero, suc, add-one}
use Rattle.std.proofs.Common.{add-zero, zero-add, append_assoc, append-nil}
use Rattle.std.proofs.Math.Seq.{take-suc}
use Rattle.std.proofs.lemmas.List.Folds.{list_all-append}
use Rattle.std.proofs.lemmas.Option.{get_or_from_slice_get, slice_get_within}
use Rattle.std.specs.Io.KnownBytes.{Appends}
use Rattle.std.specs.Prelude.{Option, None, Some, is_none, is_some, not, slice_get, ◌&&◌, if◌then◌else◌}
use Rattle.vdcp_files.specs.declared.playable.EventFault.TheVariants.{Outside}
use Rattle.vdcp_files.specs.declared.playable.EventFault.{EventFault}
use Rattle.vdcp_files.specs.Playable.{are_playable, event_text, events_text, fault_in, fault_of}
use Rattle.vdcp_port.specs.Clips.{can_cue, is_playable, length_of}
use Rattle.vdcp_value.specs.Parts.{part_fits}
use Rattle.vdcp_value.specs.declared.clip_id.ClipId.{ClipId}
use Rattle.vdcp_value.specs.declared.part.Item.{Item}
use Rattle.vdcp_value.specs.declared.part.Part.{Part}
use Rattle.vdcp_value.specs.declared.timecode.Timecode.{Timecode}

take_more : (items : List Item) (k : ℕ) (item : Item) → slice_get items k ≡ Some item
    → take (k + 1) items ≡ take k items ++ item ∷ []
take_more items k item e =
    let last = take-suc items k item (slice_get_within items k item e) in
    rw (add-one k, last, get_or_from_slice_get items k item item e) refl

and_true : (b : Bool) → b ≡ (b && true)
and_true true = refl
and_true false = refl

fits_or_not : (b : Bool) → is_none (if b then None else Some Outside) ≡ b
fits_or_not true = refl
fits_or_not false = refl

-- an item has no fault exactly if it can be cued
pub no_fault : (clip : Option Timecode) (part : Option Part) → is_none (fault_in clip part) ≡ can_cue clip part
no_fault None part = refl
no_fault (Some clip) None = refl
no_fault (Some clip) (Some part) = fits_or_not (part_fits part clip)

events_text-push : (clips : List (ClipId × Timecode)) (k : ℕ) (items : List Item) (item : Item)
    → events_text clips k (items ++ item ∷ [])
    ≡ events_text clips k items ++ event_text (k + length items) item.id (fault_of clips item)
events_text-push clips k [] item = rw add-zero (append-nil (event_text k item.id (fault_of clips item)))
events_text-push clips k (first ∷ items) item =
    let text = event_text k first.id (fault_of clips first) in
    let size : suc k + length items ≡ k + suc (length items) = omega arith in
    ap (λ rest. text ++ rest) (events_text-push clips (suc k) items item
    ∙ ap (λ n. events_text clips (suc k) items ++ event_text n item.id (fault_of clips item)) size)
    ∙ sym (append_assoc text (events_text clips (suc k) items)
    (event_text (k + suc (length items)) item.id (fault_of clips item)))

taken : (items : List Item) (k : ℕ) (item : Item) → slice_get items k ≡ Some item → length (take k items) ≡ k
taken [] k item e = cc e
taken (first ∷ items) zero item e = refl
taken (first ∷ items) (suc k) item e = ap suc (taken items k item e)

-- the text of the events before k, and that of event k
pub events_text-take : (clips : List (ClipId × Timecode)) (items : List Item) (k : ℕ) (item : Item)
    → slice_get items k ≡ Some item
    → events_text clips 0 (take k items) ++ event_text k item.id (fault_of clips item)
    ≡ events_text clips 0 (take (k + 1) items)
events_text-take clips items k item at =
    let count : 0 + length (take k items) ≡ k = zero-add (length (take k items)) ∙ taken items k item at in
    ap (λ n. events_text clips 0 (take k items) ++ event_text n item.id (fault_of clips item)) (sym count)
    ∙ sym (events_text-push clips 0 (take k items) item)
    ∙ ap (events_text clips 0) (sym (take_more items k item at))

pub appends_event : (clips : List (ClipId × Timecode)) (items : List Item) (k : ℕ) (item : Item)
    (fault : Option EventFault)
    → (old middle new : Option (List ℕ)) → slice_get items k ≡ Some item → fault ≡ fault_of clips item
    → Appends old middle (events_text clips 0 (take k items)) → Appends middle new (event_text k item.id fault)
    → Appends old new (events_text clips 0 (take (k + 1) items))
appends_event clips items k item fault None middle new at is before now = tt
appends_event clips items k item fault (Some xs) None new at is before now = absurd before
appends_event clips items k item fault (Some xs) (Some ys) None at is before now = now
appends_event clips items k item fault (Some xs) (Some ys) (Some zs) at is before now =
    now ∙ ap (λ (f : Option EventFault). ys ++ event_text k item.id f) is
    ∙ ap (λ bytes. bytes ++ event_text k item.id (fault_of clips item)) before
    ∙ append_assoc xs (events_text clips 0 (take k items)) (event_text k item.id (fault_of clips item))
    ∙ ap (λ text. xs ++ text) (events_text-take clips items k item at)

-- whether all events before k, and event k, can be played
playable_more : (clips : List (ClipId × Timecode)) (items : List Item) (k : ℕ) (item : Item) (before : Bool)
    → slice_get items k ≡ Some item
    → before ≡ are_playable clips (take k items)
    → (before && is_none (fault_of clips item)) ≡ are_playable clips (take (k + 1) items)
playable_more clips items k item before at e =
    rw (
      e,
      take_more items k item at,
      list_all-append (is_playable clips) (take k items) (item ∷ []),
      no_fault (length_of clips item.id) item.part,
    )
    (ap (λ b. are_playable clips (take k items) && b) (and_true (is_playable clips item)))

double : (b : Bool) → not (not b) ≡ b
double true = refl
double false = refl

none_is : (fault found : Option EventFault) (none : Bool) → fault ≡ found → is_some fault ≡ not none
    → none ≡ is_none found
none_is fault found none same e = sym (ap not e ∙ double none) ∙ ap (λ (f : Option EventFault). not (is_some f)) same

pub playable_after : (clips : List (ClipId × Timecode)) (items : List Item) (k : ℕ) (item : Item) (before : Bool)
    (fault : Option EventFault) (none : Bool)
    → slice_get items k ≡ Some item → before ≡ are_playable clips (take k items) → fault ≡ fault_of clips item
    → is_some fault ≡ not none
    → (before && none) ≡ are_playable clips (take (k + 1) items)
playable_after clips items k item before fault none at e is same =
    ap (λ n. before && n) (none_is fault (fault_of clips item) none is same)
    ∙ playable_more clips items k item before at e
