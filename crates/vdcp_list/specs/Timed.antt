-- The rows of a timed as-run list. A time is of any form.
use Rattle.csv.specs.Writing.{default_writer, row_text}
use Rattle.std.specs.Prelude.{ℕ, suc, Bool, true, false, List, [], ◌∷◌, ◌++◌, codes, decimal}
use Rattle.vdcp_list.specs.Playlists.{item_row}
use Rattle.vdcp_list.specs.Rows.{FileRow}
use Rattle.vdcp_value.specs.declared.part.Item.{Item}
use Rattle.vdcp_value.specs.declared.rate.Rate.{Rate}

-- what the columns are, without and with those of a part
abbrev pub timed_heading : Bool → FileRow
timed_heading false = codes "number" ∷ codes "id" ∷ codes "played" ∷ codes "known" ∷ codes "ended" ∷ codes "end" ∷ []
timed_heading true =
    codes "number" ∷ codes "id" ∷ codes "start" ∷ codes "duration" ∷ codes "played" ∷ codes "known" ∷ codes "ended" ∷ codes "end" ∷ []

-- an event's times and its end, of which each is of some form
abbrev pub times_of : {T : Type 0} → (played known ended end : T → List ℕ) → T → FileRow
times_of played known ended end time = played time ∷ known time ∷ ended time ∷ end time ∷ []

-- an event's fields: those of the plain list, its times and its end
abbrev pub timed_fields : Rate → Bool → Item → FileRow → FileRow
timed_fields rate with_parts item times = item_row rate with_parts item ++ times

-- the rows of these events from number k on, as far as there are times
abbrev pub timed_rows : {T : Type 0} → (T → FileRow) → Rate → Bool → ℕ → List Item → List T → List ℕ
timed_rows row rate with_parts k items [] = []
timed_rows row rate with_parts k [] (time ∷ times) = []
timed_rows row rate with_parts k (item ∷ items) (time ∷ times) =
    row_text default_writer (decimal k ∷ timed_fields rate with_parts item (row time))
    ++ timed_rows row rate with_parts (suc k) items times
