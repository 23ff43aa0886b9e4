-- Worked files, computed from the definitions.
use Rattle.csv.specs.Machine.{next_record}
use Rattle.csv.specs.Reading.{records_from, strip_bom}
use Rattle.csv.specs.Writing.{escaped, fields_text, is_blank}
use Rattle.std.proofs.Common.{◌≡◌, [], ◌∷◌, true, false, refl}
use Rattle.std.specs.Fmt.{digits}
use Rattle.std.specs.Prelude.{None, Some, codes}
use Rattle.vdcp_list.specs.Asrun.{asrun_text}
use Rattle.vdcp_value.specs.Ids.{id_of_text}
use Rattle.vdcp_list.specs.Playlists.{is_of_columns, item_row}
use Rattle.vdcp_list.specs.Rows.{rows_of}
use Rattle.vdcp_value.specs.declared.part.Item.{Item}
use Rattle.vdcp_value.specs.declared.rate.Rate.TheVariants.{F25}

-- CLIP0001, A,B and CLIP0002, whole, and three seconds of CLIP0001 from its third on
abbrev first_clip : Item
first_clip = record { id = id_of_text (codes "CLIP0001"); part = None }

abbrev with_comma : Item
with_comma = record { id = id_of_text (codes "A,B"); part = None }

abbrev second_clip : Item
second_clip = record { id = id_of_text (codes "CLIP0002"); part = None }

abbrev first_part : Item
first_part =
    record {
      id = id_of_text (codes "CLIP0001");
      part = Some
          (record { start = 0 ∷ 2 ∷ 0 ∷ 0 ∷ []; duration = 0 ∷ 3 ∷ 0 ∷ 0 ∷ [] });
    }

-- their as-run texts
asrun_of_whole_clips : asrun_text F25 (first_clip ∷ with_comma ∷ second_clip ∷ []) 2 ≡ codes "0,CLIP0001\n1,\"A,B\"\n"
unfolding escaped fields_text is_blank digits
asrun_of_whole_clips = refl

asrun_with_a_part : asrun_text F25 (first_part ∷ second_clip ∷ []) 2
    ≡ codes "0,CLIP0001,00:00:02:00,00:00:03:00\n1,CLIP0002,,\n"
unfolding escaped fields_text is_blank digits
asrun_with_a_part = refl

-- the part counts though it isn't reported
asrun_before_the_part : asrun_text F25 (second_clip ∷ first_part ∷ []) 1 ≡ codes "0,CLIP0002,,\n"
unfolding escaped fields_text is_blank digits
asrun_before_the_part = refl

-- rows: quotes, either line end, blank lines
rows_of_a_file : rows_of (codes "CLIP0001\r\n\r\n\"A,B\"\n\n")
    ≡ (codes "CLIP0001" ∷ []) ∷ (codes "A,B" ∷ []) ∷ []
unfolding next_record records_from strip_bom
rows_of_a_file = refl

rows_of_no_byte : rows_of [] ≡ []
unfolding next_record records_from strip_bom
rows_of_no_byte = refl

-- the rows of items
row_of_a_part : item_row F25 true first_part ≡ codes "CLIP0001" ∷ codes "00:00:02:00" ∷ codes "00:00:03:00" ∷ []
row_of_a_part = refl

row_of_a_whole_clip : item_row F25 true second_clip ≡ codes "CLIP0002" ∷ [] ∷ [] ∷ []
row_of_a_whole_clip = refl

-- one field, then three
mixed_columns : is_of_columns 1 (codes "CLIP0002" ∷ [] ∷ [] ∷ []) ≡ false
mixed_columns = refl

two_columns : is_of_columns 2 (codes "CLIP0002" ∷ [] ∷ []) ≡ false
two_columns = refl
