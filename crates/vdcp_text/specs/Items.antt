-- Items and their time codes as text.
use Rattle.hex.specs.Hex.{encode_lower}
use Rattle.std.specs.Prelude.{ℕ, List, [], ◌++◌, codes, Option, None, Some, if◌then◌else◌}
use Rattle.vdcp_value.specs.Bcd.{is_time, label_of_bcd}
use Rattle.vdcp_value.specs.Ids.{text_of_id}
use Rattle.vdcp_value.specs.LabelText.{label_text}
use Rattle.vdcp_value.specs.declared.part.Item.{Item}
use Rattle.vdcp_value.specs.declared.part.Part.{Part}
use Rattle.vdcp_value.specs.declared.rate.Rate.{Rate}

-- the time code that four bytes write at a rate; their digits if they write none
abbrev pub shown_time : Rate → List ℕ → List ℕ
shown_time rate bytes = if is_time rate bytes then label_text rate (label_of_bcd bytes) else encode_lower bytes

abbrev pub part_text : Rate → Option Part → List ℕ
part_text rate None = []
part_text rate (Some part) = codes " " ++ shown_time rate part.start ++ codes " " ++ shown_time rate part.duration

abbrev pub item_text : Rate → Item → List ℕ
item_text rate item = text_of_id item.id ++ part_text rate item.part
