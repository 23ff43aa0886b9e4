-- The text of an as-run list, and when it can't be written.
use Rattle.csv.specs.Writing.{default_writer, row_text}
use Rattle.std.specs.Io.KnownBytes.{Appends}
use Rattle.std.specs.List.{list_all, list_any}
use Rattle.std.specs.Prelude.{ℕ, suc, ◌<◌, ◌≡◌, Bool, IsFalse, IsTrue, true, List, [], ◌∷◌, ◌++◌, decimal, is_some, take, slice_get, Option, None, Some}
use Rattle.vdcp_list.specs.Playlists.{is_lawful_part, item_row}
use Rattle.vdcp_value.specs.declared.part.Item.{Item}
use Rattle.vdcp_value.specs.declared.part.Part.{Part}
use Rattle.vdcp_value.specs.declared.rate.Rate.{Rate}

-- some item is a part
abbrev pub has_part : List Item → Bool
has_part items = list_any (λ item. is_some item.part) items

-- the text of these events from number k on: number and item, as csv writes them with commas,
-- quotes only if needed, and line feeds
abbrev pub events_text : Rate → Bool → ℕ → List Item → List ℕ
events_text rate with_parts k [] = []
events_text rate with_parts k (item ∷ items) =
    row_text default_writer (decimal k ∷ item_row rate with_parts item) ++ events_text rate with_parts (suc k) items

-- the as-run text: the events reported, with the fields of a part if any event of the list has one
abbrev pub asrun_text : Rate → List Item → ℕ → List ℕ
asrun_text rate items reported = events_text rate (has_part items) 0 (take reported items)

-- the part of an event, if it has one, is lawful at the rate
abbrev pub is_lawful_event : Rate → Option Part → Bool
is_lawful_event rate None = true
is_lawful_event rate (Some part) = is_lawful_part rate part

abbrev pub are_lawful : Rate → List Item → Bool
are_lawful rate items = list_all (λ item. is_lawful_event rate item.part) items

-- event k is the first of those reported whose part isn't lawful at the rate
pub record IsUnlawful (rate : Rate) (items : List Item) (reported k : ℕ) : Type 0 where
  pub reported_is : k < reported
  pub before : IsTrue (are_lawful rate (take k items))
  pub item : Item
  pub at_k : slice_get items k ≡ Some item
  pub unlawful : IsFalse (is_lawful_event rate item.part)

-- known bytes grew by a beginning of a text
abbrev pub AppendsBeginning : Option (List ℕ) → Option (List ℕ) → List ℕ → Type 0
AppendsBeginning old new text = (count : ℕ) × Appends old new (take count text)
