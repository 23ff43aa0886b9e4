-- What `check` prints, and when it prints nothing.
use Rattle.std.specs.Prelude.{ℕ, ◌≡◌, ◌⊎◌, Bool, List, Option}
use Rattle.std.specs.Io.KnownBytes.{Appends, Keeps}
use Rattle.vdcp_files.specs.Files.{File, IsWholeCatalogue, IsWholeList, RefusesCatalogue, RefusesList, bytes_of}
use Rattle.vdcp_files.specs.Playable.{are_playable, check_text}
use Rattle.vdcp_text.specs.Failure.{failure_line, status_of}
use Rattle.vdcp_text.specs.declared.failure.Failure.{Failure}
use Rattle.vdcp_text.specs.declared.failure.Failure.TheVariants as failures
use Rattle.vdcp_list.specs.Catalogues.{IsCatalogueOf}
use Rattle.vdcp_list.specs.Playlists.{IsListOf}
use Rattle.vdcp_value.specs.declared.clip_id.ClipId.{ClipId}
use Rattle.vdcp_value.specs.declared.part.Item.{Item}
use Rattle.vdcp_value.specs.declared.rate.Rate.{Rate}
use Rattle.vdcp_value.specs.declared.timecode.Timecode.{Timecode}

-- the files are a playlist and a catalogue, a writer gained what their check prints, and this is whether
-- every event can be played
pub record IsChecked (rate : Rate) (list catalogue : File) (old new : Option (List ℕ)) (playable : Bool) : Type 0 where
  pub items : List Item
  pub clips : List (ClipId × Timecode)
  pub is_playlist : IsListOf rate (bytes_of list) items
  pub is_catalogue : IsCatalogueOf rate (bytes_of catalogue) clips
  pub gained : Appends old new (check_text clips items)
  pub playable_is : playable ≡ are_playable clips items

-- the files are a playlist and a catalogue
abbrev pub AreWhole : Rate → File → File → Type 0
AreWhole rate list catalogue = IsWholeList rate list × IsWholeCatalogue rate catalogue

-- the list, which comes first, isn't read, or else the catalogue
abbrev pub Refuses : Rate → File → File → Failure → Type 0
Refuses rate list catalogue failure =
    RefusesList rate list failure ⊎ (IsWholeList rate list × RefusesCatalogue rate catalogue failure)

-- why nothing is checked, and what was printed by then: a file isn't read, or else the writer failed
pub data IsUnchecked (rate : Rate) (list catalogue : File) (out out' : Option (List ℕ)) (failure : Failure)
    : Type 0 where
  no_files : Refuses rate list catalogue failure → Keeps out out' → IsUnchecked rate list catalogue out out' failure
  writer_failed : failure ≡ failures.Writer → IsUnchecked rate list catalogue out out' failure

-- a row of one of the files is refused: one writer gained the line that reports it, and the other nothing
pub record IsRefused (rate : Rate) (list catalogue : File) (out out' err err' : Option (List ℕ)) : Type 0 where
  pub failure : Failure
  pub refused : Refuses rate list catalogue failure
  pub of_row : status_of failure ≡ 1
  pub told : Appends err err' (failure_line failure)
  pub silent : Keeps out out'
