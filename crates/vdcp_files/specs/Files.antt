-- Files to read: when one is a playlist or a catalogue, and the failure if it is refused.
use Rattle.std.specs.Borrow.{Bor}
use Rattle.std.specs.Prelude.{ℕ, ◌≡◌, ◌⊎◌, List, Option}
use Rattle.vdcp_list.specs.Catalogues.{IsCatalogueFaultOf, IsCatalogueOf}
use Rattle.vdcp_list.specs.Playlists.{IsListFaultOf, IsListOf}
use Rattle.vdcp_list.specs.declared.faults.ListFault.TheVariants as lists
use Rattle.vdcp_list.specs.declared.faults.ListFault.{ListFault}
use Rattle.vdcp_text.specs.declared.failure.Failure.{Failure}
use Rattle.vdcp_text.specs.declared.failure.Failure.TheVariants.{Memory, Read, Row as RefusedRow, ScriptLine}
use Rattle.vdcp_text.specs.declared.failure.ScriptLineFault.TheVariants.{Long}
use Rattle.vdcp_value.specs.declared.clip_id.ClipId.{ClipId}
use Rattle.vdcp_value.specs.declared.part.Item.{Item}
use Rattle.vdcp_value.specs.declared.rate.Rate.{Rate}
use Rattle.vdcp_value.specs.declared.timecode.Timecode.{Timecode}

-- a file to read: its name, and its bytes if they are known
pub data File : Type 0 where
  file : (name : Bor (List ℕ)) (bytes : Option (List ℕ)) → File

-- its bytes, if they are known
abbrev pub bytes_of : File → Option (List ℕ)
bytes_of (file name bytes) = bytes

-- why a list or a catalogue of this name isn't read
abbrev pub file_failure : Bor (List ℕ) → ListFault → Failure
file_failure name (lists.Row row fault) = RefusedRow name row fault
file_failure name lists.Memory = Memory
file_failure name lists.Read = Read name

-- the file is a playlist
abbrev pub IsWholeList : Rate → File → Type 0
IsWholeList rate list = (items : List Item) × IsListOf rate (bytes_of list) items

-- the file is a catalogue
abbrev pub IsWholeCatalogue : Rate → File → Type 0
IsWholeCatalogue rate catalogue = (clips : List (ClipId × Timecode)) × IsCatalogueOf rate (bytes_of catalogue) clips

-- the list isn't read, with this failure
abbrev pub RefusesList : Rate → File → Failure → Type 0
RefusesList rate (file name bytes) failure =
    (fault : ListFault) × (failure ≡ file_failure name fault) × IsListFaultOf rate bytes fault

-- the catalogue isn't read, with this failure
abbrev pub RefusesCatalogue : Rate → File → Failure → Type 0
RefusesCatalogue rate (file name bytes) failure =
    (fault : ListFault) × (failure ≡ file_failure name fault) × IsCatalogueFaultOf rate bytes fault

-- why the lines of a file of this name aren't read: one is too long, or the file can't be read
abbrev pub IsUnread : Bor (List ℕ) → Failure → Type 0
IsUnread name failure =
    ((number : ℕ) × (failure ≡ ScriptLine name number Long)) ⊎ ((failure ≡ Read name) ⊎ (failure ≡ Memory))
