-- What is printed of a list, by what a server says of its clips.
use Rattle.std.specs.Io.KnownBytes.{Appends}
use Rattle.std.specs.Prelude.{ℕ, ◌≡◌, Bool, List, Option}
use Rattle.vdcp_files.specs.Playable.{are_playable, check_text}
use Rattle.vdcp_files.specs.Files.{File, bytes_of}
use Rattle.vdcp_list.specs.Playlists.{IsListOf}
use Rattle.vdcp_value.specs.declared.clip_id.ClipId.{ClipId}
use Rattle.vdcp_value.specs.declared.part.Item.{Item}
use Rattle.vdcp_value.specs.declared.rate.Rate.{Rate}
use Rattle.vdcp_value.specs.declared.timecode.Timecode.{Timecode}

-- a writer gained what a check of the events against some clips prints, and this is whether each can be played
pub record IsCheckedBy (items : List Item) (old new : Option (List ℕ)) (playable : Bool) : Type 0 where
  pub clips : List (ClipId × Timecode)
  pub gained : Appends old new (check_text clips items)
  pub playable_is : playable ≡ are_playable clips items

-- and the events are those of a file
pub record IsAsked (rate : Rate) (list : File) (old new : Option (List ℕ)) (playable : Bool) : Type 0 where
  pub items : List Item
  pub is_playlist : IsListOf rate (bytes_of list) items
  pub checked : IsCheckedBy items old new playable
