-- Parts of clips and items: bytes, and when a part fits a clip.
use Rattle.std.specs.Prelude.{◌+◌, Bool, ◌&&◌, nat_le, MatchOption}
use Rattle.vdcp_value.specs.Bcd.{is_time, frames_in}
use Rattle.vdcp_value.specs.Bytes.{AreBytes}
use Rattle.vdcp_value.specs.Timecodes.{frames_of, rate_of}
use Rattle.vdcp_value.specs.declared.part.Item.{Item}
use Rattle.vdcp_value.specs.declared.part.Part.{Part}
use Rattle.vdcp_value.specs.declared.timecode.Timecode.{Timecode}

-- start and duration are four bytes each
abbrev pub IsPart : Part → Type 0
IsPart part = AreBytes 4 part.start × AreBytes 4 part.duration

-- the part of an item, if it has one, is of bytes
abbrev pub IsItem : Item → Type 0
IsItem item = MatchOption item.part (Unit {0}) IsPart

-- a part fits a clip of this length: two lawful labels at its rate, one frame at least, and its end
-- not past the clip's
unfoldable pub part_fits : Part → Timecode → Bool
part_fits part clip =
    let rate = rate_of clip in
    is_time rate part.start && is_time rate part.duration && nat_le 1 (frames_in rate part.duration)
    && nat_le (frames_in rate part.start + frames_in rate part.duration) (frames_of clip)
