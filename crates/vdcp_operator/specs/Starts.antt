-- Which time a text means, in nanoseconds since 1970.
use Rattle.jiff.specs.Types.{Date, DateTime, Time, TimeZone, Timestamp}
use Rattle.jiff.specs.Words.{Error, IsDateTimeIn, civil_nanos, epoch_day, nanos_of_seconds, offset_at, parse_time, parse_timestamp, plain_zoned, time_view}
use Rattle.jiff.specs.declared.zoned.Zoned.{Zoned}
use Rattle.std.specs.Prelude.{ℕ, ℤ, ◌≡◌, ◌⊎◌, ◌<ℤ◌, ◌+ℤ◌, List, Option, None, Some, Ok, Err, if◌then◌else◌, int_lt, pos}

-- a clock of the zone shows the date then
abbrev pub IsDateAt : TimeZone → Timestamp → Date → Type 0
IsDateAt zone now date = (shown : DateTime) × (shown.date ≡ date)
    × (civil_nanos shown ≡ now.nanosecond +ℤ nanos_of_seconds (offset_at zone now.nanosecond))

-- a clock of the zone shows the time on that day then; or there is no such instant
abbrev pub IsOnDay : Date → Time → TimeZone → Option Timestamp → Type 0
IsOnDay day time zone (Some start) = (shown : DateTime) × (shown.date ≡ day) × (shown.time ≡ time)
    × (zoned : Zoned) × IsDateTimeIn shown zone (Ok zoned) × ((plain_zoned zoned).timestamp ≡ start)
IsOnDay day time zone None = (shown : DateTime) × (shown.date ≡ day) × (shown.time ≡ time)
    × (fault : Error) × IsDateTimeIn shown zone (Err fault)

abbrev pub if_after : Timestamp → Option Timestamp → Option Timestamp
if_after now None = None
if_after now (Some start) = if int_lt now.nanosecond start.nanosecond then Some start else None

-- the first of two that is later, the other one if that isn't
abbrev pub first_of : Option Timestamp → Option Timestamp → Option Timestamp
first_of None tomorrow = tomorrow
first_of (Some today) tomorrow = Some today

abbrev pub first_after : (now : Timestamp) → (today tomorrow : Option Timestamp) → Option Timestamp
first_after now today tomorrow = first_of (if_after now today) (if_after now tomorrow)

-- the next time after now at which a clock of the zone shows this time: today's, or else tomorrow's
pub record IsNextAt (zone : TimeZone) (now : Timestamp) (time : Time) (start : Timestamp) : Type 0 where
  pub today : Date
  pub is_today : IsDateAt zone now today
  pub tomorrow : Date
  pub follows : epoch_day tomorrow ≡ epoch_day today +ℤ pos 1
  pub on_today : Option Timestamp
  pub today_at : IsOnDay today time zone on_today
  pub on_tomorrow : Option Timestamp
  pub tomorrow_at : IsOnDay tomorrow time zone on_tomorrow
  pub first : first_after now on_today on_tomorrow ≡ Some start

-- the same by a clock of some zone
abbrev pub IsNext : Timestamp → Time → Timestamp → Type 0
IsNext now time start = (zone : TimeZone) × IsNextAt zone now time start

-- the text is a time of day, and a clock shows it next then
abbrev pub IsShown : List ℕ → (now start : Timestamp) → Type 0
IsShown text now start = (time : Time) × (time_view (Ok time) ≡ parse_time text) × IsNext now time start

-- the text is that time by RFC 3339, or a clock shows it next then
abbrev pub IsMeant : List ℕ → (now start : Timestamp) → Type 0
IsMeant text now start = (parse_timestamp text ≡ Ok start.nanosecond) ⊎ IsShown text now start

-- it means this at some time before
abbrev pub IsStart : List ℕ → ℤ → Type 0
IsStart text nanos = (now start : Timestamp) × IsMeant text now start × (now.nanosecond <ℤ start.nanosecond)
    × (start.nanosecond ≡ nanos)
