-- What a page's row says of when and how its event began and ended: what an older look saw, or else what a journal says, or
-- what this look is the first to see.
use Rattle.std.specs.Option.{option_or, unwrap_or}
use Rattle.std.specs.Prelude.{ℕ, ◌≡◌, ◌+◌, ◌&&◌, Bool, true, false, List, [], ◌∷◌, Option, None, Some, if◌then◌else◌, nat_eq, nat_le, nat_lt, option_map}
use Rattle.vdcp_auto.specs.declared.phase.Phase.TheVariants as phase
use Rattle.vdcp_auto.specs.declared.snapshot.Snapshot.{Snapshot}
use Rattle.vdcp_auto.specs.declared.snapshot.Standing.{Standing}
use Rattle.vdcp_auto.specs.declared.snapshot.Standing.TheVariants as standing
use Rattle.vdcp_operator.specs.declared.seen.Ending.{Ending}
use Rattle.vdcp_operator.specs.declared.seen.Ending.TheVariants as endings
use Rattle.vdcp_operator.specs.declared.seen.EventBefore.{EventBefore}
use Rattle.vdcp_operator.specs.declared.seen.EventSeen.{EventSeen}
use Rattle.vdcp_operator.specs.declared.seen.Reason.{Reason}
use Rattle.vdcp_operator.specs.declared.seen.Record.{Record}
use Rattle.vdcp_operator.specs.declared.seen.Record.TheVariants as records
use Rattle.vdcp_operator.specs.declared.shown.Known.{Known}
use Rattle.vdcp_operator.specs.declared.shown.News.{News}
use Rattle.vdcp_value.specs.declared.part.Item.{Item}

-- a clip was waited for
abbrev pub is_waiting : Standing → Bool
is_waiting (standing.Ready (phase.Wait k)) = true
is_waiting (standing.Awaiting (phase.Wait k)) = true
is_waiting _ = false

-- no STOP had gone out, and no PLAY that wasn't answered
abbrev pub is_on_air_known : Standing → Bool
is_on_air_known (standing.Ready (phase.Probe k)) = false
is_on_air_known (standing.Ready phase.HaltClose) = false
is_on_air_known (standing.Ready _) = true
is_on_air_known (standing.Awaiting (phase.Play k)) = false
is_on_air_known (standing.Awaiting (phase.Probe k)) = false
is_on_air_known (standing.Awaiting phase.Halt) = false
is_on_air_known (standing.Awaiting _) = true
is_on_air_known (standing.Ended outcome) = false

abbrev pub ending_by : Standing → Snapshot → Standing → Option Ending
ending_by before now (standing.Ready (phase.Play k)) =
    if is_waiting before then Some (if now.take then endings.Taken else endings.RanOut) else None
ending_by before now (standing.Ready phase.Close) = Some endings.RanOut
ending_by before now (standing.Awaiting phase.Halt) = if is_on_air_known before then Some endings.Stopped else None
ending_by before now (standing.Ready phase.HaltClose) = if is_on_air_known before then Some endings.Stopped else None
ending_by before now _ = None

-- how the last clip that is reported ended, if that shows by how the controller stood at the last look and does now: its end
-- was awaited, and the next PLAY or CLOSE goes out; or STOP does
abbrev pub ending_seen : Option Standing → Snapshot → Option Ending
ending_seen None now = None
ending_seen (Some before) now = if nat_lt 0 now.settled then ending_by before now now.standing else None

-- a take that a stop has overtaken doesn't count
abbrev pub ending_after : Option Ending → Option Ending → Option Ending
ending_after None new = new
ending_after (Some endings.Taken) (Some endings.Stopped) = Some endings.Stopped
ending_after (Some known) _ = Some known

-- what a look sees that the one before, which showed this event as the next one, didn't
abbrev pub news_of : Option ℕ → Option Standing → (event : ℕ) → Snapshot → (now : ℕ) → News
news_of since before event snapshot now = record {
  since = unwrap_or since event;
  event = event;
  ending = ending_seen before snapshot;
  now = now;
}

-- a journal says that it didn't go to air, or may not have
abbrev pub is_unaired : Option Record → Bool
is_unaired (Some records.LeftOut) = true
is_unaired (Some records.MayHaveAired) = true
is_unaired _ = false

-- the events from the one that was next up to the one that is went to air, but for those that were left out
abbrev pub at_in : News → Option EventBefore → ℕ → Option ℕ
at_in news said k =
    if is_unaired (option_map (λ b. b.kept) said) then None
    else if nat_le news.since k && nat_lt k news.event then Some news.now else None

-- the one before that which is next ended
abbrev pub ending_in : News → ℕ → Option Ending
ending_in news k = if nat_eq (k + 1) news.event then news.ending else None

abbrev pub until_in : News → Option ℕ → Option Ending → Option ℕ
until_in news (Some until) ending = Some until
until_in news None None = None
until_in news None (Some ending) = Some news.now

abbrev pub older_of : List EventSeen → ℕ → Option EventSeen
older_of [] k = None
older_of (first ∷ older) k = if nat_eq first.number k then Some first else older_of older k

-- what is said of the event of this number before, if it is among these
abbrev pub before_of : List EventBefore → ℕ → Option EventBefore
before_of [] k = None
before_of (first ∷ before) k = if nat_eq first.number k then Some first else before_of before k

-- when it was played, and when its end was first seen, by what is said
abbrev pub said_at : Option EventBefore → Option ℕ
said_at None = None
said_at (Some said) = said.at

abbrev pub said_until : Option EventBefore → Option ℕ
said_until None = None
said_until (Some said) = said.until

abbrev pub said_why : Option EventBefore → Option Reason
said_why None = None
said_why (Some said) = said.why

-- when it began, when it ended, and how: what an older look saw goes first
abbrev pub known_of : Option EventSeen → Option EventBefore → Known
known_of (Some older) said = record {
  at = option_or older.at (said_at said);
  until = option_or older.until (said_until said);
  ending = older.ending;
}
known_of None said = record { at = said_at said; until = said_until said; ending = None }

abbrev pub row_by : News → Option EventBefore → Known → ℕ → Item → EventSeen
row_by news said known k item = record {
  number = k;
  item = item;
  kept = option_map (λ b. b.kept) said;
  why = said_why said;
  at = option_or known.at (at_in news said k);
  until = until_in news known.until (ending_after known.ending (ending_in news k));
  ending = ending_after known.ending (ending_in news k);
}

abbrev pub row_of : News → List EventSeen → List EventBefore → ℕ → Item → EventSeen
row_of news older before k item = row_by news (before_of before k) (known_of (older_of older k) (before_of before k)) k item

-- a row is that of its event
abbrev pub IsRow : News → List EventSeen → List EventBefore → EventSeen → Type 0
IsRow news older before row = row ≡ row_of news older before row.number row.item
