-- When the events that a journal's rows report aired, and which event may have aired besides.
use Rattle.std.specs.List.{list_any}
use Rattle.std.specs.Option.{option_or}
use Rattle.std.specs.Prelude.{◌≡◌, ℕ, ◌+◌, ◌||◌, ◌&&◌, Bool, false, not, IsTrue, Option, None, Some, List, [], ◌∷◌, ◌++◌, if◌then◌else◌, length, slice_get}
use Rattle.vdcp_auto.specs.Commands.{is_play_command, is_status_command, is_stop_command}
use Rattle.vdcp_auto.specs.Judging.{Knows}
use Rattle.vdcp_auto.specs.Log.{hears}
use Rattle.vdcp_auto.specs.Replies.{has_off, is_done, is_playing}
use Rattle.vdcp_auto.specs.Settled.{may_have_aired, settled}
use Rattle.vdcp_auto.specs.declared.exchange.Exchange.{Exchange}
use Rattle.vdcp_auto.specs.declared.phase.Mode.{Mode}
use Rattle.vdcp_journal.specs.Resume.{ended_at, log_of, open_after}
use Rattle.vdcp_journal.specs.Runs.{Run}
use Rattle.vdcp_journal.specs.declared.airings.Airing.{Airing}
use Rattle.vdcp_journal.specs.declared.airings.AiringsSoFar.{AiringsSoFar}
use Rattle.vdcp_journal.specs.declared.moment.Moment.{Moment}
use Rattle.vdcp_journal.specs.declared.row.Note.{Note}
use Rattle.vdcp_journal.specs.declared.row.Note.TheVariants as note
use Rattle.vdcp_journal.specs.declared.row.Row.{Row}
use Rattle.vdcp_value.specs.declared.part.Item.{Item}
use Rattle.vdcp_words.specs.declared.command.Command.{Command}

-- a PLAY goes out
abbrev pub sends_play : Note → Bool
sends_play (note.Sent c) = is_play_command c
sends_play n = false

abbrev pub is_play_row : Row → Bool
is_play_row row = sends_play row.note

-- how many events the rows show to be aired
abbrev pub settled_in : Mode → List Row → ℕ
settled_in mode rows = settled mode (log_of rows)

-- what is on air ends by this, or is seen to have ended: a PLAY or STOP goes out, or a state is heard with bit 2 off
abbrev pub shows_end : Note → Bool
shows_end (note.Sent c) = is_play_command c || is_stop_command c
shows_end (note.Heard h) = hears (has_off 4) (Some h)
shows_end n = false

-- the first row that shows that
abbrev pub end_in : List Row → Option Row
end_in [] = None
end_in (row ∷ rows) = if shows_end row.note then Some row else end_in rows

-- event k is known to have aired with the row that settles it: up to that row, and not before, the rows show more than
-- k events. It was played by the last PLAY before that row, and its end is what that row or a later one shows
pub record IsAiring (mode : Mode) (rows : List Row) (k : ℕ) (airing : Airing) : Type 0 where
  pub before : List Row
  pub play : Row
  pub between : List Row
  pub settling : Row
  pub after : List Row
  pub in_order : rows ≡ before ++ (play ∷ (between ++ (settling ∷ after)))
  pub is_play : IsTrue (is_play_row play)
  pub last_play : list_any is_play_row between ≡ false
  pub unsettled : settled_in mode (before ++ (play ∷ between)) ≡ k
  pub settles : settled_in mode (before ++ (play ∷ (between ++ (settling ∷ [])))) ≡ k + 1
  pub played : airing.played ≡ play.time
  pub known : airing.known ≡ settling.time
  pub ended : airing.ended ≡ end_in (settling ∷ after)

-- an airing, if this row is the first behind its rows that shows an end, or none is
abbrev pub ended_by : Option Row → Airing → Airing
ended_by end airing = record airing { ended = option_or airing.ended end }

-- after a note: a state was heard with the cue done and a clip playing, and since then at the most that this has ended. It
-- announces a PLAY, which may have gone out before its row was safe
abbrev pub announces_after : Bool → Note → Bool
announces_after before (note.Sent c) = is_status_command c && before
announces_after before (note.Heard h) = hears is_done (Some h) && (hears is_playing (Some h) || before)
announces_after before n = false

abbrev pub announces_from : Bool → List Row → Bool
announces_from before [] = before
announces_from before (row ∷ rows) = announces_from (announces_after before row.note) rows

-- one event more than a run's rows show may have aired: by its PLAY, or one that is announced, unless the operator left the run
abbrev pub may_have_played : Mode → Run → Bool
may_have_played mode run = may_have_aired mode (log_of run.rows) || (announces_from false run.rows && not run.left)

-- the event that may have aired besides, if one may: the first that isn't settled
abbrev pub unsettled_event : Mode → Run → Option ℕ
unsettled_event mode run = if may_have_played mode run then Some (settled_in mode run.rows) else None

-- these are the airings of the events that the rows show to be aired
pub record AreAirings (mode : Mode) (rows : List Row) (airings : List Airing) : Type 0 where
  pub one_each : length airings ≡ settled_in mode rows
  pub are : (k : ℕ) (airing : Airing) → slice_get airings k ≡ Some airing → IsAiring mode rows k airing

-- the command that is open after rows, if this one was open before them
abbrev pub asked_after : Option Command → List Row → Option Command
asked_after asked [] = asked
asked_after asked (row ∷ rows) = asked_after (open_after asked row.note) rows

-- the exchanges that the rows end
abbrev pub ended_from : Option Command → List Row → List Exchange
ended_from asked [] = []
ended_from asked (row ∷ rows) = ended_at asked row.note (ended_from (open_after asked row.note) rows)

-- a PLAY is open
abbrev pub asks_play : Option Command → Bool
asks_play None = false
asks_play (Some c) = is_play_command c

-- the last PLAY went out then
pub record IsLastPlay (rows : List Row) (time : Moment) : Type 0 where
  pub before : List Row
  pub play : Row
  pub after : List Row
  pub in_order : rows ≡ before ++ (play ∷ after)
  pub is_play : IsTrue (is_play_row play)
  pub last : list_any is_play_row after ≡ false
  pub time_is : time ≡ play.time

-- when the last PLAY went out, if one did
abbrev pub IsLastPlayIf : List Row → Option Moment → Type 0
IsLastPlayIf rows None = list_any is_play_row rows ≡ false
IsLastPlayIf rows (Some time) = IsLastPlay rows time

-- what is found of the rows so far: their airings, what the judge knows of their exchanges that have ended, and what goes on
pub record FoundSoFar {S : Type 0} (items : S → List Item) (mode : Mode) (rows : List Row) (so_far : AiringsSoFar S) :
    Type 0 where
  pub mode_is : so_far.judge.mode ≡ mode
  pub knows : Knows items (ended_from None rows) so_far.judge
  pub asked_is : so_far.asked ≡ asked_after None rows
  pub announced_is : so_far.announced ≡ announces_from false rows
  pub played : IsLastPlayIf rows so_far.played
  pub first_end_is : so_far.first_end ≡ end_in rows
  pub are : AreAirings mode rows so_far.airings.items
