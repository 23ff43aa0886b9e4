-- What a log leaves behind, exchange by exchange. The look-backs of specs/ equal this (LookBacks), and
-- the induction over a controller's calls speaks of this alone.
use Rattle.std.specs.Prelude.{ℕ, ◌+◌, Bool, false, not, ◌||◌, ◌&&◌, if◌then◌else◌, nat_le, List, fold}
use Rattle.vdcp_words.specs.declared.command.Command.{Command}
use Rattle.vdcp_words.specs.declared.command.Command.TheVariants as command
use Rattle.vdcp_auto.specs.declared.exchange.Exchange.{Exchange}
use Rattle.vdcp_auto.specs.declared.phase.Mode.{Mode}
use Rattle.vdcp_auto.specs.declared.phase.Mode.TheVariants.{Plain, Confirming}
use Rattle.vdcp_auto.specs.Log.{is_play, is_stop, is_close, is_cue, is_grant, is_acked, is_answered, is_done_status, is_empty_status, is_counted}

pub record Memo : Type 0 where
  -- a PLAY is open
  pub opened : Bool
  -- how many exchanges settle
  pub count : ℕ
  -- a cue stands after the last exchange that settles; the command of the last one, and whether it heard ACK
  pub cued : Bool
  pub cue : Command
  pub acked : Bool
  -- a done status stands after the last cue, with no PLAY after it
  pub done : Bool
  -- the command of the first cue after the last exchange that settles, and how many empty statuses stand after it
  pub first : Command
  pub empties : ℕ
  -- how many of those that count are unanswered in a row
  pub row : ℕ
  -- a shorter front of the log has the limit of these
  pub early : Bool
  pub stopped : Bool
  pub closed : Bool
  pub granted : Bool

abbrev pub blank : Memo
blank = record {
  opened = false;
  count = 0;
  cued = false;
  cue = command.Stop;
  acked = false;
  done = false;
  first = command.Stop;
  empties = 0;
  row = 0;
  early = false;
  stopped = false;
  closed = false;
  granted = false;
}

abbrev pub opens : Bool → Exchange → Bool
opens opened e = if is_play e then not (is_answered e) else (if is_stop e || is_empty_status e then false else opened)

abbrev pub settles_now : Mode → Bool → Exchange → Bool
settles_now Plain opened e = is_play e && is_acked e || is_empty_status e && opened
settles_now Confirming opened e = is_empty_status e && opened

abbrev pub row_after : Mode → ℕ → Exchange → ℕ
row_after mode row e = if is_counted mode e then (if is_answered e then 0 else row + 1) else row

abbrev pub remember : Mode → ℕ → Memo → Exchange → Memo
remember mode limit m e =
    record {
      opened = opens m.opened e;
      count = if settles_now mode m.opened e then m.count + 1 else m.count;
      cued = not (settles_now mode m.opened e) && (is_cue e || m.cued);
      cue = if is_cue e then e.command else m.cue;
      acked = if is_cue e then is_acked e else m.acked;
      done = not (is_cue e || is_play e) && (is_done_status e || m.done);
      first = if m.cued then m.first else e.command;
      empties = if m.cued then (if is_empty_status e then m.empties + 1 else m.empties) else 0;
      row = row_after mode m.row e;
      early = m.early || nat_le limit m.row;
      stopped = m.stopped || is_stop e;
      closed = m.closed || is_close e;
      granted = m.granted || is_grant e;
    }

pub memo_of : Mode → ℕ → List Exchange → Memo
memo_of mode limit log = fold (remember mode limit) blank log
