-- A session over a wire, seen at the wire below.
use Rattle.std.proofs.Common.{◌≡◌, ◌∙◌, ℕ, List, [], ◌∷◌, ap}
use Rattle.std.proofs.Math.Nat.{min-eq_left}
use Rattle.std.specs.Option.{option_map}
use Rattle.std.specs.Prelude.{◌≤◌, ◌^◌, ◌-◌, Bool, min, None, Some, Option, Result}
use Rattle.vdcp_auto.specs.Plan.{Plan}
use Rattle.vdcp_auto.specs.State.{State}
use Rattle.vdcp_auto.specs.declared.outcome.Outcome.{Outcome}
use Rattle.vdcp_drive.specs.Auto.{Auto}
use Rattle.vdcp_drive.specs.Ears.{Fold}
use Rattle.vdcp_drive.specs.Hearing as ears
use Rattle.vdcp_drive.specs.Leaves.{HasRun, steps_in}
use Rattle.vdcp_drive.specs.Reading.{holds}
use Rattle.vdcp_drive.specs.Steps.{Does, Happens, Rules, Step, World, acts, asks, keeps, misses}
use Rattle.vdcp_drive.specs.declared.hooks.Kept.{Kept}
use Rattle.vdcp_drive.specs.declared.hooks.Next.{Next}
use Rattle.vdcp_drive.specs.declared.hooks.BrokenOff.{BrokenOff}
use Rattle.vdcp_drive.specs.declared.line.Ran.{Ran}
use Rattle.vdcp_drive.specs.declared.hearing.Hearing.{Hearing}
use Rattle.vdcp_drive.specs.declared.hearing.Hearing.TheVariants as hears
use Rattle.vdcp_journal_file.specs.Recording.{Recording}
use Rattle.vdcp_operator.specs.declared.on_list.OnList.{OnList}
use Rattle.vdcp_run.specs.Session.{AsksFirst, HasEnded, HasHeld, HasTried, Limits, Onset, Plays, TriesBy, held, none, onset_of, played, signs_at_first, unbegun}
use Rattle.vdcp_run.specs.Asking.{Asker, Comes, HasAsked, Start, asker_of}
use Rattle.vdcp_run.specs.declared.run_end.LineEnd.{LineEnd}
use Rattle.vdcp_run.specs.declared.run_end.RunEnd.{RunEnd}
use Rattle.vdcp_run.specs.declared.run_end.Signs.{Signs}
use Rattle.vdcp_run.specs.declared.settings.RunSettings.{RunSettings}
use Rattle.vdcp_wire.specs.Acts.{Act}
use Rattle.vdcp_wire.specs.Streams.{Streamed}

-- what one wire does, another one does below it: a session
module _ {W W' : Type 0} (does : Act → W → W → Type 0) (does' : Act → W' → W' → Type 0) (w : W → W')
    (acting : (a : Act) (old new : W) → does a old new → does' a (w old) (w new)) where
  abbrev below : {J : Type 0} → World W J → World W' J
  below world = record { wire = w world.wire; keep = world.keep }

  -- a run, by the same rules for what is kept
  module _ {J : Type 0} (asked : State → Next → J → J → Type 0) (adds loses : Kept → J → J → Type 0) where
    abbrev here : Rules W J
    here = record { does = does; asks = asked; adds = adds; loses = loses }

    abbrev there : Rules W' J
    there = record { does = does'; asks = asked; adds = adds; loses = loses }

    step_seen : (s : Step) (old new : World W J) → Does here s old new → Does there s (below old) (below new)
    step_seen (acts a) old new h = (acting a old.wire new.wire h.0, ap below h.1)
    step_seen (asks s n) old new h = (h.0, ap below h.1)
    step_seen (keeps r) old new h = (h.0, ap below h.1)
    step_seen (misses r) old new h = (h.0, ap below h.1)

    happens_seen : (steps : List Step) (old new : World W J) → Happens here steps old new
        → Happens there steps (below old) (below new)
    happens_seen [] old new h = ap below h
    happens_seen (s ∷ later) old new (next, one, rest) =
        (below next, step_seen s old next one, happens_seen later next new rest)

    run_seen : {E : Type 0} (fold : Fold E) (plan : Plan) (unit count : ℕ) (a a' : Auto E) (old new : World W J)
        (answer : Result Ran BrokenOff) → HasRun here fold plan unit count a a' old new answer
        → HasRun there fold plan unit count a a' (below old) (below new) answer
    run_seen fold plan unit count a a' old new answer h =
        record { run = h.run; happened = happens_seen (steps_in h.run) old new h.happened }

    comes_seen : {E : Type 0} (fold : Fold E) (plan : Plan) (unit turns : ℕ) (state : State) (ear ear' : E)
        (old new : World W J) (answer : Result Ran BrokenOff) (outcome : Option Outcome)
        → Comes here fold plan unit turns state ear ear' old new answer outcome
        → Comes there fold plan unit turns state ear ear' (below old) (below new) answer outcome
    comes_seen fold plan unit turns state ear ear' old new answer outcome h = record {
      auto = h.auto;
      runs = run_seen fold plan unit turns _ h.auto old new answer h.runs;
      ear_is = h.ear_is;
      outcome_is = h.outcome_is;
    }

  -- what was asked
  asked_seen : {E : Type 0} (fold : Fold E) (asker : Option Asker) (settings : RunSettings) (ear ear' : E) (wire wire' : W)
      (left : ℕ) (signs signs' : Signs) (line : Option LineEnd)
      → HasAsked asker does fold settings ear ear' wire wire' left signs signs' line
      → HasAsked asker does' fold settings ear ear' (w wire) (w wire') left signs signs' line
  asked_seen fold None settings ear ear' wire wire' left signs signs' line h = (h.0, ap w h.1, h.2, h.3, h.4)
  asked_seen fold (Some asker) settings ear ear' wire wire' left signs signs' line h = record {
    waiting = h.waiting;
    list = h.list;
    last = h.last;
    answer = h.answer;
    outcome = h.outcome;
    comes = comes_seen _ _ _ fold asker.plan settings.unit settings.listens asker.state ear ear' _ _ h.answer h.outcome h.comes;
    left_is = h.left_is;
    signs_are = h.signs_are;
    line_is = h.line_is;
  }

  -- what is played
  module _ {F : Type 0} (safe : F → Option (List ℕ)) where
    plays_seen : {E : Type 0} (fold : Fold E) (ear : E) (unit listens : ℕ) (signs : Signs) (list : OnList) (start : Start)
        (world : World W (Option (Recording F))) (last : W) (end : RunEnd)
        → Plays does safe fold ear unit listens signs list start world last end
        → Plays does' safe fold ear unit listens signs list start (below world) (w last) end
    unfolding run_seen
    plays_seen fold ear unit listens signs list start world last end plays = record {
      ran = plays.ran;
      auto = plays.auto;
      left = below plays.left;
      runs = run_seen _ _ _ fold start.plan unit listens _ plays.auto world plays.left plays.ran plays.runs;
      last_is = ap w plays.last_is;
      left_before = plays.left_before;
      kept = plays.kept;
      line_is = plays.line_is;
      reports = plays.reports;
      signs_are = plays.signs_are;
      heeds = plays.heeds;
      left_is = plays.left_is;
      closed = plays.closed;
    }

    abbrev onset_below : {E : Type 0} → Onset E W F → Onset E W' F
    onset_below x =
        record { start = x.start; ear = x.ear; world = below x.world; turns = x.turns; signs = x.signs; list = x.list }

    asks_seen : {E : Type 0} (fold : Fold E) (settings : RunSettings) (is_held : Bool) (x : Onset E W F) (ear : E) (wire : W)
        (left : ℕ) (signs : Signs) (line : Option LineEnd) → AsksFirst does fold settings is_held x ear wire left signs line
        → AsksFirst does' fold settings is_held (onset_below x) ear (w wire) left signs line
    asks_seen fold settings is_held x ear wire left signs line first = asked_seen fold (asker_of settings.ask is_held x.start)
        (record settings { listens = x.turns }) x.ear ear x.world.wire wire left x.signs signs line first

    held_seen : {E : Type 0} (fold : Fold E) (settings : RunSettings) (z x : Onset E W F) → HasHeld does safe fold settings z x
        → HasHeld does' safe fold settings (onset_below z) (onset_below x)
    unfolding run_seen
    held_seen fold settings z _ none = none
    held_seen fold settings z _ (held {x} is_held ear wire count signs first auto left runs plays keep written turns later) =
        held is_held ear (w wire) count signs (asks_seen fold settings is_held x ear wire count signs None first) auto (below left)
        (run_seen _ _ _ fold x.start.plan settings.unit count _ auto _ left _ runs) plays keep written turns
        (held_seen fold settings z _ later)

    ended_seen : {E : Type 0} (fold : Fold E) (settings : RunSettings) (x : Onset E W F) (last : W) (end : RunEnd)
        → HasEnded does safe fold settings x last end → HasEnded does' safe fold settings (onset_below x) (w last) end
    ended_seen fold settings x last end (played is_held ear wire left signs first plays) =
        played is_held ear (w wire) left signs (asks_seen fold settings is_held x ear wire left signs None first)
        (plays_seen fold ear settings.unit left signs x.list x.start (record x.world { wire = wire }) last end plays)
    ended_seen fold settings x last end (unbegun is_held ear left signs line first is reports) =
        unbegun is_held ear left signs line (asks_seen fold settings is_held x ear last left signs (Some line) first) is reports

    tries_seen : {E : Type 0} (fold : Fold E) (settings : RunSettings) (x : Onset E W F) (last : W) (end : RunEnd)
        → HasTried does safe fold settings x last end → HasTried does' safe fold settings (onset_below x) (w last) end
    tries_seen fold settings x last end tried = record {
      onset = onset_below tried.onset;
      held = held_seen fold settings tried.onset x tried.held;
      ended = ended_seen fold settings tried.onset last end tried.ended;
    }

    pub tries_by_seen : (hearing : Hearing) (settings : RunSettings) (start : Start) (list : OnList)
        (world : World W (Option (Recording F))) (last : W) (end : RunEnd)
        → TriesBy hearing does safe settings start list world last end
        → TriesBy hearing does' safe settings start list (below world) (w last) end
    tries_by_seen hears.AtSilences settings start list world last end tries = tries_seen ears.at_silences settings
        (onset_of start (ears.begun (holds [])) world settings.listens signs_at_first list) last end tries
    tries_by_seen hears.AtOnce settings start list world last end tries =
        tries_seen ears.at_once settings (onset_of start (holds []) world settings.listens signs_at_first list) last end tries

-- ---- a connection

pub limits_so : (time limit : ℕ) (wire : Streamed) → limit ≡ time → limit ≤ 2 ^ 64 - 1
    → option_map (λ l. l.most) wire.answer ≡ Some (min limit (2 ^ 64 - 1)) → Limits wire time
limits_so time limit wire is short limits = limits ∙ ap (λ (n : ℕ). Some n) (min-eq_left short ∙ is)
