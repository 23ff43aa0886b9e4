-- What a session did: it asked the port, if it was to, and ran a driver, with the journal that it has, if it has one.
use Rattle.std.specs.Option.{option_map}
use Rattle.std.specs.Prelude.{ℕ, ◌≡◌, ◌≢◌, ◌⊎◌, ◌+◌, ◌-◌, ◌*◌, ◌≤◌, Bool, true, false, List, [], ◌∷◌, Option, None, Some, IsSome, IsTrue, Result, Err}
use Rattle.vdcp_auto.specs.Commands.{is_cue_command}
use Rattle.vdcp_auto.specs.State.{Stage, State, Ready}
use Rattle.vdcp_auto.specs.Turn.{is_awaiting, outcome_of}
use Rattle.vdcp_auto.specs.declared.phase.Mode.{Mode}
use Rattle.vdcp_auto.specs.declared.phase.Mode.TheVariants.{Plain}
use Rattle.vdcp_auto.specs.declared.phase.Phase.TheVariants as phase
use Rattle.vdcp_drive.specs.Auto.{Auto}
use Rattle.vdcp_drive.specs.Ears.{Fold}
use Rattle.vdcp_drive.specs.Hearing as ears
use Rattle.vdcp_drive.specs.Hooked.{MayKeep, MayLose}
use Rattle.vdcp_drive.specs.Leaves.{HasRun, steps_in}
use Rattle.vdcp_drive.specs.Reading.{holds}
use Rattle.vdcp_drive.specs.Steps.{Rules, Step, World, asks, keeps}
use Rattle.vdcp_drive.specs.Traces.{kept_in}
use Rattle.vdcp_drive.specs.declared.hooks.BrokenOff.{BrokenOff}
use Rattle.vdcp_drive.specs.declared.hooks.BrokenOff.TheVariants as fault
use Rattle.vdcp_drive.specs.declared.hooks.Call.TheVariants as call
use Rattle.vdcp_drive.specs.declared.hooks.Kept.{Kept}
use Rattle.vdcp_drive.specs.declared.hooks.Kept.TheVariants as kept
use Rattle.vdcp_drive.specs.declared.hooks.Next.{Next}
use Rattle.vdcp_drive.specs.declared.hooks.Next.TheVariants as next
use Rattle.vdcp_drive.specs.declared.line.Ran.{Ran}
use Rattle.vdcp_drive.specs.declared.line.Ran.TheVariants as ran
use Rattle.vdcp_journal.specs.declared.moment.Moment.{Moment}
use Rattle.vdcp_drive.specs.declared.hearing.Hearing.{Hearing}
use Rattle.vdcp_drive.specs.declared.hearing.Hearing.TheVariants as hears
use Rattle.vdcp_journal_file.specs.Recorded.{Loses, Notes, NotesEnd, recorder_rules}
use Rattle.vdcp_journal_file.specs.Recording.{Adds, Recording, outcome_rows}
use Rattle.vdcp_journal_file.specs.declared.pending.Pending.TheVariants as pending
use Rattle.vdcp_operator.specs.Hands.{holds_back, is_cued}
use Rattle.vdcp_operator.specs.OnList.{list_called}
use Rattle.vdcp_operator.specs.declared.on_list.OnList.{OnList}
use Rattle.vdcp_run.specs.Ends.{Reports, is_unplayed, line_end_of}
use Rattle.vdcp_run.specs.Asking.{HasAsked, Start, asker_of, over, signs_heard}
use Rattle.vdcp_run.specs.declared.lack.Lack.{Lack}
use Rattle.vdcp_run.specs.declared.run_end.LineEnd.{LineEnd}
use Rattle.vdcp_run.specs.declared.run_end.LineEnd.TheVariants as line_end
use Rattle.vdcp_run.specs.declared.run_end.RunEnd.{RunEnd}
use Rattle.vdcp_run.specs.declared.run_end.Signs.{Signs}
use Rattle.vdcp_run.specs.declared.run_end.Why.{Why}
use Rattle.vdcp_run.specs.declared.run_end.Why.TheVariants as why
use Rattle.vdcp_run.specs.declared.settings.RunSettings.{RunSettings}
use Rattle.vdcp_run.specs.declared.settings.Staying.{Staying}
use Rattle.vdcp_wire.specs.Acts.{Act}
use Rattle.vdcp_wire.specs.Streams.{StreamDoes, Streamed}
use Rattle.vdcp_wire.specs.declared.stream.Connection.TheVariants as connection

-- ---- what is kept over a connection

-- its journal, if there is one, the signs, how many turns are left, and the operator's calls on the list that were heeded
pub record Keeping (F : Type 0) : Type 0 where
  pub recorder : Option (Recording F)
  pub signs : Signs
  pub left : ℕ
  pub list : OnList

-- the signs before a run; where none took place; and once this is kept
abbrev pub signs_at_first : Signs
signs_at_first = record { heard = false; unopened = true; cueing = false; stopped = false; unanswered = false }

abbrev pub no_signs : Signs
no_signs = record { heard = false; unopened = false; cueing = false; stopped = false; unanswered = false }

abbrev pub signs_after : Kept → Signs → Signs
signs_after (kept.Sent c) signs = record signs { cueing = is_cue_command c }
signs_after (kept.Heard h) signs = signs_heard h signs
signs_after kept.Silence signs = record signs { unanswered = true }
signs_after (kept.Called call.Take) signs = signs
signs_after (kept.Called call.Stop) signs = record signs { stopped = true }
signs_after (kept.Called (call.List c)) signs = signs

abbrev pub signs_by : List Kept → Signs → Signs
signs_by [] signs = signs
signs_by (one ∷ later) signs = signs_by later (signs_after one signs)

-- a call on the list is heeded once it is kept, and no other is
abbrev pub list_kept : Kept → OnList → OnList
list_kept (kept.Called c) list = list_called c list
list_kept _ list = list

abbrev pub list_kept_by : List Kept → OnList → OnList
list_kept_by [] list = list
list_kept_by (one ∷ later) list = list_kept_by later (list_kept one list)

-- what a run does over a connection to its wire, and to this
abbrev pub KeepsOn : {F : Type 0} → (F → Option (List ℕ)) → Kept → Keeping F → Keeping F → Type 0
KeepsOn safe one old new = MayKeep (Notes safe) one old.recorder new.recorder
    × (new.signs ≡ signs_after one old.signs) × (new.left ≡ old.left) × (new.list ≡ list_kept one old.list)

abbrev pub LosesIn : {F : Type 0} → (F → Option (List ℕ)) → Kept → Keeping F → Keeping F → Type 0
LosesIn safe one old new = MayLose (Loses safe) one old.recorder new.recorder
    × (new.signs ≡ old.signs) × (new.left ≡ old.left) × (new.list ≡ old.list)

-- The controller asks about the next event next; or, in plain mode, what it sends next is for its cue, or is its PLAY: a first one,
-- or again, behind one that had no answer and that a state has shown to be lost.
abbrev pub IsBeforeEvent : Mode → Stage → Type 0
IsBeforeEvent mode (Ready (phase.Exists k)) = Unit {0}
IsBeforeEvent Plain (Ready (phase.Cue k)) = Unit {0}
IsBeforeEvent Plain (Ready (phase.Wait k)) = Unit {0}
IsBeforeEvent Plain (Ready (phase.Play k)) = Unit {0}
IsBeforeEvent mode stage = ⊥

-- the line is left only then, or before a PLAY
abbrev pub LeavesBefore : Mode → Stage → Next → Type 0
LeavesBefore mode stage next.Leave = IsBeforeEvent mode stage ⊎ IsTrue (is_cued stage)
LeavesBefore mode stage n = Unit {0}

-- it goes on with nothing that is held back
abbrev pub PlaysNoneHeld : OnList → State → Next → Type 0
PlaysNoneHeld list state next.GoOn = holds_back list.holds state ≡ false
PlaysNoneHeld list state n = Unit {0}

abbrev pub AsksIn : {F : Type 0} → Mode → State → Next → Keeping F → Keeping F → Type 0
AsksIn mode state n old new =
    (new ≡ record old { left = old.left - 1 }) × LeavesBefore mode state.stage n × PlaysNoneHeld old.list state n

abbrev pub playing_rules : {W F : Type 0} → Mode → (Act → W → W → Type 0) → (F → Option (List ℕ)) → Rules W (Keeping F)
playing_rules mode does safe = record {
  does = does;
  asks = AsksIn mode;
  adds = KeepsOn safe;
  loses = LosesIn safe;
}

-- by the calls that are kept up to each of these steps no PLAY goes out that is held
abbrev pub HeedsCalls : OnList → List Step → Type 0
HeedsCalls list [] = Unit {0}
HeedsCalls list (asks state n ∷ later) = PlaysNoneHeld list state n × HeedsCalls list later
HeedsCalls list (keeps one ∷ later) = HeedsCalls (list_kept one list) later
HeedsCalls list (step ∷ later) = HeedsCalls list later

-- how many turns such steps made: at the beginning of each it was asked what to do
abbrev pub turns_in : List Step → ℕ
turns_in [] = 0
turns_in (asks state n ∷ later) = turns_in later + 1
turns_in (step ∷ later) = turns_in later

-- ---- a driver's run

-- if a command's exchange is open, it is noted that nothing came for it
abbrev pub EndsOpen : {F : Type 0} → Bool → Recording F → Recording F → Type 0
EndsOpen true old new = NotesEnd None old new
EndsOpen false old new = new ≡ old

-- Its journal was ended, if it has one: first an exchange that is still open, and then with the outcome, if there is one. If
-- it isn't whole, why is told; it isn't if a command couldn't be kept.
abbrev pub IsClosed : {F : Type 0} → (F → Option (List ℕ)) → Stage → LineEnd → Option Lack → Option (Recording F) → Type 0
IsClosed safe stage line lack None = lack ≡ None
IsClosed {F} safe stage line None (Some recorder) = (line ≢ line_end.Unkept) × (last : Recording F)
    × EndsOpen (is_awaiting stage) recorder last
    × (time : Moment) × (then : Recording F) × Adds safe last then (outcome_rows time (outcome_of stage))
IsClosed safe stage line (Some lack) (Some recorder) = lack.journal ≡ recorder.name

-- with this ear a driver ran, and came to this end: before each command went out and each call was given its journal,
-- if it has one, had the rows safe that were due. No PLAY went out that was held. Then the journal was ended. The wire was left so,
-- and the turns that weren't made
pub record Plays {E W F : Type 0} (does : Act → W → W → Type 0) (safe : F → Option (List ℕ)) (fold : Fold E) (ear : E)
    (unit listens : ℕ) (signs : Signs) (list : OnList) (start : Start) (world : World W (Option (Recording F))) (last : W) (end : RunEnd)
    : Type 0 where
  pub ran : Result Ran BrokenOff
  pub auto : Auto E
  pub left : World W (Option (Recording F))
  pub runs : HasRun (recorder_rules does safe) fold start.plan unit listens (record { ear = ear; state = start.state }) auto world
      left ran
  pub last_is : left.wire ≡ last
  pub left_before : ran ≡ Err fault.Left → LeavesBefore start.plan.mode auto.state.stage next.Leave
  pub kept : ℕ
  pub line_is : end.line ≡ line_end_of ran (is_unplayed start.plan.mode end.signs auto.state) (start.from + auto.state.settled) kept
  pub reports : Reports start.from auto.state end
  pub signs_are : end.signs ≡ signs_by (kept_in (steps_in runs.run)) signs
  pub heeds : HeedsCalls list (steps_in runs.run)
  pub left_is : end.left ≡ listens - turns_in (steps_in runs.run)
  pub closed : IsClosed safe auto.state.stage end.line end.unkept left.keep

-- ---- over a connection

-- what a stretch of a session begins with: its controller, the ear, the wire and the journal, the turns that may be made, the signs
-- so far, and the operator's calls on the list
pub record Onset (E W F : Type 0) : Type 0 where
  pub start : Start
  pub ear : E
  pub world : World W (Option (Recording F))
  pub turns : ℕ
  pub signs : Signs
  pub list : OnList

-- first what was to be asked was, with the ear and the turns of the stretch, and with its signs, which tell if there was no
-- answer
abbrev pub AsksFirst : {E W F : Type 0} → (Act → W → W → Type 0) → Fold E → RunSettings → (is_held : Bool) → Onset E W F → E → W
    → (left : ℕ) → Signs → Option LineEnd → Type 0
AsksFirst does fold settings is_held x ear wire left signs line = HasAsked (asker_of settings.ask is_held x.start) does fold
    (record settings { listens = x.turns }) x.ear ear x.world.wire wire left x.signs signs line

-- all that waited is written to the journal, if there is one
abbrev pub IsWritten : {F : Type 0} → (F → Option (List ℕ)) → (old new : Option (Recording F)) → Type 0
IsWritten safe None new = new ≡ None
IsWritten safe (Some old) None = ⊥
IsWritten safe (Some old) (Some new) = Adds safe old new [] × (new ≡ record old { file = new.file; pending = pending.Nothing })

-- a stretch that was left before a PLAY so, with this journal, these turns to make, these signs and these calls on the list, leads to
-- the next one
abbrev pub onset_after : {E W F : Type 0} → Onset E W F → Auto E → World W (Option (Recording F)) → Option (Recording F)
    → (turns : ℕ) → Signs → OnList → Onset E W F
onset_after x auto left keep turns signs list = record {
  start = record x.start { state = auto.state };
  ear = auto.ear;
  world = record left { keep = keep };
  turns = turns;
  signs = signs;
  list = list;
}

-- the calls on the list that were kept by these steps hold back what is cued in this state, in which the steps ended
pub record IsHeldBack (list : OnList) (steps : List Step) (state : State) : Type 0 where
  pub cued : IsTrue (is_cued state.stage)
  pub is_held : IsTrue (holds_back (list_kept_by (kept_in steps) list).holds state)
  pub heeds : HeedsCalls list steps

-- The operator held some PLAYs, each for a while: what was to be asked was, and with the ear that this left a driver ran that was
-- left before the PLAY. All that waited was written, and the next stretch went on from there, over the same wire.
pub data HasHeld {E W F : Type 0} (does : Act → W → W → Type 0) (safe : F → Option (List ℕ)) (fold : Fold E)
    (settings : RunSettings) (z : Onset E W F) : Onset E W F → Type 0 where
  none : HasHeld does safe fold settings z z
  held : {x : Onset E W F} (is_held : Bool) (ear : E) (wire : W) (count : ℕ) (signs : Signs)
      → AsksFirst does fold settings is_held x ear wire count signs None → (auto : Auto E) (left : World W (Option (Recording F)))
      → (runs : HasRun (recorder_rules does safe) fold x.start.plan settings.unit count
      (record { ear = ear; state = x.start.state }) auto (record x.world { wire = wire }) left (Err fault.Left))
      → IsHeldBack x.list (steps_in runs.run) auto.state → (keep : Option (Recording F)) → IsWritten safe left.keep keep
      → (turns : (n : ℕ) × (n ≤ count - turns_in (steps_in runs.run)))
      → HasHeld does safe fold settings z (onset_after x auto left keep turns.0 (signs_by (kept_in (steps_in runs.run)) signs)
      (list_kept_by (kept_in (steps_in runs.run)) x.list))
      → HasHeld does safe fold settings z x

-- the line ended so, with these signs, and with so many turns left
abbrev pub EndsSo : LineEnd → Signs → (left : ℕ) → RunEnd → Type 0
EndsSo line signs left end = (end.line ≡ line) × (end.signs ≡ signs) × (end.left ≡ left)

-- The last stretch: what was to be asked was, and then the list was played, unless that ends the line.
pub data HasEnded {E W F : Type 0} (does : Act → W → W → Type 0) (safe : F → Option (List ℕ)) (fold : Fold E)
    (settings : RunSettings) (x : Onset E W F) (last : W) (end : RunEnd) : Type 0 where
  played : (is_held : Bool) (ear : E) (wire : W) (left : ℕ) (signs : Signs)
      → AsksFirst does fold settings is_held x ear wire left signs None
      → Plays does safe fold ear settings.unit left signs x.list x.start (record x.world { wire = wire }) last end
      → HasEnded does safe fold settings x last end
  unbegun : (is_held : Bool) (ear : E) (left : ℕ) (signs : Signs) (line : LineEnd)
      → AsksFirst does fold settings is_held x ear last left signs (Some line)
      → EndsSo line signs left end → Reports x.start.from x.start.state end → HasEnded does safe fold settings x last end

-- one stretch after another
pub record HasTried {E W F : Type 0} (does : Act → W → W → Type 0) (safe : F → Option (List ℕ)) (fold : Fold E)
    (settings : RunSettings) (x : Onset E W F) (last : W) (end : RunEnd) : Type 0 where
  pub onset : Onset E W F
  pub held : HasHeld does safe fold settings onset x
  pub ended : HasEnded does safe fold settings onset last end

abbrev pub onset_of : {E W F : Type 0} → Start → E → World W (Option (Recording F)) → (turns : ℕ) → Signs → OnList → Onset E W F
onset_of start ear world turns signs list =
    record { start = start; ear = ear; world = world; turns = turns; signs = signs; list = list }

-- so with a new ear
abbrev pub TriesBy : {W F : Type 0} → Hearing → (Act → W → W → Type 0) → (F → Option (List ℕ)) → RunSettings → Start → OnList
    → World W (Option (Recording F)) → (last : W) → RunEnd → Type 0
TriesBy hears.AtSilences does safe settings start list world last end = HasTried does safe ears.at_silences settings
    (onset_of start (ears.begun (holds [])) world settings.listens signs_at_first list) last end
TriesBy hears.AtOnce does safe settings start list world last end =
    HasTried does safe ears.at_once settings (onset_of start (holds []) world settings.listens signs_at_first list) last end

-- and over this wire
abbrev pub TriesOver : {W F : Type 0} → (Act → W → W → Type 0) → (F → Option (List ℕ)) → RunSettings → Start → OnList
    → (wire last : W) → Option (Recording F) → RunEnd → Type 0
TriesOver does safe settings start list wire last recorder end =
    TriesBy settings.hearing does safe settings start list (over wire recorder) last end

-- for how many silences an answer may go on: generous where silences end it, since those that the server makes count, too
abbrev pub silences_of : Hearing → ℕ
silences_of hears.AtSilences = 16
silences_of hears.AtOnce = 1

-- and for how many nanoseconds
abbrev pub longest_answer : RunSettings → ℕ
longest_answer settings = settings.silence * silences_of settings.hearing * 1000000

-- a wire limits answers to this
abbrev pub Limits : Streamed → ℕ → Type 0
Limits wire time = option_map (λ l. l.most) wire.answer ≡ Some time

-- why a run that stays isn't connected: the operator stopped before, or it tries only for so long
abbrev pub IsUnconnected : (patience : Option ℕ) → Why → Type 0
IsUnconnected patience why.Stopped = Unit {0}
IsUnconnected patience why.GivenUp = IsSome patience
IsUnconnected patience why.Unheard = IsSome patience
IsUnconnected patience other = ⊥

-- how the line ended if there was no wire: the connection was none, or a run that stays wasn't connected
abbrev pub IsUnwired : Option Staying → LineEnd → Type 0
IsUnwired stay line_end.Failed = Unit {0}
IsUnwired (Some stay) (line_end.NotBegun why) = IsUnconnected stay.patience why
IsUnwired stay line = ⊥

-- the wire of a session: the one that the try before left, or else a new one over a stream that the network gave, which limits
-- answers
abbrev pub IsWire : (Stream : Type 0) → RunSettings → (before : Option Streamed) → Streamed → Type 0
IsWire Stream settings None wire = Stream × ((wire.connection ≡ connection.Open) × Limits wire (longest_answer settings))
IsWire Stream settings (Some before) wire = wire ≡ before

-- A session with these calls on the list, over the wire that the try before left, or a new one, and the wire as it was at the end.
-- Nothing went out, and there was none, if its controller had ended before, or if there was no wire.
pub data HasSession (Stream : Type 0) {F : Type 0} (safe : F → Option (List ℕ)) (settings : RunSettings) (start : Start) (list : OnList)
    (recorder : Option (Recording F)) (before : Option Streamed) (end : RunEnd) : Option Streamed → Type 0 where
  had_ended : IsSome (outcome_of start.state.stage) → EndsSo (line_end.Ran ran.Ended) signs_at_first settings.listens end
      → Reports start.from start.state end → HasSession Stream safe settings start list recorder before end None
  unwired : (line : LineEnd) → IsUnwired settings.stay line → EndsSo line no_signs settings.listens end
      → Reports start.from start.state end → HasSession Stream safe settings start list recorder before end None
  tried : (wire last : Streamed) → IsWire Stream settings before wire → TriesOver StreamDoes safe settings start list wire last recorder end
      → HasSession Stream safe settings start list recorder before end (Some last)
