-- What sim prints, and of which channel.
use Rattle.std.specs.Borrow.{Bor}
use Rattle.std.specs.Io.KnownBytes.{Appends, Keeps}
use Rattle.std.specs.Prelude.{ℕ, suc, ◌≡◌, ◌≤◌, ◌⊎◌, ⊤, Bool, true, false, List, [], ◌∷◌, ◌++◌, codes, decimal, length, Option, None, Some}
use Rattle.vdcp_value.specs.declared.clip_id.ClipId.{ClipId}
use Rattle.vdcp_value.specs.declared.part.Item.{Item}
use Rattle.vdcp_value.specs.declared.rate.Rate.{Rate}
use Rattle.vdcp_value.specs.declared.timecode.Timecode.{Timecode}
use Rattle.vdcp_auto.specs.Plan.{Plan}
use Rattle.vdcp_auto.specs.Turn.{outcome_of}
use Rattle.vdcp_auto.specs.declared.exchange.Exchange.{Exchange}
use Rattle.vdcp_auto.specs.declared.outcome.Outcome.{Outcome}
use Rattle.vdcp_list.specs.Catalogues.{IsCatalogueOf}
use Rattle.vdcp_list.specs.Playlists.{IsListOf}
use Rattle.vdcp_text.specs.Failure.{failure_line, status_of}
use Rattle.vdcp_text.specs.Exchange.{exchange_text}
use Rattle.vdcp_text.specs.Items.{item_text}
use Rattle.vdcp_text.specs.Outcome.{outcome_text}
use Rattle.vdcp_text.specs.Text.{line}
use Rattle.vdcp_text.specs.declared.failure.Failure.{Failure}
use Rattle.vdcp_text.specs.declared.failure.Failure.TheVariants as failures
use Rattle.vdcp_text.specs.declared.failure.ScriptLineFault.{ScriptLineFault}
use Rattle.vdcp_offline.specs.Check.{AreWhole, IsRefused, Refuses}
use Rattle.vdcp_files.specs.Files.{File, bytes_of}
use Rattle.vdcp_world.specs.Channel.{Channel, new_channel, after_events}
use Rattle.vdcp_world.specs.Headline.{Headline}
use Rattle.vdcp_world.specs.Script.{IsScript}
use Rattle.vdcp_world.specs.declared.event.Event.{Event}
use Rattle.vdcp_offline.specs.declared.sim.SimSettings.{SimSettings}

-- ---- lines

-- a text for each thing, in order, with its number, counted from this one on
abbrev pub numbered : {A : Type 0} → (ℕ → A → List ℕ) → ℕ → List A → List ℕ
numbered text number [] = []
numbered text number (x ∷ xs) = text number x ++ numbered text (suc number) xs

abbrev pub exchange_line : ℕ → Exchange → List ℕ
exchange_line number e = line (decimal number ++ codes " " ++ exchange_text e)

-- if it is asked for, the lines of the exchanges, counted from 1
abbrev pub trace_text : Bool → List Exchange → List ℕ
trace_text true log = numbered exchange_line 1 log
trace_text false log = []

abbrev pub aired_line : Rate → ℕ → Item → List ℕ
aired_line rate k item = line (codes "aired " ++ decimal k ++ codes " " ++ item_text rate item)

-- the lines of the items that went to air, counted from 0
abbrev pub aired_text : Rate → List Item → List ℕ
aired_text rate aired = numbered (aired_line rate) 0 aired

-- the lines of how many events are reported, how many exchanges ended, and how the controller ended
abbrev pub end_text : ℕ → ℕ → Option Outcome → List ℕ
end_text reported exchanges outcome =
    line (codes "reported " ++ decimal reported)
    ++ line (codes "exchanges " ++ decimal exchanges)
    ++ line (codes "outcome " ++ outcome_text outcome)

-- what is printed of the exchanges that ended, of what went to air, of how many events are reported, and of the end
abbrev pub run_text : Bool → Rate → List Exchange → List Item → ℕ → Option Outcome → List ℕ
run_text trace rate log aired reported outcome =
    trace_text trace log ++ aired_text rate aired ++ end_text reported (length log) outcome

-- what is printed of a channel
abbrev pub channel_text : Bool → Rate → Channel → List ℕ
channel_text trace rate c = run_text trace rate c.log c.aired c.state.settled (outcome_of c.state.stage)

-- ---- the channel

-- what the controller is made with for these items
abbrev pub plan_for : SimSettings → List Item → Plan
plan_for settings items =
    record { mode = settings.mode; list = items; port = settings.port; limit = settings.limit }

-- the new channel of a playlist and a catalogue
abbrev pub channel_of : SimSettings → List Item → List (ClipId × Timecode) → Channel
channel_of settings items clips = new_channel (plan_for settings items) clips settings.unit settings.cue_frames

-- a file is a script of these events, if its bytes are known
abbrev pub IsScriptOf : Option (List ℕ) → List Event → Type 0
IsScriptOf None events = ⊤
IsScriptOf (Some bytes) events = IsScript bytes events

-- the events of the script, a file of these bytes, have led from the new channel to one that keeps the headline, and a
-- writer gained what is printed of that
pub record IsRun (settings : SimSettings) (items : List Item) (clips : List (ClipId × Timecode))
    (script old new : Option (List ℕ)) : Type 0 where
  pub events : List Event
  pub is_script : IsScriptOf script events
  pub few : length events ≤ 100000
  pub channel : Channel
  pub led : channel ≡ after_events (channel_of settings items clips) events
  pub headline : Headline channel
  pub gained : Appends old new (channel_text settings.trace settings.rate channel)

-- the files are a playlist, a catalogue and a script, and a writer gained what is printed of a run with them
pub record IsSimulated (settings : SimSettings) (list catalogue : File) (script old new : Option (List ℕ)) : Type 0
  where
    pub items : List Item
    pub clips : List (ClipId × Timecode)
    pub is_playlist : IsListOf settings.rate (bytes_of list) items
    pub is_catalogue : IsCatalogueOf settings.rate (bytes_of catalogue) clips
    pub is_run : IsRun settings items clips script old new

-- ---- scripts that are refused

-- the script of this name is refused so: a line of it, it as a whole, or it can't be read
abbrev pub IsScriptFailure : Bor (List ℕ) → Failure → Type 0
IsScriptFailure name failure =
    ((number : ℕ) × (fault : ScriptLineFault) × (failure ≡ failures.ScriptLine name number fault))
    ⊎ ((failure ≡ failures.TooManyEvents name) ⊎ ((failure ≡ failures.NotText name)
    ⊎ ((failure ≡ failures.Read name) ⊎ (failure ≡ failures.Memory))))

-- why a script isn't run: it is refused, or can't be read or run, and nothing was printed; or the writer failed
abbrev pub IsRunFailure : Bor (List ℕ) → Option (List ℕ) → Option (List ℕ) → Failure → Type 0
IsRunFailure script out out' failure =
    (IsScriptFailure script failure × Keeps out out') ⊎ (failure ≡ failures.Writer)

-- why nothing is simulated, and what was printed by then: the list or the catalogue isn't read; or else the
-- script isn't; or else the writer failed
pub data IsUnsimulated (rate : Rate) (list catalogue : File) (script : Bor (List ℕ)) (out out' : Option (List ℕ))
    (failure : Failure) : Type 0 where
  no_files : Refuses rate list catalogue failure → Keeps out out'
      → IsUnsimulated rate list catalogue script out out' failure
  no_script : AreWhole rate list catalogue → IsScriptFailure script failure → Keeps out out'
      → IsUnsimulated rate list catalogue script out out' failure
  writer_failed : failure ≡ failures.Writer → IsUnsimulated rate list catalogue script out out' failure

-- the files are whole, and the script is refused: one writer gained the line that reports it, and the other nothing
pub record IsScriptRefused (rate : Rate) (list catalogue : File) (name : Bor (List ℕ))
    (out out' err err' : Option (List ℕ)) : Type 0 where
  pub whole : AreWhole rate list catalogue
  pub failure : Failure
  pub refused : IsScriptFailure name failure
  pub of_script : status_of failure ≡ 1
  pub told : Appends err err' (failure_line failure)
  pub silent : Keeps out out'

-- a row of one of the files is refused, or else the script
abbrev pub RefusesOne : Rate → File → File → Bor (List ℕ) → (out out' err err' : Option (List ℕ)) → Type 0
RefusesOne rate list catalogue name out out' err err' =
    IsRefused rate list catalogue out out' err err' ⊎ IsScriptRefused rate list catalogue name out out' err err'
