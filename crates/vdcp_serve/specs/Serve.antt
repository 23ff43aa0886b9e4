-- What `serve` did: which port it served, and over which connections.
use Rattle.std.specs.Int.{div_ceil}
use Rattle.std.specs.Prelude.{ℕ, ◌≡◌, Bool, false, true, List, Option, None, IfSome, Ok, if◌then◌else◌}
use Rattle.vdcp_drive.specs.declared.line.TurnsEnd.{TurnsEnd}
use Rattle.vdcp_files.specs.Files.{File, RefusesCatalogue, bytes_of}
use Rattle.vdcp_list.specs.Catalogues.{IsCatalogueOf}
use Rattle.vdcp_log.specs.declared.log.Logged.{Logged}
use Rattle.vdcp_port.specs.Clock.{ClockedPort, new_port}
use Rattle.vdcp_serve.specs.Panel.{IsNewPage}
use Rattle.vdcp_serve.specs.Stay.{IsKept, IsServed}
use Rattle.vdcp_serve.specs.declared.hooks.Hooks.{Hooks}
use Rattle.vdcp_serve.specs.declared.serve.ServeSettings.{ServeSettings}
use Rattle.vdcp_text.specs.Failure.{status_of}
use Rattle.vdcp_text.specs.declared.failure.Failure.{Failure}
use Rattle.vdcp_value.specs.declared.clip_id.ClipId.{ClipId}
use Rattle.vdcp_value.specs.declared.rate.Rate.{Rate}
use Rattle.vdcp_value.specs.declared.timecode.Timecode.{Timecode}
use Rattle.vdcp_wire.specs.Acts.{Act}
use Rattle.vdcp_wire.specs.Streams.{StreamDoes, Streamed, failures_of}
use Rattle.vdcp_wire.specs.declared.stream.Connection.TheVariants as connection

-- what a line does is what the wire of its connection does
abbrev pub LineDoes : {L : Type 0} → Act → Logged Streamed L → Logged Streamed L → Type 0
LineDoes act old new = StreamDoes act old.wire new.wire

abbrev pub line_failures : {L : Type 0} → Logged Streamed L → ℕ
line_failures line = failures_of line.wire.connection

-- how many reads in vain are a silence: one, or by the clock as many as there are ticks of 5 milliseconds in it
abbrev pub reads_of : ServeSettings → ℕ
reads_of s = if s.by_clock then div_ceil s.silence 5 else 1

-- a line over a stream that the network gave, over which nothing went yet
pub record IsTaken {S L : Type 0} (ahead written : S → Option (List ℕ)) (settings : ServeSettings) (line : Logged Streamed L)
    : Type 0 where
  pub stream : S
  pub is_open : line.wire.connection ≡ connection.Open
  pub ahead_is : line.wire.ahead ≡ ahead stream
  pub written_is : line.wire.written ≡ written stream
  pub reads_are : line.wire.reads ≡ reads_of settings
  pub left_are : line.wire.left ≡ reads_of settings
  pub unlimited : line.wire.answer ≡ None

-- what takes part at first: no line was given up, nothing went to air, and the page, if there is one, shows the new port
pub record AreNewHooks {R L : Type 0} (settings : ServeSettings) (port : ClockedPort) (h : Hooks R L) : Type 0 where
  pub patient : h.timing.patience.gives_up ≡ false
  pub none_aired : h.aired ≡ 0
  pub page : IfSome h.panel (IsNewPage settings.rate port)

-- the port was served over the first connection to its end, or until the turns were spent
pub record ServesOne {S R L : Type 0} (ahead written : S → Option (List ℕ)) (settings : ServeSettings) (port : ClockedPort)
    (first last : Hooks R L) (left : ClockedPort) : Type 0 where
  pub line : Logged Streamed L
  pub taken : IsTaken ahead written settings line
  pub end : TurnsEnd
  pub served : IsServed LineDoes line_failures settings settings.turns port line None first left (Ok end) last

-- it was kept over all connections that a listener gave, one after another, until the turns were spent
pub record ServesEach (N : Type 0) {S R L : Type 0} (ahead written : S → Option (List ℕ)) (settings : ServeSettings)
    (port : ClockedPort) (first last : Hooks R L) (left : ClockedPort) : Type 0 where
  pub listener : N
  pub kept : IsKept (LineDoes {L = L}) line_failures (IsTaken ahead written settings) settings port first left 0 last

abbrev pub ServesBy : (stays : Bool) → (N : Type 0) → {S R L : Type 0} → (ahead written : S → Option (List ℕ)) → ServeSettings
    → ClockedPort → (first last : Hooks R L) → ClockedPort → Type 0
ServesBy false N ahead written settings port first last left = ServesOne ahead written settings port first last left
ServesBy true N ahead written settings port first last left = ServesEach N ahead written settings port first last left

-- the catalogue was read, and a new port with its clips was served, and left so
pub record IsServe (N S R L : Type 0) (ahead written : S → Option (List ℕ)) (settings : ServeSettings) (catalogue : File)
    : Type 0 where
  pub clips : List (ClipId × Timecode)
  pub reads : IsCatalogueOf settings.rate (bytes_of catalogue) clips
  pub first : Hooks R L
  pub last : Hooks R L
  pub new : AreNewHooks settings (new_port clips settings.unit settings.port settings.cue_frames) first
  pub left : ClockedPort
  pub serves : ServesBy settings.stay N ahead written settings
      (new_port clips settings.unit settings.port settings.cue_frames) first last left

-- a row of the catalogue is refused
pub record IsRowRefused (rate : Rate) (catalogue : File) : Type 0 where
  pub failure : Failure
  pub refused : RefusesCatalogue rate catalogue failure
  pub of_row : status_of failure ≡ 1
