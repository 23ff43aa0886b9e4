-- A port that is kept from one connection to the next.
use Rattle.std.specs.Prelude.{ℕ, suc, ◌≡◌, ◌-◌, ◌*◌, false, true, ⊤, [], Option, None, Some, option_map, Result, if◌then◌else◌}
use Rattle.std.specs.declared.net.SocketAddr.{SocketAddr}
use Rattle.vdcp_frame.specs.Progress.{reading}
use Rattle.vdcp_port.specs.Clock.{ClockedPort, after_frame}
use Rattle.vdcp_drive.specs.ServeLeaves.{ServeLeaves}
use Rattle.vdcp_drive.specs.Serving.{HookStep, Serving, asked, lent}
use Rattle.vdcp_drive.specs.Steps.{Chain}
use Rattle.vdcp_drive.specs.declared.hearing.Hearing.{Hearing}
use Rattle.vdcp_drive.specs.declared.hearing.Hearing.TheVariants.{AtOnce, AtSilences}
use Rattle.vdcp_drive.specs.declared.line.DriveFault.{DriveFault}
use Rattle.vdcp_drive.specs.declared.line.TurnsEnd.{TurnsEnd}
use Rattle.vdcp_wire.specs.Acts.{Act}
use Rattle.vdcp_serve.specs.Panel.{NotesOn, ShowsOn, counted_on}
use Rattle.vdcp_serve.specs.Timing.{LineBegins, WasAsked, WasTold, begun_anew}
use Rattle.vdcp_serve.specs.declared.hooks.Hooks.{Hooks}
use Rattle.vdcp_serve.specs.declared.panel.PortPanel.{PortPanel}
use Rattle.vdcp_serve.specs.declared.serve.ServeSettings.{ServeSettings}
use Rattle.vdcp_serve.specs.declared.stay.Coming.{Coming}
use Rattle.vdcp_serve.specs.declared.stay.Coming.TheVariants as comings
use Rattle.vdcp_value.specs.Clock.{frames_after}
use Rattle.vdcp_value.specs.declared.part.Item.{Item}

-- what came of a connection: its line, if that worked
abbrev pub IfLine : {W : Type 0} → Coming W → (W → Type 0) → Type 0
IfLine comings.Nobody P = ⊤
IfLine comings.Failed P = ⊤
IfLine (comings.Line line from) P = P line

-- a wait for the next one takes so many nanoseconds: a silence, or by the clock the least time after which a frame is over
abbrev pub IsPause : ServeSettings → ℕ → Type 0
IsPause s nanos = (s.by_clock ≡ false → nanos ≡ s.silence * 1000000)
    × (s.by_clock ≡ true → (frames_after s.rate nanos ≡ 1) × (frames_after s.rate (nanos - 1) ≡ 0))

abbrev pub hearing_of : ServeSettings → Hearing
hearing_of s = if s.by_clock then AtOnce else AtSilences

-- a server over a line that was just taken: its port is the one that was kept, and nothing has come
pub record IsNew {W : Type 0} (settings : ServeSettings) (port : ClockedPort) (line : W) (s : Serving W) : Type 0 where
  pub port_is : s.port ≡ port
  pub wire_is : s.wire ≡ line
  pub hearing_is : s.hearing ≡ hearing_of settings
  pub at_start : s.reader ≡ reading 0 []

-- the page, if there is one, was told that this address drives the port, or that none does
abbrev pub driven : {R L : Type 0} → Option SocketAddr → Hooks R L → Hooks R L
driven {R} from h = record h { panel = option_map (λ (p : PortPanel R). record p { seen = record p.seen { from = from } }) h.panel }

-- the page, if there is one, shows the port as it is, and what went to air
pub record Looks {R L : Type 0} (p : ClockedPort) (aired : Option Item) (old new : Hooks R L) : Type 0 where
  pub noted : Option (PortPanel R)
  pub notes : NotesOn aired old.aired old.panel noted
  pub shows : ShowsOn p noted new.panel
  pub count : new.aired ≡ counted_on aired old.aired

abbrev pub HooksDo : {R L : Type 0} → HookStep → Hooks R L → Hooks R L → Type 0
HooksDo (asked answer) old new = WasAsked answer old.timing new.timing × (new ≡ record old { timing = new.timing })
HooksDo (lent look) old new = WasTold look.turned old.timing new.timing × Looks look.port look.aired old new

-- a port was served over a line for at most these turns
pub record IsServed {W R L : Type 0} (does : Act → W → W → Type 0) (failures : W → ℕ) (settings : ServeSettings)
    (turns : ℕ) (port : ClockedPort) (line : W) (from : Option SocketAddr) (before : Hooks R L) (port' : ClockedPort)
    (answer : Result TurnsEnd DriveFault) (after : Hooks R L) : Type 0 where
  pub begun : Hooks R L
  pub ended : Hooks R L
  pub old : Serving W
  pub new : Serving W
  pub begins : LineBegins settings before.timing begun.timing
  pub begun_is : begun ≡ record (driven from before) { timing = begun.timing }
  pub is_new : IsNew settings port line old
  pub leaves : ServeLeaves does true (λ steps. Chain HooksDo steps begun ended) failures turns old new answer
  pub port_is : port' ≡ new.port
  pub after_is : after ≡ driven None ended

-- what becomes of a port in the turns of the settings: the port then, how many turns are left, and the timing. Each wait
-- for a connection is a turn, in which a frame passes if nobody comes, and the page shows that; each line that is taken is
-- served with the port as it is, and its address is shown meanwhile
pub data IsKept {W R L : Type 0} (does : Act → W → W → Type 0) (failures : W → ℕ) (IsLine : W → Type 0)
    (settings : ServeSettings) (port : ClockedPort) (first : Hooks R L) : ClockedPort → ℕ → Hooks R L → Type 0 where
  at_first : IsKept does failures IsLine settings port first port settings.turns first
  nobody_came : {now : ClockedPort} {left : ℕ} {h h' : Hooks R L}
      → IsKept does failures IsLine settings port first now (suc left) h → h'.timing ≡ begun_anew h.timing
      → Looks (after_frame now) None h h' → IsKept does failures IsLine settings port first (after_frame now) left h'
  no_line_came : {now : ClockedPort} {left : ℕ} {h h' : Hooks R L}
      → IsKept does failures IsLine settings port first now (suc left) h → h' ≡ record h { timing = begun_anew h.timing }
      → IsKept does failures IsLine settings port first now left h'
  served : {now now' : ClockedPort} {left : ℕ} {h h' : Hooks R L}
      → IsKept does failures IsLine settings port first now (suc left) h → (line : W) → IsLine line → failures line ≡ 0
      → (from : SocketAddr) → (answer : Result TurnsEnd DriveFault)
      → IsServed does failures settings left now line (Some from) h now' answer h'
      → IsKept does failures IsLine settings port first now' (left - h'.timing.turns) h'
