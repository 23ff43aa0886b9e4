-- How a port is kept for one turn more.
use Rattle.std.proofs.Common.{ℕ, ◌≡◌, ◌<◌, ◌-◌, ap, suc, subst, arith}
use Rattle.std.specs.Prelude.{Option}
use Rattle.std.specs.declared.net.SocketAddr.{SocketAddr}
use Rattle.vdcp_port.specs.Clock.{ClockedPort}
use Rattle.vdcp_wire.specs.Acts.{Act}
use Rattle.vdcp_serve.specs.Stay.{IfLine, IsKept, driven}
use Rattle.vdcp_serve.specs.declared.hooks.Hooks.{Hooks}
use Rattle.vdcp_serve.specs.declared.serve.ServeSettings.{ServeSettings}
use Rattle.vdcp_serve.specs.declared.stay.Coming.{Coming}
use Rattle.vdcp_serve.specs.declared.stay.Coming.TheVariants as comings
use Rattle.vdcp_serve.specs.declared.timing.Timing.{Timing}

-- this many turns are left, since some are
pub one_more : {W R L : Type 0} {does : Act → W → W → Type 0} {failures : W → ℕ} {IsLine : W → Type 0} {settings : ServeSettings}
    {port : ClockedPort} {first h : Hooks R L} (now : ClockedPort) (left : ℕ) → 0 < left
    → IsKept does failures IsLine settings port first now left h
    → IsKept does failures IsLine settings port first now (suc (left - 1)) h
one_more {W} {R} {L} {does} {failures} {IsLine} {settings} {port} {first} {h} now left some kept =
    let one : left ≡ suc (left - 1) = omega (arith, some) in
    subst (λ (n : ℕ). IsKept does failures IsLine settings port first now n h) one kept

-- what holds of a line that comes holds of this one
pub line_is : {W : Type 0} (Holds : W → Type 0) (coming : Coming W) (line : W) (from : SocketAddr)
    → coming ≡ comings.Line line from → IfLine coming Holds → Holds line
line_is {W} Holds coming line from is holds = subst (λ (c : Coming W). IfLine c Holds) is holds

-- a line begins once its address is shown
pub same_timing : {R L : Type 0} (from : Option SocketAddr) (h h' : Hooks R L) → h' ≡ driven from h → h'.timing ≡ h.timing
same_timing {R} {L} from h h' e = ap (λ (x : Hooks R L). x.timing) e

pub begun_so : {R L : Type 0} (timing : Timing R) (h h' : Hooks R L) → h ≡ h'
    → record h { timing = timing } ≡ record h' { timing = timing }
begun_so {R} {L} timing h h' e = ap (λ (x : Hooks R L). record x { timing = timing }) e
