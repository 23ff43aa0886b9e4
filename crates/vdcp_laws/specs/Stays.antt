-- A port that outlives its connections, as that of `serve --stay` does: one connection after another.
use Rattle.std.specs.Prelude.{ℕ, ◌≡◌, List, Option, Result}
use Rattle.std.specs.declared.net.SocketAddr.{SocketAddr}
use Rattle.vdcp_drive.specs.declared.line.DriveFault.{DriveFault}
use Rattle.vdcp_drive.specs.declared.line.TurnsEnd.{TurnsEnd}
use Rattle.vdcp_log.specs.declared.log.Logged.{Logged}
use Rattle.vdcp_port.specs.Clock.{ClockedPort, after_frames}
use Rattle.vdcp_serve.specs.Serve.{IsTaken, LineDoes, line_failures}
use Rattle.vdcp_serve.specs.Stay.{IsServed}
use Rattle.vdcp_serve.specs.declared.hooks.Hooks.{Hooks}
use Rattle.vdcp_serve.specs.declared.serve.ServeSettings.{ServeSettings}
use Rattle.vdcp_wire.specs.Streams.{Streamed}

-- The port was served over one connection after another, and left so. Each found it as the one before had left it, but for
-- the frames that had passed since.
pub data AreServed {S : Type 0} (R L : Type 0) (ahead written : S → Option (List ℕ)) (settings : ServeSettings)
    (port : ClockedPort) : ClockedPort → Type 0 where
  none : AreServed R L ahead written settings port port
  one_more : {left next : ClockedPort} → AreServed R L ahead written settings port left → (frames turns : ℕ)
      → (line : Logged Streamed L) → IsTaken ahead written settings line → (from : Option SocketAddr)
      → (answer : Result TurnsEnd DriveFault) → (before after : Hooks R L)
      → IsServed LineDoes line_failures settings turns (after_frames frames left) line from before next answer after
      → AreServed R L ahead written settings port next

-- and so many frames have passed since
pub record HasServedEach {S : Type 0} (R L : Type 0) (ahead written : S → Option (List ℕ)) (settings : ServeSettings)
    (port now : ClockedPort) : Type 0 where
  pub left : ClockedPort
  pub lines : AreServed R L ahead written settings port left
  pub frames : ℕ
  pub now_is : now ≡ after_frames frames left
