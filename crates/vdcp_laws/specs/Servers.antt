-- A server beside an automation, by what its `serve` did since these ends (`HasServed`).
use Rattle.std.specs.Prelude.{ℕ, ◌≡◌, Bool, List, [], ◌∷◌, ◌++◌, Option, Result}
use Rattle.vdcp_value.specs.declared.part.Item.{Item}
use Rattle.vdcp_port.specs.Clock.{ClockedPort}
use Rattle.vdcp_wire.specs.Acts.{Act, brings, fails, sends}
use Rattle.vdcp_wire.specs.Wires.{bytes, silence}
use Rattle.vdcp_drive.specs.ServeLeaves.{HasServed}
use Rattle.vdcp_drive.specs.Serving.{HookStep, IsCutShort, Service, Serving, acts_of, begins, hook_steps, items_in, left_by}
use Rattle.vdcp_drive.specs.Steps.{Chain}
use Rattle.vdcp_drive.specs.Turns.{Turn}
use Rattle.vdcp_drive.specs.declared.hearing.Hearing.TheVariants.{AtSilences}
use Rattle.vdcp_drive.specs.declared.line.DriveFault.{DriveFault}
use Rattle.vdcp_drive.specs.declared.line.TurnsEnd.{TurnsEnd}
use Rattle.vdcp_laws.specs.Carried.{all_turns}
use Rattle.vdcp_laws.specs.TwoEnds.{Ends, aired_now, port_now, server_now}
use Rattle.vdcp_laws.specs.Untorn.{AreUntorn, at_once_for, server_at_silences}

-- What counts of what its wire did last: all of it; or, if it failed in the answer to a message, of what came only the bytes
-- up to the last one of that message, as if those behind had never come. A fault in the answer to a silence that has none is
-- one before that silence.
pub data Counts (s : Service) (done : List Act) : List Act → Type 0 where
  all : Counts s done done
  upto_message : (piece behind : List ℕ) (out : List Act) (port : ClockedPort) (aired : Option Item)
      → done ≡ brings (bytes (piece ++ behind)) ∷ out → IsCutShort s (brings (bytes piece) ∷ out) port aired
      → Counts s done (brings (bytes piece) ∷ out)
  unanswered : done ≡ brings silence ∷ sends [] ∷ [] → Counts s done (fails ∷ [])

-- It made these turns, as one has them that hears at once; this is what its wire did, and this has gone to air.
pub data IsServed {W H : Type 0} (does : Act → W → W → Type 0) (can : Bool) (hooks : HookStep → H → H → Type 0) : Ends →
    List Turn → List Act → List Item → Type 0 where
  -- it hears at once
  prompt : {e : Ends} {count : ℕ} {server server' : Serving W} {h h' : H} {result : Result TurnsEnd DriveFault}
      → (s : HasServed does can (λ steps. Chain hooks steps h h') count (server_now e) server server' result)
      → (last : List Act) → Counts (left_by (server_now e) s.turns) s.done last
      → IsServed does can hooks e (all_turns s.turns last) (acts_of (server_now e) s.turns ++ s.done)
      (aired_now (record e { downs = e.downs ++ all_turns s.turns last }))
  -- It hears at silences, as before these ends; no burst has a fault, and each silence comes after whole commands.
  untorn : {e : Ends} {count : ℕ} {server server' : Serving W} {h h' : H} {result : Result TurnsEnd DriveFault} → (before : List Turn)
      → e.downs ≡ at_once_for before
      → (s : HasServed does can (λ steps. Chain hooks steps h h') count (server_at_silences e.port before) server server' result)
      → (last : List Act) → Counts (left_by (server_at_silences e.port before) s.turns) s.done last
      → AreUntorn [] (before ++ all_turns s.turns last)
      → IsServed does can hooks e (at_once_for (all_turns s.turns last))
      (acts_of (server_at_silences e.port before) s.turns ++ s.done)
      (e.aired_before ++ items_in (hook_steps (begins AtSilences e.port) (before ++ all_turns s.turns last)))
  -- It went on from other ends, whose server was as that of these, as over a connection of which nothing was on its way.
  went_on : {e other : Ends} {turns : List Turn} {below : List Act} (since : List Item) → server_now e ≡ server_now other
      → IsServed does can hooks other turns below (aired_now other ++ since)
      → IsServed does can hooks e turns below (aired_now e ++ since)

-- What a server did from these ends on: its wire, its hooks, and the turns that this was. They leave the port that it leaves,
-- and what went to air in them is what its hooks were lent.
pub record ServesOn {W H : Type 0} (does : Act → W → W → Type 0) (can : Bool) (hooks : HookStep → H → H → Type 0) (e : Ends)
    (old new : Serving W) (h h' : H) : Type 0 where
  pub below : List Act
  pub acted : Chain does below old.wire new.wire
  pub steps : List HookStep
  pub lent : Chain hooks steps h h'
  pub turns : List Turn
  pub served : IsServed does can hooks e turns below (aired_now e ++ items_in steps)
  pub port_is : port_now (record e { downs = e.downs ++ turns }) ≡ new.port
