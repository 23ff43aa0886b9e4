-- An automation that hears at silences, as one that hears at once.
use Rattle.std.specs.Prelude.{ℕ, ◌≡◌, ◌⊎◌, ◌≤◌, List, [], ◌∷◌, ◌++◌, length}
use Rattle.vdcp_value.specs.declared.part.Item.{Item}
use Rattle.vdcp_words.specs.declared.command.Command.{Command}
use Rattle.vdcp_frame.specs.Message.{Content}
use Rattle.vdcp_frame.specs.Reading.{IsUnfinished, SpellsAll}
use Rattle.vdcp_port.specs.Clock.{ClockedPort}
use Rattle.vdcp_auto.specs.Plan.{Plan}
use Rattle.vdcp_auto.specs.State.{State}
use Rattle.vdcp_auto.specs.Turn.{ticked}
use Rattle.vdcp_auto.specs.declared.exchange.Exchange.{Exchange}
use Rattle.vdcp_auto.specs.declared.phase.Mode.{Mode}
use Rattle.vdcp_auto.specs.declared.phase.Mode.TheVariants.{Confirming}
use Rattle.vdcp_journal.specs.declared.row.Note.{Note}
use Rattle.vdcp_laws.specs.TwoEnds.{AreJoined, Ends, aired_now, log_now, port_now}
use Rattle.vdcp_wire.specs.Acts.{Act, brings, drops, fails, sends}
use Rattle.vdcp_wire.specs.Wires.{Arrival, bytes, silence, close}

-- it ends a burst
abbrev pub EndsBurst : Arrival → Type 0
EndsBurst (bytes piece) = ⊥
EndsBurst silence = Unit {0}
EndsBurst close = Unit {0}

-- what comes then to one that hears at once: the burst's whole messages, or the end itself, if it has none
abbrev pub heard_at_end : Arrival → List Content → List ℕ → Arrival
heard_at_end end [] whole = end
heard_at_end end (m ∷ ms) whole = bytes whole

-- Behind this burst so far a wire's acts, up to the burst that is left, are as those of one that hears at once: the bytes of a
-- burst come at its end, and what is dropped comes when it is. No burst has a fault; what its end tears off never comes; in
-- confirm mode it has one message at most. Whole messages are dropped, and not within a burst.
pub data AreHeardAs (mode : Mode) : (burst left : List ℕ) → List Act → List Act → Type 0 where
  none : {burst : List ℕ} → AreHeardAs mode burst burst [] []
  sent : {burst left : List ℕ} {later same : List Act} → (b : List ℕ) → AreHeardAs mode burst left later same
      → AreHeardAs mode burst left (sends b ∷ later) (sends b ∷ same)
  failed : {burst left : List ℕ} {later same : List Act} → AreHeardAs mode burst left later same
      → AreHeardAs mode burst left (fails ∷ later) (fails ∷ same)
  came : {burst left : List ℕ} {later same : List Act} → (piece : List ℕ) → AreHeardAs mode (burst ++ piece) left later same
      → AreHeardAs mode burst left (brings (bytes piece) ∷ later) same
  ended : {burst left : List ℕ} {later same : List Act} → (end : Arrival) → EndsBurst end → (ms : List Content)
      → (whole torn : List ℕ) → burst ≡ whole ++ torn → SpellsAll ms whole → IsUnfinished torn
      → (mode ≡ Confirming → length ms ≤ 1) → AreHeardAs mode [] left later same
      → AreHeardAs mode burst left (brings end ∷ later) (brings (heard_at_end end ms whole) ∷ same)
  dropped : {left : List ℕ} {later same : List Act} → (ms : List Content) → (whole : List ℕ) → SpellsAll ms whole
      → AreHeardAs mode [] left later same → AreHeardAs mode [] left (drops ∷ later) (brings (bytes whole) ∷ same)

-- Both ends as a session leaves them: joined, with the server's port and what aired. The next command is given, too, if only the
-- drop before it failed.
pub record AreLeft (plan : Plan) (port : ClockedPort) (asked : List Command) (found : ClockedPort) (aired : List Item) (state : State)
    (log : List Exchange) (notes : List Note) : Type 0 where
  pub ends : Ends
  pub joined : AreJoined plan port asked ends
  pub state_is : (ends.automation.state ≡ state) ⊎ (ends.automation.state ≡ ticked state)
  pub log_is : log_now ends ≡ log
  pub notes_are : ends.notes ≡ notes
  pub port_is : port_now ends ≡ found
  pub aired_are : aired_now ends ≡ aired
