-- What can happen on a line that keeps order, at one of its ends, or in time. If it can't happen, nothing changes. Places
-- in a queue are counted from 0, the oldest burst.
use Rattle.std.specs.Prelude.{ℕ, List}
use Rattle.vdcp_world.specs.LateLine.Asking.{Question}

pub data LateEvent : Type 0 where
  -- the controller gives its next command, which joins the queue down
  Tick : LateEvent
  -- the port is asked this beside the controller's commands, where it may be; the command joins the queue down
  Ask : (question : Question) → LateEvent
  -- the oldest burst of the queue down comes to the port, whose answer joins the queue up
  Down : LateEvent
  -- the oldest burst of the queue up comes to the controller, which hears its first message
  Up : LateEvent
  -- the same, but the burst stays where it is as well
  DownCopy : LateEvent
  UpCopy : LateEvent
  -- the burst at this place of a queue is lost
  LoseDown : (place : ℕ) → LateEvent
  LoseUp : (place : ℕ) → LateEvent
  -- it becomes these bytes, of which no more is read than a beginning of its messages; on the way up, or junk
  AlterDown : (place : ℕ) (bytes : List ℕ) → LateEvent
  AlterUp : (place : ℕ) (bytes : List ℕ) → LateEvent
  -- junk comes into a queue at this place, or at its end
  JunkDown : (place : ℕ) (bytes : List ℕ) → LateEvent
  JunkUp : (place : ℕ) (bytes : List ℕ) → LateEvent
  -- nothing came in time, whatever is on the way
  Timeout : LateEvent
  -- the port's cue is done; its clip has ended; one frame passes at the port
  Ready : LateEvent
  End : LateEvent
  Frame : LateEvent
  -- the operator wants the next event of the playlist though the last one still plays; he wants to stop
  Take : LateEvent
  Stop : LateEvent
  -- the server is started anew: its port is closed and empty
  ServerAnew : LateEvent
  -- the automation is started anew and goes on: what it awaits has timed out, and its wishes are forgotten
  AutomationAnew : LateEvent
  -- ACK, or NAK with this byte, comes to the controller from nowhere, before all that is on the way (confirm mode)
  StrayAck : LateEvent
  StrayNak : (byte : ℕ) → LateEvent
