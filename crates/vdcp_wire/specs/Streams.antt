-- What a wire over a connection makes of its bytes and of a read, and how often it failed.
use Rattle.std.proofs.Common.{rules}
use Rattle.std.specs.IoError.{error_kind}
use Rattle.std.specs.Io.KnownBytes.{Appends, Consumes, Keeps}
use Rattle.std.specs.Prelude.{ℕ, zero, suc, ◌+◌, ◌≤◌, ◌≡◌, Bool, true, false, List, [], Option, Result, Ok, Err}
use Rattle.std.specs.declared.io.Error.{Error}
use Rattle.std.specs.declared.io.ErrorKind.{ErrorKind}
use Rattle.std.specs.declared.io.ErrorKind.TheVariants.{WouldBlock, Interrupted}
use Rattle.vdcp_wire.specs.declared.stream.Connection.{Connection}
use Rattle.vdcp_wire.specs.declared.stream.Connection.TheVariants as connection
use Rattle.vdcp_wire.specs.Answers.{HasCome, IsRead, Limit, lapses}
use Rattle.vdcp_wire.specs.Acts.{Act, sends, brings, drops, fails}
use Rattle.vdcp_wire.specs.Wires.{Arrival, bytes, silence, close}
use Rattle.vdcp_wire.specs.declared.wire.Came.{Came}
use Rattle.vdcp_wire.specs.declared.wire.Came.TheVariants as came

-- a wire over a connection: what is known of the connection, the bytes that its reads will give, and those that it
-- holds of what was written, if the connection tells them; how many reads in vain are a silence, and how many of them
-- are left until the next one; and how long an answer may go on, if that is limited
pub record Streamed : Type 0 where
  pub connection : Connection
  pub ahead : Option (List ℕ)
  pub written : Option (List ℕ)
  pub reads : ℕ
  pub left : ℕ
  pub answer : Option Limit

-- some of the next bytes, or none, were taken
abbrev pub Takes : Option (List ℕ) → Option (List ℕ) → Type 0
Takes old new = (bytes : List ℕ) × Consumes old new bytes

-- the bytes that an arrival has
abbrev pub bytes_in : Arrival → List ℕ
bytes_in (bytes piece) = piece
bytes_in silence = []
bytes_in close = []

-- what a wire does to the bytes of its connection, if these are known
abbrev pub StreamDoes : Act → Streamed → Streamed → Type 0
StreamDoes (sends all) old new = Appends old.written new.written all × Keeps old.ahead new.ahead
StreamDoes (brings what) old new = Consumes old.ahead new.ahead (bytes_in what) × Keeps old.written new.written
StreamDoes drops old new = Takes old.ahead new.ahead × Keeps old.written new.written
StreamDoes fails old new = Takes old.ahead new.ahead × Keeps old.written new.written

-- what a read that failed so brought, or else the failure: it waited long enough, or it was interrupted. If the
-- system gives up a connection, nothing being acknowledged, the kind isn't that of a read that waited
abbrev pub came_of_kind : ErrorKind → Error → Result Came Error
came_of_kind WouldBlock error = Ok came.Silence
came_of_kind Interrupted error = Ok (came.Bytes 0)
came_of_kind _ error = Err error

-- what a read brought
abbrev pub came_of : Result ℕ Error → Result Came Error
came_of (Ok zero) = Ok came.Closed
came_of (Ok (suc n)) = Ok (came.Bytes (suc n))
came_of (Err error) = came_of_kind (error_kind error) error

-- what a listen tells of what a read brought: a read in vain is a silence if it is the last that was left
abbrev pub heard_of : Came → ℕ → Came
heard_of came.Silence (suc (suc left)) = came.Bytes 0
heard_of came.Silence (suc zero) = came.Silence
heard_of came.Silence zero = came.Silence
heard_of (came.Bytes n) left = came.Bytes n
heard_of came.Closed left = came.Closed

-- how many reads in vain are then left until the next silence
abbrev pub left_behind : Came → ℕ → ℕ → ℕ
left_behind came.Silence reads (suc (suc left)) = suc left
left_behind came.Silence reads (suc zero) = reads
left_behind came.Silence reads zero = reads
left_behind (came.Bytes zero) reads left = left
left_behind (came.Bytes (suc n)) reads left = reads
left_behind came.Closed reads left = reads

-- a listen counts the reads in vain: each that brings nothing takes one of those that are left at most, bytes bring
-- them all back, and a silence comes at the last
abbrev pub Counts : Came → Streamed → Streamed → Type 0
Counts (came.Bytes zero) old new = old.left ≤ new.left + 1
Counts (came.Bytes (suc n)) old new = new.left ≡ new.reads
Counts came.Silence old new = (old.left ≤ 1) × (new.left ≡ new.reads)
Counts came.Closed old new = Unit {0}

-- a listen takes nothing, and is silent, if an answer has gone on for too long; else it counts the reads in vain
abbrev pub ListensBy : (lapsed : Bool) → Came → Streamed → Streamed → Type 0
ListensBy true what old new = (what ≡ came.Silence) × IsRead old.answer new.answer
    × (new ≡ record old { answer = new.answer })
ListensBy false what old new = Counts what old new × HasCome what old.answer new.answer

abbrev pub Listens : Came → Streamed → Streamed → Type 0
Listens what old new = ListensBy (lapses old.answer new.answer) what old new

-- what is known of the connection after it
abbrev pub connection_behind : Came → Connection → Connection
connection_behind (came.Bytes n) before = before
connection_behind came.Silence before = before
connection_behind came.Closed before = connection.Closed

-- how often a wire over this connection failed
abbrev pub failures_of : Connection → ℕ
failures_of connection.Open = 0
failures_of connection.Closed = 0
failures_of connection.Failed = 1

pub counted_once : (c : Connection) → failures_of c ≤ 1
counted_once connection.Open = search rules
counted_once connection.Closed = search rules
counted_once connection.Failed = search rules
