-- The streaming reader: what it gives, what it has followed, and what a silence tells.
use Rattle.std.specs.Prelude.{ℕ, ◌≡◌, ◌+◌, ◌-◌, ◌<◌, ◌≤◌, List, [], ◌∷◌, ◌++◌, length, take}
use Rattle.vdcp_frame.specs.declared.message.Fault.{Fault}
use Rattle.vdcp_frame.specs.declared.message.Fault.TheVariants.{BadStart, BadCount, BadSum, Long}
use Rattle.vdcp_frame.specs.declared.got.Got.{Got}
use Rattle.vdcp_frame.specs.declared.got.Got.TheVariants as got
use Rattle.vdcp_frame.specs.declared.got.Ended.{Ended}
use Rattle.vdcp_frame.specs.declared.got.Ended.TheVariants as ended
use Rattle.vdcp_frame.specs.Message.{Content, content_of, Spells}
use Rattle.vdcp_frame.specs.Reading.{SpellsAll, IsUnfinished, End, clean, cut, fault, burst_limit, Reads}
use Rattle.vdcp_frame.specs.Progress.{Progress, reading, failed}
use Rattle.vdcp_frame.specs.Head.{IsWrong}

-- what a call of feed gives, without where a message's data lies in memory
pub data Answer : Type 0 where
  message : (m : Content) → Answer
  more : Answer
  wrong : (which : Fault) (place : ℕ) → Answer

abbrev pub answer_of : Got → Answer
answer_of (got.Message m) = message (content_of m)
answer_of got.More = more
answer_of (got.Fault which place) = wrong which place

-- a message: the bytes held and the n bytes taken are one spelling
pub record TakesMessage (taken : ℕ) (held piece : List ℕ) (n : ℕ) (m : Content) : Type 0 where
  pub some : 0 < n
  pub within : n ≤ length piece
  pub limit : taken + n ≤ burst_limit
  pub spelt : Spells m (held ++ take n piece)

-- no message yet: all is taken, and a message isn't finished
pub record TakesAll (taken : ℕ) (held piece : List ℕ) (n : ℕ) : Type 0 where
  pub all : n ≡ length piece
  pub limit : taken + n ≤ burst_limit
  pub unfinished : IsUnfinished (held ++ take n piece)

-- a fault: the bytes held and the n bytes taken are the shortest front that begins no spelling
pub record TakesWrong (taken : ℕ) (held piece : List ℕ) (n : ℕ) (which : Fault) : Type 0 where
  pub some : 0 < n
  pub within : n ≤ length piece
  pub limit : taken + n ≤ burst_limit
  pub first : IsWrong (held ++ take n piece) which (length (held ++ take n piece))

-- the first byte past the limit, before any other fault
pub record TakesLong (taken : ℕ) (held piece : List ℕ) (n : ℕ) : Type 0 where
  pub some : 0 < n
  pub within : n ≤ length piece
  pub past : taken + n ≡ burst_limit + 1
  pub unfinished : IsUnfinished (held ++ take (n - 1) piece)

abbrev pub TakesFault : ℕ → List ℕ → List ℕ → ℕ → Fault → Type 0
TakesFault taken held piece n BadStart = TakesWrong taken held piece n BadStart
TakesFault taken held piece n (BadCount count) = TakesWrong taken held piece n (BadCount count)
TakesFault taken held piece n BadSum = TakesWrong taken held piece n BadSum
TakesFault taken held piece n Long = TakesLong taken held piece n

-- what a reader that is so far gives for a piece of which it takes n bytes. After a fault it takes
-- all and reads nothing; a fault's place counts the burst's bytes
abbrev pub Gives : Progress → List ℕ → ℕ → Answer → Type 0
Gives (reading taken held) piece n (message m) = TakesMessage taken held piece n m
Gives (reading taken held) piece n more = TakesAll taken held piece n
Gives (reading taken held) piece n (wrong which place) = TakesFault taken held piece n which × (place ≡ taken + n)
Gives failed piece n (message m) = ⊥
Gives failed piece n more = n ≡ length piece
Gives failed piece n (wrong which place) = ⊥

-- how far it is then
abbrev pub fed : Progress → List ℕ → ℕ → Answer → Progress
fed (reading taken held) piece n (message m) = reading (taken + n) []
fed (reading taken held) piece n more = reading (taken + n) (held ++ take n piece)
fed (reading taken held) piece n (wrong which place) = failed
fed failed piece n answer = failed

-- how the burst ended at a silence
abbrev pub ended_of : Progress → Ended
ended_of (reading taken []) = ended.Clean
ended_of (reading taken (byte ∷ bytes)) = ended.Cut (length (byte ∷ bytes))
ended_of failed = ended.AfterFault

-- the burst so far spells these messages, and then begins the bytes held
pub record FollowsReading (burst : List ℕ) (ms : List Content) (taken : ℕ) (held : List ℕ) : Type 0 where
  pub whole : List ℕ
  pub parts : burst ≡ whole ++ held
  pub spelt : SpellsAll ms whole
  pub unfinished : IsUnfinished held
  pub count : length burst ≡ taken
  pub limit : taken ≤ burst_limit

-- the burst so far has these messages and this fault, whatever follows
abbrev pub FollowsFault : List ℕ → List Content → Fault → ℕ → Type 0
FollowsFault burst ms which place = (later : List ℕ) → Reads (burst ++ later) ms (fault which place)

-- how far a reader is that took this burst and gave these messages
abbrev pub Follows : List ℕ → List Content → Progress → Type 0
Follows burst ms (reading taken held) = FollowsReading burst ms taken held
Follows burst ms failed = (which : Fault) × (place : ℕ) × FollowsFault burst ms which place

-- the same after one more call
abbrev pub FollowsNext : List ℕ → List Content → Answer → Progress → Type 0
FollowsNext burst ms (message m) new = Follows burst (ms ++ m ∷ []) new
FollowsNext burst ms more new = Follows burst ms new
FollowsNext burst ms (wrong which place) new = FollowsFault burst ms which place × (new ≡ failed)

-- the reading of a burst that ends here
abbrev pub ReadsAs : List ℕ → List Content → Ended → Type 0
ReadsAs burst ms ended.Clean = Reads burst ms clean
ReadsAs burst ms (ended.Cut count) = Reads burst ms (cut count)
ReadsAs burst ms ended.AfterFault = (which : Fault) × (place : ℕ) × Reads burst ms (fault which place)

-- the end of a reading, as a silence tells it
abbrev pub IsEnd : Ended → End → Type 0
IsEnd ended.Clean end = end ≡ clean
IsEnd (ended.Cut count) end = end ≡ cut count
IsEnd ended.AfterFault end = (which : Fault) × (place : ℕ) × (end ≡ fault which place)
