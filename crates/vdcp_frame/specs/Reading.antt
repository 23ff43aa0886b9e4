-- The reading of a burst: its messages and its end.
use Rattle.std.specs.Prelude.{ℕ, ◌≡◌, ◌≢◌, ◌+◌, ◌<◌, ◌≤◌, List, [], ◌∷◌, ◌++◌, length, take, nat_lt, if◌then◌else◌}
use Rattle.vdcp_frame.specs.declared.message.Fault.{Fault}
use Rattle.vdcp_frame.specs.declared.message.Fault.TheVariants.{BadStart, BadCount, BadSum, Long}
use Rattle.vdcp_frame.specs.Message.{Content, Spells}

-- the bytes are the spellings of the messages, one after another
abbrev pub SpellsAll : List Content → List ℕ → Type 0
SpellsAll [] bytes = bytes ≡ []
SpellsAll (m ∷ ms) bytes = (first remainder : List ℕ) × Spells m first × SpellsAll ms remainder
    × (bytes ≡ first ++ remainder)

-- the bytes are whole messages, one after another
abbrev pub AreMessages : List ℕ → Type 0
AreMessages bytes = (ms : List Content) × SpellsAll ms bytes

-- some spelling begins with these bytes
pub record Begins (bytes : List ℕ) : Type 0 where
  pub message : Content
  pub more : List ℕ
  pub spelt : Spells message (bytes ++ more)

-- no front of the bytes is a spelling
abbrev pub HasNoFront : List ℕ → Type 0
HasNoFront bytes = (m : Content) (front more : List ℕ) → Spells m front → bytes ≡ front ++ more → ⊥

-- the bytes begin a message, or are none, and hold no whole one
pub record IsUnfinished (bytes : List ℕ) : Type 0 where
  pub begins : Begins bytes
  pub no_front : HasNoFront bytes

-- the front of n bytes is the shortest that begins no spelling
pub record IsFirstWrong (bytes : List ℕ) (n : ℕ) : Type 0 where
  pub within : n ≤ length bytes
  pub wrong : Begins (take n bytes) → ⊥
  pub shorter : (k : ℕ) → k < n → Begins (take k bytes)

-- how the reading of a burst ends
pub data End : Type 0 where
  clean : End
  cut : (count : ℕ) → End
  fault : (which : Fault) (place : ℕ) → End

-- which fault it is, by the shortest front that begins no spelling
abbrev pub fault_of : List ℕ → Fault
fault_of [] = BadStart
fault_of (start ∷ []) = BadStart
fault_of (start ∷ count ∷ []) = BadCount count
fault_of (start ∷ count ∷ byte ∷ bytes) = BadSum

-- how a burst ends that has this remainder after whole messages, which have `before` bytes
abbrev pub Ends : ℕ → List ℕ → End → Type 0
Ends before remainder clean = remainder ≡ []
Ends before remainder (cut count) = (remainder ≢ []) × Begins remainder × (count ≡ length remainder)
Ends before remainder (fault which place) = (n : ℕ) × IsFirstWrong remainder n × (place ≡ before + n)
    × (which ≡ fault_of (take n remainder))

-- the messages' spellings, then a remainder that begins with no spelling, and what end the remainder makes
pub record ReadsShort (bytes : List ℕ) (ms : List Content) (end : End) : Type 0 where
  pub whole : List ℕ
  pub remainder : List ℕ
  pub parts : bytes ≡ whole ++ remainder
  pub spelt : SpellsAll ms whole
  pub no_front : HasNoFront remainder
  pub ends : Ends (length whole) remainder end

-- the end of a burst that goes on after the bytes that are read
abbrev pub long_end : ℕ → End → End
long_end limit clean = fault Long (limit + 1)
long_end limit (cut count) = fault Long (limit + 1)
long_end limit (fault which place) = fault which place

-- no more of the bytes than the limit are read
pub record ReadsUpTo (limit : ℕ) (burst : List ℕ) (ms : List Content) (end : End) : Type 0 where
  pub short : End
  pub front : ReadsShort (take limit burst) ms short
  pub long : end ≡ (if nat_lt limit (length burst) then long_end limit short else short)

-- how many bytes of a burst are read
abbrev pub burst_limit : ℕ
burst_limit = 4096

-- the reading of a burst: its messages and its end
abbrev pub Reads : List ℕ → List Content → End → Type 0
Reads burst ms end = ReadsUpTo burst_limit burst ms end
