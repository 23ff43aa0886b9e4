-- A burst that is fed in pieces: the calls, and what they give.
use Rattle.std.specs.Prelude.{ℕ, ◌≡◌, ◌<◌, List, [], ◌∷◌, ◌++◌, Option, Some, None, length, take, drop, unwrap_or}
use Rattle.vdcp_frame.specs.declared.got.Ended.{Ended}
use Rattle.vdcp_frame.specs.declared.got.Ended.TheVariants as silence
use Rattle.vdcp_frame.specs.Message.{Content}
use Rattle.vdcp_frame.specs.Reading.{End, clean, cut, fault}
use Rattle.vdcp_frame.specs.Progress.{Progress}
use Rattle.vdcp_frame.specs.Reader.{Answer, message, more, wrong, Gives, fed, Follows}

-- one call of feed: how many bytes it took, and its answer
pub record Call : Type 0 where
  pub count : ℕ
  pub answer : Answer

-- the calls that feed a piece to its end, each with what is left of it
abbrev pub Feeds : Progress → List ℕ → List Call → Progress → Type 0
Feeds old piece [] new = (piece ≡ []) × (new ≡ old)
Feeds old piece (call ∷ calls) new =
    Gives old piece call.count call.answer
    × Feeds (fed old piece call.count call.answer) (drop call.count piece) calls new

-- the same for one piece after another
abbrev pub FeedsAll : Progress → List (List ℕ) → List (List Call) → Progress → Type 0
FeedsAll old [] [] new = new ≡ old
FeedsAll old (piece ∷ pieces) (calls ∷ others) new = (mid : Progress) × Feeds old piece calls mid
    × FeedsAll mid pieces others new
FeedsAll old [] (calls ∷ others) new = ⊥
FeedsAll old (piece ∷ pieces) [] new = ⊥

-- the messages that came, in order
abbrev pub with_message : Answer → List Content → List Content
with_message (message m) ms = m ∷ ms
with_message more ms = ms
with_message (wrong which place) ms = ms

-- a call of next took the front of a piece and left these bytes of it: the call of feed that it is, and what
-- the burst's messages are with it
pub record ReadsOn (old : Progress) (piece : List ℕ) (answer : Answer) (left : List ℕ) (new : Progress) : Type 0 where
  pub count : ℕ
  pub gives : Gives old piece count answer
  pub after : new ≡ fed old piece count answer
  pub leaves : left ≡ drop count piece
  pub follows : (burst : List ℕ) (ms : List Content) → Follows burst ms old →
      Follows (burst ++ take count piece) (ms ++ with_message answer []) new

-- a message and a fault take some bytes, and nothing is left if neither came
abbrev pub GoesOn : Answer → List ℕ → List ℕ → Type 0
GoesOn (message m) piece left = length left < length piece
GoesOn more piece left = left ≡ []
GoesOn (wrong which place) piece left = length left < length piece

abbrev pub messages_given : List Call → List Content
messages_given [] = []
messages_given (call ∷ calls) = with_message call.answer (messages_given calls)

-- the fault that came, if one did
abbrev pub or_fault : Answer → Option End → Option End
or_fault (message m) later = later
or_fault more later = later
or_fault (wrong which place) later = Some (fault which place)

abbrev pub fault_given : List Call → Option End
fault_given [] = None
fault_given (call ∷ calls) = or_fault call.answer (fault_given calls)

-- the end that the calls and then the silence tell
abbrev pub silent_end : Ended → End
silent_end silence.Clean = clean
silent_end (silence.Cut count) = cut count
silent_end silence.AfterFault = clean

abbrev pub end_given : List Call → Ended → End
end_given calls ended = unwrap_or (fault_given calls) (silent_end ended)
