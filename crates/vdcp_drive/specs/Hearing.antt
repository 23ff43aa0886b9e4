-- The two ears: what of the bytes that come is heard, and when.
use Rattle.std.specs.Prelude.{ℕ, true, false, List, [], ◌∷◌, map, Option, None, Some}
use Rattle.vdcp_auto.specs.Heard.{heard_as}
use Rattle.vdcp_auto.specs.declared.exchange.Heard.{Heard}
use Rattle.vdcp_drive.specs.Ears.{Fold}
use Rattle.vdcp_drive.specs.Reading.{Held, holds, completed, held_after, held_after_silence}

-- what is heard in the messages that bytes complete
abbrev pub heard_by : ℕ → Held → List ℕ → List Heard
heard_by unit held piece = map (heard_as unit) (completed held piece)

-- each message is heard when its last byte is there, and a silence is a time-out
abbrev pub at_once : Fold Held
at_once = record {
  drops = false;
  hears = λ unit piece held. heard_by unit held piece;
  takes = λ unit piece held. held_after held piece;
  says = λ held. None;
  rests = held_after_silence;
}

-- a burst so far: it has no whole message yet, or the first one was this
pub data Burst : Type 0 where
  begun : Held → Burst
  said : Heard → Burst

abbrev pub burst_of : Held → Option Heard → Burst
burst_of held None = begun held
burst_of held (Some h) = said h

abbrev pub burst_with : Held → List Heard → Burst
burst_with held [] = begun held
burst_with held (h ∷ later) = said h

abbrev pub burst_after : ℕ → List ℕ → Burst → Burst
burst_after unit piece (begun held) = burst_with (held_after held piece) (heard_by unit held piece)
burst_after unit piece (said h) = said h

abbrev pub burst_says : Burst → Option Heard
burst_says (begun held) = None
burst_says (said h) = Some h

-- of each burst that a silence or the close ends the first message is heard, or a time-out
abbrev pub at_silences : Fold Burst
at_silences = record {
  drops = true;
  hears = λ unit piece burst. [];
  takes = burst_after;
  says = burst_says;
  rests = λ burst. begun (holds []);
}
