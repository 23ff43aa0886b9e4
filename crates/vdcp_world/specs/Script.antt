-- Scripts of events: what each line says, and a whole text.
use Rattle.hex.specs.Hex.{decode_of, encode_lower}
use Rattle.std.specs.Prelude.{ℕ, ◌≡◌, ◌≢◌, ◌<◌, ◌≤◌, ◌==◌, Bool, true, List, [], ◌∷◌, ◌++◌, codes, length, Ok, Option, None, Some, slice_index}
use Rattle.std.specs.Str.Lines.{lines}
use Rattle.std.specs.Str.Parse.{IsNumeral, digits_value}
use Rattle.vdcp_world.specs.Rounds.{round, good_round, times}
use Rattle.vdcp_world.specs.declared.script.Repeated.{Repeated}
use Rattle.vdcp_world.specs.declared.script.Repeated.TheVariants as repeated
use Rattle.vdcp_world.specs.declared.event.Event.{Event}
use Rattle.vdcp_world.specs.declared.event.Event.TheVariants.{Tick, Down, Up, DownCopy, UpCopy, LoseDown, LoseUp, AlterDown, AlterUp, Timeout, Ready, End, Frame, Take, Stop, StrayAck, StrayNak}

-- the text writes a number from 1 to 10,000, in digits without leading zeros
pub record WritesCount (text : List ℕ) (count : ℕ) : Type 0 where
  pub numeral : IsNumeral 10 text
  pub no_zero : slice_index text 0 ≢ 0x30
  pub value : digits_value 10 text ≡ count
  pub some : 1 ≤ count
  pub few : count ≤ 10_000

-- the text writes 1 to 1,024 bytes in hexadecimal digits, of either case
pub record WritesBytes (text bytes : List ℕ) : Type 0 where
  pub some : 0 < length text
  pub few : length text ≤ 2048
  pub digits : decode_of text ≡ Ok bytes

-- a word, and what one space parts from it
abbrev pub worded : List ℕ → Option (List ℕ) → List ℕ
worded word None = word
worded word (Some argument) = word ++ 0x20 ∷ argument

-- the line is the event's
abbrev pub IsLineOf : Event → List ℕ → Type 0
IsLineOf Tick line = line ≡ codes "tick"
IsLineOf Down line = line ≡ codes "down"
IsLineOf Up line = line ≡ codes "up"
IsLineOf DownCopy line = line ≡ codes "down-copy"
IsLineOf UpCopy line = line ≡ codes "up-copy"
IsLineOf LoseDown line = line ≡ codes "lose-down"
IsLineOf LoseUp line = line ≡ codes "lose-up"
IsLineOf (AlterDown bytes) line =
    (text : List ℕ) × (line ≡ worded (codes "alter-down") (Some text)) × WritesBytes text bytes
IsLineOf (AlterUp bytes) line =
    (text : List ℕ) × (line ≡ worded (codes "alter-up") (Some text)) × WritesBytes text bytes
IsLineOf Timeout line = line ≡ codes "timeout"
IsLineOf Ready line = line ≡ codes "ready"
IsLineOf End line = line ≡ codes "end"
IsLineOf Frame line = line ≡ codes "frame"
IsLineOf Take line = line ≡ codes "take"
IsLineOf Stop line = line ≡ codes "stop"
IsLineOf StrayAck line = line ≡ codes "stray-ack"
IsLineOf (StrayNak byte) line = line ≡ worded (codes "stray-nak") (Some (encode_lower (byte ∷ [])))

-- the events that one word repeats
abbrev pub repeated_events : Repeated → List Event
repeated_events repeated.Frame = Frame ∷ []
repeated_events repeated.Round = round
repeated_events repeated.GoodRound = good_round

abbrev pub repeated_word : Repeated → List ℕ
repeated_word repeated.Frame = codes "frame"
repeated_word repeated.Round = codes "round"
repeated_word repeated.GoodRound = codes "good"

-- a number that may follow a word; 1 if none does
abbrev pub Counts : Option (List ℕ) → ℕ → Type 0
Counts None count = count ≡ 1
Counts (Some text) count = WritesCount text count

-- the line is blank or a comment
abbrev pub is_skipped : List ℕ → Bool
is_skipped [] = true
is_skipped (byte ∷ line) = byte == 0x23

-- what a line says: nothing, an event, or some events over and over
pub data Says (line : List ℕ) : List Event → Type 0 where
  skipped : is_skipped line ≡ true → Says line []
  word : (event : Event) → IsLineOf event line → Says line (event ∷ [])
  repeats : (kind : Repeated) (argument : Option (List ℕ)) (count : ℕ) → line ≡ worded (repeated_word kind) argument
      → Counts argument count → Says line (times count (repeated_events kind))

-- events, and then those that a line says
pub record SaysMore (line : List ℕ) (events more : List Event) : Type 0 where
  pub said : List Event
  pub more_are : more ≡ events ++ said
  pub says : Says line said

-- the events of lines, one after another
pub data SayAll : List (List ℕ) → List Event → Type 0 where
  no_line : SayAll [] []
  one_more : (before : List (List ℕ)) (events : List Event) (line : List ℕ) (more : List Event) → SayAll before events
      → SaysMore line events more → SayAll (before ++ line ∷ []) more

-- the text is a script of these events
abbrev pub IsScript : List ℕ → List Event → Type 0
IsScript text events = SayAll (lines text) events
