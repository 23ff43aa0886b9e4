-- The words that name each command.
use Rattle.std.specs.Prelude.{ℕ, ◌≡◌, ◌⊎◌, List, [], ◌∷◌, length, map, codes, Option, Ok}
use Rattle.std.specs.Borrow.{Bor}
use Rattle.std.specs.Io.KnownBytes.{Appends}
use Rattle.hex.specs.Hex.{decode_of, encode_lower}
use Rattle.vdcp_text.specs.declared.failure.Failure.{Failure}
use Rattle.vdcp_text.specs.declared.failure.Failure.TheVariants as failures
use Rattle.vdcp_frame.specs.Message.{spelling}
use Rattle.vdcp_words.specs.Commands.{command_message}
use Rattle.vdcp_text.specs.Text.{line}
use Rattle.vdcp_value.specs.IdText.{IsTextOf}
use Rattle.vdcp_value.specs.Ids.{id_bytes}
use Rattle.vdcp_value.specs.declared.clip_id.ClipId.{ClipId}
use Rattle.vdcp_words.specs.declared.command.Command.{Command}
use Rattle.vdcp_words.specs.declared.command.Command.TheVariants.{Open, Close, Select, PlayCue, CueData, Play, Stop, Status, ActiveId, IdRequest, IdSize}

-- the text is the byte in two hexadecimal digits of either case
abbrev pub IsByteText : List ℕ → ℕ → Type 0
IsByteText text byte = decode_of text ≡ Ok (byte ∷ [])

-- the text is the ID's one text
abbrev pub IsIdText : List ℕ → ClipId → Type 0
IsIdText text id = IsTextOf text (id_bytes id)

-- the text is the four bytes in eight hexadecimal digits of either case
abbrev pub IsTimeText : List ℕ → List ℕ → Type 0
IsTimeText text time = (length time ≡ 4) × (decode_of text ≡ Ok time)

-- a command's words: its name and its arguments
abbrev pub words_of : List ℕ → List (Bor (List ℕ)) → List (List ℕ)
words_of word arguments = word ∷ map (λ a. a.now) arguments

-- the words that name each command
abbrev pub Names : List (List ℕ) → Command → Type 0
Names words (Open port lock) =
    (p l : List ℕ) × IsByteText p port × IsByteText l lock × (words ≡ codes "open" ∷ p ∷ l ∷ [])
Names words (Close port) = (p : List ℕ) × IsByteText p port × (words ≡ codes "close" ∷ p ∷ [])
Names words (Select port) = (p : List ℕ) × IsByteText p port × (words ≡ codes "select" ∷ p ∷ [])
Names words (PlayCue id) = (i : List ℕ) × IsIdText i id × (words ≡ codes "cue" ∷ i ∷ [])
Names words (CueData id start duration) =
    (i s d : List ℕ) × IsIdText i id × IsTimeText s start × IsTimeText d duration
    × (words ≡ codes "cue-data" ∷ i ∷ s ∷ d ∷ [])
Names words Play = words ≡ codes "play" ∷ []
Names words Stop = words ≡ codes "stop" ∷ []
Names words (Status bitmap) = (b : List ℕ) × IsByteText b bitmap × (words ≡ codes "status" ∷ b ∷ [])
Names words ActiveId = words ≡ codes "active" ∷ []
Names words (IdRequest id) = (i : List ℕ) × IsIdText i id × (words ≡ codes "exists" ∷ i ∷ [])
Names words (IdSize id) = (i : List ℕ) × IsIdText i id × (words ≡ codes "size" ∷ i ∷ [])

-- no command has these words
abbrev pub NamesNone : List (List ℕ) → Type 0
NamesNone words = (command : Command) → ¬ Names words command

-- a command has this name
abbrev pub IsName : List ℕ → Type 0
IsName word =
    (word ≡ codes "open") ⊎ (word ≡ codes "close") ⊎ (word ≡ codes "select")
    ⊎ (word ≡ codes "cue") ⊎ (word ≡ codes "cue-data") ⊎ (word ≡ codes "play")
    ⊎ (word ≡ codes "stop") ⊎ (word ≡ codes "status") ⊎ (word ≡ codes "active")
    ⊎ (word ≡ codes "exists") ⊎ (word ≡ codes "size")

-- why words that name no command are refused: the first is no command's name, or the others aren't its arguments
abbrev pub IsMakeFault : List ℕ → Failure → Type 0
IsMakeFault word failure = ((failure ≡ failures.Word) × ¬ IsName word) ⊎ ((failure ≡ failures.Arguments) × IsName word)

-- the words name a command, and a writer gained one line, the digits of the command's bytes to this unit
pub record IsMade (words : List (List ℕ)) (unit : ℕ) (old new : Option (List ℕ)) : Type 0 where
  pub command : Command
  pub named : Names words command
  pub gained : Appends old new (line (encode_lower (spelling (command_message unit command))))
