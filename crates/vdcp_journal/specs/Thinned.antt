-- What a journal may leave out: a state that is asked again and says nothing new, and what a PLAY tells by itself.
use Rattle.std.specs.Prelude.{Bool, true, false, not, ◌&&◌, if◌then◌else◌, IsTrue, Option, None, Some, List, [], ◌∷◌, ◌++◌, map}
use Rattle.vdcp_auto.specs.Commands.{is_state, is_status_command}
use Rattle.vdcp_auto.specs.Log.{hears}
use Rattle.vdcp_auto.specs.declared.exchange.Heard.{Heard}
use Rattle.vdcp_auto.specs.Replies.{is_done, is_playing}
use Rattle.vdcp_journal.specs.declared.row.Note.{Note}
use Rattle.vdcp_journal.specs.declared.row.Note.TheVariants as note
use Rattle.vdcp_journal.specs.declared.row.Row.{Row}
use Rattle.vdcp_words.specs.declared.command.Command.TheVariants as command
use Rattle.vdcp_words.specs.declared.reply.Reply.{Reply}

-- the state is asked for
abbrev pub asks_state : Note → Bool
asks_state (note.Sent c) = is_status_command c
asks_state n = false

-- a reply of this kind is heard
abbrev pub hears_so : (Reply → Bool) → Note → Bool
hears_so kind (note.Heard h) = hears kind (Some h)
hears_so kind n = false

-- a state is heard
abbrev pub hears_state : Note → Bool
hears_state n = hears_so is_state n

-- a state is heard with the cue done
abbrev pub hears_done : Note → Bool
hears_done n = hears_so is_done n

-- and nothing plays: if the controller waits for that, PLAY comes next
abbrev pub hears_free : Note → Bool
hears_free n = hears_so (λ r. is_done r && not (is_playing r)) n

-- and a clip plays: if the controller waits for its end, PLAY comes then
abbrev pub hears_waiting : Note → Bool
hears_waiting n = hears_so (λ r. is_done r && is_playing r) n

-- the operator's take, or nothing
abbrev pub takes : Bool → List Note
takes true = note.Take ∷ []
takes false = []

-- What may be left of all these notes. If the state was asked and heard twice in a row, the same each time, and then
-- asked again, once is enough. A PLAY tells that the cue was done when the state was heard before it, and that it might
-- go out: so any state will do that lets it, and a take after which it might is spent. And so again with what is left.
pub data IsThinned (all : List Note) : List Note → Type 0 where
  whole : IsThinned all all
  without : (before after : List Note) (asks hears : Note) → IsTrue (asks_state asks) → IsTrue (hears_state hears)
      → IsThinned all (before ++ (asks ∷ hears ∷ asks ∷ hears ∷ asks ∷ after))
      → IsThinned all (before ++ (asks ∷ hears ∷ asks ∷ after))
  before_play : (before after : List Note) (took : Bool) (asks hears free : Note) → IsTrue (asks_state asks)
      → IsTrue (hears_done hears) → IsTrue (hears_free free)
      → IsThinned all (before ++ (asks ∷ (takes took ++ (hears ∷ note.Sent command.Play ∷ after))))
      → IsThinned all (before ++ (asks ∷ free ∷ note.Sent command.Play ∷ after))

abbrev pub notes_in : List Row → List Note
notes_in rows = map (λ row. row.note) rows

-- these rows are a journal of those: what may be left of them
abbrev pub AreThinned : List Row → List Row → Type 0
AreThinned all rows = IsThinned (notes_in all) (notes_in rows)

-- what ended the last exchange, if since then at the most the state was asked

abbrev pub heard_after : Option Heard → Note → Option Heard
heard_after before (note.Sent c) = if is_status_command c then before else None
heard_after before (note.Heard h) = Some h
heard_after before note.Silence = None
heard_after before note.Take = None
heard_after before note.Stop = None
heard_after before (note.List c) = None
heard_after before (note.End outcome) = None
heard_after before (note.From k) = None
heard_after before (note.Left k) = None

abbrev pub heard_from : Option Heard → List Note → Option Heard
heard_from before [] = before
heard_from before (n ∷ notes) = heard_from (heard_after before n) notes

abbrev pub heard_last : List Note → Option Heard
heard_last notes = heard_from None notes
