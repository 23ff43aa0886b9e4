-- A journal's time, as callers see it.
use Rattle.std.specs.Prelude.{ℕ, List, [], ◌∷◌, Option, None, Some, bytes_eq, codes, if◌then◌else◌}
use Rattle.vdcp_journal.specs.declared.moment.Moment.{Moment}
use Rattle.vdcp_journal.specs.declared.row.Note.{Note}
use Rattle.vdcp_journal.specs.declared.row.Note.TheVariants as note
use Rattle.vdcp_journal.specs.declared.row.Row.{Row}
use Rattle.vdcp_words.specs.declared.command.Command.TheVariants as command

abbrev pub moment_text : Moment → List ℕ
moment_text moment = moment.text

-- the time of a row that no clock gave
abbrev pub no_clock : List ℕ
no_clock = codes "1970-01-01T00:00:00.000Z"

-- a moment's text, if a clock gave it
abbrev pub clocked_text : Moment → List ℕ
clocked_text moment = if bytes_eq (moment_text moment) no_clock then [] else moment_text moment

-- that of the row that shows an end
abbrev pub ended_text : Option Row → List ℕ
ended_text None = []
ended_text (Some row) = clocked_text row.time

-- what was seen of an end by what a row notes that shows it: a state, or a PLAY that goes out while a clip plays, or a STOP
abbrev pub end_shown : Note → List ℕ
end_shown (note.Heard h) = codes "ran out"
end_shown (note.Sent command.Play) = codes "cut by a take"
end_shown (note.Sent command.Stop) = codes "stopped"
end_shown n = codes "not seen"

-- none is seen in a row whose time no clock gave
abbrev pub end_at : (time : List ℕ) → Note → List ℕ
end_at [] n = codes "not seen"
end_at (byte ∷ time) n = end_shown n

abbrev pub end_text : Option Row → List ℕ
end_text None = codes "not seen"
end_text (Some row) = end_at (clocked_text row.time) row.note
