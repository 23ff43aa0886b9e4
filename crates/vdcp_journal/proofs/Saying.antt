-- Rows that leave out what says nothing new say the same of the list.
use Rattle.std.proofs.Common.{◌≡◌, true, false, List, [], ◌∷◌, ◌++◌, Bool, refl, sym, ap, ◌∙◌}
use Rattle.std.proofs.lemmas.Grind.{flat_map-append}
use Rattle.std.specs.List.{flat_map}
use Rattle.std.specs.Prelude.{IsTrue}
use Rattle.vdcp_auto.specs.declared.list_call.ListCall.{ListCall}
use Rattle.vdcp_journal.specs.ListCalls.{list_calls, list_calls_of}
use Rattle.vdcp_journal.specs.Thinned.{AreThinned, IsThinned, asks_state, before_play, hears_so, notes_in, takes, whole, without}
use Rattle.vdcp_journal.specs.declared.row.Note.{Note}
use Rattle.vdcp_journal.specs.declared.row.Note.TheVariants as note
use Rattle.vdcp_journal.specs.declared.row.Row.{Row}
use Rattle.vdcp_words.specs.declared.command.Command.TheVariants as command
use Rattle.vdcp_words.specs.declared.reply.Reply.{Reply}

abbrev said : List Note → List ListCall
said notes = flat_map list_calls_of notes

said_by : (rows : List Row) → list_calls rows ≡ said (notes_in rows)
said_by [] = refl
said_by (row ∷ rows) = ap (λ (l : List ListCall). list_calls_of row.note ++ l) (said_by rows)

asks_says : (n : Note) → IsTrue (asks_state n) → list_calls_of n ≡ []
asks_says (note.List c) is = cc is
asks_says n is = refl

hears_says : (kind : Reply → Bool) (n : Note) → IsTrue (hears_so kind n) → list_calls_of n ≡ []
hears_says kind (note.List c) is = cc is
hears_says kind n is = refl

-- a note that says nothing, before others
none_said : (n : Note) (notes : List Note) → list_calls_of n ≡ [] → said (n ∷ notes) ≡ said notes
none_said n notes is = ap (λ (l : List ListCall). l ++ said notes) is

takes_said : (took : Bool) (notes : List Note) → said (takes took ++ notes) ≡ said notes
takes_said true notes = refl
takes_said false notes = refl

-- behind the same notes
said_behind : (before some others : List Note) → said some ≡ said others → said (before ++ some) ≡ said (before ++ others)
said_behind before some others same = flat_map-append list_calls_of before some
    ∙ ap (λ (l : List ListCall). said before ++ l) same ∙ sym (flat_map-append list_calls_of before others)

says_so : (all notes : List Note) → IsThinned all notes → said notes ≡ said all
says_so all _ whole = refl
says_so all _ (without before after asks hears is h thin) =
    let a = asks_says asks is in
    let b = hears_says _ hears h in
    said_behind before (asks ∷ hears ∷ asks ∷ after) (asks ∷ hears ∷ asks ∷ hears ∷ asks ∷ after)
    (none_said asks (hears ∷ asks ∷ after) a ∙ sym (none_said asks (hears ∷ asks ∷ hears ∷ asks ∷ after) a
    ∙ none_said hears (asks ∷ hears ∷ asks ∷ after) b ∙ none_said asks (hears ∷ asks ∷ after) a)) ∙ says_so all _ thin
says_so all _ (before_play before after took asks hears free is h f thin) =
    let a = asks_says asks is in
    let last : List Note = note.Sent command.Play ∷ after in
    said_behind before (asks ∷ free ∷ last) (asks ∷ (takes took ++ (hears ∷ last)))
    (none_said asks (free ∷ last) a ∙ none_said free last (hears_says _ free f)
    ∙ sym (none_said asks (takes took ++ (hears ∷ last)) a ∙ takes_said took (hears ∷ last)
    ∙ none_said hears last (hears_says _ hears h))) ∙ says_so all _ thin

pub says : (all rows : List Row) → AreThinned all rows → list_calls rows ≡ list_calls all
says all rows thin = said_by rows ∙ says_so (notes_in all) (notes_in rows) thin ∙ sym (said_by all)
