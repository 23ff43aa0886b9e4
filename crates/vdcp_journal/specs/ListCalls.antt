-- What a journal's rows say of the list.
use Rattle.std.specs.List.{flat_map}
use Rattle.std.specs.Prelude.{List, [], ◌∷◌}
use Rattle.vdcp_auto.specs.declared.list_call.ListCall.{ListCall}
use Rattle.vdcp_journal.specs.declared.row.Note.{Note}
use Rattle.vdcp_journal.specs.declared.row.Note.TheVariants as note
use Rattle.vdcp_journal.specs.declared.row.Row.{Row}

-- the operator's call on the list that is noted, if one is
abbrev pub list_calls_of : Note → List ListCall
list_calls_of (note.List c) = c ∷ []
list_calls_of n = []

-- those of rows, of whatever run, in order
abbrev pub list_calls : List Row → List ListCall
list_calls rows = flat_map (λ row. list_calls_of row.note) rows
