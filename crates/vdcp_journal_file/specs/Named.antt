-- The events that a journal's own rows name, as a source: they can be counted, and their parts are of bytes.
use Rattle.std.proofs.Common.{◌<◌, ◌^◌, length, arith}
use Rattle.std.specs.Prelude.{All, List}
use Rattle.vdcp_journal_file.specs.declared.named.NamedEvents.{NamedEvents}
use Rattle.vdcp_value.specs.Parts.{IsItem}
use Rattle.vdcp_value.specs.declared.part.Item.{Item}

abbrev pub items_of : NamedEvents → List Item
items_of named = named.items.items

pub countable : (named : NamedEvents) → length (items_of named) < 2 ^ 64
countable named = omega (arith, named.items.ok, named.items.small)

pub of_bytes : (named : NamedEvents) → All IsItem (items_of named)
of_bytes named = named.of_bytes
