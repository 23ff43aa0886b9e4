-- The text of an address.
use Rattle.std.specs.Net.Grammar.{IsSocketV4Text}
use Rattle.std.specs.Prelude.{ℕ, List}
use Rattle.std.specs.declared.net.SocketAddrV4.{SocketAddrV4}

-- a text is an address: four decimal bytes with points between them, a colon and a TCP port
abbrev pub IsAddress : List ℕ → Type 0
IsAddress text = (address : SocketAddrV4) × IsSocketV4Text text address
