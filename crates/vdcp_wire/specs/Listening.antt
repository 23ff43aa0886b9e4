-- What is printed of the address that is listened at.
use Rattle.std.specs.Io.KnownBytes.{Appends}
use Rattle.std.specs.Net.Text.{socket_text}
use Rattle.std.specs.Prelude.{ℕ, List, [], ◌∷◌, ◌++◌, codes, Option}
use Rattle.std.specs.declared.net.SocketAddr.{SocketAddr}

-- the line of the address that is listened at, with its line feed
abbrev pub listening_line : SocketAddr → List ℕ
listening_line address = (codes "listening " ++ socket_text address) ++ 10 ∷ []

-- a writer gained the line of an address that was listened at
abbrev pub PrintsListening : Option (List ℕ) → Option (List ℕ) → Type 0
PrintsListening out out' = (address : SocketAddr) × Appends out out' (listening_line address)
