-- Lists of a given number of bytes.
use Rattle.std.specs.Prelude.{ℕ, List, length, nat_lt, nat_eq, ◌&&◌, Bool, IsTrue}
use Rattle.std.specs.List.{list_all}

-- whether the list is n numbers, each of them a byte
abbrev pub are_bytes : ℕ → List ℕ → Bool
are_bytes n bytes = nat_eq (length bytes) n && list_all (λ byte. nat_lt byte 256) bytes

-- the list is n numbers, each of them a byte
abbrev pub AreBytes : ℕ → List ℕ → Type 0
AreBytes n bytes = IsTrue (are_bytes n bytes)
