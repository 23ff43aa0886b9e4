-- The text of an ID is UTF-8.
use Rattle.std.proofs.Common.{refl}
use Rattle.std.proofs.lemmas.Str.{IsUtf8-from_ascii}
use Rattle.std.specs.Prelude.{Err, IsAscii, IsUtf8, List, Ok, Result, ℕ}
use Rattle.std.specs.Result.{IsOk, MatchResult}

pub utf8_of : (text : List ℕ) → IsAscii text → IsUtf8 text
utf8_of text ascii = IsUtf8-from_ascii text ascii

-- a value, if an error can't be
pub ok_unless : {X Y : Type 0} (r : Result X Y) (P : X → Type 0) (Q : Y → Type 0) → MatchResult r P Q
    → ((error : Y) → ¬ Q error) → IsOk r
ok_unless (Ok value) P Q m none = refl
ok_unless (Err error) P Q m none = absurd (none error m)
