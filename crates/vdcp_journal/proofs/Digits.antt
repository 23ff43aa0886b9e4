-- Digits, in the words of `hex`.
use Rattle.std.proofs.Common.{ℕ, ◌<◌, List, refl}
use Rattle.std.proofs.Math.Dec.{ltb}
use Rattle.std.proofs.lemmas.Bool.{ltb-true}
use Rattle.std.proofs.lemmas.List.Elements.{All-weaker}
use Rattle.std.proofs.lemmas.List.Sums.{AllPass-from_list_all}
use Rattle.std.proofs.lemmas.Str.{IsUtf8-from_ascii}
use Rattle.std.proofs.lemmas.Str.Ascii.{IsAscii-from_all}
use Rattle.std.specs.Str.{IsUtf8}
use Rattle.hex.proofs.HexLemmas.{IsAscii-encode_with}
use Rattle.hex.specs.Hex.{encode_lower, lower_digits}

-- digits are text
pub digits_are_text : (bytes : List ℕ) → IsUtf8 (encode_lower bytes)
digits_are_text bytes =
    let below = AllPass-from_list_all (λ digit. ltb digit 128) lower_digits refl in
    let ascii = All-weaker _ (λ digit. digit < 128) (λ digit. ltb-true digit 128) lower_digits below in
    IsUtf8-from_ascii _ (IsAscii-encode_with lower_digits bytes (IsAscii-from_all lower_digits ascii))
