-- Worked rows of the subcommands that read files, computed from the definitions.
use Rattle.hex.specs.Hex.{decode_pairs, encode_with}
use Rattle.std.proofs.Common.{◌≡◌, ℕ, List, [], ◌∷◌, refl, Bor}
use Rattle.std.specs.Char.{encode_utf8}
use Rattle.std.specs.Fmt.{digits}
use Rattle.std.specs.Prelude.{codes}
use Rattle.std.specs.Str.{chars}
use Rattle.vdcp_offline.specs.Vectors.{columns, finding_of_row, findings_of, got, hex, right, too_many, vectors_text}
use Rattle.vdcp_text.specs.Failure.{failure_line}

abbrev file_name : Bor (List ℕ)
file_name = record { ref_ptr = (0, 0); now = codes "FILE" }

too_many_line : failure_line (too_many file_name) ≡ codes "vdcp: FILE: row 10001: too many\n"
unfolding chars encode_utf8 digits
too_many_line = refl

no_burst_is_clean : finding_of_row ([] ∷ codes "clean" ∷ []) ≡ right
unfolding decode_pairs
no_burst_is_clean = refl

an_ack_is_more : finding_of_row (codes "04" ∷ codes "clean" ∷ []) ≡ got (codes "ack; clean")
unfolding decode_pairs
an_ack_is_more = refl

odd_digits : finding_of_row (codes "0" ∷ codes "clean" ∷ []) ≡ hex
unfolding decode_pairs
odd_digits = refl

three_fields : finding_of_row (codes "0" ∷ codes "clean" ∷ [] ∷ []) ≡ columns
three_fields = refl

stop_then_ack : vectors_text (findings_of
    ((codes "02021001ef" ∷ codes "unit 0 type 1 code 01 data -; clean" ∷ []) ∷ (codes "04" ∷ codes "clean" ∷ []) ∷ []))
    ≡ codes "row 2: got ack; clean\nvectors 2 bad 1\n"
unfolding decode_pairs encode_with digits
stop_then_ack = refl

no_rows : vectors_text (findings_of []) ≡ codes "vectors 0 ok\n"
unfolding digits
no_rows = refl
