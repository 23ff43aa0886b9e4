-- Worked rows of the program, computed from the definitions.
use Rattle.hex.specs.Hex.{decode_pairs, encode_lower, encode_with}
use Rattle.std.proofs.Common.{◌≡◌, ℕ, List, [], ◌∷◌, refl, ap, Bor, arith}
use Rattle.std.specs.Char.{encode_utf8}
use Rattle.std.specs.Fmt.{digits}
use Rattle.std.specs.Prelude.{codes}
use Rattle.std.specs.Str.{chars}
use Rattle.vdcp_text.specs.Failure.{failure_line}
use Rattle.vdcp_text.specs.Make.{Names, NamesNone}
use Rattle.vdcp_text.specs.Text.{line}
use Rattle.vdcp_text.specs.declared.failure.Failure.TheVariants as failures
use Rattle.vdcp_value.specs.declared.faults.RowFault.TheVariants as rows
use Rattle.vdcp_frame.specs.Message.{spelling}
use Rattle.vdcp_words.specs.Commands.{command_message}
use Rattle.vdcp_words.specs.declared.command.Command.TheVariants.{Open, Close, Select, PlayCue, CueData, Play, Stop, Status, ActiveId, IdRequest, IdSize}

-- ---- fault lines

abbrev file_name : Bor (List ℕ)
file_name = record { ref_ptr = (0, 0); now = codes "FILE" }

no_command_line : failure_line failures.Word ≡ codes "vdcp: word\n"
no_command_line = refl

not_opened_line : failure_line (failures.Open file_name) ≡ codes "vdcp: FILE: cannot open\n"
unfolding chars encode_utf8
not_opened_line = refl

abbrev escape_name : Bor (List ℕ)
escape_name = record { ref_ptr = (0, 0); now = 0x61 ∷ 0x1B ∷ codes "[2J.csv" }

escape_line : failure_line (failures.Open escape_name) ≡ codes "vdcp: a\\x1b[2J.csv: cannot open\n"
unfolding chars encode_utf8 encode_with
escape_line = refl

refused_row_line : failure_line (failures.Row file_name 2 rows.Twice) ≡ codes "vdcp: FILE: row 2: twice\n"
unfolding chars encode_utf8 digits
refused_row_line = refl

not_written_line : failure_line (failures.Write file_name) ≡ codes "vdcp: FILE: write\n"
unfolding chars encode_utf8
not_written_line = refl

no_address_line : failure_line failures.Address ≡ codes "vdcp: address\n"
no_address_line = refl

not_connected_line : failure_line failures.Connect ≡ codes "vdcp: cannot connect\n"
not_connected_line = refl

not_empty_line : failure_line failures.NotEmpty ≡ codes "vdcp: port not empty\n"
not_empty_line = refl

not_bound_line : failure_line failures.Bind ≡ codes "vdcp: cannot bind\n"
not_bound_line = refl

failed_line_line : failure_line failures.LineFailed ≡ codes "vdcp: line failed\n"
failed_line_line = refl

closed_line_line : failure_line failures.LineClosed ≡ codes "vdcp: line closed\n"
closed_line_line = refl

spent_line : failure_line failures.Spent ≡ codes "vdcp: spent\n"
spent_line = refl

-- ---- words of commands

upper_case_bytes : Names (codes "open" ∷ codes "0A" ∷ codes "fF" ∷ []) (Open 10 255)
unfolding decode_pairs
upper_case_bytes = (codes "0A", codes "fF", refl, refl, refl)

play_line : line (encode_lower (spelling (command_message 0 Play))) ≡ codes "02021001ef\n"
unfolding encode_with
play_line = refl

abbrev letter : List (List ℕ) → ℕ
letter [] = 0
letter ([] ∷ words) = 0
letter ((first ∷ letters) ∷ words) = first

play_has_no_argument : NamesNone (codes "play" ∷ codes "1" ∷ [])
play_has_no_argument (Open port lock) (p, l, _, _, e) = cc e
play_has_no_argument (Close port) (p, _, e) = cc e
play_has_no_argument (Select port) (p, _, e) = cc e
play_has_no_argument (PlayCue id) (i, _, e) = cc e
play_has_no_argument (CueData id x y) (i, s, d, _, _, _, e) = cc e
play_has_no_argument Play e = cc e
play_has_no_argument Stop e = cc e
play_has_no_argument (Status bitmap) (p, _, e) = cc e
play_has_no_argument ActiveId e = cc e
play_has_no_argument (IdRequest id) (i, _, e) = cc e
play_has_no_argument (IdSize id) (i, _, e) = let differ : ◌≡◌ {A = ℕ} 112 115 = ap letter e in omega (arith, differ)
