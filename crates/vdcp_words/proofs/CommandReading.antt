-- What is computed of a message as a command is what the table of commands says.
use Rattle.std.proofs.Common.{◌≡◌, ◌≢◌, ◌∙◌, inl, inr, ℕ, ◌<◌, Bool, true, false, cond, List, [], ◌∷◌, ◌++◌, length, take, drop, refl, sym, ap, arith}
use Rattle.std.specs.Prelude.{All, Some, None}
use Rattle.std.proofs.lemmas.Bool.{cases_eq, ne_eqb, eq-eqb}
use Rattle.std.proofs.lemmas.List.{length-take, length-drop, take-append-drop, append_assoc, drop-drop}
use Rattle.std.proofs.lemmas.List.Elements.{All-head, All-tail, All-take, All-drop}
use Rattle.vdcp_value.specs.Bytes.{are_bytes, AreBytes}
use Rattle.vdcp_value.specs.Ids.{id_of}
use Rattle.vdcp_frame.specs.Message.{Content, ack, nak, framed}
use Rattle.vdcp_words.specs.declared.command.Command.{Command}
use Rattle.vdcp_words.specs.declared.command.Command.TheVariants.{Open, Close, Select, PlayCue, CueData, Play, Stop, Status, ActiveId, IdRequest, IdSize}
use Rattle.vdcp_words.specs.Messages.{rest_of, SameCode}
use Rattle.vdcp_words.specs.Commands.{command_message, ReadsCommand}
use Rattle.vdcp_words.specs.Computed.{no_data, one_byte, two_bytes, with_id, cue_data_of, immediate_of, preset_of, sense_request_of, command_of}
use Rattle.vdcp_words.specs.LawsBelow.{ValueLaws}
use Rattle.vdcp_words.proofs.CommandLemmas.{stop_length, play_length, close_length, select_length, play_cue_length, cue_data_length, open_length, status_length, active_id_length, id_size_length, id_request_length}

-- ---- no command has the code

no_immediate : (unit code : ℕ) (rest : List ℕ) → code ≢ 0x00 → code ≢ 0x01 → (c : Command) →
    SameCode (framed 1 unit code rest) (command_message 0 c) → ⊥
no_immediate unit code rest a b Stop h = a (sym h.1)
no_immediate unit code rest a b Play h = b (sym h.1)
no_immediate unit code rest a b c h = omega (arith, h.0)

no_preset : (unit code : ℕ) (rest : List ℕ) → code ≢ 0x21 → code ≢ 0x22 → code ≢ 0x24 → code ≢ 0x25 →
    (c : Command) → SameCode (framed 2 unit code rest) (command_message 0 c) → ⊥
no_preset unit code rest close select cue cue_data (Close port) h = close (sym h.1)
no_preset unit code rest close select cue cue_data (Select port) h = select (sym h.1)
no_preset unit code rest close select cue cue_data (PlayCue id) h = cue (sym h.1)
no_preset unit code rest close select cue cue_data (CueData id s d) h = cue_data (sym h.1)
no_preset unit code rest close select cue cue_data c h = omega (arith, h.0)

no_sense_request : (unit code : ℕ) (rest : List ℕ) → code ≢ 0x01 → code ≢ 0x05 → code ≢ 0x07 →
    code ≢ 0x14 → code ≢ 0x16 → (c : Command) → SameCode (framed 3 unit code rest) (command_message 0 c) →
    ⊥
no_sense_request unit code rest open_ status active size exists (Open port lock) h = open_ (sym h.1)
no_sense_request unit code rest open_ status active size exists (Status bitmap) h = status (sym h.1)
no_sense_request unit code rest open_ status active size exists ActiveId h = active (sym h.1)
no_sense_request unit code rest open_ status active size exists (IdSize id) h = size (sym h.1)
no_sense_request unit code rest open_ status active size exists (IdRequest id) h = exists (sym h.1)
no_sense_request unit code rest open_ status active size exists c h = omega (arith, h.0)

no_type : (kind unit code : ℕ) (rest : List ℕ) → kind ≢ 1 → kind ≢ 2 → kind ≢ 3 → (c : Command) →
    SameCode (framed kind unit code rest) (command_message 0 c) → ⊥
no_type kind unit code rest a b d Stop h = a (sym h.0)
no_type kind unit code rest a b d Play h = a (sym h.0)
no_type kind unit code rest a b d (Close port) h = b (sym h.0)
no_type kind unit code rest a b d (Select port) h = b (sym h.0)
no_type kind unit code rest a b d (PlayCue id) h = b (sym h.0)
no_type kind unit code rest a b d (CueData id s t) h = b (sym h.0)
no_type kind unit code rest a b d other h = d (sym h.0)

-- ---- data

-- bytes of a list of n
pub bytes_are : ValueLaws → (n : ℕ) (rest : List ℕ) → length rest ≡ n → All (λ b. b < 256) rest → AreBytes n rest
bytes_are v n rest size fits = (v.counted n rest).1 (size, fits)

pub not_eight : ValueLaws → (rest : List ℕ) → All (λ b. b < 256) rest → are_bytes 8 rest ≡ false → length rest ≢ 8
not_eight v rest fits e size = absurd (cc (bytes_are v 8 rest size fits))

play_cue_reads : ValueLaws → (unit : ℕ) (rest : List ℕ) → All (λ b. b < 256) rest →
    (test : Bool) → are_bytes 8 rest ≡ test →
    ReadsCommand (framed 2 unit 0x24 rest) (with_id PlayCue (cond test (Some (id_of rest)) None))
play_cue_reads v unit rest fits true e =
    record { writable = tt; says = ap (λ (r : List ℕ). framed 2 unit 0x24 r) (sym (v.of_bytes rest e)) }
play_cue_reads v unit rest fits false e = play_cue_length unit rest (not_eight v rest fits e)

id_size_reads : ValueLaws → (unit : ℕ) (rest : List ℕ) → All (λ b. b < 256) rest →
    (test : Bool) → are_bytes 8 rest ≡ test →
    ReadsCommand (framed 3 unit 0x14 rest) (with_id IdSize (cond test (Some (id_of rest)) None))
id_size_reads v unit rest fits true e =
    record { writable = tt; says = ap (λ (r : List ℕ). framed 3 unit 0x14 r) (sym (v.of_bytes rest e)) }
id_size_reads v unit rest fits false e = id_size_length unit rest (not_eight v rest fits e)

id_request_reads : ValueLaws → (unit : ℕ) (rest : List ℕ) → All (λ b. b < 256) rest →
    (test : Bool) → are_bytes 8 rest ≡ test →
    ReadsCommand (framed 3 unit 0x16 rest) (with_id IdRequest (cond test (Some (id_of rest)) None))
id_request_reads v unit rest fits true e =
    record { writable = tt; says = ap (λ (r : List ℕ). framed 3 unit 0x16 r) (sym (v.of_bytes rest e)) }
id_request_reads v unit rest fits false e = id_request_length unit rest (not_eight v rest fits e)

stop_reads : (unit : ℕ) (rest : List ℕ) → ReadsCommand (framed 1 unit 0x00 rest) (no_data Stop rest)
stop_reads unit [] = record { writable = tt; says = refl }
stop_reads unit (x ∷ xs) = stop_length unit (x ∷ xs) (λ e. absurd (omega (arith, e)))

play_reads : (unit : ℕ) (rest : List ℕ) → ReadsCommand (framed 1 unit 0x01 rest) (no_data Play rest)
play_reads unit [] = record { writable = tt; says = refl }
play_reads unit (x ∷ xs) = play_length unit (x ∷ xs) (λ e. absurd (omega (arith, e)))

active_id_reads : (unit : ℕ) (rest : List ℕ) → ReadsCommand (framed 3 unit 0x07 rest) (no_data ActiveId rest)
active_id_reads unit [] = record { writable = tt; says = refl }
active_id_reads unit (x ∷ xs) = active_id_length unit (x ∷ xs) (λ e. absurd (omega (arith, e)))

close_reads : (unit : ℕ) (rest : List ℕ) → All (λ b. b < 256) rest →
    ReadsCommand (framed 2 unit 0x21 rest) (one_byte Close rest)
close_reads unit [] fits = close_length unit [] (λ e. absurd (omega (arith, e)))
close_reads unit (x ∷ []) fits = record { writable = All-head (λ b. b < 256) x [] fits; says = refl }
close_reads unit (x ∷ y ∷ more) fits = close_length unit (x ∷ y ∷ more) (λ e. absurd (omega (arith, e)))

select_reads : (unit : ℕ) (rest : List ℕ) → All (λ b. b < 256) rest →
    ReadsCommand (framed 2 unit 0x22 rest) (one_byte Select rest)
select_reads unit [] fits = select_length unit [] (λ e. absurd (omega (arith, e)))
select_reads unit (x ∷ []) fits = record { writable = All-head (λ b. b < 256) x [] fits; says = refl }
select_reads unit (x ∷ y ∷ more) fits = select_length unit (x ∷ y ∷ more) (λ e. absurd (omega (arith, e)))

status_reads : (unit : ℕ) (rest : List ℕ) → All (λ b. b < 256) rest →
    ReadsCommand (framed 3 unit 0x05 rest) (one_byte Status rest)
status_reads unit [] fits = status_length unit [] (λ e. absurd (omega (arith, e)))
status_reads unit (x ∷ []) fits = record { writable = All-head (λ b. b < 256) x [] fits; says = refl }
status_reads unit (x ∷ y ∷ more) fits = status_length unit (x ∷ y ∷ more) (λ e. absurd (omega (arith, e)))

open_reads : (unit : ℕ) (rest : List ℕ) → All (λ b. b < 256) rest →
    ReadsCommand (framed 3 unit 0x01 rest) (two_bytes Open rest)
open_reads unit [] fits = open_length unit [] (λ e. absurd (omega (arith, e)))
open_reads unit (x ∷ []) fits = open_length unit (x ∷ []) (λ e. absurd (omega (arith, e)))
open_reads unit (x ∷ y ∷ []) fits =
    record {
      writable = (
        All-head (λ b. b < 256) x (y ∷ []) fits,
        All-head (λ b. b < 256) y []
            (All-tail (λ b. b < 256) x (y ∷ []) fits),
      );
      says = refl;
    }
open_reads unit (x ∷ y ∷ z ∷ more) fits = open_length unit (x ∷ y ∷ z ∷ more) (λ e. absurd (omega (arith, e)))

-- sixteen bytes are eight, four and four
parts : (rest : List ℕ) → rest ≡ take 8 rest ++ take 4 (drop 8 rest) ++ drop 12 rest
parts rest =
    let back : drop 4 (drop 8 rest) ≡ drop 12 rest = drop-drop 4 8 rest in
    sym (take-append-drop 8 rest)
    ∙ ap (λ (more : List ℕ). take 8 rest ++ more) (sym (take-append-drop 4 (drop 8 rest)))
    ∙ sym (append_assoc (take 8 rest) (take 4 (drop 8 rest)) (drop 4 (drop 8 rest)))
    ∙ ap (λ (more : List ℕ). take 8 rest ++ take 4 (drop 8 rest) ++ more) back

module _ (v : ValueLaws) (unit : ℕ) (rest : List ℕ) (fits : All (λ b. b < 256) rest) where
  cue_parts : length rest ≡ 16 → (test : Bool) → are_bytes 8 (take 8 rest) ≡ test →
      ReadsCommand (framed 2 unit 0x25 rest)
      (with_id (λ id. CueData id (take 4 (drop 8 rest)) (drop 12 rest))
      (cond test (Some (id_of (take 8 rest))) None))
  cue_parts size true e =
      record {
        writable = (
          bytes_are v 4 (take 4 (drop 8 rest)) (omega (arith, length-take 4 (drop 8 rest), length-drop 8 rest))
              (All-take (λ b. b < 256) 4 (drop 8 rest) (All-drop (λ b. b < 256) 8 rest fits)),
          bytes_are v 4 (drop 12 rest) (omega (arith, length-drop 12 rest)) (All-drop (λ b. b < 256) 12 rest fits),
        );
        says = ap (λ (r : List ℕ). framed 2 unit 0x25 r)
            (parts rest ∙ ap (λ (id : List ℕ). id ++ take 4 (drop 8 rest) ++ drop 12 rest)
            (sym (v.of_bytes (take 8 rest) e)));
      }
  cue_parts size false e =
      absurd (not_eight v (take 8 rest) (All-take (λ b. b < 256) 8 rest fits) e (omega (arith, length-take 8 rest)))

  cue_data_reads : ReadsCommand (framed 2 unit 0x25 rest) (cue_data_of rest)
  cue_data_reads =
      elim (cases_eq (length rest) 16) [
        | inl size ↦ rw (eq-eqb _ _ size) (cue_parts size (are_bytes 8 (take 8 rest)) refl)
        | inr other ↦ rw (ne_eqb _ _ other) (cue_data_length unit rest other)
      ]

  immediate_reads : (code : ℕ) → ReadsCommand (framed 1 unit code rest) (immediate_of code rest)
  immediate_reads code =
      elim (cases_eq code 0x00) [
        | inl is ↦ rw is (stop_reads unit rest)
        | inr no_stop ↦ elim (cases_eq code 0x01) [
          | inl is ↦ rw is (play_reads unit rest)
          | inr no_play ↦ rw (ne_eqb _ _ no_stop, ne_eqb _ _ no_play)
              (record { is_framed = tt; no_code = no_immediate unit code rest no_stop no_play })
        ]
      ]

  preset_reads : (code : ℕ) → ReadsCommand (framed 2 unit code rest) (preset_of code rest)
  preset_reads code =
      elim (cases_eq code 0x21) [
        | inl is ↦ rw is (close_reads unit rest fits)
        | inr no_close ↦ elim (cases_eq code 0x22) [
          | inl is ↦ rw is (select_reads unit rest fits)
          | inr no_select ↦ elim (cases_eq code 0x24) [
            | inl is ↦ rw is (play_cue_reads v unit rest fits (are_bytes 8 rest) refl)
            | inr no_cue ↦ elim (cases_eq code 0x25) [
              | inl is ↦ rw is cue_data_reads
              | inr no_data ↦ rw (ne_eqb _ _ no_close, ne_eqb _ _ no_select, ne_eqb _ _ no_cue, ne_eqb _ _ no_data)
                  (record { is_framed = tt; no_code = no_preset unit code rest no_close no_select no_cue no_data })
            ]
          ]
        ]
      ]

  sense_request_reads : (code : ℕ) → ReadsCommand (framed 3 unit code rest) (sense_request_of code rest)
  sense_request_reads code =
      elim (cases_eq code 0x01) [
        | inl is ↦ rw is (open_reads unit rest fits)
        | inr no_open ↦ elim (cases_eq code 0x05) [
          | inl is ↦ rw is (status_reads unit rest fits)
          | inr no_status ↦ elim (cases_eq code 0x07) [
            | inl is ↦ rw is (active_id_reads unit rest)
            | inr no_active ↦ elim (cases_eq code 0x14) [
              | inl is ↦ rw is (id_size_reads v unit rest fits (are_bytes 8 rest) refl)
              | inr no_size ↦ elim (cases_eq code 0x16) [
                | inl is ↦ rw is (id_request_reads v unit rest fits (are_bytes 8 rest) refl)
                | inr no_request ↦ rw (
                  ne_eqb _ _ no_open,
                  ne_eqb _ _ no_status,
                  ne_eqb _ _ no_active,
                  ne_eqb _ _ no_size,
                  ne_eqb _ _
                      no_request,
                )
                    (record {
                      is_framed = tt;
                      no_code =
                          no_sense_request unit code rest no_open no_status no_active no_size no_request;
                    })
              ]
            ]
          ]
        ]
      ]

  framed_reads : (kind code : ℕ) →
      ReadsCommand (framed kind unit code rest) (command_of (framed kind unit code rest))
  framed_reads kind code =
      elim (cases_eq kind 1) [
        | inl is ↦ rw is (immediate_reads code)
        | inr no_immediate ↦ elim (cases_eq kind 2) [
          | inl is ↦ rw is (preset_reads code)
          | inr no_preset ↦ elim (cases_eq kind 3) [
            | inl is ↦ rw is (sense_request_reads code)
            | inr no_sense ↦ rw (ne_eqb _ _ no_immediate, ne_eqb _ _ no_preset, ne_eqb _ _ no_sense)
                (record { is_framed = tt; no_code = no_type kind unit code rest no_immediate no_preset no_sense })
          ]
        ]
      ]

-- what is computed of a message whose data is of bytes is what the table says
pub command_computed : ValueLaws → (m : Content) → All (λ b. b < 256) (rest_of m) → ReadsCommand m (command_of m)
command_computed v ack fits = tt
command_computed v (nak byte) fits = tt
command_computed v (framed kind unit code rest) fits = framed_reads v unit rest fits kind code
