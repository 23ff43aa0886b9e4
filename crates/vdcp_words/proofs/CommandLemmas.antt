-- The type and code of each command with another number of data bytes.
use Rattle.std.proofs.Common.{◌≢◌, ℕ, List, [], ◌∷◌, length, refl, lit<}
use Rattle.vdcp_value.specs.Ids.{id_of}
use Rattle.vdcp_value.specs.declared.clip_id.ClipId.{ClipId}
use Rattle.vdcp_frame.specs.Message.{framed}
use Rattle.vdcp_words.specs.declared.command.Command.TheVariants.{Open, Close, Select, PlayCue, CueData, Play, Stop, Status, ActiveId, IdRequest, IdSize}
use Rattle.vdcp_words.specs.Commands.{HasOtherLength}

-- some ID
abbrev any_id : ClipId
any_id = id_of (0 ∷ 0 ∷ 0 ∷ 0 ∷ 0 ∷ 0 ∷ 0 ∷ 0 ∷ [])

-- the type and code of a command with data of another length, one for each command
pub stop_length : (unit : ℕ) (rest : List ℕ) → length rest ≢ 0 → HasOtherLength (framed 1 unit 0x00 rest)
stop_length unit rest other = record { command = Stop; writable = tt; code = (refl, refl); other = other }

pub play_length : (unit : ℕ) (rest : List ℕ) → length rest ≢ 0 → HasOtherLength (framed 1 unit 0x01 rest)
play_length unit rest other = record { command = Play; writable = tt; code = (refl, refl); other = other }

pub close_length : (unit : ℕ) (rest : List ℕ) → length rest ≢ 1 → HasOtherLength (framed 2 unit 0x21 rest)
close_length unit rest other = record { command = Close 0; writable = lit< tt; code = (refl, refl); other = other }

pub select_length : (unit : ℕ) (rest : List ℕ) → length rest ≢ 1 → HasOtherLength (framed 2 unit 0x22 rest)
select_length unit rest other = record { command = Select 0; writable = lit< tt; code = (refl, refl); other = other }

pub play_cue_length : (unit : ℕ) (rest : List ℕ) → length rest ≢ 8 → HasOtherLength (framed 2 unit 0x24 rest)
play_cue_length unit rest other =
    record { command = PlayCue any_id; writable = tt; code = (refl, refl); other = other }

pub cue_data_length : (unit : ℕ) (rest : List ℕ) → length rest ≢ 16 → HasOtherLength (framed 2 unit 0x25 rest)
cue_data_length unit rest other =
    record {
      command = CueData any_id (0 ∷ 0 ∷ 0 ∷ 0 ∷ []) (0 ∷ 0 ∷ 0 ∷ 0 ∷ []);
      writable = (refl, refl);
      code = (refl, refl);
      other = other;
    }

pub open_length : (unit : ℕ) (rest : List ℕ) → length rest ≢ 2 → HasOtherLength (framed 3 unit 0x01 rest)
open_length unit rest other =
    record { command = Open 0 0; writable = (lit< tt, lit< tt); code = (refl, refl); other = other }

pub status_length : (unit : ℕ) (rest : List ℕ) → length rest ≢ 1 → HasOtherLength (framed 3 unit 0x05 rest)
status_length unit rest other = record { command = Status 0; writable = lit< tt; code = (refl, refl); other = other }

pub active_id_length : (unit : ℕ) (rest : List ℕ) → length rest ≢ 0 → HasOtherLength (framed 3 unit 0x07 rest)
active_id_length unit rest other = record { command = ActiveId; writable = tt; code = (refl, refl); other = other }

pub id_size_length : (unit : ℕ) (rest : List ℕ) → length rest ≢ 8 → HasOtherLength (framed 3 unit 0x14 rest)
id_size_length unit rest other = record { command = IdSize any_id; writable = tt; code = (refl, refl); other = other }

pub id_request_length : (unit : ℕ) (rest : List ℕ) → length rest ≢ 8 →
    HasOtherLength (framed 3 unit 0x16 rest)
id_request_length unit rest other =
    record { command = IdRequest any_id; writable = tt; code = (refl, refl); other = other }

pub ruleset other_lengths = (
  stop_length,
  play_length,
  close_length,
  select_length,
  play_cue_length,
  cue_data_length,
  open_length,
  status_length,
  active_id_length,
  id_size_length,
  id_request_length,
)
