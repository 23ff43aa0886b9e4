-- What judge does with a list and a capture.
use Rattle.std.specs.Borrow.{Bor}
use Rattle.std.specs.Io.KnownBytes.{Appends, Keeps}
use Rattle.std.specs.Prelude.{ℕ, ◌≡◌, ◌⊎◌, true, List, Option}
use Rattle.vdcp_offline.specs.Findings.{AreFindings, forbidden_in, has_message, judged_text}
use Rattle.vdcp_offline.specs.Rows.{IsCaptureOf}
use Rattle.vdcp_offline.specs.declared.judge.capture.Piece.{Piece}
use Rattle.vdcp_offline.specs.declared.judge.findings.Finding.{Finding}
use Rattle.vdcp_offline.specs.declared.judge.settings.JudgeSettings.{JudgeSettings}
use Rattle.vdcp_files.specs.Files.{File, IsWholeList, bytes_of}
use Rattle.vdcp_list.specs.Playlists.{IsListOf}
use Rattle.vdcp_text.specs.Failure.{failure_line, status_of}
use Rattle.vdcp_text.specs.declared.failure.Failure.{Failure}
use Rattle.vdcp_text.specs.declared.failure.Failure.TheVariants as failures
use Rattle.vdcp_text.specs.declared.failure.ScriptLineFault.{ScriptLineFault}
use Rattle.vdcp_value.specs.declared.part.Item.{Item}

-- the files are a playlist and a capture; a writer gained what is printed of the exchanges that this shows, and this
-- is how many of their commands were forbidden
pub record IsJudged (settings : JudgeSettings) (list : File) (capture old new : Option (List ℕ)) (forbidden : ℕ)
    : Type 0 where
  pub items : List Item
  pub is_playlist : IsListOf settings.rate (bytes_of list) items
  pub pieces : List Piece
  pub is_capture : IsCaptureOf settings.unit capture pieces
  pub some_message : has_message pieces ≡ true
  pub findings : List Finding
  pub are_findings : AreFindings settings.mode items pieces findings
  pub gained : Appends old new (judged_text settings.rate items findings)
  pub forbidden_are : forbidden ≡ forbidden_in findings

-- the files are a playlist and a capture
abbrev pub AreWhole : JudgeSettings → File → Option (List ℕ) → Type 0
AreWhole settings list capture =
    IsWholeList settings.rate list × (pieces : List Piece) × IsCaptureOf settings.unit capture pieces

-- the capture of this name is refused so: a line of it, it isn't text, or it has no message; or it can't be read
abbrev pub IsCaptureFailure : Bor (List ℕ) → Failure → Type 0
IsCaptureFailure name failure =
    ((number : ℕ) × (fault : ScriptLineFault) × (failure ≡ failures.ScriptLine name number fault))
    ⊎ ((failure ≡ failures.NotText name) ⊎ ((failure ≡ failures.Empty name)
    ⊎ ((failure ≡ failures.Read name) ⊎ (failure ≡ failures.Memory))))

-- a row or the capture is refused: one writer gained the line that says so, and the other nothing
pub record IsToldOnly (out out' err err' : Option (List ℕ)) : Type 0 where
  pub failure : Failure
  pub refused : status_of failure ≡ 1
  pub told : Appends err err' (failure_line failure)
  pub silent : Keeps out out'
