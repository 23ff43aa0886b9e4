-- What is kept of a capture while it is read.
use Rattle.std.specs.Prelude.{◌≡◌, ℕ, List, [], ◌∷◌, ◌++◌, Option, None, Some, length, map, string_bytes}
use Rattle.vdcp_auto.specs.Captures.{exchanges_from, exchanges_in}
use Rattle.vdcp_auto.specs.Judging.{Knows}
use Rattle.vdcp_auto.specs.declared.capture.Captured.{Captured}
use Rattle.vdcp_auto.specs.declared.capture.Captured.TheVariants.{Sent, Came, Silence}
use Rattle.vdcp_auto.specs.Settled.{settled}
use Rattle.vdcp_auto.specs.declared.exchange.Exchange.{Exchange}
use Rattle.vdcp_auto.specs.declared.phase.Mode.{Mode}
use Rattle.vdcp_offline.specs.Findings.{AreRuled, captured_of, command_lines, events_text, exchanges_of, forbidden_in, forbidden_text, has_message, reported_in}
use Rattle.vdcp_offline.specs.declared.judge.capture.Piece.{Piece}
use Rattle.vdcp_offline.specs.declared.judge.findings.Finding.{Finding}
use Rattle.vdcp_offline.specs.declared.judge.findings.Found.{Found}
use Rattle.vdcp_offline.specs.declared.judge.settings.JudgeSettings.{JudgeSettings}
use Rattle.vdcp_offline.specs.declared.judge.told.Told.{Told}
use Rattle.vdcp_value.specs.declared.part.Item.{Item}
use Rattle.vdcp_words.specs.declared.command.Command.{Command}

-- what is told of these findings, of an automation that plays these items
pub record Tells {S : Type 0} (items_of : S → List Item) (settings : JudgeSettings) (items : List Item)
    (findings : List Finding) (told : Told S) : Type 0 where
  pub settings_are : told.settings ≡ settings
  pub events_are : items_of told.events.now ≡ items
  pub source_is : items_of told.judge.source.now ≡ items
  pub mode_is : told.judge.mode ≡ settings.mode
  pub knows : Knows (λ source. items_of source.now) (exchanges_of findings) told.judge
  pub ruled : AreRuled settings.mode items findings
  pub count : reported_in findings ≡ settled settings.mode (exchanges_of findings)
  pub exchanges : told.exchanges ≡ length findings
  pub forbidden : told.forbidden ≡ forbidden_in findings
  pub forbidden_text_is : string_bytes told.forbidden_text ≡ forbidden_text findings
  pub reported_text_is : string_bytes told.reported_text ≡ events_text settings.rate items 0 findings

-- the line of the last command, by a piece and the line before it
abbrev pub line_of_last : ℕ → ℕ → Captured → ℕ
line_of_last before number (Sent c) = number
line_of_last before number (Came h) = before
line_of_last before number Silence = before

abbrev pub line_after : ℕ → Piece → ℕ
line_after before piece = line_of_last before piece.line piece.captured

-- the line of the command that is awaited, if one is
abbrev pub awaited_lines : Option Command → ℕ → List ℕ
awaited_lines None number = []
awaited_lines (Some c) number = number ∷ []

-- the pieces so far show these findings, and the exchange of the command that is awaited goes on, which stands in the line of
-- this number
pub record ShowFindings (mode : Mode) (pieces : List Piece) (findings : List Finding) (awaited : Option Command)
    (number : ℕ) : Type 0 where
  pub log : (more : List Captured) → exchanges_in mode (captured_of pieces ++ more)
      ≡ exchanges_of findings ++ exchanges_from mode awaited more
  pub lines : command_lines pieces ≡ map (λ f. f.line) findings ++ awaited_lines awaited number

-- the findings, and one more if this exchange has ended, whose command stands in the line of this number
abbrev pub AreMore : List Finding → ℕ → Option Exchange → List Finding → Type 0
AreMore findings number None more = more ≡ findings
AreMore findings number (Some e) more =
    (f : Finding) × (f.line ≡ number) × (f.exchange ≡ e) × (more ≡ findings ++ f ∷ [])

-- the exchange of the command that is awaited, which has heard nothing
abbrev pub last_exchange : Option Command → Option Exchange
last_exchange None = None
last_exchange (Some c) = Some (record { command = c; heard = None })

-- what is found of the pieces so far
pub record HasFound {S : Type 0} (items_of : S → List Item) (settings : JudgeSettings) (items : List Item)
    (pieces : List Piece) (found : Found S) : Type 0 where
  pub findings : List Finding
  pub tells : Tells items_of settings items findings found.told
  pub shows : ShowFindings settings.mode pieces findings found.awaited found.line
  pub some_message : found.has_message ≡ has_message pieces
