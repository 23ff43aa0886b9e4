-- What is found of the exchanges that a capture shows, and the text of it.
use Rattle.std.specs.List.{flat_map, list_any}
use Rattle.std.specs.Prelude.{ℕ, suc, ◌≡◌, Bool, true, false, not, List, [], ◌∷◌, ◌++◌, codes, count_by, decimal, length, map, Option, None, Some, if◌then◌else◌, slice_get}
use Rattle.vdcp_auto.specs.Settled.{settled}
use Rattle.vdcp_auto.specs.declared.exchange.Exchange.{Exchange}
use Rattle.vdcp_auto.specs.declared.phase.Mode.{Mode}
use Rattle.vdcp_offline.specs.declared.judge.capture.Piece.{Piece}
use Rattle.vdcp_offline.specs.declared.judge.findings.Finding.{Finding}
use Rattle.vdcp_auto.specs.Captures.{exchanges_in}
use Rattle.vdcp_auto.specs.Rulings.{IsRuling}
use Rattle.vdcp_auto.specs.declared.capture.Captured.{Captured}
use Rattle.vdcp_auto.specs.declared.capture.Captured.TheVariants.{Sent, Came, Silence}
use Rattle.vdcp_text.specs.Items.{item_text}
use Rattle.vdcp_text.specs.Text.{line}
use Rattle.vdcp_value.specs.declared.part.Item.{Item}
use Rattle.vdcp_value.specs.declared.rate.Rate.{Rate}
use Rattle.vdcp_words.specs.Texts.{command_text}

-- ---- what is found

-- a message, and no silence
abbrev pub is_message : Captured → Bool
is_message (Sent c) = true
is_message (Came h) = true
is_message Silence = false

abbrev pub has_message : List Piece → Bool
has_message pieces = list_any (λ p. is_message p.captured) pieces

abbrev pub captured_of : List Piece → List Captured
captured_of pieces = map (λ p. p.captured) pieces

-- the line, if it is a command's
abbrev pub line_of_command : Captured → ℕ → List ℕ
line_of_command (Sent c) number = number ∷ []
line_of_command (Came h) number = []
line_of_command Silence number = []

-- the lines of the commands, in order
abbrev pub command_lines : List Piece → List ℕ
command_lines pieces = flat_map (λ p. line_of_command p.captured p.line) pieces

abbrev pub exchanges_of : List Finding → List Exchange
exchanges_of findings = map (λ f. f.exchange) findings

-- each finding has the ruling of the rule book on its exchange, which those before it precede
pub data AreRuled (mode : Mode) (items : List Item) : List Finding → Type 0 where
  no_finding : AreRuled mode items []
  one_more_finding : (findings : List Finding) (f : Finding) → AreRuled mode items findings
      → IsRuling mode items (exchanges_of findings) f.exchange f.ruling
      → AreRuled mode items (findings ++ f ∷ [])

abbrev pub is_forbidden : Finding → Bool
is_forbidden f = not f.ruling.is_allowed

abbrev pub forbidden_in : List Finding → ℕ
forbidden_in findings = count_by is_forbidden findings

abbrev pub reported_in : List Finding → ℕ
reported_in findings = count_by (λ f. f.ruling.settles) findings

-- each exchange that the pieces show is found, with the line of its command and the ruling of the rule book; and as many
-- events are reported as the exchanges settle
pub record AreFindings (mode : Mode) (items : List Item) (pieces : List Piece) (findings : List Finding) : Type 0 where
  pub lines : map (λ f. f.line) findings ≡ command_lines pieces
  pub log : exchanges_of findings ≡ exchanges_in mode (captured_of pieces)
  pub ruled : AreRuled mode items findings
  pub count : reported_in findings ≡ settled mode (exchanges_of findings)

-- ---- its text

abbrev pub forbidden_line : Finding → List ℕ
forbidden_line f =
    line (codes "line " ++ decimal f.line ++ codes ": forbidden " ++ command_text f.exchange.command)

-- the line of an exchange whose command was forbidden
abbrev pub forbidden_text : List Finding → List ℕ
forbidden_text findings = flat_map (λ f. if is_forbidden f then forbidden_line f else []) findings

-- nothing if the list has no such event
abbrev pub event_item_text : Rate → Option Item → List ℕ
event_item_text rate None = []
event_item_text rate (Some item) = codes " " ++ item_text rate item

abbrev pub event_line : Rate → List Item → ℕ → Finding → List ℕ
event_line rate items k f =
    line (codes "line " ++ decimal f.line ++ codes ": reported " ++ decimal k
    ++ event_item_text rate (slice_get items k))

-- the lines of the exchanges that settle an event, the first being event k
abbrev pub events_text : Rate → List Item → ℕ → List Finding → List ℕ
events_text rate items k [] = []
events_text rate items k (f ∷ findings) =
    if f.ruling.settles
    then event_line rate items k f ++ events_text rate items (suc k) findings
    else events_text rate items k findings

abbrev pub counts_text : List Finding → List ℕ
counts_text findings =
    line (codes "exchanges " ++ decimal (length findings))
    ++ line (codes "forbidden " ++ decimal (forbidden_in findings))
    ++ line (codes "reported " ++ decimal (reported_in findings))

-- what is printed
abbrev pub judged_text : Rate → List Item → List Finding → List ℕ
judged_text rate items findings =
    forbidden_text findings ++ events_text rate items 0 findings ++ counts_text findings
