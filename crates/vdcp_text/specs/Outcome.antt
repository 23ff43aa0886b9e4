-- How a controller ended, as text.
use Rattle.std.specs.Prelude.{ℕ, List, ◌++◌, codes, decimal, Option, None, Some}
use Rattle.vdcp_auto.specs.declared.outcome.Outcome.{Outcome}
use Rattle.vdcp_auto.specs.declared.outcome.Outcome.TheVariants.{Done, Stopped, Lost, Denied, Missing, Refused, Foreign, Strange}

abbrev pub outcome_text : Option Outcome → List ℕ
outcome_text None = codes "open"
outcome_text (Some Done) = codes "done"
outcome_text (Some Stopped) = codes "stopped"
outcome_text (Some Lost) = codes "lost"
outcome_text (Some Denied) = codes "denied"
outcome_text (Some (Missing k)) = codes "missing " ++ decimal k
outcome_text (Some (Refused k)) = codes "refused " ++ decimal k
outcome_text (Some (Foreign k)) = codes "foreign " ++ decimal k
outcome_text (Some (Strange k)) = codes "strange " ++ decimal k
