-- What the struct of a judge stands for.
use Rattle.std.specs.Prelude.{ℕ, ◌≡◌, ◌<◌, ◌+◌, ◌^◌, List, [], ◌∷◌, ◌++◌, length}
use Rattle.vdcp_value.specs.declared.part.Item.{Item}
use Rattle.vdcp_auto.specs.declared.exchange.Exchange.{Exchange}
use Rattle.vdcp_auto.specs.Judging.{Knows}
use Rattle.vdcp_auto.specs.Notes.{view_of}
use Rattle.vdcp_auto.specs.declared.judge.LastCue.{LastCue}
use Rattle.vdcp_auto.specs.declared.judge.LastCue.TheVariants.{Void, Stands, Done}
use Rattle.vdcp_auto.specs.declared.notes.Notes.{Notes}
use Rattle.vdcp_c.specs.Commands.{flag_code}
use Rattle.vdcp_c.specs.Controllers.{mode_code}
use Rattle.vdcp_c.specs.declared.judging.vdcp_judging.{vdcp_judging}

abbrev pub cue_code : LastCue → ℕ
cue_code Void = 0
cue_code Stands = 1
cue_code Done = 2

pub record IsNotes (j : vdcp_judging) (n : Notes) : Type 0 where
  pub mode : j.mode ≡ mode_code n.mode
  pub settled : j.settled ≡ n.settled
  pub open_play : j.has_open_play ≡ flag_code n.has_open_play
  pub airing : j.may_have_aired ≡ flag_code n.may_have_aired
  pub stopped : j.stopped ≡ flag_code n.stopped
  pub closed : j.closed ≡ flag_code n.closed
  pub granted : j.granted ≡ flag_code n.granted
  pub last_cue : j.last_cue ≡ cue_code n.last_cue

-- a judge that knows this was given these exchanges of an automation that plays the list
abbrev pub KnowsOf : List Item → List Exchange → Notes → Type 0
KnowsOf list log n = Knows (λ (l : List Item). l) log (view_of list n)

-- whatever exchanges it was given, it was given this one more
pub record IsAdded (list : List Item) (n : Notes) (e : Exchange) (m : Notes) : Type 0 where
  pub mode : m.mode ≡ n.mode
  pub knows : (log : List Exchange) → length log + 1 < 2 ^ 64 → KnowsOf list log n → KnowsOf list (log ++ e ∷ []) m
