-- What happens in a run, one step after another: on the wire, with what is kept, and what is looked at.
use Rattle.std.specs.Option.{option_to_list}
use Rattle.std.specs.Prelude.{ℕ, ◌≡◌, Bool, true, false, List, [], ◌∷◌, ◌++◌, map, Option, None, Some}
use Rattle.vdcp_frame.specs.Message.{spelling}
use Rattle.vdcp_words.specs.Commands.{command_message}
use Rattle.vdcp_words.specs.declared.command.Command.{Command}
use Rattle.vdcp_auto.specs.Plan.{Plan}
use Rattle.vdcp_auto.specs.State.{State}
use Rattle.vdcp_auto.specs.Turn.{given, ticked}
use Rattle.vdcp_auto.specs.declared.exchange.Exchange.{Exchange}
use Rattle.vdcp_auto.specs.declared.exchange.Heard.{Heard}
use Rattle.vdcp_wire.specs.Wires.{Arrival}
use Rattle.vdcp_wire.specs.Acts.{Act, sends, brings, drops}
use Rattle.vdcp_drive.specs.Auto.{Auto, Event, arrives, calls, ended, gives, heeds, listens}
use Rattle.vdcp_drive.specs.Ears.{Fold, inputs}
use Rattle.vdcp_drive.specs.declared.hooks.Kept.{Kept}
use Rattle.vdcp_drive.specs.declared.hooks.Kept.TheVariants as row
use Rattle.vdcp_drive.specs.declared.hooks.Next.{Next}
use Rattle.vdcp_drive.specs.declared.hooks.Next.TheVariants as next

-- one after another
abbrev pub Chain : {A W : Type 0} → (A → W → W → Type 0) → List A → W → W → Type 0
Chain does [] old new = new ≡ old
Chain {A} {W} does (one ∷ more) old new = (next : W) × does one old next × Chain does more next new

pub data Step : Type 0 where
  -- the wire does this
  acts : Act → Step
  -- the hooks are asked what comes next to a controller in this state, and answer this
  asks : State → Next → Step
  -- this is kept: a command or a call is made safe, or what ended an exchange is noted
  keeps : Kept → Step
  -- this can't be kept
  misses : Kept → Step

-- what a driver runs on: its wire, and the journal of its hooks
pub record World (W J : Type 0) : Type 0 where
  pub wire : W
  pub keep : J

-- what each of these does in a step
pub record Rules (W J : Type 0) : Type 1 where
  pub does : Act → W → W → Type 0
  pub asks : State → Next → J → J → Type 0
  pub adds : Kept → J → J → Type 0
  pub loses : Kept → J → J → Type 0

abbrev pub Does : {W J : Type 0} → Rules W J → Step → World W J → World W J → Type 0
Does rules (acts a) old new = rules.does a old.wire new.wire × (new ≡ record old { wire = new.wire })
Does rules (asks s n) old new = rules.asks s n old.keep new.keep × (new ≡ record old { keep = new.keep })
Does rules (keeps r) old new = rules.adds r old.keep new.keep × (new ≡ record old { keep = new.keep })
Does rules (misses r) old new = rules.loses r old.keep new.keep × (new ≡ record old { keep = new.keep })

abbrev pub Happens : {W J : Type 0} → Rules W J → List Step → World W J → World W J → Type 0
Happens rules steps old new = Chain (Does rules) steps old new

-- the bytes of a command to a unit
abbrev pub command_bytes : ℕ → Command → List ℕ
command_bytes unit command = spelling (command_message unit command)

-- how bytes go out
abbrev pub dropping : Bool → List Act
dropping true = drops ∷ []
dropping false = []

abbrev pub sending : Bool → ℕ → Option Command → List Act
sending first unit None = []
sending first unit (Some c) = dropping first ++ sends (command_bytes unit c) ∷ []

-- what is kept of a command that is given, and of exchanges that ended
abbrev pub given_notes : Option Command → List Kept
given_notes gives = map row.Sent (option_to_list gives)

abbrev pub end_of : Option Heard → Kept
end_of None = row.Silence
end_of (Some h) = row.Heard h

abbrev pub ended_notes : List Exchange → List Kept
ended_notes log = map (λ e. end_of e.heard) log

-- the next command: it is kept before it goes out
abbrev pub opening : {E : Type 0} → Fold E → Plan → ℕ → Auto E → List Step
opening fold plan unit a = asks a.state next.GoOn ∷ (map keeps (given_notes (given plan a.state))
    ++ map acts (sending fold.drops unit (given plan a.state)))

-- one round: the next command, a listen, and the ends of the exchanges that it ended
abbrev pub round : {E : Type 0} → Fold E → Plan → ℕ → Arrival → Auto E → List Step
round fold plan unit what a = opening fold plan unit a ++ acts (brings what)
    ∷ map keeps (ended_notes (ended plan (inputs fold unit what a.ear) (ticked a.state)))

-- each time the hooks are asked first; a call is kept before it is given
abbrev pub steps_of : {E : Type 0} → Fold E → Plan → ℕ → Auto E → List Event → List Step
steps_of fold plan unit a [] = []
steps_of fold plan unit a (arrives what ∷ later) =
    round fold plan unit what a ++ steps_of fold plan unit (listens fold plan unit what (gives a)) later
steps_of fold plan unit a (calls c ∷ later) =
    asks a.state (next.Call c) ∷ keeps (row.Called c) ∷ steps_of fold plan unit (heeds c a) later
