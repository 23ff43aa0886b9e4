-- Each command is kept before its first byte goes out, at each moment of a run.
use Rattle.std.specs.Prelude.{ℕ, ◌≡◌, List, [], ◌∷◌, ◌++◌, Option, None, Some}
use Rattle.vdcp_words.specs.declared.command.Command.{Command}
use Rattle.vdcp_wire.specs.Acts.{sends, brings, drops, fails}
use Rattle.vdcp_drive.specs.Steps.{Step, acts, asks, keeps, misses, command_bytes}
use Rattle.vdcp_drive.specs.declared.hooks.Kept.TheVariants as row

-- the bytes are a beginning of this command
abbrev pub IsFrontOf : ℕ → Option Command → List ℕ → Type 0
IsFrontOf unit None bytes = ⊥
IsFrontOf unit (Some c) bytes = (rest : List ℕ) × (command_bytes unit c ≡ bytes ++ rest)

-- what goes out is each time a beginning of the command whose row was kept last, and each such row serves once
abbrev pub AreSafe : ℕ → Option Command → List Step → Type 0
AreSafe unit kept [] = Unit {0}
AreSafe unit kept (keeps (row.Sent c) ∷ later) = AreSafe unit (Some c) later
AreSafe unit kept (keeps (row.Heard h) ∷ later) = AreSafe unit kept later
AreSafe unit kept (keeps row.Silence ∷ later) = AreSafe unit kept later
AreSafe unit kept (keeps (row.Called c) ∷ later) = AreSafe unit kept later
AreSafe unit kept (asks s n ∷ later) = AreSafe unit kept later
AreSafe unit kept (misses c ∷ later) = AreSafe unit kept later
AreSafe unit kept (acts (sends bytes) ∷ later) = IsFrontOf unit kept bytes × AreSafe unit None later
AreSafe unit kept (acts (brings what) ∷ later) = AreSafe unit kept later
AreSafe unit kept (acts drops ∷ later) = AreSafe unit kept later
AreSafe unit kept (acts fails ∷ later) = AreSafe unit kept later

-- a moment of it: some of its first steps were taken, and maybe a beginning of the bytes went out that go out next
pub data IsCut : List Step → List Step → Type 0 where
  here : {all : List Step} → IsCut [] all
  within : (front rest : List ℕ) (later : List Step)
      → IsCut (acts (sends front) ∷ []) (acts (sends (front ++ rest)) ∷ later)
  on : (s : Step) (some all : List Step) → IsCut some all → IsCut (s ∷ some) (s ∷ all)
