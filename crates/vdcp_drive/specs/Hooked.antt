-- Hooks, if there are any.
use Rattle.std.specs.Prelude.{◌≡◌, Option, None, Some}
use Rattle.vdcp_drive.specs.declared.hooks.Kept.{Kept}

-- what keeps nothing stays nothing
abbrev pub MayKeep : {A J : Type 0} → (A → J → J → Type 0) → A → Option J → Option J → Type 0
MayKeep adds note None new = new ≡ None
MayKeep adds note (Some old) None = ⊥
MayKeep adds note (Some old) (Some new) = adds note old new

-- and fails in nothing
abbrev pub MayLose : {J : Type 0} → (Kept → J → J → Type 0) → Kept → Option J → Option J → Type 0
MayLose loses note None new = ⊥
MayLose loses note (Some old) None = ⊥
MayLose loses note (Some old) (Some new) = loses note old new
