-- The state bytes that there are.
use Rattle.std.proofs.Common.{ℕ, List, [], ◌∷◌, refl, lit<}
use Rattle.std.specs.List.{Contains}
use Rattle.std.specs.Prelude.{Option, None, Some}
use Rattle.vdcp_value.specs.declared.part.Item.{Item}
use Rattle.vdcp_port.specs.Port.{Cued, empty, cueing, done, state_byte_of}

abbrev six : List ℕ
six = 0x01 ∷ 0x02 ∷ 0x04 ∷ 0x06 ∷ 0x80 ∷ 0x84 ∷ []

-- the state bytes that there are
pub one_of_six : (cued : Cued) (playing : Option Item) → Contains six (state_byte_of cued playing)
one_of_six empty None = (0, lit< tt, refl)
one_of_six empty (Some clip) = (2, lit< tt, refl)
one_of_six (cueing item) None = (1, lit< tt, refl)
one_of_six (cueing item) (Some clip) = (3, lit< tt, refl)
one_of_six (done item) None = (4, lit< tt, refl)
one_of_six (done item) (Some clip) = (5, lit< tt, refl)
