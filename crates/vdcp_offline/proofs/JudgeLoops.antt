-- What a line says, and events that a list hasn't got.
use Rattle.hex.specs.Hex.{decode_of}
use Rattle.std.proofs.Common.{◌≡◌, ℕ, ◌≤◌, zero, suc, List, [], ◌∷◌, ◌++◌, length, refl, sym, ap, subst, ◌∙◌, arith}
use Rattle.std.specs.Prelude.{Ok, Option, None, slice_get}
use Rattle.vdcp_offline.specs.Rows.{Says, blank, row, row_text, said_by}
use Rattle.vdcp_text.specs.Text.{way_text}
use Rattle.vdcp_auto.specs.declared.burst.Way.{Way}
use Rattle.vdcp_auto.specs.declared.capture.Captured.{Captured}
use Rattle.vdcp_value.specs.declared.part.Item.{Item}

-- ---- one line

empty : (xs : List ℕ) → length xs ≡ 0 → xs ≡ []
empty [] e = refl
empty (x ∷ xs) e = absurd (omega (arith, e))

pub says_nothing : (unit : ℕ) (text : List ℕ) (said : List Captured) → length text ≡ 0 → said ≡ [] → Says unit text said
says_nothing unit text said none e = subst (Says unit text) (sym e) (blank (empty text none))

pub says_row : (unit : ℕ) (text time digits burst : List ℕ) (way : Way) (said : List Captured)
    → text ≡ row_text time way digits → decode_of digits ≡ Ok burst → said ≡ said_by unit way burst → Says unit text said
says_row unit text time digits burst way said e digit says =
    subst (Says unit text) (sym says) (row time way digits burst e digit)

pub is_row : (text time rest name digits : List ℕ) (way : Way)
    → text ≡ time ++ 0x2C ∷ rest → rest ≡ name ++ 0x2C ∷ digits → name ≡ way_text way → text ≡ row_text time way digits
is_row text time rest name digits way first second named =
    first ∙ ap (λ r. time ++ 0x2C ∷ r) (second ∙ ap (λ n. n ++ 0x2C ∷ digits) named)

-- ---- events

pub none_there : (items : List Item) (k : ℕ) → length items ≤ k → ◌≡◌ {A = Option Item} None (slice_get items k)
none_there [] k e = refl
none_there (x ∷ items) zero e = absurd (omega (arith, e))
none_there (x ∷ items) (suc k) e = none_there items k (omega (arith, e))
