-- A moment is its text.
use Rattle.std.proofs.Common.{◌≡◌, ℕ, true, List, [], ◌∷◌, length, suc, refl, ap}
use Rattle.std.proofs.Math.Bool.{and-eq-true_iff}
use Rattle.vdcp_journal.specs.Moments.{fits_place, has_form, is_moment}
use Rattle.vdcp_journal.specs.Times.{moment_text}
use Rattle.vdcp_journal.specs.declared.moment.Moment.{Moment}
use mathlib.Core.Bool.{Bool-set}
use mathlib.Core.HLevel.{is_prop→PathP}

-- moments of one text are one
pub same_moment : (a b : Moment) → moment_text a ≡ moment_text b → a ≡ b
same_moment a b e =
    λ i. record {
      text = e i;
      formed = is_prop→PathP (λ j. is_moment (e j) ≡ true) (λ j. Bool-set (is_moment (e j)) true) a.formed b.formed i;
    }

-- a text of a form is as long
pub form_size : (form text : List ℕ) → has_form form text ≡ true → length text ≡ length form
form_size [] [] e = refl
form_size [] (byte ∷ text) e = cc e
form_size (place ∷ form) [] e = cc e
form_size (place ∷ form) (byte ∷ text) e =
    ap suc (form_size form text ((and-eq-true_iff (fits_place place byte) (has_form form text)).0 e).1)
