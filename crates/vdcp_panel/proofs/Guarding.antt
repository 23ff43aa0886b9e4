-- Fields that are added one by one.
use Rattle.std.proofs.Common.{◌≡◌, ◌∙◌, ◌++◌, List, [], ◌∷◌, ap}
use Rattle.std.proofs.lemmas.List.{append_assoc}

-- one more stands behind those that were added
pub then_one : {A : Type 0} (old now new more : List A) (x : A) → now ≡ old ++ more → new ≡ now ++ x ∷ []
    → new ≡ old ++ (more ++ x ∷ [])
then_one old now new more x before then_x = then_x ∙ ap (λ fields. fields ++ x ∷ []) before ∙ append_assoc old more (x ∷ [])
