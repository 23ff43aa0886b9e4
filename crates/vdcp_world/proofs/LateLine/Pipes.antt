-- Numbers that climb stay so where some are left out, one is copied in its place, and the first ones are taken.
use Rattle.std.proofs.Common.{ℕ, ◌≤◌, inl, inr, List, [], ◌∷◌, ◌++◌, arith, sym, subst}
use Rattle.vdcp_world.specs.LateLine.Pipe.{Climbs}
use Rattle.vdcp_world.proofs.LateLine.Thinning.{Thins}

-- between wider bounds
pub climbs_within : (low high lower higher : ℕ) (xs : List ℕ) → lower ≤ low → high ≤ higher → Climbs low high xs
    → Climbs lower higher xs
climbs_within low high lower higher [] l h c = tt
climbs_within low high lower higher (x ∷ xs) l h c =
    (omega (arith, l, c.0), omega (arith, h, c.1), climbs_within x high x higher xs (omega arith) h c.2)

-- what is left when some are left out
pub climbs_thins : (low high : ℕ) (xs ys : List ℕ) → Thins xs ys → Climbs low high xs → Climbs low high ys
climbs_thins low high [] ys t c = subst (Climbs low high) (sym t) tt
climbs_thins low high (x ∷ xs) ys (inl t) c =
    climbs_thins low high xs ys t (climbs_within x high low high xs c.0 (omega arith) c.2)
climbs_thins low high (x ∷ xs) ys (inr (rest, is, t)) c =
    subst (Climbs low high) (sym is) (c.0, c.1, climbs_thins x high xs rest t c.2)

-- the greatest joins at the end
pub climbs_pushed : (low high : ℕ) (xs : List ℕ) → low ≤ high → Climbs low high xs → Climbs low high (xs ++ high ∷ [])
climbs_pushed low high [] l c = (l, omega arith, tt)
climbs_pushed low high (x ∷ xs) l c = (c.0, c.1, climbs_pushed x high xs c.1 c.2)

-- after the first one, and at it
pub climbs_from : (low high x : ℕ) (xs : List ℕ) → Climbs low high (x ∷ xs) → Climbs x high (x ∷ xs)
climbs_from low high x xs c = (omega arith, c.1, c.2)
