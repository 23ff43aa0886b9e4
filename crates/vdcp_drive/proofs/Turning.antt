-- What a server's turns come to.
use Rattle.std.proofs.Common.{◌≡◌, false, List, [], ◌∷◌, ◌++◌, refl, ap, ◌∙◌}
use Rattle.vdcp_wire.specs.Wires.{bytes, silence, close}
use Rattle.vdcp_drive.specs.Turns.{Turn, closes, listen, frame, are_closed, turned_of, until_closed}

closed_both : (xs ys : List Turn) → are_closed xs ≡ false → are_closed (xs ++ ys) ≡ are_closed ys
closed_both [] ys h = refl
closed_both (listen (bytes b) ∷ xs) ys h = closed_both xs ys h
closed_both (listen silence ∷ xs) ys h = closed_both xs ys h
closed_both (listen close ∷ xs) ys h = cc
closed_both (frame ∷ xs) ys h = closed_both xs ys h

last_both : (xs ys : List Turn) → are_closed xs ≡ false → until_closed ys ≡ ys → until_closed (xs ++ ys) ≡ xs ++ ys
last_both [] ys h last = last
last_both (listen (bytes b) ∷ xs) ys h last = ap (λ (l : List Turn). listen (bytes b) ∷ l) (last_both xs ys h last)
last_both (listen silence ∷ xs) ys h last = ap (λ (l : List Turn). listen silence ∷ l) (last_both xs ys h last)
last_both (listen close ∷ xs) ys h last = cc
last_both (frame ∷ xs) ys h last = ap (λ (l : List Turn). frame ∷ l) (last_both xs ys h last)

one_closed : (what : Turn) → are_closed (what ∷ []) ≡ closes (turned_of what)
one_closed (listen (bytes piece)) = refl
one_closed (listen silence) = refl
one_closed (listen close) = refl
one_closed frame = refl

one_closes : (what : Turn) → until_closed (what ∷ []) ≡ what ∷ []
one_closes (listen (bytes piece)) = refl
one_closes (listen silence) = refl
one_closes (listen close) = refl
one_closes frame = refl

pub closed_more : (turns : List Turn) (what : Turn) → are_closed turns ≡ false
    → are_closed (turns ++ what ∷ []) ≡ closes (turned_of what)
closed_more turns what h = closed_both turns (what ∷ []) h ∙ one_closed what

pub last_more : (turns : List Turn) (what : Turn) → are_closed turns ≡ false
    → until_closed (turns ++ what ∷ []) ≡ turns ++ what ∷ []
last_more turns what h = last_both turns (what ∷ []) h (one_closes what)
