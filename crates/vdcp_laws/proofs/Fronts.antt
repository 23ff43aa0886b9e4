-- The turns of a server until something had come: a front of its turns, with the frames that follow.
use Rattle.std.proofs.Common.{◌≡◌, List, [], ◌∷◌, ◌++◌, refl, ap, ap₂}
use Rattle.vdcp_wire.specs.Wires.{Arrival}
use Rattle.vdcp_drive.specs.Turns.{Turn, arrivals, frame, listen}

abbrev pub upto : List Turn → List Arrival → List Turn
upto [] came = []
upto (frame ∷ later) came = frame ∷ upto later came
upto (listen a ∷ later) [] = []
upto (listen a ∷ later) (b ∷ came) = listen a ∷ upto later came

pub tail_so : (x y : Arrival) (xs ys : List Arrival) → x ∷ xs ≡ y ∷ ys → xs ≡ ys
tail_so x y xs ys is = cc

pub head_so : (x y : Arrival) (xs ys : List Arrival) → x ∷ xs ≡ y ∷ ys → x ≡ y
head_so x y xs ys is = cc

-- this front brings what came
pub upto_came : (all : List Turn) (came rest : List Arrival) → arrivals all ≡ came ++ rest → arrivals (upto all came) ≡ came
upto_came [] [] rest is = refl
upto_came [] (b ∷ came) rest is = cc
upto_came (frame ∷ later) came rest is = upto_came later came rest is
upto_came (listen a ∷ later) [] rest is = refl
upto_came (listen a ∷ later) (b ∷ came) rest is =
    ap₂ (λ (x : Arrival) (l : List Arrival). x ∷ l) (head_so a b (arrivals later) (came ++ rest) is)
    (upto_came later came rest (tail_so a b (arrivals later) (came ++ rest) is))

-- a front that brings this is the same, but for frames
pub upto_front : (front later : List Turn) → upto (front ++ later) (arrivals front) ≡ front ++ upto later []
upto_front [] later = refl
upto_front (frame ∷ front) later = ap (λ (l : List Turn). frame ∷ l) (upto_front front later)
upto_front (listen a ∷ front) later = ap (λ (l : List Turn). listen a ∷ l) (upto_front front later)

-- and then this comes
pub next_of : (all : List Turn) (came : List Arrival) (a : Arrival) (rest : List Arrival) → arrivals all ≡ came ++ a ∷ rest
    → (later : List Turn) × (upto all (came ++ a ∷ []) ≡ upto all came ++ listen a ∷ upto later [])
next_of [] [] a rest is = cc
next_of [] (b ∷ came) a rest is = cc
next_of (frame ∷ later) came a rest is =
    let n = next_of later came a rest is in (n.0, ap (λ (l : List Turn). frame ∷ l) n.1)
next_of (listen b ∷ later) [] a rest is =
    (later, ap (λ (x : Arrival). listen x ∷ upto later []) (head_so b a (arrivals later) rest is))
next_of (listen b ∷ later) (c ∷ came) a rest is =
    let n = next_of later came a rest (tail_so b c (arrivals later) (came ++ a ∷ rest) is) in
    (n.0, ap (λ (l : List Turn). listen b ∷ l) n.1)
