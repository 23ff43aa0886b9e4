-- What reads and writes in a row do to a connection's bytes.
use Rattle.std.proofs.Common.{ℕ, ◌+◌, ◌-◌, List, [], ◌++◌, length, take, drop, sym, ap, subst, ◌∙◌}
use Rattle.std.proofs.KnownBytes.{Appends-kept, Appends-trans, Consumes-nil, Consumes-trans, Consumes-kept}
use Rattle.std.proofs.Math.Seq.{take-add}
use Rattle.std.proofs.lemmas.List.{take_rest, take-append-drop}
use Rattle.std.specs.Io.KnownBytes.{Appends, ReadConsumes, WriteAppends}
use Rattle.std.specs.Prelude.{Option, Result, Ok, Err}
use Rattle.vdcp_wire.specs.Acts.{OfFront}
use Rattle.vdcp_wire.specs.Streams.{Takes}

pub takes_none : (a : Option (List ℕ)) → Takes a a
takes_none a = ([], Consumes-nil a)

-- one more read
pub takes_more : {E : Type 0} (a b c : Option (List ℕ)) (read : Result ℕ E) (buffer : List ℕ)
    → Takes a b → ReadConsumes b c read buffer → Takes a c
takes_more a b c (Ok n) buffer before more = (_, Consumes-trans a b c before.0 (take n buffer) before.1 more.0)
takes_more a b c (Err e) buffer before more = (before.0, Consumes-kept a b c before.0 before.1 more)

-- one more write
pub appends_more : (a b c : Option (List ℕ)) (xs : List ℕ) (at n : ℕ) → Appends a b (take at xs)
    → Appends b c (take n (take (length xs - at) (drop at xs))) → Appends a c (take (at + n) xs)
appends_more a b c xs at n first next =
    subst (Appends a c) (ap (λ (l : List ℕ). take at xs ++ take n l) (take_rest xs at) ∙ sym (take-add at n xs))
    (Appends-trans a b c (take at xs) (take n (take (length xs - at) (drop at xs))) first next)

pub front_of : (a b : Option (List ℕ)) (xs : List ℕ) (n : ℕ) → Appends a b (take n xs) → OfFront xs (Appends a b)
front_of a b xs n h =
    record { front = take n xs; rest = drop n xs; parts = sym (take-append-drop n xs); is_so = h }

-- a write that is the last
pub wrote_front : {E : Type 0} (a b c : Option (List ℕ)) (xs : List ℕ) (at : ℕ) (wrote : Result ℕ E)
    → Appends a b (take at xs) → WriteAppends b c wrote (take (length xs - at) (drop at xs)) → OfFront xs (Appends a c)
wrote_front a b c xs at (Ok n) first next = front_of a c xs (at + n) (appends_more a b c xs at n first next)
wrote_front a b c xs at (Err e) first next = front_of a c xs at (Appends-kept a b c (take at xs) first next)
