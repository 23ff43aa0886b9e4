-- A torn last row gets its line feed.
use Rattle.std.proofs.Common.{ℕ, ◌≡◌, ◌<◌, ◌+◌, false, List, [], ◌∷◌, ◌++◌, append_assoc, arith, length, nat_eq, take, true≢false, refl, sym, ap, ◌∙◌}
use Rattle.std.proofs.lemmas.List.{append-nil, take_more}
use Rattle.std.specs.Io.KnownBytes.{Consumes, IsAtEnd, Keeps}
use Rattle.std.specs.Prelude.{None, Option, Some, if◌then◌else◌, option_map, slice_index_or, slice_set}
use Rattle.vdcp_journal_file.specs.Torn.{feed_after, held_with, may_air, torn_after}

pub torn_on : (begun xs ys : List ℕ) → torn_after begun (xs ++ ys) ≡ torn_after (torn_after begun xs) ys
torn_on begun [] ys = refl
torn_on begun (byte ∷ xs) ys = torn_on (held_with begun byte) xs ys

-- with the byte at one place more
pub torn_next : (begun bytes : List ℕ) (k byte : ℕ) → k < length bytes
    → torn_after begun (take (k + 1) bytes) ≡ held_with (torn_after begun (take k bytes)) (slice_index_or bytes k byte)
torn_next begun bytes k byte within =
    ap (λ (l : List ℕ). torn_after begun l) (take_more bytes k byte within)
    ∙ torn_on begun (take k bytes) (slice_index_or bytes k byte ∷ [])

feed_on : (begun xs ys : List ℕ) → feed_after begun (xs ++ ys) ≡ feed_after (torn_after begun xs) ys
feed_on begun xs ys = ap (λ (l : List ℕ). if may_air l then 10 ∷ [] else []) (torn_on begun xs ys)

-- what is left, with the line feed that is lacking
abbrev pub with_feed : List ℕ → Option (List ℕ) → Option (List ℕ)
with_feed begun left = option_map (λ text. text ++ feed_after begun text) left

-- a piece was read
pub reads_on : (old new : Option (List ℕ)) (begun begun' piece : List ℕ) → begun' ≡ torn_after begun piece
    → Consumes old new piece → Consumes (with_feed begun old) (with_feed begun' new) piece
reads_on None new begun begun' piece is came = tt
reads_on (Some xs) None begun begun' piece is came = absurd came
reads_on (Some xs) (Some ys) begun begun' piece is came =
    ap (λ (l : List ℕ). l ++ feed_after begun l) came
    ∙ append_assoc piece ys (feed_after begun (piece ++ ys))
    ∙ ap (λ (l : List ℕ). piece ++ (ys ++ l))
    (feed_on begun piece ys ∙ ap (λ (l : List ℕ). feed_after l ys) (sym is))

-- the reader has come to its end, and the line feed is given, if it is lacking
pub feeds : (old new : Option (List ℕ)) (begun feed : List ℕ) → feed ≡ feed_after begun [] → Consumes old new [] → IsAtEnd new
    → Consumes (with_feed begun old) (option_map (λ text. []) new) feed
feeds None new begun feed is came end = tt
feeds (Some xs) None begun feed is came end = absurd came
feeds (Some xs) (Some ys) begun feed is came end =
    ap (λ (l : List ℕ). l ++ feed_after begun l) (came ∙ end) ∙ sym is ∙ sym (append-nil feed)

pub stays : (old new : Option (List ℕ)) (begun : List ℕ) → Keeps old new → Keeps (with_feed begun old) (with_feed begun new)
stays None new begun same = tt
stays (Some xs) None begun same = absurd same
stays (Some xs) (Some ys) begun same = ap (λ (l : List ℕ). l ++ feed_after begun l) same

pub has_room : (old new : List ℕ) → length new ≡ length old → nat_eq (length old) 0 ≡ false → 0 < length new
has_room [] new same some = absurd (true≢false some)
has_room (byte ∷ old) new same some = omega (arith, same)

-- it is all that is given of a buffer that it was put into
pub fed : (buffer : List ℕ) → 0 < length buffer → take 1 (slice_set buffer 0 10) ≡ 10 ∷ []
fed [] room = absurd (omega (arith, room))
fed (byte ∷ buffer) room = refl
