-- What is spelt is bytes, and a spelling is read as its message.
use Rattle.std.proofs.Common.{◌≡◌, ℕ, ◌+◌, ◌*◌, ◌<◌, ◌≤◌, List, [], ◌∷◌, ◌++◌, length, sym, ap, subst, arith, lit<, length-append, append-nil, refl}
use Rattle.std.proofs.lemmas.List.Elements.{All-append, All-cons, All-nil}
use Rattle.vdcp_frame.specs.Message.{Content, ack, nak, framed, AreOctets, Fits, Spells, spelling}
use Rattle.vdcp_frame.specs.Reading.{SpellsAll, End, clean, Reads}
use Rattle.vdcp_frame.specs.Burst.{messages_of, end_of}
use Rattle.vdcp_frame.proofs.BurstLemmas.{reads_computed}
use Rattle.vdcp_frame.proofs.ReadingLemmas.{Spells-spelling, one_reading, read_again, read_alone}

abbrev IsOctet : ℕ → Type 0
IsOctet byte = byte < 256

pub spelt_octets : (m : Content) (bytes : List ℕ) → Spells m bytes → AreOctets bytes
spelt_octets ack bytes h = subst AreOctets (sym h) (All-cons IsOctet 4 [] (lit< tt) (All-nil IsOctet))
spelt_octets (nak byte) bytes h =
    subst AreOctets (sym h.1)
    (All-cons IsOctet 5 (byte ∷ []) (lit< tt) (All-cons IsOctet byte [] h.0 (All-nil IsOctet)))
spelt_octets (framed kind unit code rest) bytes h =
    let fits = h.fits in
    let after = All-append IsOctet rest (h.check ∷ []) fits.rest_fits
    (All-cons IsOctet h.check [] h.byte (All-nil IsOctet)) in
    let address : 16 * kind + unit < 256 = omega (arith, fits.kind_fits, fits.unit_fits) in
    let count : length rest + 2 < 256 = omega (arith, fits.rest_size) in
    subst AreOctets (sym h.spelt)
    (All-cons IsOctet 2 ((length rest + 2) ∷ (16 * kind + unit) ∷ code ∷ (rest ++ h.check ∷ [])) (lit< tt)
    (All-cons IsOctet (length rest + 2) ((16 * kind + unit) ∷ code ∷ (rest ++ h.check ∷ [])) count
    (All-cons IsOctet (16 * kind + unit) (code ∷ (rest ++ h.check ∷ [])) address
    (All-cons IsOctet code (rest ++ h.check ∷ []) fits.code_fits after))))

pub spelt_most : (m : Content) (bytes : List ℕ) → Spells m bytes → length bytes ≤ 258
spelt_most ack bytes s = omega (arith, ap length s)
spelt_most (nak byte) bytes s = omega (arith, ap length s.1)
spelt_most (framed kind unit code rest) bytes s =
    omega (arith, ap length s.spelt, length-append rest (s.check ∷ []), s.fits.rest_size)

pub all_octets : (ms : List Content) (bytes : List ℕ) → SpellsAll ms bytes → AreOctets bytes
all_octets [] bytes h = subst AreOctets (sym h) (All-nil IsOctet)
all_octets (m ∷ ms) bytes h =
    subst AreOctets (sym h.4) (All-append IsOctet h.0 h.1 (spelt_octets m h.0 h.2) (all_octets ms h.1 h.3))

-- a message's spelling spells the list of this message
one_of : (m : Content) (bytes : List ℕ) → Spells m bytes → SpellsAll (m ∷ []) bytes
one_of m bytes s = (bytes, [], s, refl, sym (append-nil bytes))

pub read_first : (m : Content) (bytes more : List ℕ) (ms : List Content) (end : End) → Spells m bytes
    → Reads (bytes ++ more) ms end →
    (others : List Content) × (ms ≡ m ∷ others)
read_first m bytes more ms end s reads =
    read_again 4096 (m ∷ []) ms bytes more end (one_of m bytes s) (omega (arith, spelt_most m bytes s)) reads

pub read_only : (m : Content) (bytes : List ℕ) (ms : List Content) (end : End) → Spells m bytes → Reads bytes ms end
    → (ms ≡ m ∷ []) × (end ≡ clean)
read_only m bytes ms end s reads =
    one_reading 4096 bytes ms (m ∷ []) end clean reads
    (read_alone 4096 (m ∷ []) bytes (one_of m bytes s) (omega (arith, spelt_most m bytes s)))

pub one_message : (m : Content) → Fits m → (messages_of (spelling m) ≡ m ∷ []) × (end_of (spelling m) ≡ clean)
one_message m fits =
    let s = Spells-spelling m fits in
    read_only m (spelling m) (messages_of (spelling m)) (end_of (spelling m)) s
    (reads_computed 4096 (spelling m) (spelt_octets m (spelling m) s))

pub message_first : (m : Content) (more : List ℕ) → Fits m → AreOctets more → (others : List Content)
    × (messages_of (spelling m ++ more) ≡ m ∷ others)
message_first m more fits octets =
    let s = Spells-spelling m fits in
    let bytes : List ℕ = spelling m ++ more in
    read_first m (spelling m) more (messages_of bytes) (end_of bytes) s
    (reads_computed 4096 bytes (All-append IsOctet (spelling m) more (spelt_octets m (spelling m) s) octets))

pub reads_as_computed : (burst : List ℕ) (ms : List Content) (end : End) → AreOctets burst → Reads burst ms end →
    (ms ≡ messages_of burst) × (end ≡ end_of burst)
reads_as_computed burst ms end octets reads =
    one_reading 4096 burst ms (messages_of burst) end (end_of burst) reads (reads_computed 4096 burst octets)

pub written_computed : (ms : List Content) (bytes : List ℕ) → SpellsAll ms bytes → length bytes ≤ 4096
    → (messages_of bytes ≡ ms) × (end_of bytes ≡ clean)
written_computed ms bytes all fits =
    let same = reads_as_computed bytes ms clean (all_octets ms bytes all) (read_alone 4096 ms bytes all fits) in
    (sym same.0, sym same.1)
