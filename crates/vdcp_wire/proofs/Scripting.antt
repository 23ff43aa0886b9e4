-- What a wire in memory tells when it gives one more arrival, and when it sends.
use Rattle.std.proofs.Common.{ℕ, ◌+◌, ◌≤◌, ◌≡◌, List, [], ◌∷◌, ◌++◌, Bool, true, false, refl, sym, ap, ◌∙◌, take, drop, length, append-nil, arith, rules}
use Rattle.std.proofs.lemmas.List.{length-append, length-drop, take-append-le, drop-append-le, take-take}
use Rattle.std.specs.Prelude.{Some, if◌then◌else◌}
use Rattle.vdcp_wire.specs.declared.wire.Came.{Came}
use Rattle.vdcp_wire.specs.declared.wire.Came.TheVariants.{Bytes, Silence, Closed}
use Rattle.vdcp_wire.specs.Acts.{sends, OfFront, Tells}
use Rattle.vdcp_wire.specs.Scripts.{arrivals, brought_in_all, closes}
use Rattle.vdcp_wire.specs.Wires.{Arrival, bytes, Told, SendsFront, adds_came, arrival_of, brought, has_closed}
use Rattle.vdcp_wire.specs.WireLaws.{closed_bytes, closed_silence, closed_close}

-- what a listen gave, if more bytes stand after
front_stays : (c : Came) (all more : List ℕ) → brought c ≤ length all → arrival_of c (all ++ more) ≡ arrival_of c all
front_stays (Bytes n) all more within = ap bytes (take-append-le n all more within)
front_stays Silence all more within = refl
front_stays Closed all more within = refl

itself : (c : Came) (buffer : List ℕ) → arrival_of c (take (brought c) buffer) ≡ arrival_of c buffer
itself (Bytes n) buffer = ap bytes (take-take n n buffer (search rules))
itself Silence buffer = refl
itself Closed buffer = refl

no_bytes : (l : List ℕ) → 0 ≡ length l → l ≡ []
no_bytes [] h = refl
no_bytes (x ∷ l) h = cc

pub arrivals_push : (given : List Came) (c : Came) (all buffer : List ℕ) → brought_in_all given ≡ length all
    → arrivals (given ++ c ∷ []) (all ++ take (brought c) buffer) ≡ arrivals given all ++ arrival_of c buffer ∷ []
arrivals_push [] c all buffer h =
    ap (λ (l : List ℕ). arrival_of c (l ++ take (brought c) buffer) ∷ []) (no_bytes all h)
    ∙ ap (λ (a : Arrival). a ∷ []) (itself c buffer)
arrivals_push (d ∷ given) c all buffer h =
    let piece : List ℕ = take (brought c) buffer in
    let within : brought d ≤ length all = omega (arith, h) in
    let left : brought_in_all given ≡ length (drop (brought d) all) =
    omega (arith, h) ∙ sym (length-drop (brought d) all) in
    ap (λ (a : Arrival). a ∷ arrivals (given ++ c ∷ []) (drop (brought d) (all ++ piece)))
    (front_stays d all piece within)
    ∙ ap (λ (l : List ℕ). arrival_of d all ∷ arrivals (given ++ c ∷ []) l) (drop-append-le (brought d) all piece within)
    ∙ ap (λ (l : List Arrival). arrival_of d all ∷ l) (arrivals_push given c (drop (brought d) all) buffer left)

-- what is told then
pub comes_behind : (t : Told) (given : List Came) (c : Came) (all buffer : List ℕ) → brought_in_all given ≡ length all
    → t.came ≡ arrivals given all
    → has_closed t.came ≡ false
    → Some (record {
      sent = t.sent;
      came =
          arrivals (given ++ c ∷ []) (all ++ take (brought c) buffer);
      drops = t.drops;
    })
    ≡ adds_came (arrival_of c buffer) (Some t)
comes_behind t given c all buffer h is still = rw (arrivals_push given c all buffer h) (rw (sym is) (rw still refl))

brought_push : (given : List Came) (c : Came) → brought_in_all (given ++ c ∷ []) ≡ brought_in_all given + brought c
brought_push [] c = omega arith
brought_push (d ∷ given) c = ap (λ (n : ℕ). brought d + n) (brought_push given c) ∙ omega arith

pub counts_push : (given : List Came) (c : Came) (all piece : List ℕ) → brought_in_all given ≡ length all
    → length piece ≡ brought c
    → brought_in_all (given ++ c ∷ []) ≡ length (all ++ piece)
counts_push given c all piece h is = omega (arith, h, is, brought_push given c, length-append all piece)

pub closed_by : (arrived : List Arrival) (c : Came) (buffer : List ℕ) → has_closed arrived ≡ false
    → closes c ≡ has_closed (arrived ++ arrival_of c buffer ∷ [])
closed_by arrived (Bytes n) buffer h = sym (closed_bytes arrived (take n buffer) ∙ h)
closed_by arrived Silence buffer h = sym (closed_silence arrived ∙ h)
closed_by arrived Closed buffer h = sym (closed_close arrived)

-- a beginning of the bytes, or nothing if there was no room
pub sends_some : (t : Told) (octets piece rest sent : List ℕ) (grown : Bool) → octets ≡ piece ++ rest
    → sent ≡ (if grown then t.sent ++ piece else t.sent)
    → SendsFront octets (Some t) (Some (record { sent = sent; came = t.came; drops = t.drops }))
sends_some t octets piece rest sent true parts is = record {
  front = piece;
  rest = rest;
  parts = parts;
  told = ap (λ (l : List ℕ). Some (record {
    sent = l;
    came = t.came;
    drops = t.drops;
  })) is;
}
sends_some t octets piece rest sent false parts is = record {
  front = [];
  rest = octets;
  parts = refl;
  told = ap (λ (l : List ℕ). Some (record {
    sent = l;
    came = t.came;
    drops = t.drops;
  })) (is ∙ sym (append-nil t.sent));
}

pub does_some : (octets : List ℕ) (t u : Told) → SendsFront octets (Some t) (Some u)
    → OfFront octets (λ front. Tells (sends front) (Some t) (Some u))
does_some octets t u h = record { front = h.front; rest = h.rest; parts = h.parts; is_so = (tt, h.told) }
