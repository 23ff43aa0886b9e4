-- The type and code of each reply with data that ends too early.
use Rattle.std.proofs.Common.{◌≡◌, ◌≢◌, ℕ, ◌<◌, true, List, [], ◌∷◌, length, get_or, bit_and, refl, arith}
use Rattle.std.proofs.lemmas.Bool.{eq-eqb, ne_eqb}
use Rattle.std.specs.Prelude.{None}
use Rattle.vdcp_frame.specs.Message.{framed}
use Rattle.vdcp_words.specs.declared.reply.Reply.TheVariants.{Opened, State, Active, Present, Size}
use Rattle.vdcp_words.specs.Replies.{has_bit_0, IsShortReply}

pub opened_short : (unit : ℕ) (rest : List ℕ) → length rest ≡ 0 → IsShortReply (framed 3 unit 0x81 rest)
opened_short unit rest empty = record { reply = Opened true; code = (refl, refl); short = omega (arith, empty) }

pub state_short : (unit : ℕ) (rest : List ℕ) → length rest ≡ 0 → IsShortReply (framed 3 unit 0x85 rest)
state_short unit [] empty = record { reply = State 0 None; code = (refl, refl); short = omega arith }
state_short unit (first ∷ more) empty = absurd (omega (arith, empty))

pub state_byte_short : (unit : ℕ) (rest : List ℕ) → length rest < 2 → bit_and (get_or rest 0 0) 1 ≡ 1 →
    IsShortReply (framed 3 unit 0x85 rest)
state_byte_short unit rest short set =
    let bit : has_bit_0 (get_or rest 0 0) ≡ true = eq-eqb (bit_and (get_or rest 0 0) 1) 1 set in
    record { reply = State 0 None; code = (refl, refl); short = rw bit short }

pub active_short : (unit : ℕ) (rest : List ℕ) → length rest ≡ 0 → IsShortReply (framed 3 unit 0x87 rest)
active_short unit [] empty = record { reply = Active None; code = (refl, refl); short = omega arith }
active_short unit (first ∷ more) empty = absurd (omega (arith, empty))

pub active_id_short : (unit first : ℕ) (more : List ℕ) → first ≢ 0 → length more < 8 →
    IsShortReply (framed 3 unit 0x87 (first ∷ more))
active_id_short unit first more other short =
    record { reply = Active None; code = (refl, refl); short = rw (ne_eqb first 0 other) (omega (arith, short)) }

pub size_short : (unit : ℕ) (rest : List ℕ) → length rest < 4 → IsShortReply (framed 3 unit 0x94 rest)
size_short unit rest short = record { reply = Size []; code = (refl, refl); short = short }

pub present_short : (unit : ℕ) (rest : List ℕ) → length rest ≡ 0 → IsShortReply (framed 3 unit 0x96 rest)
present_short unit rest empty = record { reply = Present true; code = (refl, refl); short = omega (arith, empty) }

pub ruleset shorts = (
  opened_short,
  state_short,
  state_byte_short,
  active_short,
  active_id_short,
  size_short,
  present_short,
)
