-- What is done with a burst on its way, and what the events of that leave.
use Rattle.std.proofs.Common.{ℕ, ◌≡◌, ◌≤◌, ◌<◌, List, [], ◌∷◌, ◌++◌, length, take, drop, refl, arith, sym, ap, subst, ◌∙◌, true, false, Bool}
use Rattle.std.proofs.lemmas.List.{append_assoc, append-nil, take-append-drop}
use Rattle.std.proofs.lemmas.List.Elements.{All-append}
use Rattle.std.specs.Prelude.{◌||◌}
use Rattle.vdcp_auto.specs.Heard.{heard_in, heard_first}
use Rattle.vdcp_auto.specs.declared.phase.Mode.{Mode}
use Rattle.vdcp_auto.specs.declared.phase.Mode.TheVariants.{Plain, Confirming}
use Rattle.vdcp_frame.specs.Burst.{messages_of, end_of}
use Rattle.vdcp_frame.specs.Message.{Content, Spells, AreOctets, ack, nak, spelling}
use Rattle.vdcp_frame.specs.Reading.{End, Reads, SpellsAll, burst_limit}
use Rattle.vdcp_lossy.specs.Doings.{CanBe, goes_on}
use Rattle.vdcp_laws.specs.LossyEvents.{CanGoUp, answering, events_down, events_up, hearing, hearing_joined}
use Rattle.vdcp_lossy.specs.declared.doing.Doing.{Doing}
use Rattle.vdcp_lossy.specs.declared.doing.Doing.TheVariants as doing
use Rattle.vdcp_lossy.specs.declared.doing.Receipt.TheVariants as receipt
use Rattle.vdcp_auto.specs.declared.burst.Way.TheVariants as way
use Rattle.vdcp_world.specs.Channel.{Channel, after_event, after_events, altered, can_become, can_become_up}
use Rattle.vdcp_world.specs.declared.event.Event.TheVariants.{Down, Up}

-- damage that can be: these bytes come to the port
altered_down : (c : Channel) (bytes : List ℕ) → can_become c.down bytes ≡ true
    → after_event (record c { down = altered (can_become c.down bytes) c.down bytes }) Down ≡ answering c (bytes ∷ [])
altered_down c bytes can = rw can refl

pub down : (c : Channel) (d : Doing) → CanBe way.Down c.down d
    → after_events c (events_down d c.down) ≡ answering c (goes_on d c.down)
down c doing.Through can = refl
down c doing.Lost can = refl
down c doing.Late can = refl
down c doing.Copied can = refl
down c (doing.Cut count) (some, fewer, can) = altered_down c (take count c.down) can
down c (doing.Damaged bytes) can = altered_down c bytes.items can
down c (doing.Forged r) can = absurd can

-- damage that can be: these bytes come to the controller
altered_up : (c : Channel) (bytes : List ℕ) → can_become_up c.plan.mode c.port.state.unit c.up bytes ≡ true
    → after_event (record c { up = altered (can_become_up c.plan.mode c.port.state.unit c.up bytes) c.up bytes }) Up
    ≡ hearing c bytes
altered_up c bytes can = rw can refl

-- what can be damage in either mode
either_mode : (mode : Mode) (unit : ℕ) (way bytes : List ℕ) → can_become way bytes ≡ true
    → can_become_up mode unit way bytes ≡ true
either_mode Plain unit way bytes can = can
either_mode Confirming unit way bytes can = rw can refl

-- what is read of bursts
pub record Reading : Type 0 where
  pub some : (burst : List ℕ) → AreOctets burst → Reads burst (messages_of burst) (end_of burst)
  pub size : (m : Content) (bytes : List ℕ) → Spells m bytes → (0 < length bytes) × (length bytes ≤ 258)
  pub first : (ms ns : List Content) (bytes more : List ℕ) (end : End) → SpellsAll ms bytes → length bytes ≤ burst_limit
      → Reads (bytes ++ more) ns end
      → (others : List Content) × (ns ≡ ms ++ others)

-- a burst that begins so, twice
twice_parts : (came upto beyond whole spelt rest left : List ℕ) → upto ++ beyond ≡ came → upto ≡ whole ++ left
    → whole ≡ spelt ++ rest
    → came ++ came ≡ spelt ++ (((rest ++ left) ++ beyond) ++ came)
twice_parts came upto beyond whole spelt rest left all halves joins =
    let front : upto ≡ spelt ++ (rest ++ left) = halves ∙ ap (λ (w : List ℕ). w ++ left) joins
    ∙ append_assoc spelt rest left in
    let parts : came ≡ spelt ++ ((rest ++ left) ++ beyond) =
    sym all ∙ ap (λ (b : List ℕ). b ++ beyond) front ∙ append_assoc spelt (rest ++ left) beyond in
    ap (λ (b : List ℕ). b ++ came) parts ∙ append_assoc spelt ((rest ++ left) ++ beyond) came

-- two copies of a burst that has a message are heard as one
heard_twice : Reading → (unit : ℕ) (came : List ℕ) (m : Content) (more : List Content) → AreOctets came
    → messages_of came ≡ m ∷ more
    → heard_in unit (came ++ came) ≡ heard_in unit came
heard_twice read unit came m more octets is =
    let reads = subst (λ (ms : List Content). Reads came ms (end_of came)) is (read.some came octets) in
    let short = reads.front in
    let (spelt, rest, spells, others, joins) = short.spelt in
    let behind : List ℕ = ((rest ++ short.remainder) ++ drop burst_limit came) ++ came in
    let parts : came ++ came ≡ spelt ++ behind =
    twice_parts came (take burst_limit came) (drop burst_limit came) short.whole spelt rest short.remainder
    (take-append-drop burst_limit came) short.parts joins in
    let twice = subst (λ (b : List ℕ). Reads b (messages_of (came ++ came)) (end_of (came ++ came))) parts
    (read.some (came ++ came) (All-append (λ b. b < 256) came came octets octets)) in
    let few = (read.size m spelt spells).1 in
    let within : length spelt ≤ burst_limit = omega (arith, few) in
    let found = read.first (m ∷ []) (messages_of (came ++ came)) spelt behind (end_of (came ++ came))
    (spelt, [], spells, refl, sym (append-nil spelt)) within twice in
    ap (heard_first unit) found.1 ∙ sym (ap (heard_first unit) is)

-- bytes that are heard alike leave the same
hearing_alike : (c : Channel) (one other : List ℕ) → heard_in c.port.state.unit one ≡ heard_in c.port.state.unit other
    → hearing c other ≡ hearing c one
hearing_alike c one other alike = rw alike refl

or_true : (b : Bool) → (b || true) ≡ true
or_true true = refl
or_true false = refl

-- in confirm mode a receipt can stand in place of anything
forged_ack : (mode : Mode) (unit : ℕ) (way : List ℕ) → mode ≡ Confirming
    → can_become_up mode unit way (spelling ack) ≡ true
forged_ack mode unit way e = rw e (or_true (can_become way (spelling ack)))

forged_nak : (mode : Mode) (unit byte : ℕ) (way : List ℕ) → mode ≡ Confirming
    → can_become_up mode unit way (spelling (nak byte)) ≡ true
forged_nak mode unit byte way e = rw e (or_true (can_become way (spelling (nak byte))))

pub up : Reading → (c : Channel) (d : Doing) → AreOctets c.up → CanGoUp c d
    → after_events c (events_up d c.up) ≡ hearing_joined c (goes_on d c.up)
up read c doing.Through octets can = refl
up read c doing.Lost octets can = refl
up read c doing.Late octets can = refl
up read c doing.Copied octets (m, more, is) = hearing_alike c (c.up ++ c.up) c.up
    (heard_twice read c.port.state.unit c.up m more octets is)
up read c (doing.Cut count) octets (some, fewer, can) =
    altered_up c (take count c.up) (either_mode c.plan.mode c.port.state.unit c.up (take count c.up) can)
up read c (doing.Damaged bytes) octets can =
    altered_up c bytes.items (either_mode c.plan.mode c.port.state.unit c.up bytes.items can)
up read c (doing.Forged receipt.Ack) octets (can, confirms) =
    altered_up c (spelling ack) (forged_ack c.plan.mode c.port.state.unit c.up confirms)
up read c (doing.Forged (receipt.Nak byte)) octets (can, confirms) =
    altered_up c (spelling (nak byte)) (forged_nak c.plan.mode c.port.state.unit byte c.up confirms)
