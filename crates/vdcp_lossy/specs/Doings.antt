-- What can be done with a burst, and what goes on of it then.
use Rattle.std.specs.Option.{option_to_list}
use Rattle.std.specs.Prelude.{ℕ, ◌≡◌, ◌<◌, true, List, [], ◌∷◌, ◌++◌, length, take, Option, None, Some}
use Rattle.vdcp_wire.specs.Wires.{Told, adds_sent}
use Rattle.vdcp_frame.specs.Burst.{messages_of}
use Rattle.vdcp_frame.specs.Message.{Content, ack, nak, spelling}
use Rattle.vdcp_lossy.specs.declared.doing.Doing.{Doing}
use Rattle.vdcp_lossy.specs.declared.doing.Doing.TheVariants as doing
use Rattle.vdcp_lossy.specs.declared.doing.Receipt.{Receipt}
use Rattle.vdcp_lossy.specs.declared.doing.Receipt.TheVariants as receipt
use Rattle.vdcp_auto.specs.declared.burst.Way.{Way}
use Rattle.vdcp_auto.specs.declared.burst.Way.TheVariants as way
use Rattle.vdcp_world.specs.Channel.{can_become}

-- a receipt as a message
abbrev pub receipt_message : Receipt → Content
receipt_message receipt.Ack = ack
receipt_message (receipt.Nak byte) = nak byte

-- what goes on in place of a burst that came, once
abbrev pub part_on : Doing → List ℕ → Option (List ℕ)
part_on doing.Through came = Some came
part_on doing.Lost came = None
part_on doing.Late came = None
part_on doing.Copied came = Some came
part_on (doing.Cut count) came = Some (take count came)
part_on (doing.Damaged bytes) came = Some bytes.items
part_on (doing.Forged r) came = Some (spelling (receipt_message r))

-- the bursts that go on in its place
abbrev pub goes_on : Doing → List ℕ → List (List ℕ)
goes_on doing.Copied came = came ∷ came ∷ []
goes_on d came = option_to_list (part_on d came)

-- the bytes of bursts, one after another
abbrev pub joined : List (List ℕ) → List ℕ
joined [] = []
joined (burst ∷ []) = burst
joined (burst ∷ next ∷ later) = burst ++ joined (next ∷ later)

-- what a wire tells once this was sent, if anything was
abbrev pub adds_part : Option (List ℕ) → Option Told → Option Told
adds_part None told = told
adds_part (Some bytes) told = adds_sent bytes told

-- two copies go up as one burst, of which the first message is heard: so there has to be one
abbrev pub CanBeCopied : Way → List ℕ → Type 0
CanBeCopied way.Down came = Unit {0}
CanBeCopied way.Up came = (m : Content) × (more : List Content) × (messages_of came ≡ m ∷ more)

-- a receipt comes up, and is bytes
abbrev pub CanBeForged : Way → Receipt → Type 0
CanBeForged way.Down r = ⊥
CanBeForged way.Up receipt.Ack = Unit {0}
CanBeForged way.Up (receipt.Nak byte) = byte < 256

-- what can be done with a burst that came this way: what is cut or damaged is damage that a channel allows
abbrev pub CanBe : Way → List ℕ → Doing → Type 0
CanBe w came doing.Copied = CanBeCopied w came
CanBe w came (doing.Cut count) = (0 < count) × (count < length came) × (can_become came (take count came) ≡ true)
CanBe w came (doing.Damaged bytes) = can_become came bytes.items ≡ true
CanBe w came (doing.Forged r) = CanBeForged w r
CanBe w came d = Unit {0}

-- a receipt is forged
abbrev pub IsForged : Doing → Type 0
IsForged (doing.Forged r) = CanBeForged way.Up r
IsForged d = ⊥
