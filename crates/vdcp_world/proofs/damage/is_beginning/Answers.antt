use Rattle.std.proofs.Common.{◌≡◌, ◌<◌, ◌≤◌, All, take, length, arith}
use Rattle.std.proofs.lemmas.List.{length-take-le}
use Rattle.std.proofs.lemmas.List.Elements.{All-from_get_or}
use Rattle.std.proofs.lemmas.Bool.Decides.{Decides-eqb}
use Rattle.std.proofs.lemmas.Slice.Eq.{starts_is}
use Rattle.vdcp_frame.specs.Burst.{messages_of, end_of}
use Rattle.vdcp_world.proofs.Beginnings.{begins_is}
use Rattle.vdcp_world.proofs.damage.is_beginning.Goals as goal

pub returns : goal.returns
returns c =
    let burst = c.args.burst.now in
    let other = c.args.other.now in
    let n = c.whole_messages.result in
    let front = take n burst in
    let bytes : All (λ b. b < 256) other =
    All-from_get_or (λ b. b < 256) other 0 (λ i _. omega (arith, c.type_inv.other i)) in
    let size : length front ≡ n = length-take-le n burst c.whole_messages.ensures.within in
    let short : length front ≤ 4096 = omega (arith, size, c.whole_messages.ensures.limit) in
    let starts = starts_is Decides-eqb other front c.starts_with.result c.starts_with.ensures.value in
    begins_is other front (messages_of burst) (messages_of other) (end_of other) c.starts_with.result
    c.one_spelling.ensures.only
    (λ more. c.written_is_read.ensures.first (messages_of burst) (messages_of other) front more (end_of other)
    c.whole_messages.ensures.spelt short)
    c.whole_messages.ensures.spelt (c.one_reading.ensures.some other bytes) starts.0 starts.1
