-- How long an answer goes on, once more came.
use Rattle.std.proofs.Common.{◌≡◌, refl, false, subst, sym, ap, ◌∙◌}
use Rattle.std.specs.Prelude.{Option, None, Some}
use Rattle.vdcp_wire.specs.Answers.{Limit, HasCome, IsRead, heard, lapses}
use Rattle.vdcp_wire.specs.Streams.{Counts, Listens, ListensBy, Streamed}
use Rattle.vdcp_wire.specs.declared.wire.Came.{Came}

lapses_on : (what : Came) (old read : Option Limit) → lapses old (heard what read) ≡ lapses old read
lapses_on what None read = refl
lapses_on what (Some old) None = refl
lapses_on what (Some old) (Some read) = refl

-- it hasn't gone on for too long, and this came
pub listens : (what : Came) (old new : Streamed) (read : Option Limit) → false ≡ lapses old.answer read
    → IsRead old.answer read → new.answer ≡ heard what read → Counts what old new → Listens what old new
listens what old new read goes_on is_read is counts =
    subst (λ lapsed. ListensBy lapsed what old new)
    (goes_on ∙ sym (lapses_on what old.answer read) ∙ ap (lapses old.answer) (sym is))
    (counts, (read, is_read, is))
