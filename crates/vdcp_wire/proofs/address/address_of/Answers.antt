use Rattle.std.proofs.Common.{ℕ, List, subst, sym}
use Rattle.std.specs.Net.Grammar.{IsSocketV4Text}
use Rattle.vdcp_wire.proofs.address.address_of.Goals as goal

pub returns-in-Err-clause-no_address : goal.returns-in-Err-clause-no_address
returns-in-Err-clause-no_address c =
    λ (address, h). c.in-Err.ensures address (subst (λ (text : List ℕ). IsSocketV4Text text address)
    (sym c.as_bytes.ensures.value) h)
