-- One command that goes out.
use Rattle.std.proofs.Common.{ℕ, ◌≡◌, Bool, List, [], ◌∷◌, refl, subst}
use Rattle.std.specs.Prelude.{Some}
use Rattle.vdcp_words.specs.declared.command.Command.{Command}
use Rattle.vdcp_auto.specs.Plan.{Plan}
use Rattle.vdcp_auto.specs.State.{State}
use Rattle.vdcp_auto.specs.Turn.{given, ticked}
use Rattle.vdcp_wire.specs.Acts.{Act, sends, OfFront}
use Rattle.vdcp_drive.specs.Leaves.{HasSendBroken, in_send}
use Rattle.vdcp_drive.specs.Steps.{Chain, command_bytes, dropping}
use Rattle.vdcp_drive.proofs.Chains.{chain_both}

pub send_broke : {W : Type 0} (does : Act → W → W → Type 0) (first : Bool) (plan : Plan) (unit : ℕ) (state state' : State)
    (c : Command) (bytes : List ℕ) (w w₁ w₂ : W) → given plan state ≡ Some c → state' ≡ ticked state
    → bytes ≡ command_bytes unit c → Chain does (dropping first) w w₁ → OfFront bytes (λ front. does (sends front) w₁ w₂)
    → HasSendBroken does first plan unit state state' w w₂
send_broke does first plan unit state state' c bytes w w₁ w₂ gives_it ticks is dropped broke =
    let b = subst (λ (l : List ℕ). OfFront l (λ front. does (sends front) w₁ w₂)) is broke in
    in_send c b.front b.rest gives_it ticks b.parts
    (chain_both does (dropping first) (sends b.front ∷ []) w w₁ w₂ dropped (w₂, b.is_so, refl))
