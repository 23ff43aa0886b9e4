use Rattle.std.proofs.Common.{◌≡◌, ℕ, List, take, drop, sym, ap, subst, ◌∙◌}
use Rattle.std.specs.Prelude.{Some, is_ok}
use Rattle.std.proofs.lemmas.List.{take-append-drop}
use Rattle.vdcp_wire.specs.Scripts.{Script, arrivals}
use Rattle.vdcp_wire.specs.Wires.{Told, SendsFront}
use Rattle.vdcp_wire.proofs.Scripting.{does_some, sends_some}
use Rattle.vdcp_wire.proofs.script.ScriptWireWire.send.Goals as goal

pub returns-clause-front : goal.returns-clause-front
returns-clause-front g c =
    let s = c.self.inside in
    let bytes : List ℕ = c.args.bytes.now in
    let n : ℕ = c.min-size.result in
    let old : Told = record { sent = s.sent.items; came = arrivals s.came.items s.bytes.items; drops = s.drops.items }
    in
    let same : old ≡ c.args.self.now.told = ap (λ (v : Script). v.told) (c.self.view_is ∙ c.count_call-part.ensures) in
    subst (λ (t : Told). SendsFront bytes (Some t)
    (Some (record { sent = c.extend_from_slice-grown.new.self.items; came = old.came; drops = old.drops }))) same
    (sends_some old bytes (take n bytes) (drop n bytes) c.extend_from_slice-grown.new.self.items
    (is_ok c.extend_from_slice-grown.result) (sym
    (take-append-drop n bytes)) c.extend_from_slice-grown.ensures.items)

pub returns-clause-sends_some : goal.returns-clause-sends_some
returns-clause-sends_some g c =
    does_some c.args.bytes.now c.args.self.now.told _ (returns-clause-front g c)
