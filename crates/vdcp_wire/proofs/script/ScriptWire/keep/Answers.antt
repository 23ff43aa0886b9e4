use Rattle.std.proofs.Common.{◌≡◌, ◌++◌, ℕ, List, [], ◌∷◌, false, refl, sym, ap, ◌∙◌, length, take}
use Rattle.std.specs.Prelude.{Some}
use Rattle.vdcp_wire.specs.declared.wire.Came.{Came}
use Rattle.vdcp_wire.specs.Scripts.{Script, arrivals}
use Rattle.vdcp_wire.specs.Wires.{Told, adds_came, arrival_of, brought, has_closed}
use Rattle.vdcp_wire.proofs.Scripting.{arrivals_push, comes_behind, counts_push, closed_by}
use Rattle.vdcp_wire.proofs.script.ScriptWire.keep.Goals as goal

pub invariant_of-self-2 : goal.invariant_of-self-2
invariant_of-self-2 g c =
    let given : List Came = c.self.inside.came.items in
    let all : List ℕ = c.self.inside.bytes.items in
    let came : Came = c.args.came in
    let buffer : List ℕ = c.args.buffer.now in
    let still : has_closed (arrivals given all) ≡ false =
    ap (λ (s : Script). has_closed s.told.came) c.self.view_is ∙ c.requires.open in
    let pushed : c.push_reserved.new.self.items ≡ given ++ came ∷ [] =
    c.push_reserved.ensures.items ∙ ap (λ (l : List Came). l ++ came ∷ []) c.reserve.ensures.items in
    let extended : c.extend_from_slice.new.self.items ≡ all ++ take (brought came) buffer =
    c.in_ok-extend_from_slice.ensures.items ∙ ap (λ (l : List ℕ). all ++ l) c.piece_of.ensures.bytes in
    rw pushed (rw extended (
      c.is_close-self-inside.ensures ∙ closed_by (arrivals given all) came buffer still
          ∙ ap has_closed (sym (arrivals_push given came all buffer
          c.self.invariant.1)),
      counts_push given came all (take (brought came) buffer) c.self.invariant.1
          (ap length (sym c.piece_of.ensures.bytes) ∙ c.piece_of.ensures.counts),
    ))

pub returns-clause-came : goal.returns-clause-came
returns-clause-came g c =
    let given : List Came = c.self.inside.came.items in
    let all : List ℕ = c.self.inside.bytes.items in
    let came : Came = c.args.came in
    let buffer : List ℕ = c.args.buffer.now in
    let old : Told = record {
      sent =
          c.self.inside.sent.items;
      came = arrivals given all;
      drops = c.self.inside.drops.items;
    } in
    let same : old ≡ c.args.self.now.told = ap (λ (v : Script). v.told) c.self.view_is in
    let pushed : c.push_reserved.new.self.items ≡ given ++ came ∷ [] =
    c.push_reserved.ensures.items ∙ ap (λ (l : List Came). l ++ came ∷ []) c.reserve.ensures.items in
    let extended : c.extend_from_slice.new.self.items ≡ all ++ take (brought came) buffer =
    c.in_ok-extend_from_slice.ensures.items ∙ ap (λ (l : List ℕ). all ++ l) c.piece_of.ensures.bytes in
    rw pushed (rw extended (comes_behind old given came all buffer c.self.invariant.1 refl
    (ap (λ (t : Told). has_closed t.came) same ∙ c.requires.open)
    ∙ ap (λ (t : Told). adds_came (arrival_of came buffer) (Some t)) same))
