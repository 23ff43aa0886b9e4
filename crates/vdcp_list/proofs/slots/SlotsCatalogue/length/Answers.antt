use Rattle.std.proofs.Common.{◌≡◌, true, false, sym, ap, ◌∙◌}
use Rattle.vdcp_list.proofs.SlotClips.{clips_of, found_at, none_more}
use Rattle.vdcp_list.proofs.slots.SlotsCatalogue.length.Goals as goal
use Rattle.vdcp_port.specs.Clips.{length_of}
use Rattle.vdcp_value.specs.Ids.{is_same_id}

pub returns-then-eq : goal.returns-then-eq
returns-then-eq g c =
    let same : is_same_id c.args.id.now c.slot-item.result.id ≡ true = sym c.eq.ensures ∙ c.if-eq.true in
    sym (found_at c.as_slice-slot-items.result.now c.args.id.now c.loop-slot.slot-index c.slot-item.result
    c.loop-slot-test.true c.slot-item.is
    c.loop-slot.invariant same)
    ∙ ap (λ slots. length_of (clips_of slots) c.args.id.now) c.as_slice-slot-items.ensures.value
    ∙ ap (λ clips. length_of clips c.args.id.now) c.self.view_is

pub loop-slot-preserved : goal.loop-slot-preserved
loop-slot-preserved g c =
    let other : is_same_id c.args.id.now c.slot-item.result.id ≡ false = sym c.eq.ensures ∙ c.if-eq.false in
    none_more c.as_slice-slot-items.result.now c.args.id.now c.loop-slot.slot-index c.slot-item.result
    c.loop-slot-test.true c.slot-item.is
    c.loop-slot.invariant other
