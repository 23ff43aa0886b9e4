-- Frames one after another.
use Rattle.std.proofs.Common.{ℕ, zero, suc, ◌-◌, ◌<◌, ◌≡◌, arith, refl, sym, ap, ◌∙◌, subst}
use Rattle.std.proofs.lemmas.Grind.{common_steps}
use Rattle.std.specs.Prelude.{None}
use Rattle.vdcp_port.specs.Clock.{ClockedPort, after_frame, after_frames}
use Rattle.vdcp_port.specs.Port.{made_ready}

-- what one frame does to each slot and count
frame_cue_count : (p : ClockedPort) → (after_frame p).counts.cue ≡ p.counts.cue - 1
frame_cue_count p = grind (arith, common_steps)

frame_clip_count : (p : ClockedPort) → (after_frame p).counts.playing ≡ p.counts.playing - 1
frame_clip_count p = grind (arith, common_steps)

playing_on : (p : ClockedPort) → 1 < p.counts.playing → (after_frame p).state.playing ≡ p.state.playing
playing_on p more = grind (arith, common_steps, more)

played_out : (p : ClockedPort) → p.counts.playing ≡ 1 → (after_frame p).state.playing ≡ None
played_out p one = grind (arith, common_steps, one)

cueing_on : (p : ClockedPort) → 1 < p.counts.cue → (after_frame p).state.cued ≡ p.state.cued
cueing_on p more = grind (arith, common_steps, more)

cued_out : (p : ClockedPort) → p.counts.cue ≡ 1 → (after_frame p).state.cued ≡ made_ready p.state.cued
cued_out p one = grind (arith, common_steps, one)

-- before its last frame a clip plays on, and with it it has ended

pub plays_on : (n : ℕ) (p : ClockedPort) → n < p.counts.playing → (after_frames n p).state.playing ≡ p.state.playing
plays_on zero p more = refl
plays_on (suc n) p more =
    plays_on n (after_frame p) (omega (arith, frame_clip_count p)) ∙ playing_on p (omega arith)

played_out_after : (n : ℕ) (p : ClockedPort) → p.counts.playing ≡ suc n → (after_frames (suc n) p).state.playing ≡ None
played_out_after zero p count = played_out p count
played_out_after (suc n) p count = played_out_after n (after_frame p) (frame_clip_count p ∙ omega (arith, count))

pub plays_out : (p : ClockedPort) → 0 < p.counts.playing → (after_frames p.counts.playing p).state.playing ≡ None
plays_out p some =
    let count : p.counts.playing ≡ suc (p.counts.playing - 1) = omega arith in
    subst (λ n. (after_frames n p).state.playing ≡ None) (sym count) (played_out_after (p.counts.playing - 1) p count)

pub cues_on : (n : ℕ) (p : ClockedPort) → n < p.counts.cue → (after_frames n p).state.cued ≡ p.state.cued
cues_on zero p more = refl
cues_on (suc n) p more =
    cues_on n (after_frame p) (omega (arith, frame_cue_count p)) ∙ cueing_on p (omega arith)

cued_out_after : (n : ℕ) (p : ClockedPort) → p.counts.cue ≡ suc n
    → (after_frames (suc n) p).state.cued ≡ made_ready p.state.cued
cued_out_after zero p count = cued_out p count
cued_out_after (suc n) p count =
    cued_out_after n (after_frame p) (frame_cue_count p ∙ omega (arith, count))
    ∙ ap made_ready (cueing_on p (omega (arith, count)))

pub cues_out : (p : ClockedPort) → 0 < p.counts.cue → (after_frames p.counts.cue p).state.cued ≡ made_ready p.state.cued
cues_out p some =
    let count : p.counts.cue ≡ suc (p.counts.cue - 1) = omega arith in
    subst (λ n. (after_frames n p).state.cued ≡ made_ready p.state.cued) (sym count)
    (cued_out_after (p.counts.cue - 1) p count)
