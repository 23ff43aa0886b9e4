-- A cue gets done, a clip ends, and frames pass, in the phase table.
use Rattle.std.proofs.Common.{◌≡◌, ℕ, List, refl, arith}
use Rattle.vdcp_value.specs.declared.clip_id.ClipId.{ClipId}
use Rattle.vdcp_value.specs.declared.part.Item.{Item}
use Rattle.vdcp_value.specs.declared.timecode.Timecode.{Timecode}
use Rattle.vdcp_words.specs.declared.reply.Reply.{Reply}
use Rattle.vdcp_port.specs.Port.{PortState, Cued, empty, cueing, done, made_ready, ready_state, ended_state}
use Rattle.vdcp_auto.specs.declared.phase.Phase.{Phase}
use Rattle.vdcp_auto.specs.State.{Stage, Ready, Awaiting, Ended}
use Rattle.vdcp_world.proofs.PhaseTable.{Place, PlaceAt, Tells, Firm, FirmAt, FirmTells}

-- ---- the cue is done

ready_place : (list : List Item) (cued : Cued) (aired : List Item) (settled : ℕ) (q : Phase)
    → Place list cued aired settled q
    → Place list (made_ready cued) aired settled q
ready_place list empty aired settled q h = h
ready_place list (cueing item) aired settled q h = grind arith
ready_place list (done item) aired settled q h = h

module _ (list : List Item) (clips : List (ClipId × Timecode)) where
  pub ready_place_at : (cued : Cued) (aired : List Item) (settled : ℕ) (stage : Stage)
      → PlaceAt list clips cued aired settled stage → PlaceAt list clips (made_ready cued) aired settled stage
  ready_place_at empty aired settled stage h = h
  ready_place_at (cueing item) aired settled (Ready q) h = grind arith
  ready_place_at (cueing item) aired settled (Awaiting q) h = ready_place list (cueing item) aired settled q h
  ready_place_at (cueing item) aired settled (Ended outcome) h = h
  ready_place_at (done item) aired settled stage h = h

  pub ready_tells : (cued : Cued) (aired : List Item) (q : Phase) (r : Reply) → Tells list clips cued aired q r
      → Tells list clips (made_ready cued) aired q r
  ready_tells empty aired q r h = h
  ready_tells (cueing item) aired q r h = grind arith
  ready_tells (done item) aired q r h = h

module _ (list : List Item) (clips : List (ClipId × Timecode)) (p : PortState) where
  ready_firm : (cued : Cued) (q : Phase) → p.cued ≡ cued → Firm list clips p q → Firm list clips (ready_state p) q
  ready_firm empty q e h = grind arith
  ready_firm _ q e h = grind arith

  pub ready_firm_at : (stage : Stage) → FirmAt list clips p stage → FirmAt list clips (ready_state p) stage
  ready_firm_at (Ready q) h = ready_firm p.cued q refl h
  ready_firm_at (Awaiting q) h = ready_firm p.cued q refl h
  ready_firm_at (Ended outcome) h = h

  pub ready_firm_tells : (cued : Cued) (q : Phase) (r : Reply) → p.cued ≡ cued → FirmTells list clips p q r
      → FirmTells list clips (ready_state p) q r
  ready_firm_tells empty q r e h = grind arith
  ready_firm_tells _ q r e h = grind arith

  -- ---- the clip has ended

  ended_firm : (q : Phase) → Firm list clips p q → Firm list clips (ended_state p) q
  ended_firm q h = grind arith

  pub ended_firm_at : (stage : Stage) → FirmAt list clips p stage → FirmAt list clips (ended_state p) stage
  ended_firm_at (Ready q) h = ended_firm q h
  ended_firm_at (Awaiting q) h = ended_firm q h
  ended_firm_at (Ended outcome) h = h

  pub ended_firm_tells : (q : Phase) (r : Reply) → FirmTells list clips p q r → FirmTells list clips (ended_state p) q r
  ended_firm_tells q r h = grind arith
