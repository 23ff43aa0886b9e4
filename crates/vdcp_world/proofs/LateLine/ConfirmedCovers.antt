-- Confirm mode tends its places: so what holds of a late channel in it is kept by every event.
use Rattle.std.proofs.Common.{ℕ, ◌+◌, ◌≡◌, Bool, true, false, ◌||◌, List, ◌∷◌, length, Some, refl, arith, if◌then◌else◌}
use Rattle.vdcp_value.specs.declared.clip_id.ClipId.{ClipId}
use Rattle.vdcp_value.specs.declared.part.Item.{Item}
use Rattle.vdcp_value.specs.declared.timecode.Timecode.{Timecode}
use Rattle.vdcp_words.specs.declared.command.Command.{Command}
use Rattle.vdcp_port.specs.Port.{Cued}
use Rattle.vdcp_auto.specs.Commands.{fits}
use Rattle.vdcp_auto.specs.Replies.{is_receipt, is_refusal}
use Rattle.vdcp_auto.specs.State.{State, Awaiting}
use Rattle.vdcp_auto.specs.Table.{command_in, on_reply, on_refusal}
use Rattle.vdcp_auto.specs.Turn.{is_end}
use Rattle.vdcp_auto.specs.declared.exchange.Heard.TheVariants as heard
use Rattle.vdcp_auto.specs.declared.phase.Mode.TheVariants.{Confirming}
use Rattle.vdcp_auto.specs.declared.phase.Phase.{Phase}
use Rattle.vdcp_auto.specs.declared.phase.Phase.TheVariants as phase
use Rattle.vdcp_world.proofs.Exchanges.{fits_asked, no_receipt, no_refusal}
use Rattle.vdcp_world.proofs.LateLine.ConfirmedHearing.{Leads, goes_on, replied}
use Rattle.vdcp_world.proofs.LateLine.ConfirmedPlaces.{Secured, Spot, secure_lessens, spot_lessens}
use Rattle.vdcp_world.proofs.LateLine.ConfirmedReads.{secure_keeps}
use Rattle.vdcp_world.proofs.LateLine.ConfirmedStanding.{secure_in, spot_asks, spot_keeps, spot_sends}
use Rattle.vdcp_world.proofs.LateLine.Delivering.{clash}
use Rattle.vdcp_world.proofs.LateLine.Exactness.{is_exact_in, none_taken}
use Rattle.vdcp_world.proofs.LateLine.Held.{Holds, LeadsBy, Tended}
use Rattle.vdcp_world.proofs.LateLine.Places.{Answer, At}
use Rattle.vdcp_world.proofs.LateLine.PlainCovers.{either}

module _ (list : List Item) where
  -- in which phases how many events are aired and settled
  at_in : (settled : ℕ) (s : Bool) (a : Cued) (aired : List Item) (ups : List Answer) (downs : List Phase) (q : Phase)
      → is_exact_in q ≡ true → Spot list settled s a aired ups downs q → (n : ℕ) × At list aired settled n
  at_in settled s a aired ups downs phase.Open e h = (0, h.0)
  at_in settled s a aired ups downs phase.Select e h = (0, h.0)
  at_in settled s a aired ups downs phase.Seen e h = (0, h.0)
  at_in settled s a aired ups downs (phase.Exists k) e h = (k, h.0.0)
  at_in settled s a aired ups downs (phase.Cue k) e h = (k, h.at)
  at_in settled s a aired ups downs (phase.Wait k) e h = (k, h.at)
  at_in settled s a aired ups downs (phase.Check k) e h = (k + 1, h.0.0)
  at_in settled s a aired ups downs phase.Drain e h = (length list, h)
  at_in settled s a aired ups downs phase.Close e h = (length list, h)
  at_in settled s a aired ups downs q e h = cc

  answers : (clips : List (ClipId × Timecode)) (port limit : ℕ) (s : Bool) (a : Cued) (aired : List Item) (x : Answer)
      (ups : List Answer) (downs : List Phase) (state : State) (counts : Bool) (q : Phase) (c : Command)
      → command_in list port q ≡ Some c → is_end Confirming c (Some (heard.Reply x.reply)) ≡ true
      → (is_refusal x.reply || fits c x.reply) ≡ true → Holds Confirming Spot Secured list clips state.settled s a aired
      (x ∷ ups) downs (Awaiting q) → LeadsBy Confirming Spot Secured list clips state.settled s a aired (x ∷ ups) downs
      limit state port counts q (Some x.reply)
  answers clips port limit s a aired x ups downs state counts q c is ends f h =
      by (is_refusal x.reply) refl (no_refusal x.reply (no_receipt c x.reply ends))
    where
      by : (b : Bool) → is_refusal x.reply ≡ b → b ≡ false → Leads list clips state.settled s a aired (x ∷ ups) downs
          (if b then on_refusal (length list) q else on_reply Confirming list limit state.take state.tries q x.reply)
      by true r none = cc
      by false r none = replied list clips state.settled s a aired x ups downs limit state.tries state.take q
          (record {
            no_receipt = no_receipt c x.reply ends;
            asked = fits_asked list port q c x.reply is (either (is_refusal x.reply) (fits c x.reply) f r);
            fit = h.fit;
            true_told = h.true_told;
          }) h.place

pub confirming_tended : Tended Confirming Spot Secured
confirming_tended = record {
  lessens = spot_lessens;
  calm_lessens = secure_lessens;
  reads = λ list settled s a aired ups d downs q r t b airs fit h x.
      spot_keeps list settled s a aired ups d downs q r t b airs h.0 h.1 x;
  calm_reads = secure_keeps;
  sends = spot_sends;
  asks = spot_asks;
  calm_in = λ list settled s a aired ups downs q h. secure_in list settled s a aired ups downs q h.0 h.1;
  halts = λ list settled s a aired ups downs h. h;
  near = λ list settled s a aired downs h. h.near;
  at_in = at_in;
  checks = λ list settled s a aired ups downs k h _. h.0.1;
  begins = λ list s a ups downs none.
      (record { aired_is = none_taken list; within = omega arith; settled_is = refl }, none refl);
  goes_on = goes_on;
  -- what is no answer and ends an exchange is no receipt, and so no reply
  strays = λ list clips port limit s a aired ups downs state counts q c r none ends f h.
      clash (is_receipt r) none (no_receipt c r ends);
  answers = answers;
}
