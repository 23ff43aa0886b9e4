-- Plain mode tends its places: so what holds of a late channel in it is kept by every event.
use Rattle.std.proofs.Common.{ℕ, ◌+◌, ◌≡◌, Bool, true, false, ◌||◌, List, ◌∷◌, length, Some, refl, arith, if◌then◌else◌}
use Rattle.std.proofs.lemmas.Bool.{or_from}
use Rattle.vdcp_value.specs.declared.clip_id.ClipId.{ClipId}
use Rattle.vdcp_value.specs.declared.part.Item.{Item}
use Rattle.vdcp_value.specs.declared.timecode.Timecode.{Timecode}
use Rattle.vdcp_words.specs.declared.command.Command.{Command}
use Rattle.vdcp_words.specs.declared.command.Command.TheVariants as command
use Rattle.vdcp_words.specs.declared.reply.Reply.{Reply}
use Rattle.vdcp_words.specs.declared.reply.Reply.TheVariants as reply
use Rattle.vdcp_port.specs.Port.{Cued}
use Rattle.vdcp_auto.specs.Commands.{fits}
use Rattle.vdcp_auto.specs.Replies.{is_refusal}
use Rattle.vdcp_auto.specs.State.{State, Awaiting}
use Rattle.vdcp_auto.specs.Table.{command_in, on_reply, on_refusal}
use Rattle.vdcp_auto.specs.declared.exchange.Heard.TheVariants as heard
use Rattle.vdcp_auto.specs.declared.phase.Mode.TheVariants.{Plain}
use Rattle.vdcp_auto.specs.declared.phase.Phase.{Phase}
use Rattle.vdcp_auto.specs.declared.phase.Phase.TheVariants as phase
use Rattle.vdcp_world.specs.LateLine.Damage.{is_no_answer}
use Rattle.vdcp_world.proofs.Exchanges.{fits_asked}
use Rattle.vdcp_world.proofs.LateLine.Delivering.{clash}
use Rattle.vdcp_world.proofs.LateLine.Exactness.{is_exact_in, none_taken}
use Rattle.vdcp_world.proofs.LateLine.Held.{Holds, LeadsBy, Tended}
use Rattle.vdcp_world.proofs.LateLine.Hearing.{Here, Leads, goes_on, refused, replied}
use Rattle.vdcp_world.proofs.LateLine.Places.{Answer, At, Place, Safe}
use Rattle.vdcp_world.proofs.LateLine.Safety.{calm_in, safe_keeps}
use Rattle.vdcp_world.proofs.LateLine.Standing.{place_asks, place_keeps, place_sends, place_lessens, safe_lessens}

-- in which phases how many events are aired and settled
at_in : (list : List Item) (settled : ℕ) (s : Bool) (a : Cued) (aired : List Item) (ups : List Answer)
    (downs : List Phase) (q : Phase) → is_exact_in q ≡ true → Place list settled s a aired ups downs q
    → (n : ℕ) × At list aired settled n
at_in list settled s a aired ups downs phase.Open e h = (0, h)
at_in list settled s a aired ups downs phase.Select e h = (0, h)
at_in list settled s a aired ups downs phase.Seen e h = (0, h)
at_in list settled s a aired ups downs (phase.Exists k) e h = (k, h.0)
at_in list settled s a aired ups downs (phase.Cue k) e h = (k, h.at)
at_in list settled s a aired ups downs (phase.Wait k) e h = (k, h.at)
at_in list settled s a aired ups downs (phase.Check k) e h = (k + 1, h.at)
at_in list settled s a aired ups downs phase.Drain e h = (length list, h)
at_in list settled s a aired ups downs phase.Close e h = (length list, h)
at_in list settled s a aired ups downs q e h = cc

-- a NAK fits no command
nak_fits : (c : Command) (byte : ℕ) → fits c (reply.Nak byte) ≡ false
nak_fits (command.Open port lock) byte = refl
nak_fits _ byte = refl

-- a forged NAK
strays : (list : List Item) (clips : List (ClipId × Timecode)) (port limit : ℕ) (s : Bool) (a : Cued)
    (aired : List Item) (ups : List Answer) (downs : List Phase) (state : State) (counts : Bool) (q : Phase)
    (c : Command) (r : Reply) → is_no_answer Plain (Some (heard.Reply r)) ≡ true → (is_refusal r || fits c r) ≡ true
    → Here list state.settled s a aired ups downs q
    → LeadsBy Plain Place Safe list clips state.settled s a aired ups downs limit state port counts q (Some r)
strays list clips port limit s a aired ups downs state counts q c (reply.Nak byte) none f h =
    by (is_refusal (reply.Nak byte)) refl
  where
    by : (b : Bool) → is_refusal (reply.Nak byte) ≡ b → Leads list clips state.settled s a aired ups downs
        (if b then on_refusal (length list) q else on_reply Plain list limit state.take state.tries q (reply.Nak byte))
    by true e = refused list clips state.settled s a aired ups downs q h
    by false e = clash (is_refusal (reply.Nak byte) || fits c (reply.Nak byte)) f
        (or_from (is_refusal (reply.Nak byte)) (fits c (reply.Nak byte)) e (nak_fits c byte))
strays list clips port limit s a aired ups downs state counts q c _ none f h = cc

pub either : (a b : Bool) → (a || b) ≡ true → a ≡ false → b ≡ true
either a b e f = grind arith

answers : (list : List Item) (clips : List (ClipId × Timecode)) (port limit : ℕ) (s : Bool) (a : Cued)
    (aired : List Item) (x : Answer) (ups : List Answer) (downs : List Phase) (state : State) (counts : Bool)
    (q : Phase) (c : Command) → command_in list port q ≡ Some c → (is_refusal x.reply || fits c x.reply) ≡ true
    → Holds Plain Place Safe list clips state.settled s a aired (x ∷ ups) downs (Awaiting q)
    → LeadsBy Plain Place Safe list clips state.settled s a aired (x ∷ ups) downs limit state port counts q
    (Some x.reply)
answers list clips port limit s a aired x ups downs state counts q c is f h = by (is_refusal x.reply) refl
  where
    by : (b : Bool) → is_refusal x.reply ≡ b → Leads list clips state.settled s a aired (x ∷ ups) downs
        (if b then on_refusal (length list) q else on_reply Plain list limit state.take state.tries q x.reply)
    by true r = refused list clips state.settled s a aired (x ∷ ups) downs q h.place
    by false r = replied list clips state.settled s a aired x ups downs limit state.tries state.take q
        (record {
          no_refusal = r;
          asked = fits_asked list port q c x.reply is (either (is_refusal x.reply) (fits c x.reply) f r);
          fit = h.fit;
          true_told = h.true_told;
        }) h.place

pub plain_tended : Tended Plain Place Safe
plain_tended = record {
  lessens = place_lessens;
  calm_lessens = safe_lessens;
  reads = λ list settled s a aired ups d downs q r t b airs fit h x.
      place_keeps list settled s a aired ups d downs q r t b airs fit h.0 h.1 x;
  calm_reads = safe_keeps;
  sends = place_sends;
  asks = place_asks;
  calm_in = λ list settled s a aired ups downs q h. calm_in list settled s a aired ups downs q h.0 h.1;
  halts = λ list settled s a aired ups downs h. h;
  near = λ list settled s a aired downs h. h.near;
  at_in = at_in;
  checks = λ list settled s a aired ups downs k h. h.has_none;
  begins = λ list s a ups downs none. record {
    aired_is = none_taken list;
    within = omega arith;
    settled_is = refl;
  };
  goes_on = goes_on;
  strays = λ list clips port limit s a aired ups downs state counts q c r none ends f h.
      strays list clips port limit s a aired ups downs state counts q c r none f h;
  answers = λ list clips port limit s a aired x ups downs state counts q c is ends f h.
      answers list clips port limit s a aired x ups downs state counts q c is f h;
}
