-- What the controller sends keeps the places of plain mode, and so does what the port reads, or a copy of it.
use Rattle.std.proofs.Common.{◌≡◌, ℕ, ◌+◌, ◌*◌, ◌⊎◌, inl, inr, Bool, false, List, [], ◌∷◌, ◌++◌, length, refl, arith, Some, ap, sym}
use Rattle.std.specs.List.{list_any}
use Rattle.vdcp_value.specs.declared.part.Item.{Item}
use Rattle.vdcp_words.specs.declared.reply.Reply.{Reply}
use Rattle.vdcp_port.specs.Port.{Cued}
use Rattle.vdcp_auto.specs.declared.phase.Mode.TheVariants.{Plain}
use Rattle.vdcp_auto.specs.declared.phase.Phase.{Phase}
use Rattle.vdcp_auto.specs.declared.phase.Phase.TheVariants as phase
use Rattle.vdcp_world.specs.LateLine.Asking.{asked_by}
use Rattle.vdcp_world.specs.LateLine.Asking.{Question}
use Rattle.vdcp_world.specs.LateLine.Asking as question
use Rattle.vdcp_world.proofs.LateLine.Lessening.{unwrapped}
use Rattle.vdcp_world.specs.LateLine.Pipe.{IsPipe}
use Rattle.vdcp_world.proofs.LateLine.ConfirmedPlaces.{none_sent}
use Rattle.vdcp_world.proofs.LateLine.Delivering.{at_same, airs_none, cueing_keeps, waiting_keeps}
use Rattle.vdcp_world.proofs.LateLine.DeliveringPlay.{playing_keeps, checking_keeps}
use Rattle.vdcp_world.proofs.LateLine.Executed.{Executed}
use Rattle.vdcp_world.proofs.LateLine.Places.{Answer, pipe_of, plays, waits, arms, misfits, At, ToAir, OnAir, Playing, Unarmed, Safe, Place, LastCue, says_ack, says_done, says_empty, shows_no_cue}
use Rattle.vdcp_world.proofs.LateLine.Safety.{safe_keeps, quiet, quiet_first}
use Rattle.vdcp_world.proofs.LateLine.Stretches.{lies_at}
use Rattle.vdcp_world.proofs.LateLine.Lessening.{Lessens, done_ages, item_ages, none_ages}

-- ---- the controller sends

module _ (list : List Item) (settled : ℕ) (s : Bool) (a : Cued) (aired : List Item) where
  playing_sends : (ups : List Answer) (downs : List Phase) (k : ℕ) (q : Phase) → waits q ≡ false
      → Playing list settled s a aired ups downs k → Playing list settled s a aired ups (downs ++ q ∷ []) k
  playing_sends ups downs k q silent h = record {
    settled_is = h.settled_is;
    within = h.within;
    never_none = h.never_none;
    stands = by h.stands;
  }
    where
      by : ToAir list s a aired ups k ⊎ OnAir list s a aired downs k
          → ToAir list s a aired ups k ⊎ OnAir list s a aired (downs ++ q ∷ []) k
      by (inl h) = inl h
      by (inr h) = inr (record {
        aired_is = h.aired_is;
        has_none = h.has_none;
        none_waits = none_sent waits downs q h.none_waits silent;
      })

  safe_sends : (downs : List Phase) (q : Phase) → plays q ≡ false → arms q ≡ false → Safe list settled s a aired downs
      → Safe list settled s a aired (downs ++ q ∷ [])
  safe_sends downs q no_play no_arm h = record { near = h.near; calm = by h.calm }
    where
      by : (list_any plays downs ≡ false) ⊎ Unarmed list settled s a aired downs
          → (list_any plays (downs ++ q ∷ []) ≡ false) ⊎ Unarmed list settled s a aired (downs ++ q ∷ [])
      by (inl e) = inl (none_sent plays downs q e no_play)
      by (inr u) = inr (record { none_arms = none_sent arms downs q u.none_arms no_arm; last = u.last })

  pub place_sends : (ups : List Answer) (downs : List Phase) (q : Phase) → Place list settled s a aired ups downs q
      → Place list settled s a aired ups (downs ++ q ∷ []) q
  place_sends ups downs (phase.Play k) h = playing_sends ups downs k (phase.Play k) refl h
  place_sends ups downs (phase.Probe k) h = playing_sends ups downs k (phase.Probe k) refl h
  place_sends ups downs phase.Halt h = safe_sends downs phase.Halt refl refl h
  place_sends ups downs phase.HaltClose h = safe_sends downs phase.HaltClose refl refl h
  place_sends ups downs _ h = h

  -- ---- the automation asks

  pub place_asks : (ups : List Answer) (downs : List Phase) (asks : Question) (q d : Phase) → asked_by asks q ≡ Some d
      → Place list settled s a aired ups downs q → Place list settled s a aired ups (downs ++ d ∷ []) q
  place_asks ups downs question.State (phase.Play k) d is h =
      playing_sends ups downs k d (ap waits (sym (unwrapped is))) h
  place_asks ups downs question.State (phase.Probe k) d is h =
      playing_sends ups downs k d (ap waits (sym (unwrapped is))) h
  place_asks ups downs asks phase.Halt d is h = cc
  place_asks ups downs asks phase.HaltClose d is h = cc
  place_asks ups downs question.Open (phase.Play k) d is h = cc
  place_asks ups downs question.Open (phase.Probe k) d is h = cc
  place_asks ups downs question.Select (phase.Play k) d is h = cc
  place_asks ups downs question.Select (phase.Probe k) d is h = cc
  place_asks ups downs asks _ d is h = h

  -- ---- the port reads the oldest command

  pub quiet_keeps : (d : Phase) (k : ℕ) (r : Reply) (t : Bool) (b : Cued) (airs : List Item) → plays d ≡ false
      → At list aired settled k → Executed list d s a r t b airs → At list (aired ++ airs) settled k
  quiet_keeps d k r t b airs silent h x =
      at_same list aired airs settled k (airs_none list d s a r t b airs silent x.does) h

  pub place_keeps : (ups : List Answer) (d : Phase) (downs : List Phase) (q : Phase) (r : Reply) (t : Bool) (b : Cued)
      (airs : List Item) → list_any misfits ups ≡ false → Place list settled s a aired ups (d ∷ downs) q
      → IsPipe Plain (length list) q (pipe_of ups (d ∷ downs)) → Executed list d s a r t b airs
      → Place list settled t b (aired ++ airs) (ups ++ record { to = d; reply = r } ∷ []) downs q
  place_keeps ups d downs (phase.Exists k) r t b airs fit h c x = (
    quiet_keeps d k r t b airs
        (quiet Plain (length list) k (5 * k + 1) (5 * k + 2) (omega arith) (omega arith) d
        (lies_at Plain (length list) (5 * k + 1) (5 * k + 2) ups d downs c)) h.0 x,
    h.1,
  )
  place_keeps ups d downs (phase.Cue k) r t b airs fit h c x =
      cueing_keeps list settled s a aired ups k d r t b airs h (lies_at Plain (length list) (5 * k + 2) (5 * k + 3) ups
      d downs c) x
  place_keeps ups d downs (phase.Wait k) r t b airs fit h c x =
      waiting_keeps list settled s a aired ups d downs k r t b airs h fit c (lies_at Plain (length list) (5 * k + 3)
      (5 * k + 4) ups d downs c) x
  place_keeps ups d downs (phase.Play k) r t b airs fit h c x =
      playing_keeps list settled s a aired ups d downs k r t b airs h c (lies_at Plain (length list) (5 * k + 4)
      (5 * k + 5) ups d downs c) x
  place_keeps ups d downs (phase.Probe k) r t b airs fit h c x =
      playing_keeps list settled s a aired ups d downs k r t b airs h c (lies_at Plain (length list) (5 * k + 4)
      (5 * k + 5) ups d downs c) x
  place_keeps ups d downs (phase.Check k) r t b airs fit h c x =
      checking_keeps list settled s a aired d k r t b airs h (lies_at Plain (length list) (5 * k + 5) (5 * k + 6) ups d
      downs c) x
  place_keeps ups d downs phase.Drain r t b airs fit h c x =
      quiet_keeps d (length list) r t b airs (quiet Plain (length list) (length list) (5 * length list + 1)
      (5 * length list + 2) (omega arith) (omega arith) d (lies_at Plain (length list) (5 * length list + 1)
      (5 * length list + 2) ups d downs c)) h x
  place_keeps ups d downs phase.Close r t b airs fit h c x =
      quiet_keeps d (length list) r t b airs (quiet Plain (length list) (length list) (5 * length list + 1)
      (5 * length list + 3) (omega arith) (omega arith) d (lies_at Plain (length list) (5 * length list + 1)
      (5 * length list + 3) ups d downs c)) h x
  place_keeps ups d downs phase.Halt r t b airs fit h c x = safe_keeps list settled s a aired d downs r t b airs h x
  place_keeps ups d downs phase.HaltClose r t b airs fit h c x =
      safe_keeps list settled s a aired d downs r t b airs h x
  place_keeps ups d downs _ r t b airs fit h c x =
      quiet_keeps d 0 r t b airs (quiet_first Plain (length list) d (lies_at Plain (length list) 1 1 ups d downs c)) h x

-- ---- less of all

module _ (list : List Item) (settled : ℕ) (s : Bool) (a : Cued) (aired : List Item) (ups : List Answer)
    (downs : List Phase) (t : Bool) (b : Cued) (others : List Answer) (left : List Phase)
    (g : Lessens s a ups downs t b others left) where
  playing_lessens : (k : ℕ) → Playing list settled s a aired ups downs k → Playing list settled t b aired others left k
  playing_lessens k h = record {
    settled_is = h.settled_is;
    within = h.within;
    never_none = g.ups_none shows_no_cue h.never_none;
    stands = by h.stands;
  }
    where
      by : ToAir list s a aired ups k ⊎ OnAir list s a aired downs k
          → ToAir list t b aired others k ⊎ OnAir list t b aired left k
      by (inl q) = inl (record {
        aired_is = q.aired_is;
        has_item = item_ages list s a t b k g.ages q.has_item;
        has_done = done_ages s a t b g.ages q.has_done;
        no_ack = g.ups_none says_ack q.no_ack;
        no_empty = g.ups_none says_empty q.no_empty;
      })
      by (inr q) = inr (record {
        aired_is = q.aired_is;
        has_none = none_ages s a t b g.ages q.has_none;
        none_waits = g.downs_none waits q.none_waits;
      })

  pub safe_lessens : Safe list settled s a aired downs → Safe list settled t b aired left
  safe_lessens h = record { near = h.near; calm = by h.calm }
    where
      cue : LastCue list settled s a aired → LastCue list settled t b aired
      cue (inl e) = inl (none_ages s a t b g.ages e)
      cue (inr (is, within, e)) = inr (is, within, item_ages list s a t b settled g.ages e)

      by : (list_any plays downs ≡ false) ⊎ Unarmed list settled s a aired downs
          → (list_any plays left ≡ false) ⊎ Unarmed list settled t b aired left
      by (inl e) = inl (g.downs_none plays e)
      by (inr u) = inr (record { none_arms = g.downs_none arms u.none_arms; last = cue u.last })

  pub place_lessens : (q : Phase) → Place list settled s a aired ups downs q
      → Place list settled t b aired others left q
  place_lessens (phase.Cue k) h = record {
    at = h.at;
    within = h.within;
    taken = λ e. item_ages list s a t b k g.ages (h.taken (g.ups_any says_ack e));
  }
  place_lessens (phase.Wait k) h = record {
    at = h.at;
    within = h.within;
    has_item = item_ages list s a t b k g.ages h.has_item;
    shown = λ e. done_ages s a t b g.ages (h.shown (g.ups_any says_done e));
    never_none = g.ups_none shows_no_cue h.never_none;
  }
  place_lessens (phase.Play k) h = playing_lessens k h
  place_lessens (phase.Probe k) h = playing_lessens k h
  place_lessens (phase.Check k) h =
      record { at = h.at; within = h.within; has_none = none_ages s a t b g.ages h.has_none }
  place_lessens phase.Halt h = safe_lessens h
  place_lessens phase.HaltClose h = safe_lessens h
  place_lessens _ h = h
