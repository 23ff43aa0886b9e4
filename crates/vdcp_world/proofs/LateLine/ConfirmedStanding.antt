-- What is on the way in confirm mode is secure in each phase; and what the controller sends keeps the places, as what
-- the port reads does.
use Rattle.std.proofs.Common.{◌≡◌, ℕ, ◌+◌, ◌*◌, ◌≤◌, ◌⊎◌, inl, inr, Bool, true, false, List, [], ◌∷◌, ◌++◌, length, take, refl, arith, sym, ap, subst, ◌∙◌, Some}
use Rattle.std.proofs.lemmas.Bool.{or_parts}
use Rattle.std.specs.List.{list_any}
use Rattle.vdcp_value.specs.declared.part.Item.{Item}
use Rattle.vdcp_words.specs.declared.reply.Reply.{Reply}
use Rattle.vdcp_port.specs.Port.{Cued}
use Rattle.vdcp_auto.specs.declared.phase.Mode.TheVariants.{Confirming}
use Rattle.vdcp_auto.specs.declared.phase.Phase.{Phase}
use Rattle.vdcp_auto.specs.declared.phase.Phase.TheVariants as phase
use Rattle.vdcp_world.specs.LateLine.Asking.{asked_by}
use Rattle.vdcp_world.specs.LateLine.Asking.{Question}
use Rattle.vdcp_world.specs.LateLine.Asking as question
use Rattle.vdcp_world.proofs.LateLine.Lessening.{unwrapped}
use Rattle.vdcp_world.specs.LateLine.Pipe.{stretch, Climbs, stretches, IsPipe}
use Rattle.vdcp_world.proofs.LateLine.ConfirmedPlaces.{tries, Owns, ToSound, Sounded, Sounding, Spent, Last, Secure, Spot, none_sent, last_sent}
use Rattle.vdcp_world.proofs.LateLine.ConfirmedReads.{cue_free, idle_keeps, trying_keeps, sounding_keeps, secure_keeps, tries_not_cues}
use Rattle.vdcp_world.proofs.LateLine.Executed.{Executed}
use Rattle.vdcp_world.proofs.LateLine.Pipes.{climbs_within}
use Rattle.vdcp_world.proofs.LateLine.Places.{Answer, pipe_of, plays, At}
use Rattle.vdcp_world.proofs.LateLine.Safety.{near_at, none_plays, quiet}
use Rattle.vdcp_world.proofs.LateLine.Standing.{quiet_keeps}
use Rattle.vdcp_world.proofs.LateLine.Stretches.{Lies, lies_at, downs_climb, none_within}
use Rattle.vdcp_world.proofs.Exchanges.{near_of}
use Rattle.vdcp_world.proofs.LateLine.Lessening.{cues, cues_other, LastOf}

-- ---- what is on the way is secure in each phase

last_other : (n k : ℕ) (d : Phase) → Lies Confirming n (5 * k + 4) (5 * k + 5) d → cues_other k d ≡ false
last_other n k (phase.Cue j) l = let e : j ≡ k = omega arith in grind arith
last_other n k d l = refl

last_play : (n k : ℕ) (d : Phase) → plays d ≡ true → 5 * k + 4 ≤ stretch Confirming n d
    → 5 * k + 5 ≤ stretch Confirming n d
last_play n k (phase.Play j) e l = omega arith
last_play n k d e l = cc

last_within : (n k low : ℕ) (downs : List Phase) → 5 * k + 4 ≤ low
    → Climbs low (5 * k + 5) (stretches Confirming n downs) → LastOf k downs
last_within n k low [] l c = tt
last_within n k low (d ∷ downs) l c = (
  last_other n k d (omega (arith, l, c.0), c.1),
  λ e. none_within Confirming n (5 * k + 5) (5 * k + 5) cues downs
      (cue_free n (k + 1) (5 * k + 5) (5 * k + 5) (omega arith) (omega arith))
      (climbs_within (stretch Confirming n d) (5 * k + 5) (5 * k + 5) (5 * k + 5) (stretches Confirming n downs)
      (last_play n k d e (omega (arith, l, c.0))) (omega arith) c.2),
  last_within n k (stretch Confirming n d) downs (omega (arith, l, c.0)) c.2,
)

none_weaker : (test other : Phase → Bool) (downs : List Phase) → ((d : Phase) → test d ≡ false → other d ≡ false)
    → list_any test downs ≡ false → list_any other downs ≡ false
none_weaker test other [] f e = refl
none_weaker test other (d ∷ downs) f e =
    let here = f d (or_parts (test d) (list_any test downs) e).0 in
    let rest = none_weaker test other downs f (or_parts (test d) (list_any test downs) e).1 in
    rw here rest

secure_calm : (list : List Item) (settled : ℕ) (a : Cued) (aired : List Item) (downs : List Phase) (k : ℕ)
    → At list aired settled k → list_any plays downs ≡ false → Secure list settled a aired downs
secure_calm list settled a aired downs k h e = record { near = near_at list aired settled k h; calm = inl e }

module _ (list : List Item) (settled : ℕ) (s : Bool) (a : Cued) (aired : List Item) (ups : List Answer)
    (downs : List Phase) where
  secure_sounding : (k : ℕ) → Sounding list settled s a aired ups downs k → LastOf k downs
      → Secure list settled a aired downs
  secure_sounding k h l = by h.stands
    where
      by : ToSound list s a aired ups k ⊎ Sounded list a aired downs k → Secure list settled a aired downs
      by (inl q) = record {
        near = near_of list aired settled k q.aired_is (omega (arith, h.within)) (omega (arith, h.settled_is))
            (omega (arith, h.settled_is));
        calm = inr (inr (record {
          aired_is = q.aired_is ∙ sym (ap (λ (n : ℕ). take n list) h.settled_is);
          within = omega (arith, h.settled_is, h.within);
          owns = subst (Owns list a) (sym h.settled_is) q.owns;
          last = subst (λ (n : ℕ). LastOf n downs) (sym h.settled_is) l;
        }));
      }
      by (inr q) = record {
        near = near_of list aired settled (k + 1) q.aired_is (omega (arith, h.within)) (omega (arith, h.settled_is))
            (omega (arith, h.settled_is));
        calm = inr (inl (record {
          is_empty = q.is_empty;
          none_cues = none_weaker tries cues downs tries_not_cues
              q.none_tries;
        }));
      }

  pub secure_in : (q : Phase) → Spot list settled s a aired ups downs q
      → IsPipe Confirming (length list) q (pipe_of ups downs) → Secure list settled a aired downs
  secure_in (phase.Exists k) h c =
      secure_calm list settled a aired downs k h.0.0 (none_plays Confirming (length list) ups downs (phase.Exists k)
      refl c)
  secure_in (phase.Cue k) h c =
      secure_calm list settled a aired downs k h.at (none_plays Confirming (length list) ups downs (phase.Cue k) refl c)
  secure_in (phase.Wait k) h c =
      secure_calm list settled a aired downs k h.at (none_plays Confirming (length list) ups downs (phase.Wait k) refl
      c)
  secure_in (phase.Play k) h c =
      secure_sounding k h (last_within (length list) k (5 * k + 4) downs (omega arith) (downs_climb Confirming
      (length list) (5 * k + 4) (5 * k + 5) ups downs c))
  secure_in (phase.Probe k) h c =
      secure_sounding k h (last_within (length list) k (5 * k + 4) downs (omega arith) (downs_climb Confirming
      (length list) (5 * k + 4) (5 * k + 5) ups downs c))
  secure_in (phase.Check k) h c = record {
    near = near_at list aired settled (k + 1) h.0.0;
    calm = inr (inl (record {
      is_empty = h.0.1;
      none_cues = none_within Confirming (length list) (5 * k + 5) (5 * k + 6) cues downs
          (cue_free (length list) (k + 1) (5 * k + 5) (5 * k + 6) (omega arith) (omega arith))
          (downs_climb Confirming (length list) (5 * k + 5) (5 * k + 6) ups downs c);
    }));
  }
  secure_in phase.Drain h c =
      secure_calm list settled a aired downs (length list) h (none_plays Confirming (length list) ups downs phase.Drain
      refl c)
  secure_in phase.Close h c =
      secure_calm list settled a aired downs (length list) h (none_plays Confirming (length list) ups downs phase.Close
      refl c)
  secure_in phase.Halt h c = h
  secure_in phase.HaltClose h c = h
  secure_in q h c =
      secure_calm list settled a aired downs 0 h.0 (none_plays Confirming (length list) ups downs q refl c)

  -- ---- the controller sends

  sounding_sends : (k : ℕ) (q : Phase) → tries q ≡ false → Sounding list settled s a aired ups downs k
      → Sounding list settled s a aired ups (downs ++ q ∷ []) k
  sounding_sends k q silent h = record {
    settled_is = h.settled_is;
    within = h.within;
    never_none = h.never_none;
    stands = by h.stands;
  }
    where
      by : ToSound list s a aired ups k ⊎ Sounded list a aired downs k
          → ToSound list s a aired ups k ⊎ Sounded list a aired (downs ++ q ∷ []) k
      by (inl h) = inl h
      by (inr h) = inr (record {
        aired_is = h.aired_is;
        is_empty = h.is_empty;
        none_tries = none_sent tries downs q
            h.none_tries silent;
      })

secure_sends : (list : List Item) (settled : ℕ) (a : Cued) (aired : List Item) (downs : List Phase) (q : Phase)
    → plays q ≡ false → cues q ≡ false → cues_other settled q ≡ false → Secure list settled a aired downs
    → Secure list settled a aired (downs ++ q ∷ [])
secure_sends list settled a aired downs q no_play no_cue no_other h = record { near = h.near; calm = by h.calm }
  where
    by : (list_any plays downs ≡ false) ⊎ Spent a downs ⊎ Last list settled a aired downs
        → (list_any plays (downs ++ q ∷ []) ≡ false) ⊎ Spent a (downs ++ q ∷ []) ⊎ Last list settled a aired
        (downs ++ q ∷ [])
    by (inl e) = inl (none_sent plays downs q e no_play)
    by (inr (inl h)) =
        inr (inl (record { is_empty = h.is_empty; none_cues = none_sent cues downs q h.none_cues no_cue }))
    by (inr (inr h)) =
        inr (inr (record {
          aired_is = h.aired_is;
          within = h.within;
          owns = h.owns;
          last = last_sent settled downs q
              no_cue no_other h.last;
        }))

module _ (list : List Item) (settled : ℕ) (s : Bool) (a : Cued) (aired : List Item) (ups : List Answer) where
  pub spot_sends : (downs : List Phase) (q : Phase) → Spot list settled s a aired ups downs q
      → Spot list settled s a aired ups (downs ++ q ∷ []) q
  spot_sends downs (phase.Play k) h = sounding_sends list settled s a aired ups downs k (phase.Play k) refl h
  spot_sends downs (phase.Probe k) h = sounding_sends list settled s a aired ups downs k (phase.Probe k) refl h
  spot_sends downs phase.Halt h = secure_sends list settled a aired downs phase.Halt refl refl refl h
  spot_sends downs phase.HaltClose h = secure_sends list settled a aired downs phase.HaltClose refl refl refl h
  spot_sends downs _ h = h

  -- ---- the automation asks

  pub spot_asks : (downs : List Phase) (asks : Question) (q d : Phase) → asked_by asks q ≡ Some d
      → Spot list settled s a aired ups downs q → Spot list settled s a aired ups (downs ++ d ∷ []) q
  spot_asks downs question.State (phase.Play k) d is h =
      sounding_sends list settled s a aired ups downs k d (ap tries (sym (unwrapped is))) h
  spot_asks downs question.State (phase.Probe k) d is h =
      sounding_sends list settled s a aired ups downs k d (ap tries (sym (unwrapped is))) h
  spot_asks downs asks phase.Halt d is h = cc
  spot_asks downs asks phase.HaltClose d is h = cc
  spot_asks downs question.Open (phase.Play k) d is h = cc
  spot_asks downs question.Open (phase.Probe k) d is h = cc
  spot_asks downs question.Select (phase.Play k) d is h = cc
  spot_asks downs question.Select (phase.Probe k) d is h = cc
  spot_asks downs asks _ d is h = h

  -- ---- the port reads the oldest command

  pub spot_keeps : (d : Phase) (downs : List Phase) (q : Phase) (r : Reply) (t : Bool) (b : Cued) (airs : List Item)
      → Spot list settled s a aired ups (d ∷ downs) q → IsPipe Confirming (length list) q (pipe_of ups (d ∷ downs))
      → Executed list d s a r t b airs → Spot list settled t b (aired ++ airs) (ups ++ record { to = d; reply = r } ∷
      []) downs q
  spot_keeps d downs (phase.Exists k) r t b airs h c x =
      let l = lies_at Confirming (length list) (5 * k + 1) (5 * k + 2) ups d downs c in (
        idle_keeps list settled s a aired d k r t b airs (cue_free (length list) k (5 * k + 1) (5 * k + 2) (omega arith)
            (omega arith) d l) h.0 x,
        h.1,
      )
  spot_keeps d downs (phase.Cue k) r t b airs h c x =
      trying_keeps list settled s a aired ups d k r t b airs h (lies_at Confirming (length list) (5 * k + 2) (5 * k + 4)
      ups d downs c) x
  spot_keeps d downs (phase.Wait k) r t b airs h c x =
      trying_keeps list settled s a aired ups d k r t b airs h (lies_at Confirming (length list) (5 * k + 2) (5 * k + 4)
      ups d downs c) x
  spot_keeps d downs (phase.Play k) r t b airs h c x =
      sounding_keeps list settled s a aired ups d downs k r t b airs h c (lies_at Confirming (length list) (5 * k + 4)
      (5 * k + 5) ups d downs c) x
  spot_keeps d downs (phase.Probe k) r t b airs h c x =
      sounding_keeps list settled s a aired ups d downs k r t b airs h c (lies_at Confirming (length list) (5 * k + 4)
      (5 * k + 5) ups d downs c) x
  spot_keeps d downs (phase.Check k) r t b airs h c x =
      let l = lies_at Confirming (length list) (5 * k + 5) (5 * k + 6) ups d downs c in (
        idle_keeps list settled s a aired d (k + 1) r t b airs (cue_free (length list) (k + 1) (5 * k + 5) (5 * k + 6)
            (omega arith) (omega arith) d l) h.0 x,
        h.1,
      )
  spot_keeps d downs phase.Drain r t b airs h c x =
      quiet_keeps list settled s a aired d (length list) r t b airs (quiet Confirming (length list) (length list)
      (5 * length list + 1) (5 * length list + 2) (omega arith) (omega arith) d (lies_at Confirming (length list)
      (5 * length list + 1) (5 * length list + 2) ups d downs c)) h x
  spot_keeps d downs phase.Close r t b airs h c x =
      quiet_keeps list settled s a aired d (length list) r t b airs (quiet Confirming (length list) (length list)
      (5 * length list + 1) (5 * length list + 3) (omega arith) (omega arith) d (lies_at Confirming (length list)
      (5 * length list + 1) (5 * length list + 3) ups d downs c)) h x
  spot_keeps d downs phase.Halt r t b airs h c x = secure_keeps list settled s a aired d downs r t b airs h x
  spot_keeps d downs phase.HaltClose r t b airs h c x = secure_keeps list settled s a aired d downs r t b airs h x
  spot_keeps d downs _ r t b airs h c x =
      let l = lies_at Confirming (length list) 1 1 ups d downs c in idle_keeps list settled s a aired d 0 r t b airs
      (cue_free (length list) 0 1 1 (omega arith) (omega arith) d l) h x
