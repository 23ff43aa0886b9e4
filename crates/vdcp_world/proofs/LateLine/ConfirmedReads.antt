-- The port reads the oldest command on the way down, in confirm mode.
use Rattle.std.proofs.Common.{◌≡◌, ℕ, ◌+◌, ◌*◌, ◌<◌, ◌≤◌, ◌⊎◌, inl, inr, Bool, true, false, not, nat_eq, ◌||◌, List, [], ◌∷◌, ◌++◌, length, refl, arith, sym, ap, subst, ◌∙◌}
use Rattle.std.proofs.lemmas.Bool.{and_left, and_right, or_parts}
use Rattle.std.specs.List.{list_any}
use Rattle.std.specs.Prelude.{slice_get}
use Rattle.vdcp_value.specs.declared.part.Item.{Item}
use Rattle.vdcp_words.specs.declared.reply.Reply.{Reply}
use Rattle.vdcp_port.specs.Port.{Cued, empty, cueing, done, is_done as is_done_cue}
use Rattle.vdcp_auto.specs.Commands.{is_presence}
use Rattle.vdcp_auto.specs.Replies.{is_ack, is_refusal, is_done, is_empty}
use Rattle.vdcp_auto.specs.declared.phase.Mode.TheVariants.{Confirming}
use Rattle.vdcp_auto.specs.declared.phase.Phase.{Phase}
use Rattle.vdcp_auto.specs.declared.phase.Phase.TheVariants as phase
use Rattle.vdcp_world.specs.LateLine.Pipe.{Climbs, stretches}
use Rattle.vdcp_world.proofs.LateLine.ConfirmedPlaces.{tries, Owns, Trying, ToSound, Sounded, Sounding, Spent, Last, Secure, Idle, full_pushed}
use Rattle.vdcp_world.proofs.LateLine.Delivering.{at_same, aired_same, item_same, no_more, pushed, none_pushed, clash, never_empty, ack_fits, airs_none, cueing_cue}
use Rattle.vdcp_world.proofs.LateLine.DeliveringPlay.{airs_item, airs_nothing}
use Rattle.vdcp_world.proofs.LateLine.Executed.{Does, Executed, left_cued, put_on_air}
use Rattle.vdcp_world.proofs.LateLine.Places.{Answer, pipe_of, plays, waits, says_done, says_empty, shows_no_cue, HasItem}
use Rattle.vdcp_world.proofs.LateLine.Safety.{near_same}
use Rattle.vdcp_world.proofs.LateLine.Stretches.{Lies, climbs_after, none_within}
use Rattle.vdcp_world.proofs.PhaseTable.{cued_item, Near}
use Rattle.vdcp_world.proofs.Exchanges.{near_of}
use Rattle.vdcp_world.proofs.LateLine.Lessening.{cues}

-- ---- which phases are in the stretches

pub trying_or_before : (n k : ℕ) (d : Phase) → k < n → Lies Confirming n (5 * k + 2) (5 * k + 4) d
    → ((j : ℕ) × (d ≡ phase.Exists j)) ⊎ (d ≡ phase.Cue k) ⊎ (d ≡ phase.Wait k)
trying_or_before n k (phase.Exists j) below l = inl (j, refl)
trying_or_before n k (phase.Cue j) below l = let e : j ≡ k = omega arith in inr (inl (ap phase.Cue e))
trying_or_before n k (phase.Wait j) below l = let e : j ≡ k = omega arith in inr (inr (ap phase.Wait e))
trying_or_before n k d below l = absurd (omega arith)

pub sounding_or_before : (n k : ℕ) (d : Phase) → k < n → Lies Confirming n (5 * k + 4) (5 * k + 5) d
    → (d ≡ phase.Cue k) ⊎ (d ≡ phase.Wait k) ⊎ (d ≡ phase.Play k) ⊎ (d ≡ phase.Probe k)
sounding_or_before n k (phase.Cue j) below l = let e : j ≡ k = omega arith in inl (ap phase.Cue e)
sounding_or_before n k (phase.Wait j) below l = let e : j ≡ k = omega arith in inr (inl (ap phase.Wait e))
sounding_or_before n k (phase.Play j) below l = let e : j ≡ k = omega arith in inr (inr (inl (ap phase.Play e)))
sounding_or_before n k (phase.Probe j) below l = let e : j ≡ k = omega arith in inr (inr (inr (ap phase.Probe e)))
sounding_or_before n k d below l = absurd (omega arith)

-- between these stretches nothing cues
pub cue_free : (n k low high : ℕ) → 5 * k ≤ low → high ≤ 5 * k + 3 → (d : Phase) → Lies Confirming n low high d
    → cues d ≡ false
cue_free n k low high l h (phase.Cue j) lies = absurd (omega arith)
cue_free n k low high l h d lies = refl

-- ---- what stays

module _ (list : List Item) where
  pub empty_stays : (d : Phase) (s : Bool) (a : Cued) (r : Reply) (t : Bool) (b : Cued) (airs : List Item)
      → cues d ≡ false → a ≡ empty → Does list d s a r t b airs → (b ≡ empty) × (airs ≡ [])
  empty_stays phase.Select s a r t b airs c e h = (h.0 ∙ e, h.1)
  empty_stays (phase.Cue k) s a r t b airs c e h = cc
  empty_stays (phase.Wait k) s a r t b airs c e h = (h.0.1 ∙ e, h.0.2)
  empty_stays (phase.Play k) s a r t b airs c e h = by h.1
    where
      by : ((s ≡ false) × (b ≡ a) × (airs ≡ []) × (is_ack r ≡ false)) ⊎
          ((s ≡ true) × (b ≡ left_cued a) × (airs ≡ put_on_air a)) → (b ≡ empty) × (airs ≡ [])
      by (inl (off, same, none, no_ack)) = (same ∙ e, none)
      by (inr (on, left, aired)) = let n = airs_nothing a e in (left ∙ n.1 ∙ e, aired ∙ n.0)
  empty_stays (phase.Probe k) s a r t b airs c e h = (h.0.1 ∙ e, h.0.2)
  empty_stays phase.Close s a r t b airs c e h = (by h.2, h.1)
    where
      by : (b ≡ empty) ⊎ (b ≡ a) → b ≡ empty
      by (inl none) = none
      by (inr same) = same ∙ e
  empty_stays phase.Halt s a r t b airs c e h = (by h.2, h.1)
    where
      by : (b ≡ empty) ⊎ (b ≡ a) → b ≡ empty
      by (inl none) = none
      by (inr same) = same ∙ e
  empty_stays phase.HaltClose s a r t b airs c e h = (by h.2, h.1)
    where
      by : (b ≡ empty) ⊎ (b ≡ a) → b ≡ empty
      by (inl none) = none
      by (inr same) = same ∙ e
  empty_stays _ s a r t b airs c e h = (h.1 ∙ e, h.2)

  pub idle_keeps : (settled : ℕ) (s : Bool) (a : Cued) (aired : List Item) (d : Phase) (k : ℕ) (r : Reply) (t : Bool)
      (b : Cued) (airs : List Item) → cues d ≡ false → Idle list settled a aired k → Executed list d s a r t b airs
      → Idle list settled b (aired ++ airs) k
  idle_keeps settled s a aired d k r t b airs c h x =
      let after = empty_stays d s a r t b airs c h.1 x.does in
      (at_same list aired airs settled k after.1 h.0, after.0)

  pub owns_same : (a b : Cued) (k : ℕ) → b ≡ a → Owns list a k → Owns list b k
  owns_same a b k e (inl none) = inl (e ∙ none)
  owns_same a b k e (inr is) = inr (ap cued_item e ∙ is)

  owns_cue : (a b : Cued) (k : ℕ) (r : Reply) → ((b ≡ a) × (is_ack r ≡ false)) ⊎ (cued_item b ≡ slice_get list k)
      → Owns list a k → Owns list b k
  owns_cue a b k r (inl (same, no_ack)) h = owns_same a b k same h
  owns_cue a b k r (inr is) h = inr is

  -- a port of which nothing but the item is cued has it, where the cue is done
  done_has : (s : Bool) (a : Cued) (k : ℕ) → Owns list a k → is_done_cue a ≡ true → HasItem list s a k
  done_has s a k (inl none) e = clash (is_done_cue a) e (ap is_done_cue none)
  done_has s a k (inr is) e = λ _. is

-- ---- Cue and Wait

pub presence_no_state : (r : Reply) → (is_refusal r || is_presence r) ≡ true
    → (is_done r ≡ false) × (is_empty r ≡ false)
presence_no_state r e = grind arith

trying_pushed : (list : List Item) (settled : ℕ) (s : Bool) (a : Cued) (aired : List Item) (ups : List Answer) (k : ℕ)
    (d : Phase) (r : Reply) (t : Bool)
    (b : Cued) (airs : List Item)
    → Trying list settled s a aired ups k → airs ≡ [] → Owns list b k
    → (HasItem list s a k → HasItem list t b k) → (is_done r ≡ true → HasItem list t b k)
    → (HasItem list s a k → is_empty r ≡ false)
    → Trying list settled t b (aired ++ airs) (ups ++ record { to = d; reply = r } ∷ []) k
trying_pushed list settled s a aired ups k d r t b airs h none owns still now full = record {
  at = at_same list aired airs settled k none h.at;
  within = h.within;
  owns = owns;
  shown = λ e. by (pushed says_done ups (record { to = d; reply = r }) e);
  full = full_pushed ups (record { to = d; reply = r }) (λ e. full (h.shown e)) h.full;
}
  where
    by : (list_any says_done ups ≡ true) ⊎ (is_done r ≡ true) → HasItem list t b k
    by (inl e) = still (h.shown e)
    by (inr e) = now e

pub trying_keeps : (list : List Item) (settled : ℕ) (s : Bool) (a : Cued) (aired : List Item) (ups : List Answer)
    (d : Phase) (k : ℕ) (r : Reply) (t : Bool)
    (b : Cued) (airs : List Item)
    → Trying list settled s a aired ups k → Lies Confirming (length list) (5 * k + 2) (5 * k + 4) d
    → Executed list d s a r t b airs
    → Trying list settled t b (aired ++ airs) (ups ++ record { to = d; reply = r } ∷ []) k
trying_keeps list settled s a aired ups d k r t b airs h lies x = by (trying_or_before (length list) k d h.within lies)
  where
    Goal : Phase → Type 0
    Goal d =
        Executed list d s a r t b airs → Trying list settled t b (aired ++ airs)
        (ups ++ record { to = d; reply = r } ∷ []) k

    exists : (j : ℕ) → Goal (phase.Exists j)
    exists j x =
        let none = presence_no_state r x.fits in
        trying_pushed list settled s a aired ups k (phase.Exists j) r t b airs h x.does.2
        (owns_same list a b k x.does.1 h.owns)
        (λ q. item_same list s t a b k (no_more s t x.does.0) x.does.1 q) (λ e. clash (is_done r) e none.0)
        (λ q. none.1)

    cue : Goal (phase.Cue k)
    cue x =
        let none = ack_fits r x.fits in
        trying_pushed list settled s a aired ups k (phase.Cue k) r t b airs h x.does.1
        (owns_cue list a b k r x.does.2 h.owns)
        (cueing_cue list s a k r t b x.does.0 x.does.2).0 (λ e. clash (is_done r) e none.0) (λ q. none.1)

    wait : Goal (phase.Wait k)
    wait x =
        trying_pushed list settled s a aired ups k (phase.Wait k) r t b airs h x.does.0.2
        (owns_same list a b k x.does.0.1 h.owns)
        (λ q. item_same list s t a b k (no_more s t x.does.0.0) x.does.0.1 q)
        (λ e. item_same list s t a b k (no_more s t x.does.0.0) x.does.0.1
        (done_has list s a k h.owns (x.does.1.shows_done e)))
        (λ q. never_empty list s a k r h.within q x.does.1)

    by : ((j : ℕ) × (d ≡ phase.Exists j)) ⊎ (d ≡ phase.Cue k) ⊎ (d ≡ phase.Wait k)
        → Trying list settled t b (aired ++ airs) (ups ++ record { to = d; reply = r } ∷ []) k
    by (inl (j, e)) = subst Goal (sym e) (exists j) x
    by (inr (inl e)) = subst Goal (sym e) cue x
    by (inr (inr e)) = subst Goal (sym e) wait x

-- ---- Play and Probe

-- after a PLAY nothing tries to cue
none_tries : (list : List Item) (k : ℕ) (ups : List Answer) (downs : List Phase)
    → Climbs (5 * k + 4) (5 * k + 5) (stretches Confirming (length list) (pipe_of ups (phase.Play k ∷ downs)))
    → list_any tries downs ≡ false
none_tries list k ups downs c =
    none_within Confirming (length list) (5 * k + 5) (5 * k + 5) tries downs one
    (climbs_after Confirming (length list) (5 * k + 4) (5 * k + 5) ups (phase.Play k) downs c)
  where
    one : (d : Phase) → Lies Confirming (length list) (5 * k + 5) (5 * k + 5) d → tries d ≡ false
    one (phase.Cue j) l = absurd (omega arith)
    one (phase.Wait j) l = absurd (omega arith)
    one d l = refl

sounded_stays : (list : List Item) (a : Cued) (aired : List Item) (d : Phase) (downs : List Phase) (k : ℕ) (b : Cued)
    (airs : List Item)
    → b ≡ empty → airs ≡ [] → Sounded list a aired (d ∷ downs) k → Sounded list b (aired ++ airs) downs k
sounded_stays list a aired d downs k b airs none nothing h = record {
  aired_is = aired_same aired airs nothing ∙ h.aired_is;
  is_empty = none;
  none_tries = (or_parts (tries d) (list_any tries downs) h.none_tries).1;
}

pub tries_not_cues : (d : Phase) → tries d ≡ false → cues d ≡ false
tries_not_cues d e = grind arith

tries_not_waits : (d : Phase) → tries d ≡ false → waits d ≡ false
tries_not_waits d e = grind arith

module _ (list : List Item) (settled : ℕ) (s : Bool) (a : Cued) (aired : List Item) where
  -- what was aired before stays so, whatever comes
  sounding_after : (ups : List Answer) (d : Phase) (downs : List Phase) (k : ℕ) (r : Reply) (t : Bool) (b : Cued)
      (airs : List Item) → Sounding list settled s a aired ups (d ∷ downs) k → Sounded list a aired (d ∷ downs) k
      → Executed list d s a r t b airs → Sounding list settled t b (aired ++ airs) (ups ++ record { to = d; reply = r }
      ∷ []) downs k
  sounding_after ups d downs k r t b airs h q x =
      let silent = (or_parts (tries d) (list_any tries downs) q.none_tries).0 in
      let after = empty_stays list d s a r t b airs (tries_not_cues d silent) q.is_empty x.does in
      record {
        settled_is = h.settled_is;
        within = h.within;
        never_none = none_pushed shows_no_cue ups (record { to = d; reply = r }) h.never_none
            (and_left (waits d) (is_empty r) (tries_not_waits d silent));
        stands = inr (sounded_stays list a aired d downs k b airs after.0 after.1 q);
      }

  -- before the event airs
  sounding_before : (ups : List Answer) (d : Phase) (downs : List Phase) (k : ℕ) (r : Reply) (t : Bool) (b : Cued)
      (airs : List Item) → Sounding list settled s a aired ups (d ∷ downs) k → ToSound list s a aired ups k → airs ≡ []
      → is_empty r ≡ false → Owns list b k → HasItem list t b k
      → Sounding list settled t b (aired ++ airs) (ups ++ record { to = d; reply = r } ∷ []) downs k
  sounding_before ups d downs k r t b airs h q none full owns has = record {
    settled_is = h.settled_is;
    within = h.within;
    never_none =
        none_pushed shows_no_cue ups (record { to = d; reply = r }) h.never_none (and_right (waits d) (is_empty r)
        full);
    stands = inl (record {
      aired_is = aired_same aired airs none ∙ q.aired_is;
      owns = owns;
      has_item = has;
      no_empty = none_pushed says_empty ups (record { to = d; reply = r }) q.no_empty full;
    });
  }

sounding_play : (list : List Item) (settled : ℕ) (s : Bool) (a : Cued) (aired : List Item) (ups : List Answer)
    (downs : List Phase) (k : ℕ) (r : Reply)
    (t : Bool) (b : Cued) (airs : List Item)
    → Sounding list settled s a aired ups (phase.Play k ∷ downs) k → ToSound list s a aired ups k
    → list_any tries downs ≡ false
    → Executed list (phase.Play k) s a r t b airs
    → Sounding list settled t b (aired ++ airs) (ups ++ record { to = phase.Play k; reply = r } ∷ []) downs k
sounding_play list settled s a aired ups downs k r t b airs h q none x = by x.does.1
  where
    full : is_empty r ≡ false
    full = (ack_fits r x.fits).1

    same : b ≡ a → airs ≡ [] → Sounding list settled t b (aired ++ airs)
        (ups ++ record { to = phase.Play k; reply = r } ∷ []) downs k
    same ba nothing = sounding_before list settled s a aired ups (phase.Play k) downs k r t b airs h q nothing full
        (owns_same list a b k ba q.owns)
        (item_same list s t a b k (no_more s t x.does.0) ba q.has_item)

    on : (c : Cued) → a ≡ c → s ≡ true → b ≡ left_cued c → airs ≡ put_on_air c
        → Sounding list settled t b (aired ++ airs) (ups ++ record { to = phase.Play k; reply = r } ∷ []) downs k
    on empty e sel left plays = same (left ∙ sym e) plays
    on (cueing item) e sel left plays = same (left ∙ sym e) plays
    on (done item) e sel left plays = record {
      settled_is = h.settled_is;
      within = h.within;
      never_none = none_pushed shows_no_cue ups (record { to = phase.Play k; reply = r }) h.never_none refl;
      stands = inr (record {
        aired_is = ap (λ (more : List Item). aired ++ more) plays
            ∙ airs_item list aired k (done item) h.within q.aired_is (sym (ap cued_item e) ∙ q.has_item sel) refl;
        is_empty = left;
        none_tries = none;
      });
    }

    by : ((s ≡ false) × (b ≡ a) × (airs ≡ []) × (is_ack r ≡ false)) ⊎
        ((s ≡ true) × (b ≡ left_cued a) × (airs ≡ put_on_air a))
        → Sounding list settled t b (aired ++ airs) (ups ++ record { to = phase.Play k; reply = r } ∷ []) downs k
    by (inl (off, ba, nothing, no_ack)) = same ba nothing
    by (inr (sel, left, plays)) = on a refl sel left plays

pub sounding_keeps : (list : List Item) (settled : ℕ) (s : Bool) (a : Cued) (aired : List Item) (ups : List Answer)
    (d : Phase) (downs : List Phase) (k : ℕ)
    (r : Reply) (t : Bool) (b : Cued) (airs : List Item)
    → Sounding list settled s a aired ups (d ∷ downs) k
    → Climbs (5 * k + 4) (5 * k + 5) (stretches Confirming (length list) (pipe_of ups (d ∷ downs)))
    → Lies Confirming (length list) (5 * k + 4) (5 * k + 5) d → Executed list d s a r t b airs
    → Sounding list settled t b (aired ++ airs) (ups ++ record { to = d; reply = r } ∷ []) downs k
sounding_keeps list settled s a aired ups d downs k r t b airs h c lies x = by h.stands
  where
    Goal : Phase → Type 0
    Goal d = Sounding list settled s a aired ups (d ∷ downs) k
        → Climbs (5 * k + 4) (5 * k + 5) (stretches Confirming (length list) (pipe_of ups (d ∷ downs)))
        → Executed list d s a r t b airs
        → Sounding list settled t b (aired ++ airs) (ups ++ record { to = d; reply = r } ∷ []) downs k

    before : ToSound list s a aired ups k → (d ≡ phase.Cue k) ⊎ (d ≡ phase.Wait k) ⊎ (d ≡ phase.Play k) ⊎
        (d ≡ phase.Probe k) → Goal d
    before q (inl e) = subst Goal (sym e) (λ h c x.
        sounding_before list settled s a aired ups (phase.Cue k) downs k r t b airs h q x.does.1 (ack_fits r x.fits).1
        (owns_cue list a b k r x.does.2 q.owns)
        ((cueing_cue list s a k r t b x.does.0 x.does.2).0 q.has_item))
    before q (inr (inl e)) = subst Goal (sym e) (λ h c x.
        sounding_before list settled s a aired ups (phase.Wait k) downs k r t b airs h q x.does.0.2
        (never_empty list s a k r h.within q.has_item x.does.1)
        (owns_same list a b k x.does.0.1 q.owns) (item_same list s t a b k
        (no_more s t x.does.0.0) x.does.0.1 q.has_item))
    before q (inr (inr (inl e))) = subst Goal (sym e) (λ h c x.
        sounding_play list settled s a aired ups downs k r t b airs h q (none_tries list k ups downs c) x)
    before q (inr (inr (inr e))) = subst Goal (sym e) (λ h c x.
        sounding_before list settled s a aired ups (phase.Probe k) downs k r t b airs h q x.does.0.2
        (never_empty list s a k r h.within q.has_item x.does.1)
        (owns_same list a b k x.does.0.1 q.owns) (item_same list s t a b k
        (no_more s t x.does.0.0) x.does.0.1 q.has_item))

    by : ToSound list s a aired ups k ⊎ Sounded list a aired (d ∷ downs) k
        → Sounding list settled t b (aired ++ airs) (ups ++ record { to = d; reply = r } ∷ []) downs k
    by (inl q) = before q (sounding_or_before (length list) k d h.within lies) h c x
    by (inr q) = sounding_after list settled s a aired ups d downs k r t b airs h q x

-- ---- in the halt, and after an end

-- the port does nothing to what is cued but empty it, and airs nothing
last_same : (list : List Item) (settled : ℕ) (a : Cued) (aired : List Item) (d : Phase) (downs : List Phase) (b : Cued)
    (airs : List Item)
    → Near list aired settled → Last list settled a aired (d ∷ downs) → airs ≡ [] → Owns list b settled
    → Secure list settled b (aired ++ airs) downs
last_same list settled a aired d downs b airs near q none owns = record {
  near = near_same list aired airs settled none near;
  calm = inr (inr (record {
    aired_is = aired_same aired airs none ∙ q.aired_is;
    within = q.within;
    owns = owns;
    last =
        q.last.2;
  }));
}

owns_or_none : (list : List Item) (a b : Cued) (k : ℕ) → (b ≡ empty) ⊎ (b ≡ a) → Owns list a k → Owns list b k
owns_or_none list a b k (inl none) h = inl none
owns_or_none list a b k (inr same) h = owns_same list a b k same h

same_number : (j s : ℕ) → not (nat_eq j s) ≡ false → j ≡ s
same_number j s e = grind arith

-- a PLAY, whatever is cued
last_play : (list : List Item) (settled : ℕ) (a : Cued) (aired : List Item) (j : ℕ) (downs : List Phase) (b : Cued)
    (airs : List Item) (c : Cued) → a ≡ c
    → Near list aired settled → Last list settled a aired (phase.Play j ∷ downs) → b ≡ left_cued c → airs ≡ put_on_air c
    → Secure list settled b (aired ++ airs) downs
last_play list settled a aired j downs b airs empty e near q left plays =
    last_same list settled a aired (phase.Play j) downs b airs near q plays (inl left)
last_play list settled a aired j downs b airs (cueing item) e near q left plays =
    last_same list settled a aired (phase.Play j) downs b airs near q plays
    (owns_same list a b settled (left ∙ sym e) q.owns)
last_play list settled a aired j downs b airs (done item) e near q left plays =
    let has : cued_item a ≡ slice_get list settled = done_has list true a settled q.owns (ap is_done_cue e) refl in
    let now = ap (λ (more : List Item). aired ++ more) plays ∙ airs_item list aired settled
    (done item) q.within q.aired_is (sym (ap cued_item e) ∙ has) refl in
    record {
      near =
          near_of list (aired ++ airs) settled (settled + 1) now (omega (arith, q.within)) (omega arith) (omega arith);
      calm = inr (inl (record { is_empty = left; none_cues = q.last.1 refl }));
    }

module _ (list : List Item) (settled : ℕ) (s : Bool) (a : Cued) (aired : List Item) where
  last_does : (d : Phase) (downs : List Phase) (r : Reply) (t : Bool) (b : Cued) (airs : List Item)
      → Near list aired settled → Last list settled a aired (d ∷ downs) → Does list d s a r t b airs
      → Secure list settled b (aired ++ airs) downs
  last_does phase.Select downs r t b airs near q x =
      last_same list settled a aired phase.Select downs b airs near q x.1 (owns_same list a b settled x.0 q.owns)
  last_does (phase.Cue k) downs r t b airs near q x =
      last_same list settled a aired (phase.Cue k) downs b airs near q x.1 (owns_cue list a b settled r
      (subst (λ (j : ℕ). ((b ≡ a) × (is_ack r ≡ false)) ⊎ (cued_item b ≡ slice_get list j)) (same_number k settled
      q.last.0) x.2) q.owns)
  last_does (phase.Wait k) downs r t b airs near q x =
      last_same list settled a aired (phase.Wait k) downs b airs near q x.0.2 (owns_same list a b settled x.0.1 q.owns)
  last_does (phase.Play k) downs r t b airs near q x = by x.1
    where
      by : ((s ≡ false) × (b ≡ a) × (airs ≡ []) × (is_ack r ≡ false)) ⊎
          ((s ≡ true) × (b ≡ left_cued a) × (airs ≡ put_on_air a))
          → Secure list settled b (aired ++ airs) downs
      by (inl (off, same, none, no_ack)) =
          last_same list settled a aired (phase.Play k) downs b airs near q none (owns_same list a b settled same
          q.owns)
      by (inr (on, left, plays)) = last_play list settled a aired k downs b airs a refl near q left plays
  last_does (phase.Probe k) downs r t b airs near q x =
      last_same list settled a aired (phase.Probe k) downs b airs near q x.0.2 (owns_same list a b settled x.0.1 q.owns)
  last_does phase.Close downs r t b airs near q x =
      last_same list settled a aired phase.Close downs b airs near q x.1 (owns_or_none list a b settled x.2 q.owns)
  last_does phase.Halt downs r t b airs near q x =
      last_same list settled a aired phase.Halt downs b airs near q x.1 (owns_or_none list a b settled x.2 q.owns)
  last_does phase.HaltClose downs r t b airs near q x =
      last_same list settled a aired phase.HaltClose downs b airs near q x.1 (owns_or_none list a b settled x.2 q.owns)
  last_does o downs r t b airs near q x =
      last_same list settled a aired o downs b airs near q x.2 (owns_same list a b settled x.1 q.owns)

  pub secure_keeps : (d : Phase) (downs : List Phase) (r : Reply) (t : Bool) (b : Cued) (airs : List Item)
      → Secure list settled a aired (d ∷ downs) → Executed list d s a r t b airs
      → Secure list settled b (aired ++ airs) downs
  secure_keeps d downs r t b airs h x = by h.calm
    where
      by : (list_any plays (d ∷ downs) ≡ false) ⊎ Spent a (d ∷ downs) ⊎ Last list settled a aired (d ∷ downs)
          → Secure list settled b (aired ++ airs) downs
      by (inl none) = record {
        near = near_same list aired airs settled (airs_none list d s a r t b airs
            (or_parts (plays d) (list_any plays downs) none).0 x.does) h.near;
        calm = inl (or_parts (plays d) (list_any plays downs) none).1;
      }
      by (inr (inl q)) =
          let after = empty_stays list d s a r t b airs (or_parts (cues d) (list_any cues downs) q.none_cues).0
          q.is_empty
          x.does in
          record {
            near = near_same list aired airs settled after.1 h.near;
            calm =
                inr (inl (record {
                  is_empty = after.0;
                  none_cues = (or_parts (cues d) (list_any cues downs) q.none_cues).1;
                }));
          }
      by (inr (inr q)) = last_does d downs r t b airs h.near q x.does
