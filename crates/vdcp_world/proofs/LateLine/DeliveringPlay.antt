-- The port reads the oldest command on the way down in Play, Probe and Check.
use Rattle.std.proofs.Common.{◌≡◌, ℕ, ◌+◌, ◌*◌, ◌<◌, ◌≤◌, ◌⊎◌, inl, inr, Bool, true, false, ◌||◌, List, [], ◌∷◌, ◌++◌, length, take, get_or, Some, None, refl, arith, sym, ap, subst, ◌∙◌}
use Rattle.std.proofs.lemmas.Bool.{and_left, and_right, or_parts}
use Rattle.std.proofs.lemmas.List.{take_more}
use Rattle.std.proofs.lemmas.Option.{slice_get_cases}
use Rattle.std.specs.List.{list_any}
use Rattle.std.specs.Prelude.{slice_get}
use Rattle.vdcp_value.specs.declared.part.Item.{Item}
use Rattle.vdcp_words.specs.declared.reply.Reply.{Reply}
use Rattle.vdcp_port.specs.Port.{Cued, empty, cueing, done, is_done as is_done_cue}
use Rattle.vdcp_auto.specs.Commands.{is_state}
use Rattle.vdcp_auto.specs.Replies.{is_ack, is_refusal, is_empty}
use Rattle.vdcp_auto.specs.declared.phase.Phase.{Phase}
use Rattle.vdcp_auto.specs.declared.phase.Phase.TheVariants as phase
use Rattle.vdcp_auto.specs.declared.phase.Mode.TheVariants.{Plain}
use Rattle.vdcp_world.specs.LateLine.Pipe.{Climbs, stretches}
use Rattle.vdcp_world.proofs.LateLine.Delivering.{at_same, aired_same, item_same, done_same, none_same, no_more, none_pushed, clash, never_empty, ack_fits}
use Rattle.vdcp_world.proofs.LateLine.Executed.{Executed, Shows, left_cued, put_on_air}
use Rattle.vdcp_world.proofs.LateLine.Places.{Answer, pipe_of, plays, waits, says_ack, says_empty, shows_no_cue, ToAir, OnAir, Playing, Checking}
use Rattle.vdcp_world.proofs.LateLine.Stretches.{Lies, play_or_before, check_or_before, climbs_after, none_within}
use Rattle.vdcp_world.proofs.PhaseTable.{cued_item}

-- ---- the event airs

-- what is cued, its cue being done, airs
pub airs_item : (list : List Item) (aired : List Item) (k : ℕ) (a : Cued) → k < length list → aired ≡ take k list
    → cued_item a ≡ slice_get list k → is_done_cue a ≡ true → aired ++ put_on_air a ≡ take (k + 1) list
airs_item list aired k empty below is item ready = cc
airs_item list aired k (cueing x) below is item ready = cc
airs_item list aired k (done x) below is item ready = at (slice_get_cases list k).1
  where
    same : (y : Item) → slice_get list k ≡ Some y → x ≡ y
    same y e = cc

    none : slice_get list k ≡ None → ⊥
    none e = cc

    at : (((y : Item) × (k < length list) × (slice_get list k ≡ Some y) × (get_or list k y ≡ y)) ⊎
        ((length list ≤ k) × (slice_get list k ≡ None)))
        → aired ++ x ∷ [] ≡ take (k + 1) list
    at (inl (y, within, there, here)) =
        let e = same y there in
        let more : take (k + 1) list ≡ take k list ++ y ∷ [] = take_more list k y below ∙ ap
        (λ (z : Item). take k list ++ z ∷ []) here in
        ap (λ (front : List Item). front ++ x ∷ []) is ∙ ap (λ (z : Item). take k list ++ z ∷ []) e ∙ sym more
    at (inr (past, there)) = absurd (none there)

left_none : (a : Cued) → is_done_cue a ≡ true → left_cued a ≡ empty
left_none empty e = refl
left_none (cueing x) e = cc
left_none (done x) e = refl

-- nothing airs where nothing is cued
pub airs_nothing : (a : Cued) → a ≡ empty → (put_on_air a ≡ []) × (left_cued a ≡ a)
airs_nothing empty e = (refl, refl)
airs_nothing _ e = cc

-- ---- Play and Probe

pub state_fits : (r : Reply) → (is_refusal r || is_state r) ≡ true → is_ack r ≡ false
state_fits r e = grind arith

module _ (list : List Item) (s : Bool) (a : Cued) where
  -- a status leaves all as it is
  to_air_shows : (aired : List Item) (ups : List Answer) (k : ℕ) (d : Phase) (r : Reply) (t : Bool) (b : Cued)
      (airs : List Item) → k < length list → t ≡ s → b ≡ a → airs ≡ [] → is_ack r ≡ false → Shows s a r
      → ToAir list s a aired ups k → ToAir list t b (aired ++ airs) (ups ++ record { to = d; reply = r } ∷ []) k
  to_air_shows aired ups k d r t b airs below ts ba none no_ack shows h = record {
    aired_is = aired_same aired airs none ∙ h.aired_is;
    has_item = item_same list s t a b k (no_more s t ts) ba h.has_item;
    has_done = done_same s t a b (no_more s t ts) ba h.has_done;
    no_ack = none_pushed says_ack ups (record { to = d; reply = r }) h.no_ack no_ack;
    no_empty = none_pushed says_empty ups (record { to = d; reply = r }) h.no_empty
        (never_empty list s a k r below h.has_item shows);
  }

  on_air_stays : (aired : List Item) (d : Phase) (downs : List Phase) (k : ℕ) (t : Bool) (b : Cued) (airs : List Item)
      → t ≡ s → b ≡ a → airs ≡ [] → OnAir list s a aired (d ∷ downs) k → OnAir list t b (aired ++ airs) downs k
  on_air_stays aired d downs k t b airs ts ba none h = record {
    aired_is = aired_same aired airs none ∙ h.aired_is;
    has_none = none_same s t a b (no_more s t ts) ba h.has_none;
    none_waits = (or_parts (waits d) (list_any waits downs) h.none_waits).1;
  }

-- after a PLAY nothing waits
none_waits : (list : List Item) (k : ℕ) (ups : List Answer) (downs : List Phase)
    → Climbs (5 * k + 4) (5 * k + 5) (stretches Plain (length list) (pipe_of ups (phase.Play k ∷ downs)))
    → list_any waits downs ≡ false
none_waits list k ups downs c =
    none_within Plain (length list) (5 * k + 5) (5 * k + 5) waits downs one
    (climbs_after Plain (length list) (5 * k + 4) (5 * k + 5) ups (phase.Play k) downs c)
  where
    one : (d : Phase) → Lies Plain (length list) (5 * k + 5) (5 * k + 5) d → waits d ≡ false
    one (phase.Wait j) l = absurd (omega arith)
    one d l = refl

module _ (list : List Item) (settled : ℕ) (s : Bool) (a : Cued) (aired : List Item) where
  playing_play : (ups : List Answer) (downs : List Phase) (k : ℕ) (r : Reply) (t : Bool) (b : Cued) (airs : List Item)
      → Playing list settled s a aired ups (phase.Play k ∷ downs) k
      → Climbs (5 * k + 4) (5 * k + 5) (stretches Plain (length list) (pipe_of ups (phase.Play k ∷ downs)))
      → Executed list (phase.Play k) s a r t b airs → Playing list settled t b (aired ++ airs)
      (ups ++ record { to = phase.Play k; reply = r } ∷ []) downs k
  playing_play ups downs k r t b airs h c x = record {
    settled_is = h.settled_is;
    within = h.within;
    never_none = none_pushed shows_no_cue ups new h.never_none refl;
    stands = by h.stands x.does.1;
  }
    where
      new : Answer
      new = record { to = phase.Play k; reply = r }

      After : Type 0
      After = ToAir list t b (aired ++ airs) (ups ++ new ∷ []) k ⊎ OnAir list t b (aired ++ airs) downs k

      none : list_any waits downs ≡ false
      none = none_waits list k ups downs c

      by : ToAir list s a aired ups k ⊎ OnAir list s a aired (phase.Play k ∷ downs) k
          → ((s ≡ false) × (b ≡ a) × (airs ≡ []) × (is_ack r ≡ false)) ⊎
          ((s ≡ true) × (b ≡ left_cued a) × (airs ≡ put_on_air a)) → After
      by (inl h) (inl (off, ba, none, no_ack)) = inl (record {
        aired_is = aired_same aired airs none ∙ h.aired_is;
        has_item = item_same list s t a b k (no_more s t x.does.0) ba h.has_item;
        has_done = done_same s t a b (no_more s t x.does.0) ba h.has_done;
        no_ack = none_pushed says_ack ups new h.no_ack no_ack;
        no_empty = none_pushed says_empty ups new h.no_empty (ack_fits r x.fits).1;
      })
      by (inl q) (inr (on, ba, plays)) = inr (record {
        aired_is = ap (λ (more : List Item). aired ++ more) plays ∙ airs_item list aired k a h.within q.aired_is
            (q.has_item on) (q.has_done on);
        has_none = λ _. ba ∙ left_none a (q.has_done on);
        none_waits = none;
      })
      by (inr q) (inl (off, ba, nothing, no_ack)) =
          inr (on_air_stays list s a aired (phase.Play k) downs k t b airs x.does.0 ba nothing q)
      by (inr q) (inr (on, ba, plays)) =
          let e = airs_nothing a (q.has_none on) in
          inr (on_air_stays list s a aired (phase.Play k) downs k t b airs x.does.0 (ba ∙ e.1) (plays ∙ e.0) q)

  -- a status, asked for in Wait before the PLAY or in Probe
  playing_shows : (ups : List Answer) (d : Phase) (downs : List Phase) (k : ℕ) (r : Reply) (t : Bool) (b : Cued)
      (airs : List Item) → Playing list settled s a aired ups (d ∷ downs) k → t ≡ s → b ≡ a → airs ≡ []
      → is_ack r ≡ false → Shows s a r → (waits d ≡ false) ⊎ (waits d ≡ true)
      → Playing list settled t b (aired ++ airs) (ups ++ record { to = d; reply = r } ∷ []) downs k
  playing_shows ups d downs k r t b airs h ts ba none no_ack shows which = by h.stands which
    where
      new : Answer
      new = record { to = d; reply = r }

      with_stand : shows_no_cue new ≡ false → ToAir list t b (aired ++ airs) (ups ++ new ∷ []) k ⊎ OnAir list t b
          (aired ++ airs) downs k
          → Playing list settled t b (aired ++ airs) (ups ++ new ∷ []) downs k
      with_stand e stands = record {
        settled_is = h.settled_is;
        within = h.within;
        never_none = none_pushed shows_no_cue ups new h.never_none e;
        stands = stands;
      }

      by : ToAir list s a aired ups k ⊎ OnAir list s a aired (d ∷ downs) k → (waits d ≡ false) ⊎ (waits d ≡ true)
          → Playing list settled t b (aired ++ airs) (ups ++ new ∷ []) downs k
      by (inl q) w = with_stand (and_right (waits d) (is_empty r) (never_empty list s a k r h.within q.has_item shows))
          (inl (to_air_shows list s a aired ups k d r t b airs h.within ts ba none no_ack shows q))
      by (inr q) (inl w) =
          with_stand (and_left (waits d) (is_empty r) w)
          (inr (on_air_stays list s a aired d downs k t b airs ts ba none q))
      by (inr q) (inr w) = clash (waits d) w (or_parts (waits d) (list_any waits downs) q.none_waits).0

pub playing_keeps : (list : List Item) (settled : ℕ) (s : Bool) (a : Cued) (aired : List Item) (ups : List Answer)
    (d : Phase) (downs : List Phase) (k : ℕ)
    (r : Reply) (t : Bool) (b : Cued) (airs : List Item)
    → Playing list settled s a aired ups (d ∷ downs) k
    → Climbs (5 * k + 4) (5 * k + 5) (stretches Plain (length list) (pipe_of ups (d ∷ downs)))
    → Lies Plain (length list) (5 * k + 4) (5 * k + 5) d → Executed list d s a r t b airs
    → Playing list settled t b (aired ++ airs) (ups ++ record { to = d; reply = r } ∷ []) downs k
playing_keeps list settled s a aired ups d downs k r t b airs h c lies x =
    by (play_or_before (length list) k d h.within lies) h c x
  where
    Goal : Phase → Type 0
    Goal d = Playing list settled s a aired ups (d ∷ downs) k
        → Climbs (5 * k + 4) (5 * k + 5) (stretches Plain (length list) (pipe_of ups (d ∷ downs)))
        → Executed list d s a r t b airs
        → Playing list settled t b (aired ++ airs) (ups ++ record { to = d; reply = r } ∷ []) downs k

    by : (d ≡ phase.Wait k) ⊎ (d ≡ phase.Play k) ⊎ (d ≡ phase.Probe k) → Goal d
    by (inl e) = subst Goal (sym e) (λ h c x. playing_shows list settled s a aired ups
        (phase.Wait k) downs k r t b airs h x.does.0.0 x.does.0.1 x.does.0.2
        (state_fits r x.fits) x.does.1 (inr refl))
    by (inr (inl e)) = subst Goal (sym e) (λ h c x. playing_play list settled s a aired ups downs k r t b airs h c x)
    by (inr (inr e)) = subst Goal (sym e) (λ h c x. playing_shows list settled s a aired ups
        (phase.Probe k) downs k r t b airs h x.does.0.0 x.does.0.1
        x.does.0.2 (state_fits r x.fits) x.does.1 (inl refl))

-- ---- Check

module _ (list : List Item) (settled : ℕ) (s : Bool) (a : Cued) (aired : List Item) where
  checking_stays : (k : ℕ) (t : Bool) (b : Cued) (airs : List Item) → Checking list settled s a aired k → t ≡ s → b ≡ a
      → airs ≡ [] → Checking list settled t b (aired ++ airs) k
  checking_stays k t b airs h ts ba none = record {
    at = at_same list aired airs settled (k + 1) none h.at;
    within = h.within;
    has_none = none_same s t a b (no_more s t ts) ba h.has_none;
  }

  checking_play : (k : ℕ) (r : Reply) (t : Bool) (b : Cued) (airs : List Item) → Checking list settled s a aired k
      → t ≡ s → ((s ≡ false) × (b ≡ a) × (airs ≡ []) × (is_ack r ≡ false)) ⊎ ((s ≡ true) × (b ≡ left_cued a)
      × (airs ≡ put_on_air a)) → Checking list settled t b (aired ++ airs) k
  checking_play k r t b airs h ts (inl (off, ba, none, no_ack)) = checking_stays k t b airs h ts ba none
  checking_play k r t b airs h ts (inr (on, ba, plays)) =
      let e = airs_nothing a (h.has_none on) in
      checking_stays k t b airs h ts (ba ∙ e.1) (plays ∙ e.0)

  pub checking_keeps : (d : Phase) (k : ℕ) (r : Reply) (t : Bool) (b : Cued) (airs : List Item)
      → Checking list settled s a aired k → Lies Plain (length list) (5 * k + 5) (5 * k + 6) d
      → Executed list d s a r t b airs → Checking list settled t b (aired ++ airs) k
  checking_keeps d k r t b airs h lies x =
      by (check_or_before Plain (length list) k d h.within lies) x
    where
      Goal : Phase → Type 0
      Goal d = Executed list d s a r t b airs → Checking list settled t b (aired ++ airs) k

      by : (d ≡ phase.Play k) ⊎ (d ≡ phase.Probe k) ⊎ (d ≡ phase.Check k) → Goal d
      by (inl e) = subst Goal (sym e) (λ x. checking_play k r t b airs h x.does.0 x.does.1)
      by (inr (inl e)) =
          subst Goal (sym e) (λ x. checking_stays k t b airs h x.does.0.0 x.does.0.1 x.does.0.2)
      by (inr (inr e)) =
          subst Goal (sym e) (λ x. checking_stays k t b airs h x.does.0 x.does.1 x.does.2)
