-- The port reads the oldest command on the way down, and its answer joins the queue up: each phase keeps its place.
use Rattle.std.proofs.Common.{◌≡◌, ℕ, ◌+◌, ◌*◌, ◌<◌, ◌⊎◌, inl, inr, Bool, true, false, ◌||◌, List, [], ◌∷◌, ◌++◌, length, None, refl, arith, sym, ap, subst, ◌∙◌, append-nil}
use Rattle.std.proofs.lemmas.Bool.{not-false, or_cases, or_from}
use Rattle.std.specs.List.{list_any}
use Rattle.std.specs.Prelude.{slice_get}
use Rattle.vdcp_value.specs.declared.part.Item.{Item}
use Rattle.vdcp_words.specs.declared.reply.Reply.{Reply}
use Rattle.vdcp_port.specs.Port.{Cued, empty, is_empty as is_empty_slot, is_done as is_done_cue}
use Rattle.vdcp_auto.specs.Replies.{is_ack, is_refusal, is_done, is_empty}
use Rattle.vdcp_auto.specs.Commands.{is_presence}
use Rattle.vdcp_auto.specs.declared.phase.Phase.{Phase}
use Rattle.vdcp_auto.specs.declared.phase.Phase.TheVariants as phase
use Rattle.vdcp_auto.specs.declared.phase.Mode.TheVariants.{Plain}
use Rattle.vdcp_world.specs.LateLine.Pipe.{Climbs, stretches}
use Rattle.vdcp_world.proofs.LateLine.Executed.{Does, Executed, Shows}
use Rattle.vdcp_world.proofs.LateLine.Places.{Answer, pipe_of, plays, misfits, fits_phase, says_ack, says_done, shows_no_cue, HasItem, HasDone, HasNone, At, Cueing, Waiting}
use Rattle.vdcp_world.proofs.LateLine.Stretches.{Lies, cue_or_before, wait_or_before, climbs_before, none_answers}
use Rattle.vdcp_world.proofs.LateLine.Thinning.{any_push}
use Rattle.vdcp_world.proofs.PhaseTable.{cued_item}
use Rattle.vdcp_world.proofs.Exchanges.{no_item}

-- ---- what stays

pub aired_same : (aired airs : List Item) → airs ≡ [] → aired ++ airs ≡ aired
aired_same aired airs e = ap (λ (more : List Item). aired ++ more) e ∙ append-nil aired

pub at_same : (list aired airs : List Item) (settled k : ℕ) → airs ≡ [] → At list aired settled k
    → At list (aired ++ airs) settled k
at_same list aired airs settled k e h =
    record { aired_is = aired_same aired airs e ∙ h.aired_is; within = h.within; settled_is = h.settled_is }

pub item_same : (list : List Item) (s t : Bool) (a b : Cued) (k : ℕ) → (t ≡ true → s ≡ true) → b ≡ a
    → HasItem list s a k → HasItem list t b k
item_same list s t a b k st ba h = λ e. ap cued_item ba ∙ h (st e)

pub done_same : (s t : Bool) (a b : Cued) → (t ≡ true → s ≡ true) → b ≡ a → HasDone s a → HasDone t b
done_same s t a b st ba h = λ e. ap is_done_cue ba ∙ h (st e)

pub none_same : (s t : Bool) (a b : Cued) → (t ≡ true → s ≡ true) → b ≡ a → HasNone s a → HasNone t b
none_same s t a b st ba h = λ e. ba ∙ h (st e)

pub no_more : (s t : Bool) → t ≡ s → t ≡ true → s ≡ true
no_more s t e h = sym e ∙ h

module _ (test : Answer → Bool) (ups : List Answer) where
  -- an answer more passes a test, or one before it did
  pub pushed : (a : Answer) → list_any test (ups ++ a ∷ []) ≡ true → (list_any test ups ≡ true) ⊎ (test a ≡ true)
  pushed a e = or_cases (list_any test ups) (test a) (sym (any_push test ups a) ∙ e)

  pub none_pushed : (a : Answer) → list_any test ups ≡ false → test a ≡ false → list_any test (ups ++ a ∷ []) ≡ false
  none_pushed a e f = any_push test ups a ∙ or_from (list_any test ups) (test a) e f

impossible : true ≡ false → ⊥
impossible e = cc

pub clash : {A : Type 0} → (b : Bool) → b ≡ true → b ≡ false → A
clash b t f = absurd (impossible (sym t ∙ f))

-- ---- kinds of replies

pub ack_fits : (r : Reply) → (is_refusal r || is_ack r) ≡ true → (is_done r ≡ false) × (is_empty r ≡ false)
ack_fits r e = grind arith

-- only PLAY airs
pub airs_none : (list : List Item) (d : Phase) (s : Bool) (a : Cued) (r : Reply) (t : Bool) (b : Cued)
    (airs : List Item)
    → plays d ≡ false → Does list d s a r t b airs → airs ≡ []
airs_none list phase.Select s a r t b airs p h = h.1
airs_none list (phase.Cue k) s a r t b airs p h = h.1
airs_none list (phase.Wait k) s a r t b airs p h = h.0.2
airs_none list (phase.Play k) s a r t b airs p h = cc
airs_none list (phase.Probe k) s a r t b airs p h = h.0.2
airs_none list phase.Close s a r t b airs p h = h.1
airs_none list phase.Halt s a r t b airs p h = h.1
airs_none list phase.HaltClose s a r t b airs p h = h.1
airs_none list _ s a r t b airs p h = h.2

-- ---- Cue

pub presence_fits : (r : Reply) → (is_refusal r || is_presence r) ≡ true → is_ack r ≡ false
presence_fits r e = grind arith

module _ (list : List Item) where
  cueing_pushed : (settled : ℕ) (s : Bool) (a : Cued) (aired : List Item) (ups : List Answer) (k : ℕ) (d : Phase)
      (r : Reply) (t : Bool) (b : Cued) (airs : List Item) → Cueing list settled s a aired ups k → airs ≡ []
      → (HasItem list s a k → HasItem list t b k) → (is_ack r ≡ true → HasItem list t b k)
      → Cueing list settled t b (aired ++ airs) (ups ++ record { to = d; reply = r } ∷ []) k
  cueing_pushed settled s a aired ups k d r t b airs h none still now = record {
    at = at_same list aired airs settled k none h.at;
    within = h.within;
    taken = λ e. by (pushed says_ack ups (record { to = d; reply = r }) e);
  }
    where
      by : (list_any says_ack ups ≡ true) ⊎ (is_ack r ≡ true) → HasItem list t b k
      by (inl e) = still (h.taken e)
      by (inr e) = now e

  pub cueing_cue : (s : Bool) (a : Cued) (k : ℕ) (r : Reply) (t : Bool) (b : Cued) → t ≡ s
      → ((b ≡ a) × (is_ack r ≡ false)) ⊎ (cued_item b ≡ slice_get list k)
      → (HasItem list s a k → HasItem list t b k) × (is_ack r ≡ true → HasItem list t b k)
  cueing_cue s a k r t b st (inl (same, no_ack)) =
      (λ h. item_same list s t a b k (no_more s t st) same h, λ e. clash (is_ack r) e no_ack)
  cueing_cue s a k r t b st (inr is) = (λ h e. is, λ _ e. is)

pub cueing_keeps : (list : List Item) (settled : ℕ) (s : Bool) (a : Cued) (aired : List Item) (ups : List Answer)
    (k : ℕ) (d : Phase) (r : Reply) (t : Bool)
    (b : Cued) (airs : List Item)
    → Cueing list settled s a aired ups k → Lies Plain (length list) (5 * k + 2) (5 * k + 3) d
    → Executed list d s a r t b airs
    → Cueing list settled t b (aired ++ airs) (ups ++ record { to = d; reply = r } ∷ []) k
cueing_keeps list settled s a aired ups k d r t b airs h lies x = by (cue_or_before (length list) k d h.within lies)
  where
    Goal : Phase → Type 0
    Goal d =
        Executed list d s a r t b airs → Cueing list settled t b (aired ++ airs)
        (ups ++ record { to = d; reply = r } ∷ []) k

    exists : (j : ℕ) → Goal (phase.Exists j)
    exists j x = cueing_pushed list settled s a aired ups k (phase.Exists j) r t b airs h x.does.2
        (λ h. item_same list s t a b k (no_more s t x.does.0) x.does.1 h)
        (λ e. clash (is_ack r) e (presence_fits r x.fits))

    cue : Goal (phase.Cue k)
    cue x = let c = cueing_cue list s a k r t b x.does.0 x.does.2 in
        cueing_pushed list settled s a aired ups k (phase.Cue k) r t b airs h x.does.1 c.0 c.1

    by : ((j : ℕ) × (d ≡ phase.Exists j)) ⊎ (d ≡ phase.Cue k)
        → Cueing list settled t b (aired ++ airs) (ups ++ record { to = d; reply = r } ∷ []) k
    by (inl (j, e)) = subst Goal (sym e) (exists j) x
    by (inr e) = subst Goal (sym e) cue x

-- ---- Wait

none_cued : (a : Cued) → is_empty_slot a ≡ true → cued_item a ≡ None
none_cued empty e = refl
none_cued _ e = cc

-- where the event's item is cued no state shows that nothing is
pub never_empty : (list : List Item) (s : Bool) (a : Cued) (k : ℕ) (r : Reply) → k < length list → HasItem list s a k
    → Shows s a r → is_empty r ≡ false
never_empty list s a k r below h shows = by (is_empty r) refl
  where
    by : (b : Bool) → is_empty r ≡ b → is_empty r ≡ false
    by true e = absurd (no_item list k below (sym (h (shows.is_selected e)) ∙ none_cued a (shows.shows_empty e)))
    by false e = e

module _ (list : List Item) where
  waiting_wait : (settled : ℕ) (s : Bool) (a : Cued) (aired : List Item) (ups : List Answer) (k : ℕ) (r : Reply)
      (t : Bool) (b : Cued) (airs : List Item) → Waiting list settled s a aired ups k
      → Executed list (phase.Wait k) s a r t b airs → Waiting list settled t b (aired ++ airs)
      (ups ++ record { to = phase.Wait k; reply = r } ∷ []) k
  waiting_wait settled s a aired ups k r t b airs h x = record {
    at = at_same list aired airs settled k x.does.0.2 h.at;
    within = h.within;
    has_item = item_same list s t a b k (no_more s t x.does.0.0) x.does.0.1 h.has_item;
    shown = λ e. done_same s t a b (no_more s t x.does.0.0) x.does.0.1
        (by (pushed says_done ups (record { to = phase.Wait k; reply = r }) e));
    never_none = none_pushed shows_no_cue ups (record { to = phase.Wait k; reply = r }) h.never_none
        (never_empty list s a k r h.within h.has_item x.does.1);
  }
    where
      by : (list_any says_done ups ≡ true) ⊎ (is_done r ≡ true) → HasDone s a
      by (inl e) = h.shown e
      by (inr e) = λ _. x.does.1.shows_done e

  -- before the answer to a cue of the event there is none to a status
  none_done : (k : ℕ) (ups : List Answer) (downs : List Phase) → k < length list → list_any misfits ups ≡ false
      → Climbs (5 * k + 3) (5 * k + 4) (stretches Plain (length list) (pipe_of ups (phase.Cue k ∷ downs)))
      → list_any says_done ups ≡ false
  none_done k ups downs below fit c =
      none_answers Plain (length list) (5 * k + 3) (5 * k + 3) misfits says_done ups one
      (climbs_before Plain (length list) (5 * k + 3) (5 * k + 4) ups (phase.Cue k) downs c) fit
    where
      is_cue : (d : Phase) → Lies Plain (length list) (5 * k + 3) (5 * k + 3) d → d ≡ phase.Cue k
      is_cue (phase.Cue j) l = let e : j ≡ k = omega arith in ap phase.Cue e
      is_cue d l = absurd (omega arith)

      one : (x : Answer) → Lies Plain (length list) (5 * k + 3) (5 * k + 3) x.to → misfits x ≡ false
          → says_done x ≡ false
      one x l m =
          let is = is_cue x.to l in
          (ack_fits x.reply (subst (λ (q : Phase). fits_phase q x.reply ≡ true) is
          (not-false (fits_phase x.to x.reply) m))).0

  waiting_cue : (settled : ℕ) (s : Bool) (a : Cued) (aired : List Item) (ups : List Answer) (k : ℕ) (r : Reply)
      (t : Bool) (b : Cued) (airs : List Item) → Waiting list settled s a aired ups k → list_any says_done ups ≡ false
      → Executed list (phase.Cue k) s a r t b airs → Waiting list settled t b (aired ++ airs)
      (ups ++ record { to = phase.Cue k; reply = r } ∷ []) k
  waiting_cue settled s a aired ups k r t b airs h none x = record {
    at = at_same list aired airs settled k x.does.1 h.at;
    within = h.within;
    has_item = (cueing_cue list s a k r t b x.does.0 x.does.2).0 h.has_item;
    shown = λ e. clash (list_any says_done (ups ++ record { to = phase.Cue k; reply = r } ∷ [])) e
        (none_pushed says_done ups (record { to = phase.Cue k; reply = r }) none (ack_fits r x.fits).0);
    never_none = none_pushed shows_no_cue ups (record { to = phase.Cue k; reply = r }) h.never_none refl;
  }

pub waiting_keeps : (list : List Item) (settled : ℕ) (s : Bool) (a : Cued) (aired : List Item) (ups : List Answer)
    (d : Phase) (downs : List Phase) (k : ℕ)
    (r : Reply) (t : Bool) (b : Cued) (airs : List Item)
    → Waiting list settled s a aired ups k → list_any misfits ups ≡ false
    → Climbs (5 * k + 3) (5 * k + 4) (stretches Plain (length list) (pipe_of ups (d ∷ downs)))
    → Lies Plain (length list) (5 * k + 3) (5 * k + 4) d → Executed list d s a r t b airs
    → Waiting list settled t b (aired ++ airs) (ups ++ record { to = d; reply = r } ∷ []) k
waiting_keeps list settled s a aired ups d downs k r t b airs h fit c lies x =
    by (wait_or_before (length list) k d h.within lies)
  where
    by : (d ≡ phase.Cue k) ⊎ (d ≡ phase.Wait k)
        → Waiting list settled t b (aired ++ airs) (ups ++ record { to = d; reply = r } ∷ []) k
    by (inl e) =
        subst (λ (d : Phase). Climbs (5 * k + 3) (5 * k + 4) (stretches Plain (length list) (pipe_of ups (d ∷ downs)))
        → Executed list d s a r t b airs → Waiting list settled t b (aired ++ airs)
        (ups ++ record { to = d; reply = r } ∷ []) k) (sym e)
        (λ c x. waiting_cue list settled s a aired ups k r t b airs h (none_done list k ups downs h.within fit c) x) c x
    by (inr e) = subst (λ (d : Phase). Executed list d s a r t b airs
        → Waiting list settled t b (aired ++ airs) (ups ++ record { to = d; reply = r } ∷ []) k) (sym e)
        (λ x. waiting_wait list settled s a aired ups k r t b airs h x) x
