-- In the halt and after an end: what is still on the way airs at most one event more, and that in order.
use Rattle.std.proofs.Common.{◌≡◌, ℕ, ◌+◌, ◌*◌, ◌≤◌, ◌⊎◌, inl, inr, Bool, true, false, List, [], ◌∷◌, ◌++◌, length, take, refl, arith, sym, ap, subst, ◌∙◌}
use Rattle.std.proofs.lemmas.Bool.{or_parts}
use Rattle.std.specs.List.{list_any}
use Rattle.vdcp_value.specs.declared.part.Item.{Item}
use Rattle.vdcp_words.specs.declared.reply.Reply.{Reply}
use Rattle.vdcp_port.specs.Port.{Cued, empty, cueing, done}
use Rattle.vdcp_auto.specs.Replies.{is_ack}
use Rattle.vdcp_auto.specs.declared.phase.Phase.{Phase}
use Rattle.vdcp_auto.specs.declared.phase.Phase.TheVariants as phase
use Rattle.vdcp_auto.specs.declared.phase.Mode.{Mode}
use Rattle.vdcp_auto.specs.declared.phase.Mode.TheVariants.{Plain, Confirming}
use Rattle.vdcp_world.specs.LateLine.Pipe.{Climbs, stretches, IsPipe}
use Rattle.vdcp_world.proofs.LateLine.Delivering.{aired_same, item_same, none_same, no_more, airs_none}
use Rattle.vdcp_world.proofs.LateLine.DeliveringPlay.{airs_item, airs_nothing}
use Rattle.vdcp_world.proofs.LateLine.Executed.{Does, Executed, left_cued, put_on_air}
use Rattle.vdcp_world.proofs.LateLine.Places.{Answer, pipe_of, plays, arms, HasItem, At, ToAir, OnAir, Playing, LastCue, Unarmed, Safe, Place}
use Rattle.vdcp_world.proofs.LateLine.Stretches.{Lies, downs_climb, none_within}
use Rattle.vdcp_world.proofs.Exchanges.{near_of}
use Rattle.vdcp_world.proofs.PhaseTable.{Near}

pub near_at : (list aired : List Item) (settled k : ℕ) → At list aired settled k → Near list aired settled
near_at list aired settled k h =
    near_of list aired settled k h.aired_is h.within (omega (arith, h.settled_is)) (omega (arith, h.settled_is))

pub near_same : (list aired airs : List Item) (settled : ℕ) → airs ≡ [] → Near list aired settled
    → Near list (aired ++ airs) settled
near_same list aired airs settled e h = subst (λ (a : List Item). Near list a settled) (sym (aired_same aired airs e)) h

-- ---- the port reads the oldest command

module _ (list : List Item) (settled : ℕ) (s : Bool) where
  last_same : (a : Cued) (aired : List Item) (t : Bool) (b : Cued) (airs : List Item) → (t ≡ true → s ≡ true)
      → (b ≡ empty) ⊎ (b ≡ a) → airs ≡ [] → LastCue list settled s a aired → LastCue list settled t b (aired ++ airs)
  last_same a aired t b airs ts (inl none) e h = inl (λ _. none)
  last_same a aired t b airs ts (inr ba) e (inl h) = inl (none_same s t a b ts ba h)
  last_same a aired t b airs ts (inr ba) e (inr (is, within, h)) =
      inr (aired_same aired airs e ∙ is, within, item_same list s t a b settled ts ba h)

  -- a port that airs its item, whatever its cue
  last_played : (a : Cued) (aired : List Item) (t : Bool) (b : Cued) (airs : List Item) → s ≡ true → t ≡ s
      → b ≡ left_cued a → airs ≡ put_on_air a → Near list aired settled → LastCue list settled s a aired
      → Near list (aired ++ airs) settled × LastCue list settled t b (aired ++ airs)
  last_played a aired t b airs on ts ba plays near (inl h) =
      let e = airs_nothing a (h on) in (
        near_same list aired airs settled (plays ∙ e.0) near,
        last_same a aired t b airs (no_more s t ts)
            (inr (ba ∙ e.1)) (plays ∙ e.0) (inl h),
      )
  last_played empty aired t b airs on ts ba plays near (inr h) =
      (near_same list aired airs settled plays near, inl (λ _. ba))
  last_played (cueing x) aired t b airs on ts ba plays near (inr h) = (
    near_same list aired airs settled plays near,
    last_same (cueing x) aired t b airs (no_more s t ts)
        (inr ba) plays (inr h),
  )
  last_played (done x) aired t b airs on ts ba plays near (inr (is, within, h)) =
      let e = ap (λ (more : List Item). aired ++ more) plays ∙ airs_item list aired settled (done x) within is
      (h on) refl in
      (near_of list (aired ++ airs) settled (settled + 1) e (omega arith) (omega arith) (omega arith), inl (λ _. ba))

  unarmed_does : (a : Cued) (aired : List Item) (d : Phase) (r : Reply) (t : Bool) (b : Cued) (airs : List Item)
      → arms d ≡ false → Near list aired settled → LastCue list settled s a aired → Does list d s a r t b airs
      → Near list (aired ++ airs) settled × LastCue list settled t b (aired ++ airs)
  unarmed_does a aired phase.Select r t b airs e near h x = cc
  unarmed_does a aired (phase.Cue k) r t b airs e near h x = cc
  unarmed_does a aired (phase.Wait k) r t b airs e near h x = (
    near_same list aired airs settled x.0.2 near,
    last_same a aired t b airs (no_more s t x.0.0)
        (inr x.0.1) x.0.2 h,
  )
  unarmed_does a aired (phase.Play k) r t b airs e near h x = by x.1
    where
      by : ((s ≡ false) × (b ≡ a) × (airs ≡ []) × (is_ack r ≡ false)) ⊎
          ((s ≡ true) × (b ≡ left_cued a) × (airs ≡ put_on_air a))
          → Near list (aired ++ airs) settled × LastCue list settled t b (aired ++ airs)
      by (inl (off, ba, none, no_ack)) = (
        near_same list aired airs settled none near,
        last_same a aired t
            b airs (no_more s t x.0) (inr ba) none h,
      )
      by (inr (on, ba, plays)) = last_played a aired t b airs on x.0 ba plays near h
  unarmed_does a aired (phase.Probe k) r t b airs e near h x = (
    near_same list aired airs settled x.0.2 near,
    last_same a aired t b airs (no_more s t x.0.0)
        (inr x.0.1) x.0.2 h,
  )
  unarmed_does a aired phase.Close r t b airs e near h x =
      (near_same list aired airs settled x.1 near, last_same a aired t b airs x.0 x.2 x.1 h)
  unarmed_does a aired phase.Halt r t b airs e near h x =
      (near_same list aired airs settled x.1 near, last_same a aired t b airs x.0 x.2 x.1 h)
  unarmed_does a aired phase.HaltClose r t b airs e near h x =
      (near_same list aired airs settled x.1 near, last_same a aired t b airs x.0 x.2 x.1 h)
  unarmed_does a aired _ r t b airs e near h x = (
    near_same list aired airs settled x.2 near,
    last_same a aired t b airs (no_more s t x.0) (inr x.1)
        x.2 h,
  )

  pub safe_keeps : (a : Cued) (aired : List Item) (d : Phase) (downs : List Phase) (r : Reply) (t : Bool) (b : Cued)
      (airs : List Item) → Safe list settled s a aired (d ∷ downs) → Executed list d s a r t b airs
      → Safe list settled t b (aired ++ airs) downs
  safe_keeps a aired d downs r t b airs h x = by h.calm
    where
      by : (list_any plays (d ∷ downs) ≡ false) ⊎ Unarmed list settled s a aired (d ∷ downs)
          → Safe list settled t b (aired ++ airs) downs
      by (inl none) = record {
        near = near_same list aired airs settled
            (airs_none list d s a r t b airs (or_parts (plays d) (list_any plays downs) none).0 x.does) h.near;
        calm = inl (or_parts (plays d) (list_any plays downs) none).1;
      }
      by (inr u) =
          let after = unarmed_does a aired d r t b airs
          (or_parts (arms d) (list_any arms downs) u.none_arms).0 h.near u.last x.does in
          record {
            near = after.0;
            calm = inr (record { none_arms = (or_parts (arms d) (list_any arms downs) u.none_arms).1; last = after.1 });
          }

-- ---- from each phase

-- between these stretches there is no PLAY
pub quiet : (mode : Mode) (n k : ℕ) (low high : ℕ) → 5 * k + 1 ≤ low → high ≤ 5 * k + 4 → (d : Phase)
    → Lies mode n low high d → plays d ≡ false
quiet mode n k low high l h (phase.Play j) lies = absurd (omega arith)
quiet mode n k low high l h d lies = refl

pub quiet_first : (mode : Mode) (n : ℕ) (d : Phase) → Lies mode n 1 1 d → plays d ≡ false
quiet_first mode n (phase.Play j) lies = absurd (omega arith)
quiet_first mode n d lies = refl

-- and between these there is nothing that arms
pub unarmed : (n k low high : ℕ) → 5 * k + 4 ≤ low → high ≤ 5 * k + 6 → (d : Phase) → Lies Plain n low high d
    → arms d ≡ false
unarmed n k low high l h phase.Select lies = absurd (omega arith)
unarmed n k low high l h (phase.Cue j) lies = absurd (omega arith)
unarmed n k low high l h d lies = refl

unarmed_after : (mode : Mode) (n k : ℕ) (d : Phase) → Lies mode n (5 * k + 5) (5 * k + 6) d → arms d ≡ false
unarmed_after mode n k phase.Select lies = absurd (omega arith)
unarmed_after Plain n k (phase.Cue j) lies = absurd (omega arith)
unarmed_after Confirming n k (phase.Cue j) lies = absurd (omega arith)
unarmed_after mode n k d lies = refl

pub no_plays : (mode : Mode) (n low high : ℕ) (ups : List Answer) (downs : List Phase)
    → ((d : Phase) → Lies mode n low high d → plays d ≡ false)
    → Climbs low high (stretches mode n (pipe_of ups downs)) → list_any plays downs ≡ false
no_plays mode n low high ups downs f c =
    none_within mode n low high plays downs f (downs_climb mode n low high ups downs c)

no_arms : (n low high : ℕ) (ups : List Answer) (downs : List Phase)
    → ((d : Phase) → Lies Plain n low high d → arms d ≡ false)
    → Climbs low high (stretches Plain n (pipe_of ups downs)) → list_any arms downs ≡ false
no_arms n low high ups downs f c = none_within Plain n low high arms downs f (downs_climb Plain n low high ups downs c)

module _ (list : List Item) (settled : ℕ) (s : Bool) (a : Cued) where
  safe_playing : (aired : List Item) (ups : List Answer) (downs : List Phase) (k : ℕ)
      → Playing list settled s a aired ups downs k → list_any arms downs ≡ false → Safe list settled s a aired downs
  safe_playing aired ups downs k h e = by h.stands
    where
      by : ToAir list s a aired ups k ⊎ OnAir list s a aired downs k → Safe list settled s a aired downs
      by (inl q) = record {
        near = near_of list aired settled k q.aired_is (omega (arith, h.within)) (omega (arith, h.settled_is))
            (omega (arith, h.settled_is));
        calm = inr (record {
          none_arms = e;
          last = inr (
            q.aired_is ∙ sym (ap (λ (n : ℕ). take n list) h.settled_is),
            omega (arith, h.settled_is, h.within),
            subst (λ (n : ℕ). HasItem list s a n) (sym h.settled_is) q.has_item,
          );
        });
      }
      by (inr q) = record {
        near = near_of list aired settled (k + 1) q.aired_is (omega (arith, h.within)) (omega (arith, h.settled_is))
            (omega (arith, h.settled_is));
        calm = inr (record { none_arms = e; last = inl q.has_none });
      }

  safe_calm : (aired : List Item) (downs : List Phase) (k : ℕ) → At list aired settled k → list_any plays downs ≡ false
      → Safe list settled s a aired downs
  safe_calm aired downs k h e = record { near = near_at list aired settled k h; calm = inl e }

-- in these phases no PLAY is on the way
abbrev pub is_silent : Phase → Bool
is_silent (phase.Play k) = false
is_silent (phase.Probe k) = false
is_silent (phase.Check k) = false
is_silent phase.Halt = false
is_silent phase.HaltClose = false
is_silent _ = true

pub none_plays : (mode : Mode) (n : ℕ) (ups : List Answer) (downs : List Phase) (q : Phase) → is_silent q ≡ true
    → IsPipe mode n q (pipe_of ups downs) → list_any plays downs ≡ false
none_plays mode n ups downs phase.Open e c = no_plays mode n 1 1 ups downs (quiet_first mode n) c
none_plays mode n ups downs phase.Select e c = no_plays mode n 1 1 ups downs (quiet_first mode n) c
none_plays mode n ups downs phase.Seen e c = no_plays mode n 1 1 ups downs (quiet_first mode n) c
none_plays mode n ups downs (phase.Exists k) e c =
    no_plays mode n (5 * k + 1) (5 * k + 2) ups downs
    (quiet mode n k (5 * k + 1) (5 * k + 2) (omega arith) (omega arith)) c
none_plays Plain n ups downs (phase.Cue k) e c =
    no_plays Plain n (5 * k + 2) (5 * k + 3) ups downs
    (quiet Plain n k (5 * k + 2) (5 * k + 3) (omega arith) (omega arith)) c
none_plays Confirming n ups downs (phase.Cue k) e c =
    no_plays Confirming n (5 * k + 2) (5 * k + 4) ups downs
    (quiet Confirming n k (5 * k + 2) (5 * k + 4) (omega arith) (omega arith)) c
none_plays Plain n ups downs (phase.Wait k) e c =
    no_plays Plain n (5 * k + 3) (5 * k + 4) ups downs
    (quiet Plain n k (5 * k + 3) (5 * k + 4) (omega arith) (omega arith)) c
none_plays Confirming n ups downs (phase.Wait k) e c =
    no_plays Confirming n (5 * k + 2) (5 * k + 4) ups downs
    (quiet Confirming n k (5 * k + 2) (5 * k + 4) (omega arith) (omega arith)) c
none_plays mode n ups downs phase.Drain e c =
    no_plays mode n (5 * n + 1) (5 * n + 2) ups downs
    (quiet mode n n (5 * n + 1) (5 * n + 2) (omega arith) (omega arith)) c
none_plays mode n ups downs phase.Close e c =
    no_plays mode n (5 * n + 1) (5 * n + 3) ups downs
    (quiet mode n n (5 * n + 1) (5 * n + 3) (omega arith) (omega arith)) c
none_plays mode n ups downs _ e c = cc

-- nor in Check anything that arms
pub none_arms_in : (mode : Mode) (n k : ℕ) (ups : List Answer) (downs : List Phase)
    → Climbs (5 * k + 5) (5 * k + 6) (stretches mode n (pipe_of ups downs)) → list_any arms downs ≡ false
none_arms_in mode n k ups downs c =
    none_within mode n (5 * k + 5) (5 * k + 6) arms downs (unarmed_after mode n k)
    (downs_climb mode n (5 * k + 5) (5 * k + 6) ups downs c)

-- what is on the way down in a phase in which nothing can air
pub calm_in : (list : List Item) (settled : ℕ) (s : Bool) (a : Cued) (aired : List Item) (ups : List Answer)
    (downs : List Phase) (q : Phase)
    → Place list settled s a aired ups downs q → IsPipe Plain (length list) q (pipe_of ups downs)
    → Safe list settled s a aired downs
calm_in list settled s a aired ups downs (phase.Exists k) h c =
    safe_calm list settled s a aired downs k h.0 (none_plays Plain (length list) ups downs (phase.Exists k) refl c)
calm_in list settled s a aired ups downs (phase.Cue k) h c =
    safe_calm list settled s a aired downs k h.at (none_plays Plain (length list) ups downs (phase.Cue k) refl c)
calm_in list settled s a aired ups downs (phase.Wait k) h c =
    safe_calm list settled s a aired downs k h.at (none_plays Plain (length list) ups downs (phase.Wait k) refl c)
calm_in list settled s a aired ups downs (phase.Play k) h c =
    safe_playing list settled s a aired ups downs k h (no_arms (length list) (5 * k + 4) (5 * k + 5) ups downs
    (unarmed (length list) k (5 * k + 4) (5 * k + 5) (omega arith) (omega arith)) c)
calm_in list settled s a aired ups downs (phase.Probe k) h c =
    safe_playing list settled s a aired ups downs k h (no_arms (length list) (5 * k + 4) (5 * k + 5) ups downs
    (unarmed (length list) k (5 * k + 4) (5 * k + 5) (omega arith) (omega arith)) c)
calm_in list settled s a aired ups downs (phase.Check k) h c = record {
  near = near_at list aired settled (k + 1) h.at;
  calm = inr (record { none_arms = none_arms_in Plain (length list) k ups downs c; last = inl h.has_none });
}
calm_in list settled s a aired ups downs phase.Drain h c =
    safe_calm list settled s a aired downs (length list) h (none_plays Plain (length list) ups downs phase.Drain refl c)
calm_in list settled s a aired ups downs phase.Close h c =
    safe_calm list settled s a aired downs (length list) h (none_plays Plain (length list) ups downs phase.Close refl c)
calm_in list settled s a aired ups downs phase.Halt h c = h
calm_in list settled s a aired ups downs phase.HaltClose h c = h
calm_in list settled s a aired ups downs q h c =
    safe_calm list settled s a aired downs 0 h (none_plays Plain (length list) ups downs q refl c)
