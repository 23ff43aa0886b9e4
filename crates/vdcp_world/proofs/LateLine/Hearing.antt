-- Where a reply leads the controller, or silence, in plain mode.
use Rattle.std.proofs.Common.{◌≡◌, ℕ, ◌+◌, ◌*◌, ◌<◌, ◌≤◌, ◌⊎◌, inl, inr, Bool, true, false, not, ◌||◌, ◌&&◌, List, ◌∷◌, length, take, refl, arith, ap, subst, ◌∙◌, if◌then◌else◌, Some}
use Rattle.std.proofs.lemmas.Bool.{not-false, or_left, or_parts}
use Rattle.std.specs.List.{list_any}
use Rattle.std.specs.Prelude.{slice_get, nat_lt}
use Rattle.vdcp_value.specs.declared.clip_id.ClipId.{ClipId}
use Rattle.vdcp_value.specs.declared.part.Item.{Item}
use Rattle.vdcp_value.specs.declared.timecode.Timecode.{Timecode}
use Rattle.vdcp_port.specs.Port.{Cued}
use Rattle.vdcp_auto.specs.Commands.{is_presence}
use Rattle.vdcp_auto.specs.Replies.{is_ack, is_refusal, is_granted, is_present, is_done, is_playing, is_empty, is_cueing}
use Rattle.vdcp_auto.specs.Table.{next, names_other, on_lost_cue, on_reply, on_refusal, on_no_answer}
use Rattle.vdcp_auto.specs.declared.outcome.Outcome.TheVariants as outcome
use Rattle.vdcp_auto.specs.declared.phase.Mode.TheVariants.{Plain}
use Rattle.vdcp_auto.specs.declared.phase.Phase.{Phase}
use Rattle.vdcp_auto.specs.declared.phase.Phase.TheVariants as phase
use Rattle.vdcp_auto.specs.State.{Ready}
use Rattle.vdcp_auto.specs.declared.phase.Transition.{Transition}
use Rattle.vdcp_auto.specs.declared.phase.Transition.TheVariants.{Goes, Settles, Ends}
use Rattle.vdcp_world.specs.LateLine.Pipe.{stretch, Climbs, stretches, IsPipe}
use Rattle.vdcp_world.proofs.PhaseTable.{is_asked, knows}
use Rattle.vdcp_world.proofs.LateLine.Delivering.{clash}
use Rattle.vdcp_world.proofs.LateLine.Passing.{wanted, same_wanted, exists_passed, cue_passed, wait_passed, play_passed, probe_passed, check_passed, all_own, exists_no_ack, cue_no_state, cue_shows_none, wait_no_ack, wait_no_empty}
use Rattle.vdcp_world.proofs.LateLine.Pipes.{climbs_within}
use Rattle.vdcp_world.proofs.LateLine.Places.{Answer, pipe_of, waits, misfits, fits_phase, says_ack, says_done, says_empty, shows_no_cue, At, ToAir, OnAir, Place, Safe}
use Rattle.vdcp_world.proofs.LateLine.Endings.{EndedAt, settles_at, silent_end}
use Rattle.vdcp_world.proofs.LateLine.Safety.{calm_in, is_silent, none_arms_in}
use Rattle.vdcp_world.proofs.LateLine.Reads.{differs, misleads, misleads_at}
use Rattle.vdcp_world.proofs.LateLine.Held.{HeldAt, Here as HereIn, Leads as LeadsIn}

abbrev pub Here : List Item → ℕ → Bool → Cued → List Item → List Answer → List Phase → Phase → Type 0
Here = HereIn Plain Place Safe

abbrev pub Leads : List Item → List (ClipId × Timecode) → ℕ → Bool → Cued → List Item → List Answer → List Phase
    → Transition → Type 0
Leads = LeadsIn Plain Place Safe

pub goes_on : (list : List Item) (clips : List (ClipId × Timecode)) (settled : ℕ) (s : Bool) (a : Cued)
    (aired : List Item) (ups : List Answer) (downs : List Phase) (q : Phase) → Here list settled s a aired ups downs q
    → Leads list clips settled s a aired ups downs (on_no_answer Plain q)
goes_on list clips settled s a aired ups downs (phase.Play k) h = h
goes_on list clips settled s a aired ups downs _ h = h

-- ---- a refusal

module _ (list : List Item) where
  -- all that aired is settled, since no PLAY is on the way
  over : (settled : ℕ) (s : Bool) (a : Cued) (aired : List Item) (ups : List Answer) (downs : List Phase) (k : ℕ)
      (q : Phase) → is_silent q ≡ true → IsPipe Plain (length list) q (pipe_of ups downs) → At list aired settled k
      → EndedAt (Safe list settled s a aired downs) list settled s a aired downs (Some k)
  over settled s a aired ups downs k q e c h =
      silent_end (Safe list settled s a aired downs) Plain list settled s a aired ups downs k q e c h

  pub refused : (clips : List (ClipId × Timecode)) (settled : ℕ) (s : Bool) (a : Cued) (aired : List Item)
      (ups : List Answer) (downs : List Phase) (q : Phase) → Here list settled s a aired ups downs q
      → Leads list clips settled s a aired ups downs (on_refusal (length list) q)
  refused clips settled s a aired ups downs phase.Open h =
      (over settled s a aired ups downs 0 phase.Open refl h.1 h.0, tt)
  refused clips settled s a aired ups downs phase.Select h =
      (over settled s a aired ups downs 0 phase.Select refl h.1 h.0, tt)
  refused clips settled s a aired ups downs phase.Seen h =
      (over settled s a aired ups downs 0 phase.Seen refl h.1 h.0, tt)
  refused clips settled s a aired ups downs phase.Close h =
      (over settled s a aired ups downs (length list) phase.Close refl h.1 h.0, tt)
  refused clips settled s a aired ups downs phase.Halt h = h
  refused clips settled s a aired ups downs phase.HaltClose h = (h.0, tt)
  refused clips settled s a aired ups downs q h = (calm_in list settled s a aired ups downs q h.0 h.1, tt)

-- ---- an answer

-- to the next event, or to the end of the list
next_place : (list : List Item) (clips : List (ClipId × Timecode)) (settled : ℕ) (s : Bool) (a : Cued)
    (aired : List Item) (ups : List Answer) (downs : List Phase)
    (k : ℕ) → At list aired settled k → Climbs (5 * k + 1) (5 * k + 1)
    (stretches Plain (length list) (pipe_of ups downs))
    → HeldAt Plain Place Safe list clips settled s a aired ups downs (Ready (next list k))
next_place list clips settled s a aired ups downs k h c = by (nat_lt k (length list)) refl
  where
    by : (b : Bool) → nat_lt k (length list) ≡ b
        → HeldAt Plain Place Safe list clips settled s a aired ups downs
        (Ready (if b then phase.Exists k else phase.Drain))
    by true e =
        let below : k < length list = grind arith in (
          (h, below),
          climbs_within (5 * k + 1) (5 * k + 1) (5 * k + 1) (5 * k + 2)
              (stretches Plain (length list) (pipe_of ups downs)) (omega arith) (omega arith) c,
        )
    by false e =
        let past : length list ≤ k = grind arith in
        let all : k ≡ length list = omega (arith, past, h.within) in (
          subst (λ (n : ℕ). At list aired settled n) all h,
          climbs_within (5 * k + 1) (5 * k + 1) (5 * length list + 1) (5 * length list + 2)
              (stretches Plain (length list) (pipe_of ups downs)) (omega (arith, all)) (omega (arith, all)) c,
        )

-- what is known where a reply is heard that the phase asks for: it is the oldest answer
pub record Asked (list : List Item) (clips : List (ClipId × Timecode)) (x : Answer) (ups : List Answer)
    (q : Phase) : Type 0 where
  pub no_refusal : is_refusal x.reply ≡ false
  pub asked : is_asked q x.reply ≡ true
  pub fit : list_any misfits (x ∷ ups) ≡ false
  pub true_told : list_any (misleads list clips) (x ∷ ups) ≡ false

-- the phases want the same kind of reply
wants : (list : List Item) (clips : List (ClipId × Timecode)) (x : Answer) (ups : List Answer) (q : Phase)
    → Asked list clips x ups q → wanted x.to ≡ wanted q
wants list clips x ups q k =
    same_wanted q x.to x.reply k.no_refusal (not-false (fits_phase x.to x.reply) (or_parts (misfits x)
    (list_any misfits ups) k.fit).0) k.asked

module _ (list : List Item) (clips : List (ClipId × Timecode)) (settled : ℕ) (s : Bool) (a : Cued) (aired : List Item)
  where
    from_open : (ups : List Answer) (downs : List Phase) (granted : Bool)
        → Here list settled s a aired ups downs phase.Open → Leads list clips settled s a aired ups downs
        (if granted then Goes phase.Select else Ends outcome.Denied)
    from_open ups downs true h = h
    from_open ups downs false h = (over list settled s a aired ups downs 0 phase.Open refl h.1 h.0, tt)

    from_exists : (x : Answer) (ups : List Answer) (downs : List Phase) (k : ℕ)
        → Asked list clips x ups (phase.Exists k)
        → Here list settled s a aired (x ∷ ups) downs (phase.Exists k) → (b : Bool) → is_present x.reply ≡ b
        → Leads list clips settled s a aired (x ∷ ups) downs (if b then Goes (phase.Cue k) else Ends
        (outcome.Missing k))
    from_exists x ups downs k g h b e = by b e
      where
        is : x.to ≡ phase.Exists k
        is = exists_passed (length list) k x.to h.0.1 (h.1.0, h.1.1) (wants list clips x ups (phase.Exists k) g)

        own : Climbs (5 * k + 2) (5 * k + 2) (stretches Plain (length list) (pipe_of (x ∷ ups) downs))
        own = all_own Plain (length list) (5 * k + 1) (5 * k + 2) x ups downs (ap (stretch Plain (length list)) is) h.1

        unknown : (p k : Bool) → (is_presence x.reply && differs p k) ≡ false → is_presence x.reply ≡ true → p ≡ false
            → k ≡ false
        unknown true k m f e = cc
        unknown false k m f e = grind arith

        by : (b : Bool) → is_present x.reply ≡ b
            → Leads list clips settled s a aired (x ∷ ups) downs (if b then Goes (phase.Cue k) else Ends
            (outcome.Missing k))
        by true e = (
          record {
            at = h.0.0;
            within = h.0.1;
            taken =
                λ t. clash (list_any says_ack (x ∷ ups)) t (exists_no_ack (length list) k (x ∷ ups) downs h.0.1 g.fit
                own);
          },
          climbs_within (5 * k + 2) (5 * k + 2) (5 * k + 2) (5 * k + 3)
              (stretches Plain (length list) (pipe_of (x ∷ ups) downs)) (omega arith) (omega arith) own,
        )
        by false e = (
          over list settled s a aired (x ∷ ups) downs k (phase.Exists k) refl h.1 h.0.0,
          (
            h.0.1,
            unknown (is_present x.reply) (knows clips (slice_get list k))
                (subst (λ (p : Phase). misleads_at list clips p x.reply ≡ false) is
                (or_parts (misleads list clips x) (list_any (misleads list clips) ups) g.true_told).0)
                g.asked e,
          ),
        )

    from_cue : (x : Answer) (ups : List Answer) (downs : List Phase) (k : ℕ) → Asked list clips x ups (phase.Cue k)
        → Here list settled s a aired (x ∷ ups) downs (phase.Cue k)
        → Leads list clips settled s a aired (x ∷ ups) downs (Goes (phase.Wait k))
    from_cue x ups downs k g h = (
      record {
        at = h.0.at;
        within = h.0.within;
        has_item = h.0.taken (or_left (is_ack x.reply) (list_any says_ack ups) g.asked);
        shown =
            λ t. clash (list_any says_done (x ∷ ups)) t (cue_no_state (length list) k (x ∷ ups) downs h.0.within g.fit
            own);
        never_none = cue_shows_none (length list) k (x ∷ ups) downs h.0.within g.fit own;
      },
      climbs_within (5 * k + 3) (5 * k + 3) (5 * k + 3) (5 * k + 4)
          (stretches Plain (length list) (pipe_of (x ∷ ups) downs)) (omega arith) (omega arith) own,
    )
      where
        own : Climbs (5 * k + 3) (5 * k + 3) (stretches Plain (length list) (pipe_of (x ∷ ups) downs))
        own = all_own Plain (length list) (5 * k + 2) (5 * k + 3) x ups downs
            (ap (stretch Plain (length list)) (cue_passed (length list) k x.to h.0.within (h.1.0, h.1.1)
            (wants list clips x ups (phase.Cue k) g))) h.1

    from_wait : (x : Answer) (ups : List Answer) (downs : List Phase) (k limit tries : ℕ) (take : Bool)
        → Asked list clips x ups (phase.Wait k) → Here list settled s a aired (x ∷ ups) downs (phase.Wait k)
        → Leads list clips settled s a aired (x ∷ ups) downs (on_reply Plain list limit take tries (phase.Wait k)
        x.reply)
    from_wait x ups downs k limit tries take g h =
        by (is_done x.reply) (not (is_playing x.reply) || take) (is_empty x.reply) refl
      where
        own : Climbs (5 * k + 4) (5 * k + 4) (stretches Plain (length list) (pipe_of (x ∷ ups) downs))
        own = all_own Plain (length list) (5 * k + 3) (5 * k + 4) x ups downs
            (ap (stretch Plain (length list)) (wait_passed (length list) k x.to h.0.within (h.1.0, h.1.1)
            (wants list clips x ups (phase.Wait k) g))) h.1

        playing : is_done x.reply ≡ true → Leads list clips settled s a aired (x ∷ ups) downs (Goes (phase.Play k))
        playing e = (
          record {
            settled_is = h.0.at.settled_is;
            within = h.0.within;
            never_none = h.0.never_none;
            stands = inl (record {
              aired_is = h.0.at.aired_is;
              has_item = h.0.has_item;
              has_done = h.0.shown (or_left (is_done x.reply) (list_any says_done ups) e);
              no_ack = wait_no_ack (length list) k (x ∷ ups) downs h.0.within g.fit own;
              no_empty = wait_no_empty (length list) k (x ∷ ups) downs h.0.within h.0.never_none own;
            });
          },
          climbs_within (5 * k + 4) (5 * k + 4) (5 * k + 4) (5 * k + 5)
              (stretches Plain (length list) (pipe_of (x ∷ ups) downs)) (omega arith) (omega arith) own,
        )

        lost : Leads list clips settled s a aired (x ∷ ups) downs (Ends (outcome.Strange k))
        lost = (over list settled s a aired (x ∷ ups) downs k (phase.Wait k) refl h.1 h.0.at, tt)

        by : (done may none : Bool) → is_done x.reply ≡ done
            → Leads list clips settled s a aired (x ∷ ups) downs
            (if done && may then Goes (phase.Play k) else (if none then on_lost_cue Plain limit tries k else Goes
            (phase.Wait k)))
        by true true none e = playing e
        by true false true e = lost
        by true false false e = h
        by false may true e = lost
        by false may false e = h

    -- the event was aired
    settles : (ups : List Answer) (downs : List Phase) (k : ℕ) → k < length list → OnAir list s a aired downs k
        → Climbs (5 * k + 5) (5 * k + 5) (stretches Plain (length list) (pipe_of ups downs))
        → Leads list clips settled s a aired ups downs (Settles k)
    settles ups downs k below q own = (
      record {
        at = record { aired_is = q.aired_is; within = omega (arith, below); settled_is = refl };
        within = below;
        has_none = q.has_none;
      },
      climbs_within (5 * k + 5) (5 * k + 5) (5 * k + 5) (5 * k + 6) (stretches Plain (length list) (pipe_of ups downs))
          (omega arith) (omega arith) own,
    )

    from_play : (x : Answer) (ups : List Answer) (downs : List Phase) (k : ℕ) → Asked list clips x ups (phase.Play k)
        → Here list settled s a aired (x ∷ ups) downs (phase.Play k)
        → Leads list clips settled s a aired (x ∷ ups) downs (Settles k)
    from_play x ups downs k g h = by h.0.stands
      where
        by : ToAir list s a aired (x ∷ ups) k ⊎ OnAir list s a aired downs k
            → Leads list clips settled s a aired (x ∷ ups) downs (Settles k)
        by (inl q) = clash (is_ack x.reply) g.asked (or_parts (is_ack x.reply) (list_any says_ack ups) q.no_ack).0
        by (inr q) = settles (x ∷ ups) downs k h.0.within q
            (all_own Plain (length list) (5 * k + 4) (5 * k + 5) x ups downs
            (ap (stretch Plain (length list)) (play_passed (length list) k x.to h.0.within (h.1.0, h.1.1)
            (wants list clips x ups (phase.Play k) g))) h.1)

    from_probe : (x : Answer) (ups : List Answer) (downs : List Phase) (k : ℕ) → Asked list clips x ups (phase.Probe k)
        → Here list settled s a aired (x ∷ ups) downs (phase.Probe k) → (done none : Bool) → is_empty x.reply ≡ none
        → Leads list clips settled s a aired (x ∷ ups) downs (if done then Goes (phase.Play k) else
        (if none then Settles
        k else Goes (phase.Probe k)))
    from_probe x ups downs k g h true none e = h
    from_probe x ups downs k g h false false e = h
    from_probe x ups downs k g h false true e = by h.0.stands which
      where
        which : (x.to ≡ phase.Wait k) ⊎ (x.to ≡ phase.Probe k)
        which = probe_passed (length list) k x.to h.0.within (h.1.0, h.1.1) (wants list clips x ups (phase.Probe k) g)

        shows : (q : Phase) → q ≡ phase.Wait k → (waits q && is_empty x.reply) ≡ true
        shows q is = ap (λ (p : Phase). waits p && is_empty x.reply) is ∙ e

        by : ToAir list s a aired (x ∷ ups) k ⊎ OnAir list s a aired downs k
            → (x.to ≡ phase.Wait k) ⊎ (x.to ≡ phase.Probe k)
            → Leads list clips settled s a aired (x ∷ ups) downs (Settles k)
        by (inl q) w = clash (is_empty x.reply) e (or_parts (is_empty x.reply) (list_any says_empty ups) q.no_empty).0
        by (inr q) (inl is) =
            clash (shows_no_cue x) (shows x.to is) (or_parts (shows_no_cue x) (list_any shows_no_cue ups)
            h.0.never_none).0
        by (inr q) (inr is) = settles (x ∷ ups) downs k h.0.within q
            (all_own Plain (length list) (5 * k + 4) (5 * k + 5) x ups downs (ap (stretch Plain (length list)) is) h.1)

    from_check : (x : Answer) (ups : List Answer) (downs : List Phase) (k : ℕ) (other : Bool)
        → Asked list clips x ups (phase.Check k) → Here list settled s a aired (x ∷ ups) downs (phase.Check k)
        → Leads list clips settled s a aired (x ∷ ups) downs (if other then Ends (outcome.Foreign k) else Goes
        (next list (k + 1)))
    from_check x ups downs k true g h = (
      settles_at (Safe list settled s a aired downs) list settled s a aired downs (k + 1) h.0.at
          (inr (h.0.has_none, none_arms_in Plain (length list) k (x ∷ ups) downs h.1)),
      tt,
    )
    from_check x ups downs k false g h =
        next_place list clips settled s a aired (x ∷ ups) downs (k + 1) h.0.at (climbs_within (5 * k + 6) (5 * k + 6)
        (5 * (k + 1) + 1) (5 * (k + 1) + 1) (stretches Plain (length list) (pipe_of (x ∷ ups) downs)) (omega arith)
        (omega arith) (all_own Plain (length list) (5 * k + 5) (5 * k + 6) x ups downs (ap (stretch Plain (length list))
        (check_passed (length list) k x.to h.0.within (h.1.0, h.1.1) (wants list clips x ups (phase.Check k) g))) h.1))

    from_drain : (ups : List Answer) (downs : List Phase) (strange playing : Bool)
        → Here list settled s a aired ups downs phase.Drain → Leads list clips settled s a aired ups downs
        (if strange then Ends (outcome.Strange (length list)) else (if playing then Goes phase.Drain else Goes
        phase.Close))
    from_drain ups downs true playing h =
        (over list settled s a aired ups downs (length list) phase.Drain refl h.1 h.0, tt)
    from_drain ups downs false true h = h
    from_drain ups downs false false h = (
      h.0,
      climbs_within (5 * length list + 1) (5 * length list + 2) (5 * length list + 1) (5 * length list + 3)
          (stretches Plain (length list) (pipe_of ups downs)) (omega arith) (omega arith) h.1,
    )

    pub replied : (x : Answer) (ups : List Answer) (downs : List Phase) (limit tries : ℕ) (take : Bool) (q : Phase)
        → Asked list clips x ups q → Here list settled s a aired (x ∷ ups) downs q
        → Leads list clips settled s a aired (x ∷ ups) downs (on_reply Plain list limit take tries q x.reply)
    replied x ups downs limit tries take phase.Open g h = from_open (x ∷ ups) downs (is_granted x.reply) h
    replied x ups downs limit tries take (phase.Exists k) g h = from_exists x ups downs k g h (is_present x.reply) refl
    replied x ups downs limit tries take (phase.Cue k) g h = from_cue x ups downs k g h
    replied x ups downs limit tries take (phase.Wait k) g h = from_wait x ups downs k limit tries take g h
    replied x ups downs limit tries take (phase.Play k) g h = from_play x ups downs k g h
    replied x ups downs limit tries take (phase.Probe k) g h =
        from_probe x ups downs k g h (is_done x.reply) (is_empty x.reply) refl
    replied x ups downs limit tries take (phase.Check k) g h =
        from_check x ups downs k (names_other (slice_get list k) x.reply) g h
    replied x ups downs limit tries take phase.Drain g h =
        from_drain (x ∷ ups) downs (is_cueing x.reply || is_done x.reply) (is_playing x.reply) h
    replied x ups downs limit tries take phase.Close g h =
        (over list settled s a aired (x ∷ ups) downs (length list) phase.Close refl h.1 h.0, tt)
    replied x ups downs limit tries take phase.Halt g h = h
    replied x ups downs limit tries take phase.HaltClose g h = (h.0, tt)
    replied x ups downs limit tries take _ g h = next_place list clips settled s a aired (x ∷ ups) downs 0 h.0 h.1
