-- Where a reply leads the controller, or silence, in confirm mode. Receipts lead nowhere.
use Rattle.std.proofs.Common.{◌≡◌, ℕ, ◌+◌, ◌*◌, ◌<◌, ◌≤◌, ◌⊎◌, inl, inr, Bool, true, false, not, ◌||◌, ◌&&◌, List, [], ◌∷◌, length, Some, refl, arith, ap, subst, ◌∙◌, if◌then◌else◌}
use Rattle.std.proofs.lemmas.Bool.{and_right, or_from, or_left, or_parts, not-false}
use Rattle.std.specs.List.{list_any}
use Rattle.std.specs.Prelude.{slice_get, nat_lt}
use Rattle.vdcp_value.specs.declared.clip_id.ClipId.{ClipId}
use Rattle.vdcp_value.specs.declared.part.Item.{Item}
use Rattle.vdcp_value.specs.declared.timecode.Timecode.{Timecode}
use Rattle.vdcp_words.specs.declared.reply.Reply.{Reply}
use Rattle.vdcp_words.specs.declared.reply.Reply.TheVariants as reply
use Rattle.vdcp_port.specs.Port.{Cued}
use Rattle.vdcp_auto.specs.Commands.{is_presence}
use Rattle.vdcp_auto.specs.Replies.{is_ack, is_receipt, is_granted, is_present, is_done, is_playing, is_empty, is_cueing}
use Rattle.vdcp_auto.specs.Table.{next, names_other, on_lost_cue, on_reply, on_no_answer}
use Rattle.vdcp_auto.specs.declared.outcome.Outcome.TheVariants as outcome
use Rattle.vdcp_auto.specs.declared.phase.Mode.TheVariants.{Confirming}
use Rattle.vdcp_auto.specs.declared.phase.Phase.{Phase}
use Rattle.vdcp_auto.specs.declared.phase.Phase.TheVariants as phase
use Rattle.vdcp_auto.specs.State.{Ready}
use Rattle.vdcp_auto.specs.declared.phase.Transition.{Transition}
use Rattle.vdcp_auto.specs.declared.phase.Transition.TheVariants.{Goes, Settles, Retries, Ends}
use Rattle.vdcp_world.specs.LateLine.Pipe.{stretch, Climbs, stretches, IsPipe}
use Rattle.vdcp_world.proofs.PhaseTable.{is_asked, knows}
use Rattle.vdcp_world.proofs.LateLine.ConfirmedPlaces.{ToSound, Sounded, Idle, Secure, Spot, full_none, Secured}
use Rattle.vdcp_world.proofs.LateLine.ConfirmedReads.{presence_no_state}
use Rattle.vdcp_world.proofs.LateLine.Endings.{EndedAt, settles_at, silent_end}
use Rattle.vdcp_world.proofs.LateLine.Delivering.{clash}
use Rattle.vdcp_world.proofs.LateLine.Passing.{wanted, same_wanted, all_own, fits_as}
use Rattle.vdcp_world.proofs.LateLine.Pipes.{climbs_within}
use Rattle.vdcp_world.proofs.LateLine.Places.{Answer, pipe_of, waits, misfits, fits_phase, says_done, says_empty, shows_no_cue, At}
use Rattle.vdcp_world.proofs.LateLine.Safety.{is_silent, none_arms_in}
use Rattle.vdcp_world.proofs.LateLine.Stretches.{Lies, ups_climb, none_answers}
use Rattle.vdcp_world.proofs.Exchanges.{no_refusal}
use Rattle.vdcp_world.proofs.LateLine.Reads.{differs, misleads, misleads_at}
use Rattle.vdcp_world.proofs.LateLine.Held.{HeldAt, Here as HereIn, Leads as LeadsIn}

abbrev pub Here : List Item → ℕ → Bool → Cued → List Item → List Answer → List Phase → Phase → Type 0
Here = HereIn Confirming Spot Secured

abbrev pub Leads : List Item → List (ClipId × Timecode) → ℕ → Bool → Cued → List Item → List Answer → List Phase
    → Transition → Type 0
Leads = LeadsIn Confirming Spot Secured

-- ---- silence

module _ (list : List Item) where
  -- all that aired is settled, since no PLAY is on the way
  over : (settled : ℕ) (s : Bool) (a : Cued) (aired : List Item) (ups : List Answer) (downs : List Phase) (k : ℕ)
      (q : Phase) → is_silent q ≡ true → IsPipe Confirming (length list) q (pipe_of ups downs) → At list aired settled k
      → EndedAt (Secure list settled a aired downs) list settled s a aired downs (Some k)
  over settled s a aired ups downs k q e c h =
      silent_end (Secure list settled a aired downs) Confirming list settled s a aired ups downs k q e c h

  pub goes_on : (clips : List (ClipId × Timecode)) (settled : ℕ) (s : Bool) (a : Cued) (aired : List Item)
      (ups : List Answer) (downs : List Phase) (q : Phase) → Here list settled s a aired ups downs q
      → Leads list clips settled s a aired ups downs (on_no_answer Confirming q)
  goes_on clips settled s a aired ups downs phase.Close h =
      (over settled s a aired ups downs (length list) phase.Close refl h.1 h.0, tt)
  goes_on clips settled s a aired ups downs phase.HaltClose h = (h.0, tt)
  goes_on clips settled s a aired ups downs _ h = h

-- ---- what a reply was sent for

exists_passed : (n k : ℕ) (d : Phase) → k < n → Lies Confirming n (5 * k + 1) (5 * k + 2) d → wanted d ≡ 3
    → d ≡ phase.Exists k
exists_passed n k (phase.Exists j) below l w = let e : j ≡ k = omega arith in ap phase.Exists e
exists_passed n k d below l w = absurd (omega arith)

wait_passed : (n k : ℕ) (d : Phase) → k < n → Lies Confirming n (5 * k + 2) (5 * k + 4) d → wanted d ≡ 2
    → d ≡ phase.Wait k
wait_passed n k (phase.Wait j) below l w = let e : j ≡ k = omega arith in ap phase.Wait e
wait_passed n k d below l w = absurd (omega arith)

probe_passed : (n k : ℕ) (d : Phase) → k < n → Lies Confirming n (5 * k + 4) (5 * k + 5) d → wanted d ≡ 2
    → (d ≡ phase.Wait k) ⊎ (d ≡ phase.Probe k)
probe_passed n k (phase.Wait j) below l w = let e : j ≡ k = omega arith in inl (ap phase.Wait e)
probe_passed n k (phase.Probe j) below l w = let e : j ≡ k = omega arith in inr (ap phase.Probe e)
probe_passed n k d below l w = absurd (omega arith)

check_passed : (n k : ℕ) (d : Phase) → k < n → Lies Confirming n (5 * k + 5) (5 * k + 6) d → wanted d ≡ 4
    → d ≡ phase.Check k
check_passed n k (phase.Check j) below l w = let e : j ≡ k = omega arith in ap phase.Check e
check_passed n k d below l w = absurd (omega arith)

own_exists : (n k : ℕ) (d : Phase) → k < n → Lies Confirming n (5 * k + 2) (5 * k + 2) d → d ≡ phase.Exists k
own_exists n k (phase.Exists j) below l = let e : j ≡ k = omega arith in ap phase.Exists e
own_exists n k d below l = absurd (omega arith)

exists_no_done : (n k : ℕ) (ups : List Answer) (downs : List Phase) → k < n → list_any misfits ups ≡ false
    → Climbs (5 * k + 2) (5 * k + 2) (stretches Confirming n (pipe_of ups downs)) → list_any says_done ups ≡ false
exists_no_done n k ups downs below fit c =
    none_answers Confirming n (5 * k + 2) (5 * k + 2) misfits says_done ups
    (λ a l m. (presence_no_state a.reply (fits_as a (phase.Exists k) (own_exists n k a.to below l) m)).0)
    (ups_climb Confirming n (5 * k + 2) (5 * k + 2) ups downs c) fit

-- ---- an answer

-- to the next event, or to the end of the list
next_spot : (list : List Item) (clips : List (ClipId × Timecode)) (settled : ℕ) (s : Bool) (a : Cued)
    (aired : List Item) (ups : List Answer) (downs : List Phase)
    (k : ℕ) → Idle list settled a aired k → Climbs (5 * k + 1) (5 * k + 1)
    (stretches Confirming (length list) (pipe_of ups downs))
    → HeldAt Confirming Spot Secured list clips settled s a aired ups downs (Ready (next list k))
next_spot list clips settled s a aired ups downs k h c = by (nat_lt k (length list)) refl
  where
    by : (b : Bool) → nat_lt k (length list) ≡ b
        → HeldAt Confirming Spot Secured list clips settled s a aired ups downs
        (Ready (if b then phase.Exists k else phase.Drain))
    by true e =
        let below : k < length list = grind arith in (
          (h, below),
          climbs_within (5 * k + 1) (5 * k + 1) (5 * k + 1) (5 * k + 2)
              (stretches Confirming (length list) (pipe_of ups downs)) (omega arith)
              (omega arith) c,
        )
    by false e =
        let past : length list ≤ k = grind arith in
        let all : k ≡ length list = omega (arith, past, h.0.within) in (
          subst (λ (n : ℕ). At list aired settled n) all h.0,
          climbs_within (5 * k + 1) (5 * k + 1) (5 * length list + 1) (5 * length list + 2)
              (stretches Confirming (length list) (pipe_of ups downs))
              (omega (arith, all)) (omega (arith, all)) c,
        )

-- what is known where a reply is heard that the phase asks for: it is the oldest answer
pub record Asked (list : List Item) (clips : List (ClipId × Timecode)) (x : Answer) (ups : List Answer)
    (q : Phase) : Type 0 where
  pub no_receipt : is_receipt x.reply ≡ false
  pub asked : is_asked q x.reply ≡ true
  pub fit : list_any misfits (x ∷ ups) ≡ false
  pub true_told : list_any (misleads list clips) (x ∷ ups) ≡ false

-- the phases want the same kind of reply
wants : (list : List Item) (clips : List (ClipId × Timecode)) (x : Answer) (ups : List Answer) (q : Phase)
    → Asked list clips x ups q → wanted x.to ≡ wanted q
wants list clips x ups q k =
    same_wanted q x.to x.reply (no_refusal x.reply k.no_receipt)
    (not-false (fits_phase x.to x.reply) (or_parts (misfits x) (list_any misfits ups) k.fit).0) k.asked

module _ (list : List Item) (clips : List (ClipId × Timecode)) (settled : ℕ) (s : Bool) (a : Cued) (aired : List Item)
  where
    from_open : (ups : List Answer) (downs : List Phase) (granted : Bool)
        → Here list settled s a aired ups downs phase.Open → Leads list clips settled s a aired ups downs
        (if granted then Goes phase.Select else Ends outcome.Denied)
    from_open ups downs true h = h
    from_open ups downs false h = (over list settled s a aired ups downs 0 phase.Open refl h.1 h.0.0, tt)

    from_exists : (x : Answer) (ups : List Answer) (downs : List Phase) (k : ℕ)
        → Asked list clips x ups (phase.Exists k)
        → Here list settled s a aired (x ∷ ups) downs (phase.Exists k) → (b : Bool) → is_present x.reply ≡ b
        → Leads list clips settled s a aired (x ∷ ups) downs (if b then Goes (phase.Cue k) else Ends
        (outcome.Missing k))
    from_exists x ups downs k g h b e = by b e
      where
        is : x.to ≡ phase.Exists k
        is = exists_passed (length list) k x.to h.0.1 (h.1.0, h.1.1) (wants list clips x ups (phase.Exists k) g)

        own : Climbs (5 * k + 2) (5 * k + 2) (stretches Confirming (length list) (pipe_of (x ∷ ups) downs))
        own = all_own Confirming (length list) (5 * k + 1) (5 * k + 2) x ups downs
            (ap (stretch Confirming (length list)) is) h.1

        none : list_any says_done (x ∷ ups) ≡ false
        none = exists_no_done (length list) k (x ∷ ups) downs h.0.1 g.fit own

        unknown : (p k : Bool) → (is_presence x.reply && differs p k) ≡ false → is_presence x.reply ≡ true → p ≡ false
            → k ≡ false
        unknown true k m f e = cc
        unknown false k m f e = grind arith

        by : (b : Bool) → is_present x.reply ≡ b
            → Leads list clips settled s a aired (x ∷ ups) downs (if b then Goes (phase.Cue k) else Ends
            (outcome.Missing k))
        by true e = (
          record {
            at = h.0.0.0;
            within = h.0.1;
            owns = inl h.0.0.1;
            shown = λ t. clash (list_any says_done (x ∷ ups)) t none;
            full = full_none (x ∷ ups) none;
          },
          climbs_within (5 * k + 2) (5 * k + 2) (5 * k + 2) (5 * k + 4)
              (stretches Confirming (length list) (pipe_of (x ∷ ups) downs)) (omega arith) (omega arith) own,
        )
        by false e = (
          over list settled s a aired (x ∷ ups) downs k (phase.Exists k) refl h.1 h.0.0.0,
          (
            h.0.1,
            unknown (is_present x.reply) (knows clips (slice_get list k))
                (subst (λ (p : Phase). misleads_at list clips p x.reply ≡ false) is
                (or_parts (misleads list clips x) (list_any (misleads list clips) ups) g.true_told).0)
                g.asked e,
          ),
        )

-- a state doesn't show both
done_not_empty : (r : Reply) → is_done r ≡ true → is_empty r ≡ false
done_not_empty (reply.State groups (Some byte)) e = by _ _ e
  where
    by : (x y : Bool) → not y ≡ true → (x && y) ≡ false
    by x y e = grind arith
done_not_empty _ e = refl

none_shows : (ups : List Answer) → list_any says_empty ups ≡ false → list_any shows_no_cue ups ≡ false
none_shows [] e = refl
none_shows (x ∷ ups) e =
    or_from (shows_no_cue x) (list_any shows_no_cue ups) (and_right (waits x.to) (is_empty x.reply)
    (or_parts (says_empty x) (list_any says_empty ups) e).0)
    (none_shows ups (or_parts (says_empty x) (list_any says_empty ups) e).1)

module _ (list : List Item) (clips : List (ClipId × Timecode)) (settled : ℕ) (s : Bool) (a : Cued) (aired : List Item)
  where
    lost_cue : (ups : List Answer) (downs : List Phase) (k : ℕ) (again : Bool)
        → Here list settled s a aired ups downs (phase.Wait k) → Leads list clips settled s a aired ups downs
        (if again then Retries k else Ends (outcome.Refused k))
    lost_cue ups downs k true h = h
    lost_cue ups downs k false h = (over list settled s a aired ups downs k (phase.Wait k) refl h.1 h.0.at, tt)

    from_wait : (x : Answer) (ups : List Answer) (downs : List Phase) (k limit tries : ℕ) (wish : Bool)
        → Asked list clips x ups (phase.Wait k) → Here list settled s a aired (x ∷ ups) downs (phase.Wait k)
        → Leads list clips settled s a aired (x ∷ ups) downs (on_reply Confirming list limit wish tries (phase.Wait k)
        x.reply)
    from_wait x ups downs k limit tries wish g h =
        by (is_done x.reply) (not (is_playing x.reply) || wish) (is_empty x.reply) refl
      where
        own : Climbs (5 * k + 4) (5 * k + 4) (stretches Confirming (length list) (pipe_of (x ∷ ups) downs))
        own = all_own Confirming (length list) (5 * k + 2) (5 * k + 4) x ups downs
            (ap (stretch Confirming (length list)) (wait_passed (length list) k x.to h.0.within (h.1.0, h.1.1)
            (wants list clips x ups (phase.Wait k) g))) h.1

        playing : is_done x.reply ≡ true → Leads list clips settled s a aired (x ∷ ups) downs (Goes (phase.Play k))
        playing e =
            let none : list_any says_empty (x ∷ ups) ≡ false =
            or_from (says_empty x) (list_any says_empty ups) (done_not_empty x.reply e) (h.0.full.0 e) in (
              record {
                settled_is = h.0.at.settled_is;
                within = h.0.within;
                never_none = none_shows (x ∷ ups) none;
                stands = inl (record {
                  aired_is = h.0.at.aired_is;
                  owns = h.0.owns;
                  has_item = h.0.shown (or_left (is_done x.reply) (list_any says_done ups) e);
                  no_empty = none;
                });
              },
              climbs_within (5 * k + 4) (5 * k + 4) (5 * k + 4) (5 * k + 5)
                  (stretches Confirming (length list) (pipe_of (x ∷ ups) downs)) (omega arith) (omega arith)
                  own,
            )

        by : (done may none : Bool) → is_done x.reply ≡ done
            → Leads list clips settled s a aired (x ∷ ups) downs
            (if done && may then Goes (phase.Play k) else (if none then on_lost_cue Confirming limit tries k else Goes
            (phase.Wait k)))
        by true true none e = playing e
        by true false true e = lost_cue (x ∷ ups) downs k (nat_lt (tries + 1) limit) h
        by true false false e = h
        by false may true e = lost_cue (x ∷ ups) downs k (nat_lt (tries + 1) limit) h
        by false may false e = h

    from_probe : (x : Answer) (ups : List Answer) (downs : List Phase) (k : ℕ) → Asked list clips x ups (phase.Probe k)
        → Here list settled s a aired (x ∷ ups) downs (phase.Probe k) → (done none : Bool) → is_empty x.reply ≡ none
        → Leads list clips settled s a aired (x ∷ ups) downs (if done then Goes (phase.Play k) else
        (if none then Settles
        k else Goes (phase.Probe k)))
    from_probe x ups downs k g h true none e = h
    from_probe x ups downs k g h false false e = h
    from_probe x ups downs k g h false true e = by h.0.stands which
      where
        which : (x.to ≡ phase.Wait k) ⊎ (x.to ≡ phase.Probe k)
        which = probe_passed (length list) k x.to h.0.within (h.1.0, h.1.1) (wants list clips x ups (phase.Probe k) g)

        shows : (q : Phase) → q ≡ phase.Wait k → (waits q && is_empty x.reply) ≡ true
        shows q is = ap (λ (p : Phase). waits p && is_empty x.reply) is ∙ e

        by : ToSound list s a aired (x ∷ ups) k ⊎ Sounded list a aired downs k
            → (x.to ≡ phase.Wait k) ⊎ (x.to ≡ phase.Probe k)
            → Leads list clips settled s a aired (x ∷ ups) downs (Settles k)
        by (inl q) w = clash (is_empty x.reply) e (or_parts (is_empty x.reply) (list_any says_empty ups) q.no_empty).0
        by (inr q) (inl is) =
            clash (shows_no_cue x) (shows x.to is) (or_parts (shows_no_cue x) (list_any shows_no_cue ups)
            h.0.never_none).0
        by (inr q) (inr is) = (
          (
            (record { aired_is = q.aired_is; within = omega (arith, h.0.within); settled_is = refl }, q.is_empty),
            h.0.within,
          ),
          climbs_within (5 * k + 5) (5 * k + 5) (5 * k + 5) (5 * k + 6)
              (stretches Confirming (length list) (pipe_of (x ∷ ups) downs)) (omega arith) (omega arith)
              (all_own Confirming (length list) (5 * k + 4) (5 * k + 5) x ups downs
              (ap (stretch Confirming (length list)) is) h.1),
        )

    from_check : (x : Answer) (ups : List Answer) (downs : List Phase) (k : ℕ) (other : Bool)
        → Asked list clips x ups (phase.Check k) → Here list settled s a aired (x ∷ ups) downs (phase.Check k)
        → Leads list clips settled s a aired (x ∷ ups) downs (if other then Ends (outcome.Foreign k) else Goes
        (next list (k + 1)))
    from_check x ups downs k true g h = (
      settles_at (Secure list settled a aired downs) list settled s a aired downs (k + 1) h.0.0.0
          (inr (λ _. h.0.0.1, none_arms_in Confirming (length list) k (x ∷ ups) downs h.1)),
      tt,
    )
    from_check x ups downs k false g h =
        next_spot list clips settled s a aired (x ∷ ups) downs (k + 1) h.0.0 (climbs_within (5 * k + 6) (5 * k + 6)
        (5 * (k + 1) + 1) (5 * (k + 1) + 1) (stretches Confirming (length list) (pipe_of (x ∷ ups) downs)) (omega arith)
        (omega arith) (all_own Confirming (length list) (5 * k + 5) (5 * k + 6) x ups downs
        (ap (stretch Confirming (length list)) (check_passed (length list) k x.to h.0.1 (h.1.0, h.1.1)
        (wants list clips x ups (phase.Check k) g))) h.1))

    from_drain : (ups : List Answer) (downs : List Phase) (strange playing : Bool)
        → Here list settled s a aired ups downs phase.Drain → Leads list clips settled s a aired ups downs
        (if strange then Ends (outcome.Strange (length list)) else (if playing then Goes phase.Drain else Goes
        phase.Close))
    from_drain ups downs true playing h =
        (over list settled s a aired ups downs (length list) phase.Drain refl h.1 h.0, tt)
    from_drain ups downs false true h = h
    from_drain ups downs false false h = (
      h.0,
      climbs_within (5 * length list + 1) (5 * length list + 2) (5 * length list + 1) (5 * length list + 3)
          (stretches Confirming (length list) (pipe_of ups downs)) (omega arith) (omega arith) h.1,
    )

-- a receipt is no such reply
ack_receipt : {A : Type 0} → (r : Reply) → is_ack r ≡ true → is_receipt r ≡ false → A
ack_receipt r e f = clash (is_receipt r) (by r e) f
  where
    by : (r : Reply) → is_ack r ≡ true → is_receipt r ≡ true
    by r e = grind arith

pub replied : (list : List Item) (clips : List (ClipId × Timecode)) (settled : ℕ) (s : Bool) (a : Cued)
    (aired : List Item) (x : Answer) (ups : List Answer)
    (downs : List Phase) (limit tries : ℕ) (wish : Bool) (q : Phase) → Asked list clips x ups q
    → Here list settled s a aired (x ∷ ups) downs q
    → Leads list clips settled s a aired (x ∷ ups) downs (on_reply Confirming list limit wish tries q x.reply)
replied list clips settled s a aired x ups downs limit tries wish phase.Open g h =
    from_open list clips settled s a aired (x ∷ ups) downs (is_granted x.reply) h
replied list clips settled s a aired x ups downs limit tries wish phase.Seen g h =
    next_spot list clips settled s a aired (x ∷ ups) downs 0 h.0 h.1
replied list clips settled s a aired x ups downs limit tries wish (phase.Exists k) g h =
    from_exists list clips settled s a aired x ups downs k g h (is_present x.reply) refl
replied list clips settled s a aired x ups downs limit tries wish (phase.Wait k) g h =
    from_wait list clips settled s a aired x ups downs k limit tries wish g h
replied list clips settled s a aired x ups downs limit tries wish (phase.Probe k) g h =
    from_probe list clips settled s a aired x ups downs k g h (is_done x.reply) (is_empty x.reply) refl
replied list clips settled s a aired x ups downs limit tries wish (phase.Check k) g h =
    from_check list clips settled s a aired x ups downs k (names_other (slice_get list k) x.reply) g h
replied list clips settled s a aired x ups downs limit tries wish phase.Drain g h =
    from_drain list clips settled s a aired (x ∷ ups) downs (is_cueing x.reply || is_done x.reply)
    (is_playing x.reply) h
replied list clips settled s a aired x ups downs limit tries wish _ g h = ack_receipt x.reply g.asked g.no_receipt
