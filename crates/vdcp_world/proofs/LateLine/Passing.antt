-- A reply that answers the phase's command was sent for a command of the phase's own stretch, and so all that is older
-- has
-- passed. The one exception is a status that was asked for in Wait and is heard in Probe.
use Rattle.std.proofs.Common.{◌≡◌, ℕ, ◌+◌, ◌*◌, ◌<◌, ◌⊎◌, inl, inr, Bool, true, false, ◌||◌, ◌&&◌, List, ◌∷◌, length, arith, sym, ap, subst, ◌∙◌}
use Rattle.std.proofs.lemmas.Bool.{not-false}
use Rattle.std.specs.List.{list_any}
use Rattle.vdcp_words.specs.declared.reply.Reply.{Reply}
use Rattle.vdcp_words.specs.declared.reply.Reply.TheVariants as reply
use Rattle.vdcp_auto.specs.Commands.{is_opened, is_state, is_active, is_presence}
use Rattle.vdcp_auto.specs.Replies.{is_ack, is_refusal, is_empty}
use Rattle.vdcp_auto.specs.declared.phase.Mode.{Mode}
use Rattle.vdcp_auto.specs.declared.phase.Mode.TheVariants.{Plain}
use Rattle.vdcp_auto.specs.declared.phase.Phase.{Phase}
use Rattle.vdcp_auto.specs.declared.phase.Phase.TheVariants as phase
use Rattle.vdcp_world.specs.LateLine.Pipe.{stretch, Climbs, stretches}
use Rattle.vdcp_world.proofs.PhaseTable.{is_asked}
use Rattle.vdcp_world.proofs.LateLine.Delivering.{presence_fits, ack_fits}
use Rattle.vdcp_world.proofs.LateLine.DeliveringPlay.{state_fits}
use Rattle.vdcp_world.proofs.LateLine.Pipes.{climbs_from}
use Rattle.vdcp_world.proofs.LateLine.Places.{Answer, pipe_of, waits, misfits, fits_phase, says_ack, says_done, says_empty, shows_no_cue}
use Rattle.vdcp_world.proofs.LateLine.Stretches.{Lies, ups_climb, none_answers}

-- ---- kinds of replies, numbered

abbrev pub kind_of : Reply → ℕ
kind_of reply.Ack = 0
kind_of (reply.Nak byte) = 9
kind_of (reply.Opened granted) = 1
kind_of (reply.State groups byte) = 2
kind_of (reply.Active id) = 4
kind_of (reply.Present there) = 3
kind_of (reply.Size length) = 5

abbrev pub wanted : Phase → ℕ
wanted phase.Open = 1
wanted phase.Select = 0
wanted phase.Seen = 2
wanted (phase.Exists k) = 3
wanted (phase.Cue k) = 0
wanted (phase.Wait k) = 2
wanted (phase.Play k) = 0
wanted (phase.Probe k) = 2
wanted (phase.Check k) = 4
wanted phase.Drain = 2
wanted phase.Close = 0
wanted phase.Halt = 0
wanted phase.HaltClose = 0

ack_kind : (r : Reply) → is_ack r ≡ true → kind_of r ≡ 0
ack_kind r e = grind arith

opened_kind : (r : Reply) → is_opened r ≡ true → kind_of r ≡ 1
opened_kind r e = grind arith

state_kind : (r : Reply) → is_state r ≡ true → kind_of r ≡ 2
state_kind r e = grind arith

presence_kind : (r : Reply) → is_presence r ≡ true → kind_of r ≡ 3
presence_kind r e = grind arith

active_kind : (r : Reply) → is_active r ≡ true → kind_of r ≡ 4
active_kind r e = grind arith

asked_kind : (q : Phase) (r : Reply) → is_asked q r ≡ true → kind_of r ≡ wanted q
asked_kind phase.Open r e = opened_kind r e
asked_kind phase.Seen r e = state_kind r e
asked_kind (phase.Exists k) r e = presence_kind r e
asked_kind (phase.Wait k) r e = state_kind r e
asked_kind (phase.Probe k) r e = state_kind r e
asked_kind (phase.Check k) r e = active_kind r e
asked_kind phase.Drain r e = state_kind r e
asked_kind _ r e = ack_kind r e

-- an answer that the phase asks for was sent for a command that wants it
pub same_wanted : (q d : Phase) (r : Reply) → is_refusal r ≡ false → fits_phase d r ≡ true → is_asked q r ≡ true
    → wanted d ≡ wanted q
same_wanted q d r none fits asked =
    sym (asked_kind d r (right (is_refusal r) (is_asked d r) none fits)) ∙ asked_kind q r asked
  where
    right : (a b : Bool) → a ≡ false → (a || b) ≡ true → b ≡ true
    right a b e f = grind arith

-- ---- what it was sent for

pub exists_passed : (n k : ℕ) (d : Phase) → k < n → Lies Plain n (5 * k + 1) (5 * k + 2) d → wanted d ≡ 3
    → d ≡ phase.Exists k
exists_passed n k (phase.Exists j) below l w = let e : j ≡ k = omega arith in ap phase.Exists e
exists_passed n k d below l w = absurd (omega arith)

pub cue_passed : (n k : ℕ) (d : Phase) → k < n → Lies Plain n (5 * k + 2) (5 * k + 3) d → wanted d ≡ 0 → d ≡ phase.Cue k
cue_passed n k (phase.Cue j) below l w = let e : j ≡ k = omega arith in ap phase.Cue e
cue_passed n k d below l w = absurd (omega arith)

pub wait_passed : (n k : ℕ) (d : Phase) → k < n → Lies Plain n (5 * k + 3) (5 * k + 4) d → wanted d ≡ 2
    → d ≡ phase.Wait k
wait_passed n k (phase.Wait j) below l w = let e : j ≡ k = omega arith in ap phase.Wait e
wait_passed n k d below l w = absurd (omega arith)

pub play_passed : (n k : ℕ) (d : Phase) → k < n → Lies Plain n (5 * k + 4) (5 * k + 5) d → wanted d ≡ 0
    → d ≡ phase.Play k
play_passed n k (phase.Play j) below l w = let e : j ≡ k = omega arith in ap phase.Play e
play_passed n k d below l w = absurd (omega arith)

pub probe_passed : (n k : ℕ) (d : Phase) → k < n → Lies Plain n (5 * k + 4) (5 * k + 5) d → wanted d ≡ 2
    → (d ≡ phase.Wait k) ⊎ (d ≡ phase.Probe k)
probe_passed n k (phase.Wait j) below l w = let e : j ≡ k = omega arith in inl (ap phase.Wait e)
probe_passed n k (phase.Probe j) below l w = let e : j ≡ k = omega arith in inr (ap phase.Probe e)
probe_passed n k d below l w = absurd (omega arith)

pub check_passed : (n k : ℕ) (d : Phase) → k < n → Lies Plain n (5 * k + 5) (5 * k + 6) d → wanted d ≡ 4
    → d ≡ phase.Check k
check_passed n k (phase.Check j) below l w = let e : j ≡ k = omega arith in ap phase.Check e
check_passed n k d below l w = absurd (omega arith)

-- all that is in the pipe is of that stretch then
pub all_own : (mode : Mode) (n low high : ℕ) (x : Answer) (ups : List Answer) (downs : List Phase)
    → stretch mode n x.to ≡ high
    → Climbs low high (stretches mode n (pipe_of (x ∷ ups) downs))
    → Climbs high high (stretches mode n (pipe_of (x ∷ ups) downs))
all_own mode n low high x ups downs e c =
    subst (λ (m : ℕ). Climbs m high (stretches mode n (pipe_of (x ∷ ups) downs))) e
    (climbs_from low high (stretch mode n x.to) (stretches mode n (pipe_of ups downs)) c)

-- ---- what such a pipe's answers don't say

own_exists : (n k : ℕ) (d : Phase) → k < n → Lies Plain n (5 * k + 2) (5 * k + 2) d → d ≡ phase.Exists k
own_exists n k (phase.Exists j) below l = let e : j ≡ k = omega arith in ap phase.Exists e
own_exists n k d below l = absurd (omega arith)

own_cue : (n k : ℕ) (d : Phase) → k < n → Lies Plain n (5 * k + 3) (5 * k + 3) d → d ≡ phase.Cue k
own_cue n k (phase.Cue j) below l = let e : j ≡ k = omega arith in ap phase.Cue e
own_cue n k d below l = absurd (omega arith)

own_wait : (n k : ℕ) (d : Phase) → k < n → Lies Plain n (5 * k + 4) (5 * k + 4) d → d ≡ phase.Wait k
own_wait n k (phase.Wait j) below l = let e : j ≡ k = omega arith in ap phase.Wait e
own_wait n k d below l = absurd (omega arith)

pub fits_as : (a : Answer) (q : Phase) → a.to ≡ q → misfits a ≡ false → fits_phase q a.reply ≡ true
fits_as a q is m = subst (λ (p : Phase). fits_phase p a.reply ≡ true) is (not-false (fits_phase a.to a.reply) m)

module _ (n k : ℕ) (ups : List Answer) (downs : List Phase) where
  pub exists_no_ack : k < n → list_any misfits ups ≡ false → Climbs (5 * k + 2) (5 * k + 2)
      (stretches Plain n (pipe_of ups downs)) → list_any says_ack ups ≡ false
  exists_no_ack below fit c =
      none_answers Plain n (5 * k + 2) (5 * k + 2) misfits says_ack ups (λ a l m. presence_fits a.reply
      (fits_as a (phase.Exists k) (own_exists n k a.to below l) m)) (ups_climb Plain n (5 * k + 2) (5 * k + 2) ups downs
      c) fit

  pub cue_no_state : k < n → list_any misfits ups ≡ false → Climbs (5 * k + 3) (5 * k + 3)
      (stretches Plain n (pipe_of ups downs)) → list_any says_done ups ≡ false
  cue_no_state below fit c =
      none_answers Plain n (5 * k + 3) (5 * k + 3) misfits says_done ups
      (λ a l m. (ack_fits a.reply (fits_as a (phase.Cue k) (own_cue n k a.to below l) m)).0)
      (ups_climb Plain n (5 * k + 3) (5 * k + 3) ups downs c) fit

  pub cue_shows_none : k < n → list_any misfits ups ≡ false → Climbs (5 * k + 3) (5 * k + 3)
      (stretches Plain n (pipe_of ups downs)) → list_any shows_no_cue ups ≡ false
  cue_shows_none below fit c =
      none_answers Plain n (5 * k + 3) (5 * k + 3) misfits shows_no_cue ups
      (λ a l m. ap (λ (p : Phase). waits p && is_empty a.reply) (own_cue n k a.to below l))
      (ups_climb Plain n (5 * k + 3) (5 * k + 3) ups downs c) fit

  pub wait_no_ack : k < n → list_any misfits ups ≡ false → Climbs (5 * k + 4) (5 * k + 4)
      (stretches Plain n (pipe_of ups downs)) → list_any says_ack ups ≡ false
  wait_no_ack below fit c =
      none_answers Plain n (5 * k + 4) (5 * k + 4) misfits says_ack ups (λ a l m. state_fits a.reply
      (fits_as a (phase.Wait k) (own_wait n k a.to below l) m)) (ups_climb Plain n (5 * k + 4) (5 * k + 4) ups downs c)
      fit

  pub wait_no_empty : k < n → list_any shows_no_cue ups ≡ false
      → Climbs (5 * k + 4) (5 * k + 4) (stretches Plain n (pipe_of ups downs)) → list_any says_empty ups ≡ false
  wait_no_empty below none c =
      none_answers Plain n (5 * k + 4) (5 * k + 4) shows_no_cue says_empty ups
      (λ a l m. sym (ap (λ (p : Phase). waits p && is_empty a.reply) (own_wait n k a.to below l)) ∙ m)
      (ups_climb Plain n (5 * k + 4) (5 * k + 4) ups downs c) none
