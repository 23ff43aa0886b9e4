-- A PLAY that the rows announce comes next, and the state that is added before it lets it go out.
use Rattle.std.proofs.Common.{◌≡◌, ℕ, Bool, true, false, not, ◌||◌, ◌&&◌, None, Some, refl, sym, ap, ap₂, bit_and, ◌∙◌}
use Rattle.std.proofs.lemmas.Nat.{and_assoc}
use Rattle.std.specs.Int.Bits.{and_zero_r}
use Rattle.std.specs.Prelude.{◌==◌, IsTrue, if◌then◌else◌}
use Rattle.vdcp_auto.specs.Plan.{Plan}
use Rattle.vdcp_auto.specs.Replies.{is_done, is_empty, is_playing}
use Rattle.vdcp_auto.specs.State.{Stage, Ready, Awaiting, State}
use Rattle.vdcp_auto.specs.Table.{on_lost_cue}
use Rattle.vdcp_auto.specs.Turn.{came_to, given, state_after, taken, ticked}
use Rattle.vdcp_auto.specs.declared.exchange.Heard.{Heard}
use Rattle.vdcp_auto.specs.declared.exchange.Heard.TheVariants as heard
use Rattle.vdcp_auto.specs.declared.phase.Phase.TheVariants as phase
use Rattle.vdcp_auto.specs.declared.phase.Transition.TheVariants.{Goes}
use Rattle.vdcp_journal.proofs.StateAgain.{ended, made, state}
use Rattle.vdcp_journal.specs.Mending.{announced_state}
use Rattle.vdcp_journal.specs.Thinned.{hears_done, hears_free}
use Rattle.vdcp_journal.specs.declared.row.Note.TheVariants as note
use Rattle.vdcp_words.specs.declared.command.Command.TheVariants as command
use Rattle.vdcp_words.specs.declared.reply.Reply.TheVariants as reply

goes : (done plays : Bool) → done ≡ true → (done && (not plays || true)) ≡ true
goes true true is = refl
goes true false is = refl
goes false plays is = cc is

-- in this phase, with the request open
plays_next : (plan : Plan) (k : ℕ) (take : Bool) (n m i g b : ℕ) → is_done (state g b) ≡ true
    → given plan (came_to plan (Some (heard.Reply (state g b))) (taken (made (Awaiting (phase.Wait k)) take n m i)))
    ≡ Some command.Play
plays_next plan k take n m i g b done =
    ap (given plan) (ended plan (phase.Wait k) true n m i g b
    ∙ ap (λ (t : Bool). state_after (if t then Goes (phase.Play k) else (if is_empty (state g b)
    then on_lost_cue plan.mode plan.limit i k else Goes (phase.Wait k))) 0 (made (Awaiting (phase.Wait k)) true n m i))
    (goes (is_done (state g b)) (is_playing (state g b)) done))

-- what is added is that state, without the bit that says that a clip plays
abbrev pub lets_out : Heard → Heard → Type 0
lets_out h free = IsTrue (hears_done (note.Heard h)) × IsTrue (hears_free (note.Heard free))

free_so : (done : Bool) → done ≡ true → (done && not (not (0 == 0))) ≡ true
free_so true is = refl
free_so false is = cc is

is_free : (g b : ℕ) → is_done (state g b) ≡ true
    → (is_done (state g (bit_and b 0xFB)) && not (is_playing (state g (bit_and b 0xFB)))) ≡ true
is_free g b done =
    let same : bit_and (bit_and b 0xFB) 128 ≡ bit_and b 128 = and_assoc 128 b 0xFB in
    let none : bit_and (bit_and b 0xFB) 4 ≡ 0 = and_assoc 4 b 0xFB ∙ and_zero_r b in
    ap₂ (λ (x y : ℕ). not (x == 0) && not (not (y == 0))) same none
    ∙ free_so (is_done (state g b)) done

added_by : (g b : ℕ) (free : Heard) (done : Bool) → is_done (state g b) ≡ done
    → (if done then Some (heard.Reply (state g (bit_and b 0xFB))) else None) ≡ Some free
    → (is_done (state g b) ≡ true) × lets_out (heard.Reply (state g b)) free
added_by g b free true is some =
    let same : heard.Reply (state g (bit_and b 0xFB)) ≡ free = cc some in (is, (is, sub same))
  where
    sub : heard.Reply (state g (bit_and b 0xFB)) ≡ free → IsTrue (hears_free (note.Heard free))
    sub same = ap (λ (f : Heard). hears_free (note.Heard f)) (sym same) ∙ is_free g b is
added_by g b free false is some = cc some

announced_in : (plan : Plan) (stage : Stage) (take : Bool) (n m i : ℕ) (h free : Heard)
    → announced_state (Some h) stage ≡ Some free
    → (given plan (came_to plan (Some h) (taken (ticked (made stage take n m i)))) ≡ Some command.Play) × lets_out h free
announced_in plan (Ready (phase.Wait k)) take n m i (heard.Reply (reply.State g (Some b))) free is =
    let added = added_by g b free (is_done (state g b)) refl is in (plays_next plan k take n m i g b added.0, added.1)
announced_in plan (Awaiting (phase.Wait k)) take n m i (heard.Reply (reply.State g (Some b))) free is =
    let added = added_by g b free (is_done (state g b)) refl is in (plays_next plan k take n m i g b added.0, added.1)
announced_in plan stage take n m i h free is = cc is

announced_at : (plan : Plan) (stage : Stage) (take stop : Bool) (n m i : ℕ) (h free : Heard)
    → announced_state (Some h) stage ≡ Some free → stop ≡ false
    → (given plan (came_to plan (Some h) (taken (ticked (record {
      stage = stage;
      take = take;
      stop = stop;
      unanswered = n;
      settled = m;
      tries = i;
    })))) ≡ Some command.Play) × lets_out h free
announced_at plan stage take true n m i h free is goes_on = cc goes_on
announced_at plan stage take false n m i h free is goes_on = announced_in plan stage take n m i h free is

pub announced : (plan : Plan) (s : State) (h free : Heard) → announced_state (Some h) s.stage ≡ Some free → s.stop ≡ false
    → (given plan (came_to plan (Some h) (taken (ticked s))) ≡ Some command.Play) × lets_out h free
announced plan s h free = announced_at plan s.stage s.take s.stop s.unanswered s.settled s.tries h free
