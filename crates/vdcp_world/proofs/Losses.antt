-- Whatever its line does, a controller comes to an end: each exchange leads on, or says *not yet*, or shows a loss.
use Rattle.std.proofs.Common.{ℕ, ◌+◌, ◌-◌, ◌*◌, ◌≡◌, ◌<◌, ◌≤◌, ◌⊎◌, inl, inr, Bool, true, false, ◌||◌, ◌&&◌, not, nat_lt, List, [], ◌∷◌, ◌++◌, length, refl, sym, ap, ap₂, subst, ◌∙◌, arith, length-append, if◌then◌else◌}
use Rattle.std.proofs.lemmas.List.Elements.{filter-append}
use Rattle.std.proofs.lemmas.List.Folds.{list_any-append}
use Rattle.std.specs.List.{list_any}
use Rattle.std.specs.Option.{option_map}
use Rattle.std.specs.Prelude.{Option, None, Some, is_some, IfSome, IsSome, IsSomeAnd, filter, slice_get}
use Rattle.vdcp_value.specs.declared.clip_id.ClipId.{ClipId}
use Rattle.vdcp_value.specs.declared.part.Item.{Item}
use Rattle.vdcp_value.specs.declared.part.Part.{Part}
use Rattle.vdcp_words.specs.declared.command.Command.{Command}
use Rattle.vdcp_words.specs.declared.command.Command.TheVariants as command
use Rattle.vdcp_words.specs.declared.reply.Reply.{Reply}
use Rattle.vdcp_port.specs.Clips.{length_of, is_known, is_playable}
use Rattle.vdcp_auto.specs.Commands.{cue_for, cue_of, fits, is_cue_command, is_play_command, is_sense, is_status_command, is_stop_command}
use Rattle.vdcp_auto.specs.Course.{Tick, Receive, Take, Stop, Forget, Reached, begun, called, logged}
use Rattle.vdcp_auto.specs.Log.{answer_to, hears, is_answered, is_counted, is_done_status, is_empty_status, is_stop}
use Rattle.vdcp_auto.specs.Plan.{Plan}
use Rattle.vdcp_auto.specs.Replies.{is_cueing, is_done, is_empty, is_playing, is_refusal}
use Rattle.vdcp_auto.specs.State.{Stage, Ready, Awaiting, Ended, State}
use Rattle.vdcp_auto.specs.Table.{command_in, next, on_refusal, on_reply}
use Rattle.vdcp_auto.specs.Turn.{came_to, ended_by, ended_in, forgotten, is_end, on_unanswered, outcome_of, phase_to_send, sent, stage_after, start, stopped, taken, tick_in, ticked, transition_of, transition_on, tries_after, unanswered_after}
use Rattle.vdcp_auto.specs.declared.exchange.Exchange.{Exchange}
use Rattle.vdcp_auto.specs.declared.exchange.Heard.{Heard}
use Rattle.vdcp_auto.specs.declared.exchange.Heard.TheVariants as heard
use Rattle.vdcp_auto.specs.declared.outcome.Outcome.{Outcome}
use Rattle.vdcp_auto.specs.declared.outcome.Outcome.TheVariants as outcome
use Rattle.vdcp_auto.specs.declared.phase.Mode.{Mode}
use Rattle.vdcp_auto.specs.declared.phase.Mode.TheVariants.{Plain, Confirming}
use Rattle.vdcp_auto.specs.declared.phase.Phase.{Phase}
use Rattle.vdcp_auto.specs.declared.phase.Phase.TheVariants as phase
use Rattle.vdcp_auto.specs.declared.phase.Transition.{Transition}
use Rattle.vdcp_auto.specs.declared.phase.Transition.TheVariants.{Goes}
use Rattle.vdcp_world.specs.Below.{Below}
use Rattle.vdcp_world.specs.BoundedEnd.{IsAllPlayable, IsDone}
use Rattle.vdcp_world.specs.Channel.{Channel, IsReached}
use Rattle.vdcp_world.specs.Headline.{Headline, IsOutside, IsRefusedIn, Means}
use Rattle.vdcp_world.specs.InTime.{PlaysOn, exchanges_for, is_not_yet, not_yets}
use Rattle.vdcp_world.specs.Losses.{ComesToEnd, IsGivenUp, cued_after, losses, losses_from, most_exchanges, shows_loss}
use Rattle.vdcp_world.proofs.BoundedEndProof.{is_done as done_means, plays_at}
use Rattle.vdcp_world.proofs.ConfirmedRounds.{senses}
use Rattle.vdcp_world.proofs.Exchanges.{came_cases, either, fits_asked, no_receipt, no_refusal, on_refused, on_replied}
use Rattle.vdcp_world.proofs.HeadlineProof.{controller_reached, headline, never, reached_kept}
use Rattle.vdcp_world.proofs.PhaseTable.{is_asked}
use Rattle.vdcp_world.proofs.RoundsLeft.{known_of, plays}

-- ---- the phases

-- how many exchanges of a list of n events are left, the phase's own among them, if none says *not yet* nor shows a loss
abbrev left : Mode → ℕ → Phase → ℕ
left Plain n phase.Open = 5 * n + 4
left Plain n phase.Select = 5 * n + 3
left Plain n phase.Seen = 5 * n + 3
left Plain n (phase.Exists k) = 5 * (n - k) + 2
left Plain n (phase.Cue k) = 5 * (n - k) + 1
left Plain n (phase.Wait k) = 5 * (n - k)
left Plain n (phase.Play k) = 5 * (n - k) - 1
left Plain n (phase.Probe k) = 5 * (n - k)
left Plain n (phase.Check k) = 5 * (n - k) - 2
left Confirming n phase.Open = 6 * n + 5
left Confirming n phase.Select = 6 * n + 4
left Confirming n phase.Seen = 6 * n + 3
left Confirming n (phase.Exists k) = 6 * (n - k) + 2
left Confirming n (phase.Cue k) = 6 * (n - k) + 1
left Confirming n (phase.Wait k) = 6 * (n - k)
left Confirming n (phase.Play k) = 6 * (n - k) - 1
left Confirming n (phase.Probe k) = 6 * (n - k) - 2
left Confirming n (phase.Check k) = 6 * (n - k) - 3
left _ n phase.Drain = 2
left _ n phase.Close = 1
left _ n phase.Halt = 1
left _ n phase.HaltClose = 1

abbrev left_at : Mode → ℕ → Stage → ℕ
left_at mode n (Ready q) = left mode n q
left_at mode n (Awaiting q) = left mode n q
left_at mode n (Ended outcome) = 0

-- the phase's event is one of n, and of the cues and PLAYs so far the last is as it has to be; no STOP went out
abbrev pub InTurn : ℕ → Bool → Phase → Type 0
InTurn n cued phase.Open = cued ≡ false
InTurn n cued phase.Select = cued ≡ false
InTurn n cued phase.Seen = cued ≡ false
InTurn n cued (phase.Exists k) = k < n
InTurn n cued (phase.Cue k) = k < n
InTurn n cued (phase.Wait k) = (k < n) × (cued ≡ true)
InTurn n cued (phase.Play k) = k < n
InTurn n cued (phase.Probe k) = (k < n) × (cued ≡ false)
InTurn n cued (phase.Check k) = (k < n) × (cued ≡ false)
InTurn n cued phase.Drain = cued ≡ false
InTurn n cued phase.HaltClose = ⊥
InTurn n cued _ = Unit {0}

-- that it gave up shows that this number of losses isn't less than the limit
abbrev EndsWith : Mode → ℕ → ℕ → Outcome → Type 0
EndsWith mode limit lost outcome.Lost = limit ≤ lost
EndsWith Confirming limit lost (outcome.Refused k) = limit ≤ lost
EndsWith mode limit lost outcome.Stopped = ⊥
EndsWith mode limit lost _ = Unit {0}

abbrev pub TurnAt : Mode → ℕ → ℕ → Bool → ℕ → Stage → Type 0
TurnAt mode limit n cued lost (Ready q) = InTurn n cued q
TurnAt mode limit n cued lost (Awaiting q) = InTurn n cued q
TurnAt mode limit n cued lost (Ended o) = EndsWith mode limit lost o

some_left : (mode : Mode) (n : ℕ) (cued : Bool) (q : Phase) → InTurn n cued q → 1 ≤ left mode n q
some_left Plain n cued q h = grind arith
some_left Confirming n cued q h = grind arith

-- ---- what a phase's command is

abbrev pub asks_state : Phase → Bool
asks_state phase.Seen = true
asks_state (phase.Wait k) = true
asks_state (phase.Probe k) = true
asks_state phase.Drain = true
asks_state _ = false

abbrev sends_cue : Phase → Bool
sends_cue (phase.Cue k) = true
sends_cue _ = false

abbrev sends_play : Phase → Bool
sends_play (phase.Play k) = true
sends_play _ = false

abbrev pub sends_stop : Phase → Bool
sends_stop phase.Halt = true
sends_stop _ = false

pub record Kinds (d : Command) (q : Phase) : Type 0 where
  pub cue : is_cue_command d ≡ sends_cue q
  pub play : is_play_command d ≡ sends_play q
  pub stop : is_stop_command d ≡ sends_stop q
  pub state : is_status_command d ≡ asks_state q
  pub sense : is_sense d ≡ senses q

module _ (list : List Item) (port : ℕ) (d : Command) where
  same_command : (a b : Command) → Some a ≡ Some b → a ≡ b
  same_command a b e = cc

  pub kinds : (q : Phase) → command_in list port q ≡ Some d → Kinds d q
  kinds (phase.Exists k) e = of (slice_get list k) e
    where
      of : (o : Option Item) → option_map (λ item. command.IdRequest item.id) o ≡ Some d → Kinds d (phase.Exists k)
      of None e = cc
      of (Some item) e = grind arith
  kinds (phase.Cue k) e = of (slice_get list k) e
    where
      of_part : (id : ClipId) (part : Option Part) → cue_for id part ≡ d → Kinds d (phase.Cue k)
      of_part id None e = grind arith
      of_part id (Some part) e = grind arith

      of : (o : Option Item) → option_map cue_of o ≡ Some d → Kinds d (phase.Cue k)
      of None e = cc
      of (Some item) e = of_part item.id item.part (same_command (cue_of item) d e)
  kinds q e = grind arith

-- ---- where an exchange leads

abbrev pub says : Bool → ℕ
says true = 1
says false = 0

-- a transition to such a stage, with at least one exchange less left
record Leads (mode : Mode) (limit n : ℕ) (cued : Bool) (lost tries old : ℕ) (t : Transition) : Type 0 where
  turn : TurnAt mode limit n cued lost (stage_after t)
  less : left_at mode n (stage_after t) < old
  tried : tries_after t tries ≤ lost

abbrev cued_in : Bool → Phase → Bool
cued_in cued q = sends_cue q || cued && not (sends_play q)

abbrev pub loss_heard : Mode → Bool → Phase → Reply → Bool
loss_heard Plain cued q r = false
loss_heard Confirming cued q r = asks_state q && (if cued then is_empty r else is_done r)

abbrev pub counts : Mode → Phase → Bool
counts Plain q = true
counts Confirming q = senses q

-- the next event, or the drain
to_next : (mode : Mode) (list : List Item) (cued : Bool) (k : ℕ) → cued ≡ false
    → InTurn (length list) cued (next list k) × (left mode (length list) (next list k) ≤ left mode (length list) (phase.Exists k))
to_next mode list cued k none = by mode (nat_lt k (length list)) refl
  where
    by : (mode : Mode) (b : Bool) → nat_lt k (length list) ≡ b → InTurn (length list) cued (if b then phase.Exists k else phase.Drain)
        × (left mode (length list) (if b then phase.Exists k else phase.Drain) ≤ left mode (length list) (phase.Exists k))
    by Plain true e = grind arith
    by Plain false e = grind arith
    by Confirming true e = grind arith
    by Confirming false e = grind arith

-- the same as a product, for grind
abbrev Leading : Mode → ℕ → ℕ → Bool → ℕ → ℕ → ℕ → Transition → Type 0
Leading mode limit n cued lost tries old t =
    TurnAt mode limit n cued lost (stage_after t) × (left_at mode n (stage_after t) < old) × (tries_after t tries ≤ lost)

tries_next : (list : List Item) (k tries : ℕ) → tries_after (Goes (next list k)) tries ≤ tries
tries_next list k tries = by (nat_lt k (length list))
  where
    by : (b : Bool) → tries_after (Goes (if b then phase.Exists k else phase.Drain)) tries ≤ tries
    by true = omega arith
    by false = omega arith

answer_leads : (mode : Mode) (list : List Item) (limit tries lost : ℕ) (take cued : Bool) (q : Phase) (r : Reply)
    → is_asked q r ≡ true → sends_stop q ≡ false → InTurn (length list) cued q → tries ≤ lost
    → Leading mode limit (length list) (cued_in cued q) (lost + says (loss_heard mode cued q r)) tries
    (left mode (length list) q + says (asks_state q && (is_cueing r || is_playing r)) + 2 * says (loss_heard mode cued q r))
    (on_reply mode list limit take tries q r)
answer_leads Plain list limit tries lost take cued phase.Select r a s h few = grind (arith, to_next, tries_next)
answer_leads Plain list limit tries lost take cued phase.Seen r a s h few = grind (arith, to_next, tries_next)
answer_leads Plain list limit tries lost take cued (phase.Check k) r a s h few = grind (arith, to_next, tries_next)
answer_leads Plain list limit tries lost take cued _ r a s h few = grind arith
answer_leads Confirming list limit tries lost take cued phase.Select r a s h few = grind (arith, to_next, tries_next)
answer_leads Confirming list limit tries lost take cued phase.Seen r a s h few = grind (arith, to_next, tries_next)
answer_leads Confirming list limit tries lost take cued (phase.Check k) r a s h few = grind (arith, to_next, tries_next)
answer_leads Confirming list limit tries lost take cued _ r a s h few = grind arith

refusal_leads : (n limit tries lost : ℕ) (cued now : Bool) (q : Phase) → sends_stop q ≡ false → InTurn n cued q → tries ≤ lost
    → Leading Plain limit n now lost tries (left Plain n q) (on_refusal n q)
refusal_leads n limit tries lost cued now q s h few = grind arith

silence_leads : (mode : Mode) (n limit unanswered tries lost : ℕ) (cued : Bool) (q : Phase) → sends_stop q ≡ false
    → InTurn n cued q → unanswered ≤ lost → tries ≤ lost
    → Leading mode limit n (cued_in cued q) (lost + says (counts mode q)) tries (left mode n q + 2 * says (counts mode q))
    (on_unanswered mode limit unanswered (counts mode q) q)
silence_leads Plain n limit unanswered tries lost cued q s h row few = grind arith
silence_leads Confirming n limit unanswered tries lost cued q s h row few = grind arith

module _ (d : Command) (q : Phase) (k : Kinds d q) (cued : Bool) where
  abbrev with_heard : Option Heard → Exchange
  with_heard came = record { command = d; heard = came }

  cue_stays : (came : Option Heard) → cued_after cued (with_heard came) ≡ cued_in cued q
  cue_stays came = ap₂ (λ (c p : Bool). c || cued && not p) k.cue k.play

  pub answer_shows : (mode : Mode) (r : Reply) → is_answered (with_heard (Some (heard.Reply r))) ≡ true
      → shows_loss mode cued (with_heard (Some (heard.Reply r))) ≡ loss_heard mode cued q r
  answer_shows Plain r a = ap not a
  answer_shows Confirming r a = by (is_sense d) (is_answered (with_heard (Some (heard.Reply r)))) (is_status_command d)
      (asks_state q) cued (is_empty r) (is_done r) a k.state
    where
      by : (sense answered asks state cued empty done : Bool) → answered ≡ true → asks ≡ state
          → (sense && not answered || (if cued then asks && empty else asks && done)) ≡ (state && (if cued then empty else done))
      by sense answered asks state cued empty done a s = grind arith

  pub silence_is : (mode : Mode) (came : Option Heard) → is_answered (with_heard came) ≡ false
      → shows_loss mode cued (with_heard came) ≡ counts mode q
  silence_is Plain came a = ap not a
  silence_is Confirming came a = by (is_sense d) (senses q) (is_answered (with_heard came)) (is_status_command d) (asks_state q)
      cued (hears is_empty came) (hears is_done came) k.sense a k.state (states_sense q)
    where
      states_sense : (q : Phase) → asks_state q ≡ true → senses q ≡ true
      states_sense q h = grind arith

      by : (sense s answered asks state cued empty done : Bool) → sense ≡ s → answered ≡ false → asks ≡ state
          → (state ≡ true → s ≡ true) → (sense && not answered || (if cued then asks && empty else asks && done)) ≡ s
      by sense true answered asks state cued empty done a b c h = grind arith
      by sense false answered asks true cued empty done a b c h = grind arith
      by sense false answered asks false cued empty done a b c h = grind arith

  pub counts_so : (mode : Mode) (came : Option Heard) → is_counted mode (with_heard came) ≡ counts mode q
  counts_so Plain came = refl
  counts_so Confirming came = k.sense

  -- an unanswered exchange that counts shows a loss
  row_grows : (mode : Mode) (came : Option Heard) (row lost : ℕ) → row ≤ lost
      → unanswered_after mode (with_heard came) row ≤ lost + says (shows_loss mode cued (with_heard came))
  row_grows Plain came row lost few = by (is_answered (with_heard came))
    where
      by : (b : Bool) → (if b then 0 else row + 1) ≤ lost + says (not b)
      by true = omega arith
      by false = omega (arith, few)
  row_grows Confirming came row lost few = by (is_sense d) (is_answered (with_heard came))
      (if cued then is_empty_status (with_heard came) else is_done_status (with_heard came))
    where
      by : (sense answered more : Bool) → (if sense then (if answered then 0 else row + 1) else row)
          ≤ lost + says (sense && not answered || more)
      by true true more = omega arith
      by true false more = omega (arith, few)
      by false answered more = omega (arith, few)

more_left : (mode : Mode) (limit n : ℕ) (cued now : Bool) (lost more tries old new : ℕ) (t : Transition)
    → Leading mode limit n cued lost tries old t → cued ≡ now → lost ≤ more → old ≤ new
    → Leads mode limit n now more tries new t
more_left mode limit n cued now lost more tries old new t leads e low most = record {
  turn = subst (λ (b : Bool). TurnAt mode limit n b more (stage_after t)) e (at (stage_after t) leads.0);
  less = omega (arith, leads.1, most);
  tried = omega (arith, leads.2, low);
}
  where
    ends : (mode : Mode) (o : Outcome) → EndsWith mode limit lost o → EndsWith mode limit more o
    ends Plain o h = grind (arith, low)
    ends Confirming o h = grind (arith, low)

    at : (stage : Stage) → TurnAt mode limit n cued lost stage → TurnAt mode limit n cued more stage
    at (Ready q) h = h
    at (Awaiting q) h = h
    at (Ended o) h = ends mode o h

module _ (plan : Plan) (state : State) (q : Phase) (d : Command) (cued : Bool) (lost : ℕ)
    (is : command_in plan.list plan.port q ≡ Some d) (goes : sends_stop q ≡ false) (turn : InTurn (length plan.list) cued q)
    (row : state.unanswered ≤ lost) (tried : state.tries ≤ lost) where
  k : Kinds d q
  k = kinds plan.list plan.port d q is

  abbrev Led : Option Heard → Transition → Type 0
  Led came t = Leads plan.mode plan.limit (length plan.list) (cued_after cued (record { command = d; heard = came }))
      (lost + says (shows_loss plan.mode cued (record { command = d; heard = came }))) state.tries
      (left plan.mode (length plan.list) q + says (is_not_yet (record { command = d; heard = came }))
      + 2 * says (shows_loss plan.mode cued (record { command = d; heard = came }))) t

  abbrev turns : Option Heard → Option Reply → Transition
  turns came o = transition_on plan state.take state.tries state.unanswered
      (is_counted plan.mode (record { command = d; heard = came })) q o

  silent : (came : Option Heard) → is_answered (record { command = d; heard = came }) ≡ false → Led came (turns came None)
  silent came none =
      subst (λ (b : Bool). Led came (on_unanswered plan.mode plan.limit state.unanswered b q))
      (sym (counts_so d q k cued plan.mode came))
      (more_left plan.mode plan.limit (length plan.list) (cued_in cued q) _ (lost + says (counts plan.mode q)) _ state.tries
      (left plan.mode (length plan.list) q + 2 * says (counts plan.mode q)) _ _
      (silence_leads plan.mode (length plan.list) plan.limit state.unanswered state.tries lost cued q goes turn row tried)
      (sym (cue_stays d q k cued came)) (omega (arith, shows)) (omega (arith, shows)))
    where
      shows : says (shows_loss plan.mode cued (record { command = d; heard = came })) ≡ says (counts plan.mode q)
      shows = ap says (silence_is d q k cued plan.mode came none)

  refused_by : (r : Reply) (mode : Mode) → plan.mode ≡ mode → is_end mode d (Some (heard.Reply r)) ≡ true
      → is_refusal r ≡ true → Led (Some (heard.Reply r)) (on_refusal (length plan.list) q)
  refused_by r Confirming m ends refused = absurd (apart refused (no_refusal r (no_receipt d r ends)))
    where
      apart : is_refusal r ≡ true → is_refusal r ≡ false → ⊥
      apart a b = grind arith
  refused_by r Plain m ends refused =
      more_left plan.mode plan.limit (length plan.list) (cued_after cued x) _ lost _ state.tries
      (left plan.mode (length plan.list) q) _ _
      (subst (λ (mode : Mode). Leading mode plan.limit (length plan.list) (cued_after cued x) lost state.tries
      (left mode (length plan.list) q) (on_refusal (length plan.list) q)) (sym m)
      (refusal_leads (length plan.list) plan.limit state.tries lost cued (cued_after cued x) q goes turn tried))
      refl (omega arith) (omega arith)
    where
      x : Exchange
      x = record { command = d; heard = Some (heard.Reply r) }

  replied_by : (r : Reply) → is_answered (record { command = d; heard = Some (heard.Reply r) }) ≡ true → fits d r ≡ true
      → Led (Some (heard.Reply r)) (on_reply plan.mode plan.list plan.limit state.take state.tries q r)
  replied_by r a fit =
      more_left plan.mode plan.limit (length plan.list) (cued_in cued q) _ (lost + says (loss_heard plan.mode cued q r)) _
      state.tries (left plan.mode (length plan.list) q + says (asks_state q && (is_cueing r || is_playing r))
      + 2 * says (loss_heard plan.mode cued q r)) _ _
      (answer_leads plan.mode plan.list plan.limit state.tries lost state.take cued q r
      (fits_asked plan.list plan.port q d r is fit) goes turn tried)
      (sym (cue_stays d q k cued (Some (heard.Reply r)))) (omega (arith, shows)) (omega (arith, not_yet, shows))
    where
      shows : says (shows_loss plan.mode cued (record { command = d; heard = Some (heard.Reply r) }))
          ≡ says (loss_heard plan.mode cued q r)
      shows = ap says (answer_shows d q k cued plan.mode r a)

      not_yet : says (is_status_command d && (is_cueing r || is_playing r))
          ≡ says (asks_state q && (is_cueing r || is_playing r))
      not_yet = ap (λ (b : Bool). says (b && (is_cueing r || is_playing r))) k.state

  leads_on : (came : Option Heard) → is_end plan.mode d came ≡ true → Led came (turns came (answer_to d came))
  leads_on None ends = silent None refl
  leads_on (Some heard.Other) ends = silent (Some heard.Other) refl
  leads_on (Some (heard.Reply r)) ends = by (is_refusal r || fits d r) refl
    where
      answers : is_answered (record { command = d; heard = Some (heard.Reply r) }) ≡ true
          → (is_refusal r ≡ true) ⊎ ((is_refusal r ≡ false) × (fits d r ≡ true))
          → Led (Some (heard.Reply r)) (turns (Some (heard.Reply r)) (Some r))
      answers a (inl refused) =
          subst (Led (Some (heard.Reply r)))
          (sym (on_refused plan.mode plan.list plan.limit state.tries state.take q r refused))
          (refused_by r plan.mode refl ends refused)
      answers a (inr (none, fit)) =
          subst (Led (Some (heard.Reply r)))
          (sym (on_replied plan.mode plan.list plan.limit state.tries state.take q r none)) (replied_by r a fit)

      by : (b : Bool) → (is_refusal r || fits d r) ≡ b
          → Led (Some (heard.Reply r)) (turns (Some (heard.Reply r)) (if b then Some r else None))
      by true e = answers (ap (λ (b : Bool). is_some (if b then Some r else None)) e) (either (is_refusal r) (fits d r) e)
      by false e = silent (Some (heard.Reply r)) (ap (λ (b : Bool). is_some (if b then Some r else None)) e)

-- ---- a log

not_yets_more : (log : List Exchange) (e : Exchange) → not_yets (log ++ e ∷ []) ≡ not_yets log + says (is_not_yet e)
not_yets_more log e =
    ap length (filter-append is_not_yet log (e ∷ [])) ∙ length-append (filter is_not_yet log) (filter is_not_yet (e ∷ []))
    ∙ ap (λ (n : ℕ). not_yets log + n) (by (is_not_yet e))
  where
    by : (b : Bool) → length (if b then e ∷ [] else []) ≡ says b
    by true = refl
    by false = refl

-- of its cues and PLAYs the last is a cue
abbrev pub cued_by : Bool → List Exchange → Bool
cued_by cued [] = cued
cued_by cued (e ∷ log) = cued_by (cued_after cued e) log

cued_more : (cued : Bool) (log : List Exchange) (e : Exchange) → cued_by cued (log ++ e ∷ []) ≡ cued_after (cued_by cued log) e
cued_more cued [] e = refl
cued_more cued (x ∷ log) e = cued_more (cued_after cued x) log e

pub losses_more : (mode : Mode) (cued : Bool) (log : List Exchange) (e : Exchange) → losses_from mode cued (log ++ e ∷ [])
    ≡ losses_from mode cued log + says (shows_loss mode (cued_by cued log) e)
losses_more mode cued [] e = by (shows_loss mode cued e)
  where
    by : (b : Bool) → (if b then 1 else 0) + 0 ≡ 0 + says b
    by true = refl
    by false = refl
losses_more mode cued (x ∷ log) e =
    let more = losses_more mode (cued_after cued x) log e in omega (arith, more)

pub record Counts (plan : Plan) (state : State) (log : List Exchange) : Type 0 where
  pub turn : TurnAt plan.mode plan.limit (length plan.list) (cued_by false log) (losses plan.mode log) state.stage
  pub few : length log + left_at plan.mode (length plan.list) state.stage ≤ most_exchanges plan log
  pub row : state.unanswered ≤ losses plan.mode log
  pub tried : state.tries ≤ losses plan.mode log

-- of a controller that wasn't stopped
abbrev Going : Plan → State → List Exchange → Type 0
Going plan state log = list_any is_stop log ≡ false → Counts plan state log

begins : (plan : Plan) → Counts plan start []
begins plan = record { turn = refl; few = by plan.mode; row = omega arith; tried = omega arith }
  where
    by : (mode : Mode) → 0 + left mode (length plan.list) phase.Open ≤ exchanges_for mode (length plan.list) + 0 + 2 * 0
    by Plain = omega arith
    by Confirming = omega arith

ticks : (plan : Plan) (state : State) (log : List Exchange) → Counts plan state log → Counts plan (ticked state) log
ticks plan state log c = by state.stage refl
  where
    by : (stage : Stage) → state.stage ≡ stage → Counts plan (tick_in stage state) log
    by (Ready q) e = sends state.stop
      where
        turn : InTurn (length plan.list) (cued_by false log) q
        turn = subst (TurnAt plan.mode plan.limit (length plan.list) (cued_by false log) (losses plan.mode log)) e c.turn

        few : length log + left plan.mode (length plan.list) q ≤ most_exchanges plan log
        few = subst (λ (stage : Stage). length log + left_at plan.mode (length plan.list) stage ≤ most_exchanges plan log) e
            c.few

        halt : (mode : Mode) → left mode (length plan.list) phase.Halt ≡ 1
        halt Plain = refl
        halt Confirming = refl

        sends : (stop : Bool) → Counts plan (sent (phase_to_send stop q) state) log
        sends true = record {
          turn = tt;
          few = omega (arith, few, some_left plan.mode (length plan.list) (cued_by false log) q turn, halt plan.mode);
          row = c.row;
          tried = c.tried;
        }
        sends false = record { turn = turn; few = few; row = c.row; tried = c.tried }
    by _ e = c

comes : (plan : Plan) (state : State) (log : List Exchange) (came : Option Heard) → Going plan state log
    → Going plan (came_to plan came state) (logged log (ended_by plan came state))
comes plan state log came g = came_cases (Going plan) plan state log came g over
  where
    over : (q : Phase) (d : Command) → state.stage ≡ Awaiting q → command_in plan.list plan.port q ≡ Some d
        → is_end plan.mode d came ≡ true
        → Going plan (ended_in plan (Awaiting q) (record { command = d; heard = came }) state)
        (log ++ record { command = d; heard = came } ∷ [])
    over q d at is ends unstopped = record {
      turn = subst (λ (b : Bool). TurnAt plan.mode plan.limit (length plan.list) b (losses plan.mode (log ++ x ∷ [])) (stage_after t))
          (sym (cued_more false log x))
          (subst (λ (n : ℕ). TurnAt plan.mode plan.limit (length plan.list) (cued_after (cued_by false log) x) n (stage_after t))
          (sym more) leads.turn);
      few = omega (arith, few, leads.less, length-append log (x ∷ []), not_yets_more log x, more);
      row = omega (
        arith,
        more,
        row_grows d q (kinds plan.list plan.port d q is) (cued_by false log) plan.mode came state.unanswered
            (losses plan.mode log) c.row,
      );
      tried = omega (arith, more, leads.tried);
    }
      where
        x : Exchange
        x = record { command = d; heard = came }

        t : Transition
        t = transition_of plan state q x

        more : losses plan.mode (log ++ x ∷ [])
            ≡ losses plan.mode log + says (shows_loss plan.mode (cued_by false log) x)
        more = losses_more plan.mode false log x

        both : (list_any is_stop log || list_any is_stop (x ∷ [])) ≡ false
        both = sym (list_any-append is_stop log (x ∷ [])) ∙ unstopped

        before : (a b : Bool) → (a || (b || false)) ≡ false → (a ≡ false) × (b ≡ false)
        before a b e = grind arith

        c : Counts plan state log
        c = g (before (list_any is_stop log) (is_stop x) both).0

        few : length log + left plan.mode (length plan.list) q ≤ most_exchanges plan log
        few = subst (λ (stage : Stage). length log + left_at plan.mode (length plan.list) stage ≤ most_exchanges plan log) at
            c.few

        goes : sends_stop q ≡ false
        goes = sym (kinds plan.list plan.port d q is).stop ∙ (before (list_any is_stop log) (is_stop x) both).1

        leads : Leads plan.mode plan.limit (length plan.list) (cued_after (cued_by false log) x)
            (losses plan.mode log + says (shows_loss plan.mode (cued_by false log) x)) state.tries
            (left plan.mode (length plan.list) q + says (is_not_yet x)
            + 2 * says (shows_loss plan.mode (cued_by false log) x)) t
        leads = leads_on plan state q d (cued_by false log) (losses plan.mode log) is goes
            (subst (TurnAt plan.mode plan.limit (length plan.list) (cued_by false log) (losses plan.mode log)) at c.turn)
            c.row c.tried came ends

pub going : (plan : Plan) (state : State) (log : List Exchange) → Reached plan state log → Going plan state log
going plan state log (begun some few) = λ unstopped. begins plan
going plan state log (called r Tick) = λ unstopped. ticks plan _ log (going plan _ log r unstopped)
going plan state log (called r (Receive came)) = comes plan _ _ came (going plan _ _ r)
going plan state log (called r Take) = λ unstopped. same (going plan _ log r unstopped)
  where
    same : {s : State} → Counts plan s log → Counts plan (taken s) log
    same c = record { turn = c.turn; few = c.few; row = c.row; tried = c.tried }
going plan state log (called r Stop) = λ unstopped. same (going plan _ log r unstopped)
  where
    same : {s : State} → Counts plan s log → Counts plan (stopped s) log
    same c = record { turn = c.turn; few = c.few; row = c.row; tried = c.tried }
going plan state log (called r Forget) = λ unstopped. same (going plan _ log r unstopped)
  where
    same : {s : State} → Counts plan s log → Counts plan (forgotten s) log
    same c = record { turn = c.turn; few = c.few; row = c.row; tried = c.tried }

pub comes_to_end : (plan : Plan) (state : State) (log : List Exchange) → Reached plan state log
    → list_any is_stop log ≡ false → ComesToEnd plan state log
comes_to_end plan state log r unstopped = record {
  few = omega (arith, c.few);
  ends = λ enough. ends enough state.stage c.turn c.few;
}
  where
    c : Counts plan state log
    c = going plan state log r unstopped

    ends : most_exchanges plan log ≤ length log → (stage : Stage)
        → TurnAt plan.mode plan.limit (length plan.list) (cued_by false log) (losses plan.mode log) stage
        → length log + left_at plan.mode (length plan.list) stage ≤ most_exchanges plan log → IsSome (outcome_of stage)
    ends enough (Ready q) turn few =
        absurd (omega (arith, few, enough, some_left plan.mode (length plan.list) (cued_by false log) q turn))
    ends enough (Awaiting q) turn few =
        absurd (omega (arith, few, enough, some_left plan.mode (length plan.list) (cued_by false log) q turn))
    ends enough (Ended o) turn few = refl

-- how it ended
pub ends_with : (plan : Plan) (state : State) (log : List Exchange) → Reached plan state log → list_any is_stop log ≡ false
    → (o : Outcome) → state.stage ≡ Ended o → EndsWith plan.mode plan.limit (losses plan.mode log) o
ends_with plan state log r unstopped o e =
    subst (TurnAt plan.mode plan.limit (length plan.list) (cued_by false log) (losses plan.mode log)) e
    (going plan state log r unstopped).turn

-- ---- a line in time

-- a playable list comes to Done there, if it is neither stopped nor given up
pub plays_reached : Below → (c : Channel) → IsReached c → IsAllPlayable c → list_any is_stop c.log ≡ false
    → (IsGivenUp c.plan c.log → ⊥) → PlaysOn c.plan c.state c.aired c.log (losses c.plan.mode c.log)
plays_reached below c r playable unstopped goes = record {
  few = to_end.few;
  done = λ enough. let d = done c.state.stage refl (to_end.ends enough) in (d.ended, d.all_aired, d.all_reported);
  ended = ended c.state.stage refl;
}
  where
    reached : Reached c.plan c.state c.log
    reached = controller_reached c r

    to_end : ComesToEnd c.plan c.state c.log
    to_end = comes_to_end c.plan c.state c.log reached unstopped

    h : Headline c
    h = headline c (reached_kept below c r) (below.lawful c.plan c.state c.log reached)

    can_play : (k : ℕ) → plays c.port.clips (slice_get c.plan.list k) ≡ true
    can_play = plays_at c.port.clips c.plan.list playable

    is_known_at : (o : Option Item) → plays c.port.clips o ≡ true
        → IsSomeAnd o (λ item. is_known c.port.clips item.id ≡ false) → ⊥
    is_known_at None p u = u
    is_known_at (Some item) p u = apart (known_of (length_of c.port.clips item.id) item.part p) u
      where
        apart : is_known c.port.clips item.id ≡ true → is_known c.port.clips item.id ≡ false → ⊥
        apart a b = grind arith

    fits_at : (o : Option Item) → plays c.port.clips o ≡ true → IsSomeAnd o (IsOutside c.port.clips) → ⊥
    fits_at None p u = u
    fits_at (Some item) p u = apart p u.does_not_fit
      where
        apart : is_playable c.port.clips item ≡ true → is_playable c.port.clips item ≡ false → ⊥
        apart a b = grind arith

    not_refused : (k : ℕ) (mode : Mode) → c.plan.mode ≡ mode
        → EndsWith mode c.plan.limit (losses c.plan.mode c.log) (outcome.Refused k)
        → IsRefusedIn mode c.port.clips c.plan c.log k → ⊥
    not_refused k Plain e many refused = fits_at (slice_get c.plan.list k) (can_play k) refused
    not_refused k Confirming e many refused = goes (record { many = many; how = inr (e, k, refused) })

    ends : (o : Outcome) → c.state.stage ≡ Ended o → EndsWith c.plan.mode c.plan.limit (losses c.plan.mode c.log) o
    ends = ends_with c.plan c.state c.log reached unstopped

    no_other : (o : Outcome) → c.state.stage ≡ Ended o → Means c.port.clips c.plan c.aired c.log o → o ≡ outcome.Done
    no_other outcome.Done e means = refl
    no_other outcome.Lost e means = absurd (goes (record { many = ends outcome.Lost e; how = inl means.now }))
    no_other (outcome.Missing k) e means = absurd (is_known_at (slice_get c.plan.list k) (can_play k) means.0)
    no_other (outcome.Refused k) e means = absurd (not_refused k c.plan.mode refl (ends (outcome.Refused k) e) means.0)
    no_other outcome.Stopped e means = absurd (ends outcome.Stopped e)
    no_other _ e means = absurd means

    is_done_with : (o : Outcome) → c.state.stage ≡ Ended o → o ≡ outcome.Done
    is_done_with o e = no_other o e (never c o h (ap outcome_of e))

    done : (stage : Stage) → c.state.stage ≡ stage → IsSome (outcome_of stage) → IsDone c
    done (Ended o) e some = done_means below c r (e ∙ ap Ended (is_done_with o e))
    done _ e some = cc

    ended : (stage : Stage) → c.state.stage ≡ stage → IfSome (outcome_of c.state.stage) (λ o. o ≡ outcome.Done)
    ended (Ended o) e =
        subst (λ (stage : Stage). IfSome (outcome_of stage) (λ o. o ≡ outcome.Done)) (sym e) (is_done_with o e)
    ended (Ready q) e = subst (λ (stage : Stage). IfSome (outcome_of stage) (λ o. o ≡ outcome.Done)) (sym e) tt
    ended (Awaiting q) e = subst (λ (stage : Stage). IfSome (outcome_of stage) (λ o. o ≡ outcome.Done)) (sym e) tt
