-- All that aired is settled, and nothing that is on the way airs: what keeps it so, and how the log shows it.
use Rattle.std.proofs.Common.{◌≡◌, ℕ, ◌+◌, ◌⊎◌, inl, inr, Bool, true, false, not, ◌||◌, ◌&&◌, if◌then◌else◌, List, [], ◌∷◌, ◌++◌, Option, Some, None, refl, arith, sym, ap, subst, ◌∙◌, take}
use Rattle.std.proofs.lemmas.Bool.{or_parts}
use Rattle.std.specs.List.{list_any}
use Rattle.vdcp_value.specs.declared.part.Item.{Item}
use Rattle.vdcp_words.specs.declared.command.Command.{Command}
use Rattle.vdcp_words.specs.declared.reply.Reply.{Reply}
use Rattle.vdcp_port.specs.Port.{Cued, empty}
use Rattle.vdcp_auto.specs.Commands.{is_play_command}
use Rattle.vdcp_auto.specs.Course.{logged}
use Rattle.vdcp_auto.specs.Log.{is_play}
use Rattle.vdcp_auto.specs.Plan.{Plan}
use Rattle.vdcp_auto.specs.Replies.{is_ack}
use Rattle.vdcp_auto.specs.Settled.{may_have_aired, settled, settles}
use Rattle.vdcp_auto.specs.State.{Stage, State, Ready, Awaiting, Ended}
use Rattle.vdcp_auto.specs.Table.{command_in}
use Rattle.vdcp_auto.specs.Turn.{awaited_in, came_to, ended_by, exchange_of, state_after, transition_of, unanswered_after}
use Rattle.vdcp_auto.specs.declared.exchange.Exchange.{Exchange}
use Rattle.vdcp_auto.specs.declared.exchange.Heard.{Heard}
use Rattle.vdcp_auto.specs.declared.phase.Mode.{Mode}
use Rattle.vdcp_auto.specs.declared.phase.Mode.TheVariants.{Plain, Confirming}
use Rattle.vdcp_auto.specs.declared.phase.Phase.{Phase}
use Rattle.vdcp_auto.specs.declared.phase.Phase.TheVariants as phase
use Rattle.vdcp_auto.specs.declared.phase.Transition.{Transition}
use Rattle.vdcp_auto.specs.declared.phase.Transition.TheVariants.{Settles}
use Rattle.vdcp_world.proofs.Exchanges.{came_cases}
use Rattle.vdcp_world.proofs.LateLine.ConfirmedPlaces.{none_sent}
use Rattle.vdcp_world.proofs.LateLine.Delivering.{airs_none, at_same, none_same, no_more}
use Rattle.vdcp_world.proofs.LateLine.DeliveringPlay.{airs_nothing}
use Rattle.vdcp_world.proofs.LateLine.Executed.{Does, Executed, left_cued, put_on_air}
use Rattle.vdcp_world.proofs.LateLine.Places.{Answer, plays, arms, At, HasNone, Still, Exact}
use Rattle.vdcp_world.proofs.LateLine.Lessening.{none_ages, Lessens}

pub none_taken : (list : List Item) → [] ≡ take 0 list
none_taken [] = refl
none_taken (item ∷ list) = refl

module _ (list : List Item) (settled : ℕ) (s : Bool) (a : Cued) where
  pub exact_at : (aired : List Item) (downs : List Phase) (k : ℕ) → At list aired settled k → Still s a downs
      → Exact list settled s a aired downs
  exact_at aired downs k h still = record {
    at = subst (At list aired settled) (sym h.settled_is) h;
    still = still;
  }

  pub exact_lessens : (aired : List Item) (ups : List Answer) (downs : List Phase) (t : Bool) (b : Cued)
      (others : List Answer) (left : List Phase) → Lessens s a ups downs t b others left
      → Exact list settled s a aired downs → Exact list settled t b aired left
  exact_lessens aired ups downs t b others left g h = record { at = h.at; still = by h.still }
    where
      by : Still s a downs → Still t b left
      by (inl e) = inl (g.downs_none plays e)
      by (inr (none, e)) = inr (none_ages s a t b g.ages none, g.downs_none arms e)

  -- the controller sends what neither plays nor arms
  pub exact_sends : (aired : List Item) (downs : List Phase) (q : Phase) → plays q ≡ false → arms q ≡ false
      → Exact list settled s a aired downs → Exact list settled s a aired (downs ++ q ∷ [])
  exact_sends aired downs q no_play no_arm h = record { at = h.at; still = by h.still }
    where
      by : Still s a downs → Still s a (downs ++ q ∷ [])
      by (inl e) = inl (none_sent plays downs q e no_play)
      by (inr (none, e)) = inr (none, none_sent arms downs q e no_arm)

-- ---- the port reads the oldest command

none_closed : (s t : Bool) (a b : Cued) → (t ≡ true → s ≡ true) → (b ≡ empty) ⊎ (b ≡ a) → HasNone s a → HasNone t b
none_closed s t a b ts (inl none) h = λ _. none
none_closed s t a b ts (inr same) h = none_same s t a b ts same h

-- nothing is cued, and nothing airs
none_does : (list : List Item) (d : Phase) (s : Bool) (a : Cued) (r : Reply) (t : Bool) (b : Cued) (airs : List Item)
    → arms d ≡ false → HasNone s a → Does list d s a r t b airs → HasNone t b × (airs ≡ [])
none_does list (phase.Wait k) s a r t b airs e h x = (none_same s t a b (no_more s t x.0.0) x.0.1 h, x.0.2)
none_does list (phase.Probe k) s a r t b airs e h x = (none_same s t a b (no_more s t x.0.0) x.0.1 h, x.0.2)
none_does list (phase.Play k) s a r t b airs e h x = by x.1
  where
    by : ((s ≡ false) × (b ≡ a) × (airs ≡ []) × (is_ack r ≡ false)) ⊎
        ((s ≡ true) × (b ≡ left_cued a) × (airs ≡ put_on_air a))
        → HasNone t b × (airs ≡ [])
    by (inl (off, same, none, no_ack)) = (none_same s t a b (no_more s t x.0) same h, none)
    by (inr (on, left, plays)) =
        let none = airs_nothing a (h on) in
        (none_same s t a b (no_more s t x.0) (left ∙ none.1) h, plays ∙ none.0)
none_does list phase.Close s a r t b airs e h x = (none_closed s t a b x.0 x.2 h, x.1)
none_does list phase.Halt s a r t b airs e h x = (none_closed s t a b x.0 x.2 h, x.1)
none_does list phase.HaltClose s a r t b airs e h x = (none_closed s t a b x.0 x.2 h, x.1)
none_does list phase.Select s a r t b airs e h x = cc
none_does list (phase.Cue k) s a r t b airs e h x = cc
none_does list _ s a r t b airs e h x = (none_same s t a b (no_more s t x.0) x.1 h, x.2)

pub exact_reads : (list : List Item) (settled : ℕ) (s : Bool) (a : Cued) (aired : List Item) (d : Phase)
    (downs : List Phase) (r : Reply) (t : Bool) (b : Cued) (airs : List Item)
    → Exact list settled s a aired (d ∷ downs) → Executed list d s a r t b airs
    → Exact list settled t b (aired ++ airs) downs
exact_reads list settled s a aired d downs r t b airs h x = by h.still
  where
    by : Still s a (d ∷ downs) → Exact list settled t b (aired ++ airs) downs
    by (inl e) = record {
      at = at_same list aired airs settled settled (airs_none list d s a r t b airs
          (or_parts (plays d) (list_any plays downs) e).0 x.does) h.at;
      still = inl (or_parts (plays d) (list_any plays downs) e).1;
    }
    by (inr (none, e)) =
        let after = none_does list d s a r t b airs (or_parts (arms d) (list_any arms downs) e).0 none x.does in
        record {
          at = at_same list aired airs settled settled after.1 h.at;
          still = inr (after.0, (or_parts (arms d) (list_any arms downs) e).1);
        }

-- ---- in these phases the place says it, whatever the log shows

abbrev pub is_exact_in : Phase → Bool
is_exact_in (phase.Play k) = false
is_exact_in (phase.Probe k) = false
is_exact_in phase.Halt = false
is_exact_in phase.HaltClose = false
is_exact_in _ = true

abbrev pub is_exact_at : Stage → Bool
is_exact_at (Ready q) = is_exact_in q
is_exact_at (Awaiting q) = is_exact_in q
is_exact_at (Ended o) = false

-- in the others what is sent arms nothing
pub no_arm : (q : Phase) → is_exact_in q ≡ false → arms q ≡ false
no_arm phase.Select e = cc
no_arm (phase.Cue k) e = cc
no_arm q e = refl

-- ---- what the log says, the awaited command included

-- what the law of a growing log says
abbrev pub AiringGrows : Type 0
AiringGrows = (mode : Mode) (log : List Exchange) (e : Exchange) → may_have_aired mode (log ++ e ∷ [])
    ≡ (not (settles mode log e) && (is_play e || may_have_aired mode log))

abbrev pub SettledGrows : Type 0
SettledGrows = (mode : Mode) (log : List Exchange) (e : Exchange) → settled mode (log ++ e ∷ [])
    ≡ (if settles mode log e then settled mode log + 1 else settled mode log)

-- the log of a controller, with the exchange that is awaited
abbrev pub may_in : Plan → State → List Exchange → Bool
may_in plan state log = may_have_aired plan.mode (logged log (ended_by plan None state))

silence_settles : (mode : Mode) (log : List Exchange) (c : Command)
    → settles mode log (record { command = c; heard = None }) ≡ false
silence_settles Plain log c = grind (arith)
silence_settles Confirming log c = grind (arith)

timed_out : AiringGrows → (mode : Mode) (log : List Exchange) (c : Command)
    → may_have_aired mode (log ++ record { command = c; heard = None } ∷ [])
    ≡ (is_play_command c || may_have_aired mode log)
timed_out airs mode log c =
    airs mode log (record { command = c; heard = None })
    ∙ ap (λ (b : Bool). not b && (is_play_command c || may_have_aired mode log)) (silence_settles mode log c)

awaited_may : AiringGrows → (mode : Mode) (log : List Exchange) (c : Command)
    → may_have_aired mode (logged log (exchange_of mode None (Some c)))
    ≡ (is_play_command c || may_have_aired mode log)
awaited_may airs Plain log c = timed_out airs Plain log c
awaited_may airs Confirming log c = timed_out airs Confirming log c

-- the controller sends
some_play : (k : ℕ) (list : List Item) (port : ℕ) (c : Command) → command_in list port (phase.Play k) ≡ Some c
    → is_play_command c ≡ true
some_play k list port c e = cc

not_playing : (list : List Item) (port : ℕ) (q : Phase) (c : Command) → command_in list port q ≡ Some c
    → is_play_command c ≡ false → plays q ≡ false
not_playing list port (phase.Play k) c is e = absurd (clash (is_play_command c) (some_play k list port c is) e)
  where
    clash : (b : Bool) → b ≡ true → b ≡ false → ⊥
    clash b e f = cc
not_playing list port q c is e = refl

never_silent : (list : List Item) (port : ℕ) (q : Phase) → command_in list port q ≡ None → plays q ≡ false
never_silent list port (phase.Play k) is = cc
never_silent list port q is = refl

pub sent_may : AiringGrows → (plan : Plan) (log : List Exchange) (q : Phase) (o : Option Command)
    → command_in plan.list plan.port q ≡ o
    → may_have_aired plan.mode (logged log (exchange_of plan.mode None o)) ≡ false
    → (plays q ≡ false) × (may_have_aired plan.mode log ≡ false)
sent_may airs plan log q None is none = (never_silent plan.list plan.port q is, none)
sent_may airs plan log q (Some c) is none =
    let either : (is_play_command c || may_have_aired plan.mode log) ≡ false =
    sym (awaited_may airs plan.mode log c) ∙ none in (
      not_playing plan.list plan.port q c is (or_parts (is_play_command c) (may_have_aired plan.mode log) either).0,
      (or_parts (is_play_command c) (may_have_aired plan.mode log) either).1,
    )

-- an exchange ends that settles nothing
unsettled : AiringGrows → SettledGrows → (mode : Mode) (log : List Exchange) (e : Exchange)
    → settled mode (log ++ e ∷ []) ≡ settled mode log → may_have_aired mode (log ++ e ∷ []) ≡ false
    → (is_play e || may_have_aired mode log) ≡ false
unsettled airs counts mode log e same none = by (settles mode log e) refl
  where
    by : (b : Bool) → settles mode log e ≡ b → (is_play e || may_have_aired mode log) ≡ false
    by true is = absurd (omega (
      arith,
      same,
      counts mode log e,
      ap (λ (x : Bool). if x then settled mode log + 1 else settled mode log) is,
    ))
    by false is =
        sym (airs mode log e ∙ ap (λ (x : Bool). not x && (is_play e || may_have_aired mode log)) is) ∙ none

-- something comes, or nothing in time: an event is settled, or what was so before is so now
pub came_may : AiringGrows → SettledGrows
    → (plan : Plan) (state : State) (log : List Exchange) (came : Option Heard)
    → state.settled ≡ settled plan.mode log
    → (came_to plan came state).settled ≡ settled plan.mode (logged log (ended_by plan came state))
    → may_in plan (came_to plan came state) (logged log (ended_by plan came state)) ≡ false
    → (is_exact_at (came_to plan came state).stage ≡ true)
    ⊎ ((may_in plan state log ≡ false) × ((came_to plan came state).settled ≡ state.settled))
came_may airs counts plan state log came before =
    came_cases After plan state log came (λ after none. inr (none, refl))
    (λ q c at is e. ended q c at is (transition_of plan state q (record { command = c; heard = came }))
    (unanswered_after plan.mode (record { command = c; heard = came }) state.unanswered))
  where
    After : State → List Exchange → Type 0
    After now more =
        now.settled ≡ settled plan.mode more → may_in plan now more ≡ false
        → (is_exact_at now.stage ≡ true) ⊎ ((may_in plan state log ≡ false) × (now.settled ≡ state.settled))

    still : (q : Phase) (c : Command) → state.stage ≡ Awaiting q → command_in plan.list plan.port q ≡ Some c
        → settled plan.mode (log ++ record { command = c; heard = came } ∷ []) ≡ settled plan.mode log
        → may_have_aired plan.mode (log ++ record { command = c; heard = came } ∷ []) ≡ false
        → may_in plan state log ≡ false
    still q c at is none_settles none =
        ap (λ (stage : Stage). may_have_aired plan.mode
        (logged log (exchange_of plan.mode None (awaited_in plan stage))))
        at
        ∙ ap (λ (o : Option Command). may_have_aired plan.mode (logged log (exchange_of plan.mode None o))) is
        ∙ awaited_may airs plan.mode log c
        ∙ unsettled airs counts plan.mode log (record { command = c; heard = came }) none_settles none

    ended : (q : Phase) (c : Command) → state.stage ≡ Awaiting q → command_in plan.list plan.port q ≡ Some c
        → (t : Transition) (unanswered : ℕ)
        → After (state_after t unanswered state) (log ++ record { command = c; heard = came } ∷ [])
    ended q c at is (Settles k) unanswered = λ after none. inl refl
    ended q c at is _ unanswered = λ after none. inr (still q c at is (sym after ∙ before) none, refl)
