-- What holds of a late channel in one mode: of a phase its place and what is on the way, and after an end how many
-- events are settled. And that every event keeps it, if it keeps the places of the mode.
use Rattle.std.proofs.Common.{ℕ, ◌+◌, ◌≡◌, Bool, true, false, not, ◌&&◌, List, [], ◌∷◌, ◌++◌, length, Option, Some, None, refl, sym, ap, subst, if◌then◌else◌, inl, inr, ◌||◌}
use Rattle.std.specs.List.{list_any}
use Rattle.std.specs.Prelude.{nat_le}
use Rattle.vdcp_value.specs.declared.clip_id.ClipId.{ClipId}
use Rattle.vdcp_value.specs.declared.part.Item.{Item}
use Rattle.vdcp_value.specs.declared.timecode.Timecode.{Timecode}
use Rattle.vdcp_words.specs.declared.command.Command.{Command}
use Rattle.vdcp_words.specs.declared.reply.Reply.{Reply}
use Rattle.vdcp_port.specs.Port.{Cued, empty}
use Rattle.vdcp_auto.specs.Log.{answer_to, is_counted}
use Rattle.vdcp_auto.specs.Plan.{Plan}
use Rattle.vdcp_auto.specs.State.{Stage, Ready, Awaiting, Ended, State}
use Rattle.vdcp_auto.specs.Table.{command_in, on_no_answer}
use Rattle.vdcp_auto.specs.Turn.{came_to, ended_in, is_end, on_unanswered, phase_to_send, settled_after, stage_after, transition_on}
use Rattle.vdcp_auto.specs.declared.exchange.Exchange.{Exchange}
use Rattle.vdcp_auto.specs.declared.exchange.Heard.{Heard}
use Rattle.vdcp_auto.specs.declared.exchange.Heard.TheVariants as heard
use Rattle.vdcp_auto.specs.declared.outcome.Outcome.TheVariants as outcome
use Rattle.vdcp_auto.specs.declared.phase.Mode.{Mode}
use Rattle.vdcp_auto.specs.declared.phase.Mode.TheVariants.{Confirming}
use Rattle.vdcp_auto.specs.declared.phase.Phase.{Phase}
use Rattle.vdcp_auto.specs.declared.phase.Phase.TheVariants as phase
use Rattle.vdcp_auto.specs.declared.phase.Transition.{Transition}
use Rattle.vdcp_auto.specs.declared.phase.Transition.TheVariants.{Ends}
use Rattle.vdcp_world.specs.LateLine.Pipe.{IsPipe}
use Rattle.vdcp_world.proofs.Exchanges.{came_cases}
use Rattle.vdcp_world.proofs.LateLine.Claims.{Closed, Comes, Covers}
use Rattle.vdcp_world.proofs.LateLine.Delivering.{none_pushed}
use Rattle.vdcp_world.proofs.LateLine.Endings.{EndedAt, Misses, ended_either, ended_reads, ended_settles, settled_at, ended_lessens}
use Rattle.vdcp_world.proofs.LateLine.ExactPlaces.{exact_in}
use Rattle.vdcp_world.proofs.LateLine.Exactness.{is_exact_at, is_exact_in}
use Rattle.vdcp_world.proofs.LateLine.Executed.{Executed}
use Rattle.vdcp_world.proofs.LateLine.Places.{Answer, At, Exact, HasNone, misfits, pipe_of}
use Rattle.vdcp_world.proofs.LateLine.Reads.{misleads}
use Rattle.vdcp_world.proofs.LateLine.Safety.{near_at}
use Rattle.vdcp_world.proofs.LateLine.Stretches.{pipe_delivered}
use Rattle.vdcp_world.proofs.PhaseTable.{Near}
use Rattle.vdcp_auto.specs.Commands.{fits}
use Rattle.vdcp_auto.specs.Replies.{is_refusal}
use Rattle.vdcp_world.specs.LateLine.Asking.{asked_by}
use Rattle.vdcp_world.specs.LateLine.Asking.{Question}
use Rattle.vdcp_world.specs.LateLine.Damage.{is_no_answer}
use Rattle.vdcp_world.proofs.LateLine.Lessening.{flow_asked, flow_pushed, Lessens}

-- of the playlist, how many events are settled, whether the port is selected, its cued slot, what was aired, the answers
-- on the way up, what is on the way down, and a phase
abbrev pub Spots : Type 1
Spots = List Item → ℕ → Bool → Cued → List Item → List Answer → List Phase → Phase → Type 0

-- and in a halt or after an end
abbrev pub Calms : Type 1
Calms = List Item → ℕ → Bool → Cued → List Item → List Phase → Type 0

module _ (mode : Mode) (Spot : Spots) (Calm : Calms) where
  -- the place of a phase, with its pipe
  abbrev pub Here : List Item → ℕ → Bool → Cued → List Item → List Answer → List Phase → Phase → Type 0
  Here list settled s a aired ups downs q =
      Spot list settled s a aired ups downs q × IsPipe mode (length list) q (pipe_of ups downs)

  abbrev pub HeldAt : List Item → List (ClipId × Timecode) → ℕ → Bool → Cued → List Item → List Answer → List Phase
      → Stage → Type 0
  HeldAt list clips settled s a aired ups downs (Ready q) = Here list settled s a aired ups downs q
  HeldAt list clips settled s a aired ups downs (Awaiting q) = Here list settled s a aired ups downs q
  HeldAt list clips settled s a aired ups downs (Ended o) =
      EndedAt (Calm list settled s a aired downs) list settled s a aired downs (settled_at mode (length list) o)
      × Misses list clips o

  -- all that holds
  pub record Holds (list : List Item) (clips : List (ClipId × Timecode)) (settled : ℕ) (s : Bool) (a : Cued)
      (aired : List Item) (ups : List Answer) (downs : List Phase) (stage : Stage) : Type 0 where
    pub place : HeldAt list clips settled s a aired ups downs stage
    pub fit : list_any misfits ups ≡ false
    pub true_told : list_any (misleads list clips) ups ≡ false

  -- where a turn leads
  abbrev pub Leads : List Item → List (ClipId × Timecode) → ℕ → Bool → Cued → List Item → List Answer → List Phase
      → Transition → Type 0
  Leads list clips settled s a aired ups downs turn =
      HeldAt list clips (settled_after turn settled) s a aired ups downs (stage_after turn)

  -- a plan of this mode
  abbrev pub plan_of : List Item → ℕ → ℕ → Plan
  plan_of list port limit = record { mode = mode; list = list; port = port; limit = limit }

  abbrev pub LeadsBy : List Item → List (ClipId × Timecode) → ℕ → Bool → Cued → List Item → List Answer → List Phase
      → ℕ → State → ℕ → Bool → Phase → Option Reply → Type 0
  LeadsBy list clips settled s a aired ups downs limit state port counts q o =
      Leads list clips settled s a aired ups downs (transition_on (plan_of list port limit) state.take state.tries
      state.unanswered counts q o)

  -- what is shown of the places of a mode, event by event
  pub record Tended : Type 0 where
    pub lessens : (list : List Item) (settled : ℕ) (s : Bool) (a : Cued) (aired : List Item) (ups : List Answer)
        (downs : List Phase) (t : Bool) (b : Cued) (others : List Answer) (left : List Phase)
        → Lessens s a ups downs t b others left → (q : Phase) → Spot list settled s a aired ups downs q
        → Spot list settled t b aired others left q
    pub calm_lessens : (list : List Item) (settled : ℕ) (s : Bool) (a : Cued) (aired : List Item) (ups : List Answer)
        (downs : List Phase) (t : Bool) (b : Cued) (others : List Answer) (left : List Phase)
        → Lessens s a ups downs t b others left → Calm list settled s a aired downs → Calm list settled t b aired left
    pub reads : (list : List Item) (settled : ℕ) (s : Bool) (a : Cued) (aired : List Item) (ups : List Answer)
        (d : Phase) (downs : List Phase) (q : Phase) (r : Reply) (t : Bool) (b : Cued) (airs : List Item)
        → list_any misfits ups ≡ false → Here list settled s a aired ups (d ∷ downs) q
        → Executed list d s a r t b airs
        → Spot list settled t b (aired ++ airs) (ups ++ record { to = d; reply = r } ∷ []) downs q
    pub calm_reads : (list : List Item) (settled : ℕ) (s : Bool) (a : Cued) (aired : List Item) (d : Phase)
        (downs : List Phase) (r : Reply) (t : Bool) (b : Cued) (airs : List Item)
        → Calm list settled s a aired (d ∷ downs) → Executed list d s a r t b airs
        → Calm list settled t b (aired ++ airs) downs
    pub sends : (list : List Item) (settled : ℕ) (s : Bool) (a : Cued) (aired : List Item) (ups : List Answer)
        (downs : List Phase) (q : Phase) → Spot list settled s a aired ups downs q
        → Spot list settled s a aired ups (downs ++ q ∷ []) q
    pub asks : (list : List Item) (settled : ℕ) (s : Bool) (a : Cued) (aired : List Item) (ups : List Answer)
        (downs : List Phase) (asked : Question) (q d : Phase) → asked_by asked q ≡ Some d
        → Spot list settled s a aired ups downs q → Spot list settled s a aired ups (downs ++ d ∷ []) q
    pub calm_in : (list : List Item) (settled : ℕ) (s : Bool) (a : Cued) (aired : List Item) (ups : List Answer)
        (downs : List Phase) (q : Phase) → Here list settled s a aired ups downs q → Calm list settled s a aired downs
    pub halts : (list : List Item) (settled : ℕ) (s : Bool) (a : Cued) (aired : List Item) (ups : List Answer)
        (downs : List Phase) → Calm list settled s a aired downs → Spot list settled s a aired ups downs phase.Halt
    pub near : (list : List Item) (settled : ℕ) (s : Bool) (a : Cued) (aired : List Item) (downs : List Phase)
        → Calm list settled s a aired downs → Near list aired settled
    -- in which phases how many events are aired and settled
    pub at_in : (list : List Item) (settled : ℕ) (s : Bool) (a : Cued) (aired : List Item) (ups : List Answer)
        (downs : List Phase) (q : Phase) → is_exact_in q ≡ true → Spot list settled s a aired ups downs q
        → (n : ℕ) × At list aired settled n
    pub checks : (list : List Item) (settled : ℕ) (s : Bool) (a : Cued) (aired : List Item) (ups : List Answer)
        (downs : List Phase) (k : ℕ) → Spot list settled s a aired ups downs (phase.Check k) → HasNone s a
    pub begins : (list : List Item) (s : Bool) (a : Cued) (ups : List Answer) (downs : List Phase)
        → (mode ≡ Confirming → a ≡ empty) → Spot list 0 s a [] ups downs phase.Open
    -- nothing answers the awaited command, or something that was sent to nothing, or the oldest answer on the way up
    pub goes_on : (list : List Item) (clips : List (ClipId × Timecode)) (settled : ℕ) (s : Bool) (a : Cued)
        (aired : List Item) (ups : List Answer) (downs : List Phase) (q : Phase)
        → Here list settled s a aired ups downs q → Leads list clips settled s a aired ups downs (on_no_answer mode q)
    pub strays : (list : List Item) (clips : List (ClipId × Timecode)) (port limit : ℕ) (s : Bool) (a : Cued)
        (aired : List Item) (ups : List Answer) (downs : List Phase) (state : State) (counts : Bool) (q : Phase)
        (c : Command) (r : Reply) → is_no_answer mode (Some (heard.Reply r)) ≡ true
        → is_end mode c (Some (heard.Reply r)) ≡ true → (is_refusal r || fits c r) ≡ true
        → Here list state.settled s a aired ups downs q
        → LeadsBy list clips state.settled s a aired ups downs limit state port counts q (Some r)
    pub answers : (list : List Item) (clips : List (ClipId × Timecode)) (port limit : ℕ) (s : Bool) (a : Cued)
        (aired : List Item) (x : Answer) (ups : List Answer) (downs : List Phase) (state : State) (counts : Bool)
        (q : Phase) (c : Command) → command_in list port q ≡ Some c
        → is_end mode c (Some (heard.Reply x.reply)) ≡ true → (is_refusal x.reply || fits c x.reply) ≡ true
        → Holds list clips state.settled s a aired (x ∷ ups) downs (Awaiting q)
        → LeadsBy list clips state.settled s a aired (x ∷ ups) downs limit state port counts q (Some x.reply)

  module _ (tended : Tended) where
    silent : (list : List Item) (clips : List (ClipId × Timecode)) (settled : ℕ) (s : Bool) (a : Cued)
        (aired : List Item) (ups : List Answer) (downs : List Phase) (q : Phase) (limit unanswered : ℕ) (counts : Bool)
        → Here list settled s a aired ups downs q
        → Leads list clips settled s a aired ups downs (on_unanswered mode limit unanswered counts q)
    silent list clips settled s a aired ups downs q limit unanswered counts h =
        by (counts && nat_le limit (unanswered + 1))
      where
        by : (b : Bool) → Leads list clips settled s a aired ups downs
            (if b then Ends outcome.Lost else on_no_answer mode q)
        by true = (tended.calm_in list settled s a aired ups downs q h, tt)
        by false = tended.goes_on list clips settled s a aired ups downs q h

    -- what came ends the exchange of the awaited command
    led : (list : List Item) (clips : List (ClipId × Timecode)) (port limit : ℕ) (s : Bool) (a : Cued)
        (aired : List Item) (ups : List Answer) (downs : List Phase) (state : State) (counts : Bool) (q : Phase)
        (c : Command) (came : Option Heard) → command_in list port q ≡ Some c → is_end mode c came ≡ true
        → Comes mode ups came → Holds list clips state.settled s a aired ups downs (Awaiting q)
        → LeadsBy list clips state.settled s a aired ups downs limit state port counts q (answer_to c came)
    led list clips port limit s a aired ups downs state counts q c came is ends (inl none) h = by came ends none
      where
        Led : Option Reply → Type 0
        Led o = LeadsBy list clips state.settled s a aired ups downs limit state port counts q o

        nothing : Led None
        nothing = silent list clips state.settled s a aired ups downs q limit state.unanswered counts h.place

        by : (came : Option Heard) → is_end mode c came ≡ true → is_no_answer mode came ≡ true → Led (answer_to c came)
        by (Some (heard.Reply r)) ends none = on (is_refusal r || fits c r) refl
          where
            on : (b : Bool) → (is_refusal r || fits c r) ≡ b → Led (if b then Some r else None)
            on true e =
                tended.strays list clips port limit s a aired ups downs state counts q c r none ends e h.place
            on false e = nothing
        by _ ends none = nothing
    led list clips port limit s a aired ups downs state counts q c came is ends (inr (x, rest, first, e)) h =
        subst (λ (o : Option Heard). LeadsBy list clips state.settled s a aired ups downs limit state port counts q
        (answer_to c o)) (sym e)
        (subst (λ (us : List Answer). LeadsBy list clips state.settled s a aired us downs limit state port counts q
        (answer_to c (Some (heard.Reply x.reply)))) (sym first) (by (is_refusal x.reply || fits c x.reply) refl))
      where
        there : Holds list clips state.settled s a aired (x ∷ rest) downs (Awaiting q)
        there = subst (λ (us : List Answer). Holds list clips state.settled s a aired us downs (Awaiting q)) first h

        by : (b : Bool) → (is_refusal x.reply || fits c x.reply) ≡ b
            → LeadsBy list clips state.settled s a aired (x ∷ rest) downs limit state port counts q
            (if b then Some x.reply else None)
        by true f = tended.answers list clips port limit s a aired x rest downs state counts q c is
            (subst (λ (o : Option Heard). is_end mode c o ≡ true) e ends) f there
        by false f =
            silent list clips state.settled s a aired (x ∷ rest) downs q limit state.unanswered counts there.place

    came_held : (list : List Item) (clips : List (ClipId × Timecode)) (port limit : ℕ) (s : Bool) (a : Cued)
        (aired : List Item) (ups : List Answer) (downs : List Phase) (state : State) (came : Option Heard)
        → Comes mode ups came → Holds list clips state.settled s a aired ups downs state.stage
        → Holds list clips (came_to (plan_of list port limit) came state).settled s a aired ups downs
        (came_to (plan_of list port limit) came state).stage
    came_held list clips port limit s a aired ups downs state came comes h =
        came_cases (λ (t : State) (log : List Exchange). Holds list clips t.settled s a aired ups downs t.stage)
        (plan_of list port limit) state [] came h over
      where
        over : (q : Phase) (c : Command) → state.stage ≡ Awaiting q → command_in list port q ≡ Some c
            → is_end mode c came ≡ true
            → (let turned = ended_in (plan_of list port limit) (Awaiting q) (record { command = c; heard = came }) state
            in
            Holds list clips turned.settled s a aired ups downs turned.stage)
        over q c at is e =
            let g : Holds list clips state.settled s a aired ups downs (Awaiting q) =
            subst (Holds list clips state.settled s a aired ups downs) at h
            in
            record {
              place =
                  led list clips port limit s a aired ups downs state
                  (is_counted mode (record { command = c; heard = came })) q c
                  came is e comes g;
              fit = g.fit;
              true_told = g.true_told;
            }

    module _ (list : List Item) (clips : List (ClipId × Timecode)) (settled : ℕ) (s : Bool) (a : Cued)
        (aired : List Item) (ups : List Answer) where
      lessens : (downs : List Phase) (t : Bool) (b : Cued) (others : List Answer) (left : List Phase) (stage : Stage)
          → Lessens s a ups downs t b others left → HeldAt list clips settled s a aired ups downs stage
          → HeldAt list clips settled t b aired others left stage
      lessens downs t b others left stage g h = by stage h
        where
          here : (q : Phase) → Here list settled s a aired ups downs q → Here list settled t b aired others left q
          here q h = (
            tended.lessens list settled s a aired ups downs t b others left g q h.0,
            g.flows mode (length list) q h.1,
          )

          by : (stage : Stage) → HeldAt list clips settled s a aired ups downs stage
              → HeldAt list clips settled t b aired others left stage
          by (Ready q) h = here q h
          by (Awaiting q) h = here q h
          by (Ended o) h = (
            ended_lessens (tended.calm_lessens list settled s a aired ups downs t b others left g) list settled s a
                aired ups downs t b others left (settled_at mode (length list) o) g h.0,
            h.1,
          )

      reads : (d : Phase) (downs : List Phase) (stage : Stage) (r : Reply) (t : Bool) (b : Cued) (airs : List Item)
          → list_any misfits ups ≡ false → HeldAt list clips settled s a aired ups (d ∷ downs) stage
          → Executed list d s a r t b airs
          → HeldAt list clips settled t b (aired ++ airs) (ups ++ record { to = d; reply = r } ∷ []) downs stage
      reads d downs stage r t b airs fit h x = by stage h
        where
          new : Answer
          new = record { to = d; reply = r }

          here : (q : Phase) → Here list settled s a aired ups (d ∷ downs) q
              → Here list settled t b (aired ++ airs) (ups ++ new ∷ []) downs q
          here q h = (
            tended.reads list settled s a aired ups d downs q r t b airs fit h x,
            subst (IsPipe mode (length list) q) (sym (pipe_delivered ups new downs)) h.1,
          )

          by : (stage : Stage) → HeldAt list clips settled s a aired ups (d ∷ downs) stage
              → HeldAt list clips settled t b (aired ++ airs) (ups ++ new ∷ []) downs stage
          by (Ready q) h = here q h
          by (Awaiting q) h = here q h
          by (Ended o) h = (
            ended_reads (λ k. tended.calm_reads list settled s a aired d downs r t b airs k x) list settled s a aired d
                downs (settled_at mode (length list) o) r t b airs x h.0,
            h.1,
          )

      sends : (downs : List Phase) (stop : Bool) (q : Phase) → Here list settled s a aired ups downs q
          → Here list settled s a aired ups (downs ++ phase_to_send stop q ∷ []) (phase_to_send stop q)
      sends downs false q h =
          (tended.sends list settled s a aired ups downs q h.0, flow_pushed mode (length list) ups downs q h.1)
      sends downs true q h = (
        tended.sends list settled s a aired ups downs phase.Halt
            (tended.halts list settled s a aired ups downs (tended.calm_in list settled s a aired ups downs q h)),
        tt,
      )

      exact : (downs : List Phase) (stage : Stage) → is_exact_at stage ≡ true
          → HeldAt list clips settled s a aired ups downs stage → Exact list settled s a aired downs
      exact downs stage e h = by stage e h
        where
          on : (q : Phase) → is_exact_in q ≡ true → Here list settled s a aired ups downs q
              → Exact list settled s a aired downs
          on q e h =
              let (n, at) = tended.at_in list settled s a aired ups downs q e h.0 in
              exact_in mode list settled s a aired ups downs q e n at
              (λ k is. tended.checks list settled s a aired ups downs k
              (subst (Spot list settled s a aired ups downs) is h.0)) h.1

          by : (stage : Stage) → is_exact_at stage ≡ true → HeldAt list clips settled s a aired ups downs stage
              → Exact list settled s a aired downs
          by (Ready q) e h = on q e h
          by (Awaiting q) e h = on q e h
          by (Ended o) e h = cc

      near : (downs : List Phase) (stage : Stage) → HeldAt list clips settled s a aired ups downs stage
          → Near list aired settled
      near downs (Ready q) h =
          tended.near list settled s a aired downs (tended.calm_in list settled s a aired ups downs q h)
      near downs (Awaiting q) h =
          tended.near list settled s a aired downs (tended.calm_in list settled s a aired ups downs q h)
      near downs (Ended o) h =
          ended_either (Calm list settled s a aired downs) (Near list aired settled) list settled s a aired downs
          (settled_at mode (length list) o) (tended.near list settled s a aired downs)
          (λ x. near_at list aired settled settled x.at) h.0

    comes : (plan : Plan) (clips : List (ClipId × Timecode)) (s : Bool) (a : Cued) (aired : List Item)
        (ups : List Answer) (downs : List Phase) (state : State) (heard : Option Heard) → plan.mode ≡ mode
        → Comes mode ups heard → Holds plan.list clips state.settled s a aired ups downs state.stage
        → Holds plan.list clips (came_to plan heard state).settled s a aired ups downs (came_to plan heard state).stage
    comes plan clips s a aired ups downs state heard is h k =
        subst (λ (m : Mode). Holds plan.list clips
        (came_to (record { mode = m; list = plan.list; port = plan.port; limit = plan.limit }) heard state).settled s a
        aired ups downs
        (came_to (record { mode = m; list = plan.list; port = plan.port; limit = plan.limit }) heard state).stage)
        (sym is)
        (came_held plan.list clips plan.port plan.limit s a aired ups downs state heard h k)

    closed : Closed mode Holds
    closed = record {
      steady = record {
        lessens = λ list clips settled s a aired ups downs t b others left stage g h. record {
          place = lessens list clips settled s a aired ups downs t b others left stage g h.place;
          fit = g.ups_none misfits h.fit;
          true_told = g.ups_none (misleads list clips) h.true_told;
        };
        reads = λ list clips settled s a aired ups d downs stage r t b airs h x. record {
          place = reads list clips settled s a aired ups d downs stage r t b airs h.fit h.place x.executed;
          fit = none_pushed misfits ups (record { to = d; reply = r }) h.fit (ap not x.executed.fits);
          true_told = none_pushed (misleads list clips) ups (record { to = d; reply = r }) h.true_told x.true_told;
        };
      };
      sends = λ list clips settled s a aired ups downs stop q h. record {
        place = sends list clips settled s a aired ups downs stop q h.place;
        fit = h.fit;
        true_told = h.true_told;
      };
      asks = λ list clips settled s a aired ups downs asked q d is h. record {
        place = (
          tended.asks list settled s a aired ups downs asked q d is h.place.0,
          flow_asked mode (length list) ups downs asked q d is h.place.1,
        );
        fit = h.fit;
        true_told = h.true_told;
      };
      comes = comes;
      exact = λ list clips settled s a aired ups downs stage e h. exact list clips settled s a aired ups downs stage e
          h.place;
    }

    pub covered : Covers mode Holds
    covered = record {
      closed = closed;
      begins = λ list clips s a ups downs none fit told pipe. record {
        place = (tended.begins list s a ups downs none, pipe);
        fit = fit;
        true_told = told;
      };
      near = λ list clips settled s a aired ups downs stage h.
          near list clips settled s a aired ups downs stage h.place;
      ends = λ list clips settled s a aired ups downs o h. (
        ended_settles (Calm list settled s a aired downs) list settled s a aired downs
            (settled_at mode (length list) o) h.place.0,
        h.place.1,
      );
    }
