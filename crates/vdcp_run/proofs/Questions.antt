-- Of an automation that asks only questions go out, and of one that waits for a clip only for its port's state.
use Rattle.std.proofs.Common.{ℕ, ◌≡◌, ◌+◌, inl, inr, Bool, true, false, List, [], ◌∷◌, ◌++◌, length, map, refl, sym, ap, subst, ◌∙◌, append_assoc}
use Rattle.std.proofs.lemmas.List.Elements.{All-cons, All-nil}
use Rattle.std.specs.Option.{option_map, option_map_or}
use Rattle.std.specs.Prelude.{All, ◌&&◌, if◌then◌else◌, nat_lt, slice_get, Option, None, Some, Result}
use Rattle.vdcp_value.specs.declared.clip_id.ClipId.{ClipId}
use Rattle.vdcp_value.specs.declared.part.Item.{Item}
use Rattle.vdcp_value.specs.declared.part.Part.{Part}
use Rattle.vdcp_auto.specs.Commands.{cue_for, cue_of}
use Rattle.vdcp_auto.specs.Log.{answer_in, is_counted}
use Rattle.vdcp_auto.specs.Plan.{Plan}
use Rattle.vdcp_auto.specs.Replies.{is_done, is_empty, is_playing, is_present, is_refusal}
use Rattle.vdcp_auto.specs.State.{Stage, Ready, Awaiting, Ended, State}
use Rattle.vdcp_auto.specs.Table.{command_in, next, on_lost_cue, on_no_answer, on_refusal, on_reply}
use Rattle.vdcp_auto.specs.Turn.{came_to, ended_by, ended_in, given, given_in, phase_to_send, stage_after, tick_in, ticked, transition_on}
use Rattle.vdcp_auto.specs.declared.exchange.Exchange.{Exchange}
use Rattle.vdcp_auto.specs.declared.exchange.Heard.{Heard}
use Rattle.vdcp_auto.specs.declared.outcome.Outcome.TheVariants.{Foreign, Lost, Missing, Refused, Strange}
use Rattle.vdcp_auto.specs.declared.phase.Mode.{Mode}
use Rattle.vdcp_auto.specs.declared.phase.Mode.TheVariants.{Plain, Confirming}
use Rattle.vdcp_auto.specs.declared.phase.Phase.{Phase}
use Rattle.vdcp_auto.specs.declared.phase.Phase.TheVariants as phase
use Rattle.vdcp_auto.specs.declared.phase.Transition.{Transition}
use Rattle.vdcp_auto.specs.declared.phase.Transition.TheVariants.{Goes, Settles, Retries, Ends}
use Rattle.vdcp_drive.specs.Auto.{Auto, Event, after, arrives, calls, ended, gives, heeds, listens, receives}
use Rattle.vdcp_drive.specs.Ears.{Fold, inputs}
use Rattle.vdcp_drive.specs.Leaves.{Ending, HasRun, by_hooks, by_itself, in_drop, in_keep, in_listen, in_send, steps_in}
use Rattle.vdcp_drive.specs.Steps.{Chain, Does, Happens, Step, World, acts, asks, keeps, misses, dropping, end_of, ended_notes, given_notes, opening, round, sending, steps_of}
use Rattle.vdcp_drive.specs.Traces.{commands_kept, kept_in}
use Rattle.vdcp_drive.specs.declared.hooks.BrokenOff.{BrokenOff}
use Rattle.vdcp_drive.specs.declared.hooks.Call.{Call}
use Rattle.vdcp_drive.specs.declared.hooks.Call.TheVariants as call
use Rattle.vdcp_drive.specs.declared.hooks.Kept.TheVariants as row
use Rattle.vdcp_drive.specs.declared.hooks.Next.TheVariants as next_is
use Rattle.vdcp_drive.specs.declared.line.Ran.{Ran}
use Rattle.vdcp_run.specs.Asking.{Inquiring, IsAsked, asking, is_question, next_for}
use Rattle.vdcp_wire.specs.Acts.{Act, sends, brings, fails}
use Rattle.vdcp_words.specs.declared.command.Command.{Command}
use Rattle.vdcp_words.specs.declared.command.Command.TheVariants as command
use Rattle.vdcp_words.specs.declared.reply.Reply.{Reply}

-- What it so, by whether its port was opened.

abbrev is_opened : Phase → Bool
is_opened phase.Open = false
is_opened phase.Select = false
is_opened phase.Seen = false
is_opened _ = true

abbrev AsksBy : Bool → ℕ → Command → Type 0
AsksBy false port c = IsAsked port c
AsksBy true port c = c ≡ command.Status 1

one_of : {c d : Command} → Some c ≡ Some d → d ≡ c
one_of is = cc

no_question : (c d : Command) → is_question c ≡ false → Some c ≡ Some d → is_question d ≡ true → ⊥
no_question c d none is so =
    let both : false ≡ true = sym none ∙ ap is_question (sym (one_of is)) ∙ so in
    cc both

looked_up : (o : Option Item) (c : Command) → option_map (λ item. command.IdRequest item.id) o ≡ Some c
    → is_question c ≡ true → ⊥
looked_up None c is so = cc
looked_up (Some item) c is so = no_question (command.IdRequest item.id) c refl is so

no_cue : (id : ClipId) (part : Option Part) → is_question (cue_for id part) ≡ false
no_cue id None = refl
no_cue id (Some part) = refl

cued : (o : Option Item) (c : Command) → option_map cue_of o ≡ Some c → is_question c ≡ true → ⊥
cued None c is so = cc
cued (Some item) c is so = no_question (cue_of item) c (no_cue item.id item.part) is so

in_phase : (list : List Item) (port : ℕ) (p : Phase) (c : Command) → command_in list port p ≡ Some c
    → is_question c ≡ true → AsksBy (is_opened p) port c
in_phase list port phase.Open c is so = inl (one_of is)
in_phase list port phase.Select c is so = inr (inl (one_of is))
in_phase list port phase.Seen c is so = inr (inr (one_of is))
in_phase list port (phase.Exists k) c is so = absurd (looked_up (slice_get list k) c is so)
in_phase list port (phase.Cue k) c is so = absurd (cued (slice_get list k) c is so)
in_phase list port (phase.Wait k) c is so = one_of is
in_phase list port (phase.Play k) c is so = absurd (no_question command.Play c refl is so)
in_phase list port (phase.Probe k) c is so = one_of is
in_phase list port (phase.Check k) c is so = absurd (no_question command.ActiveId c refl is so)
in_phase list port phase.Drain c is so = one_of is
in_phase list port phase.Close c is so = absurd (no_question (command.Close port) c refl is so)
in_phase list port phase.Halt c is so = absurd (no_question command.Stop c refl is so)
in_phase list port phase.HaltClose c is so = absurd (no_question (command.Close port) c refl is so)

-- The port stays opened.

abbrev IsOpened : Stage → Type 0
IsOpened (Ready p) = is_opened p ≡ true
IsOpened (Awaiting p) = is_opened p ≡ true
IsOpened (Ended outcome) = Unit {0}

opened_to_send : (stop : Bool) (p : Phase) → is_opened p ≡ true → is_opened (phase_to_send stop p) ≡ true
opened_to_send true p is = refl
opened_to_send false p is = is

either : (b : Bool) (x y : Transition) → IsOpened (stage_after x) → IsOpened (stage_after y)
    → IsOpened (stage_after (if b then x else y))
either true x y h g = h
either false x y h g = g

opened_next : (b : Bool) (k : ℕ) → is_opened (if b then phase.Exists k else phase.Drain) ≡ true
opened_next true k = refl
opened_next false k = refl

opened_cue : (mode : Mode) (limit tries k : ℕ) → IsOpened (stage_after (on_lost_cue mode limit tries k))
opened_cue Plain limit tries k = tt
opened_cue Confirming limit tries k = either (nat_lt (tries + 1) limit) (Retries k) (Ends (Refused k)) refl tt

opened_reply : (mode : Mode) (list : List Item) (limit : ℕ) (take : Bool) (tries : ℕ) (p : Phase) (r : Reply)
    → is_opened p ≡ true → IsOpened (stage_after (on_reply mode list limit take tries p r))
opened_reply mode list limit take tries phase.Open r is = cc
opened_reply mode list limit take tries phase.Select r is = cc
opened_reply mode list limit take tries phase.Seen r is = cc
opened_reply mode list limit take tries (phase.Exists k) r is =
    either (is_present r) (Goes (phase.Cue k)) (Ends (Missing k)) refl tt
opened_reply mode list limit take tries (phase.Cue k) r is = refl
opened_reply mode list limit take tries (phase.Wait k) r is =
    either _ (Goes (phase.Play k)) _ refl (either (is_empty r) _ (Goes (phase.Wait k)) (opened_cue mode limit tries k) refl)
opened_reply mode list limit take tries (phase.Play k) r is = refl
opened_reply mode list limit take tries (phase.Probe k) r is =
    either (is_done r) (Goes (phase.Play k)) _ refl (either (is_empty r) (Settles k) (Goes (phase.Probe k)) refl refl)
opened_reply mode list limit take tries (phase.Check k) r is =
    either _ (Ends (Foreign k)) (Goes (next list (k + 1))) tt (opened_next (nat_lt (k + 1) (length list)) (k + 1))
opened_reply mode list limit take tries phase.Drain r is =
    either _ (Ends (Strange (length list))) _ tt (either (is_playing r) (Goes phase.Drain) (Goes phase.Close) refl refl)
opened_reply mode list limit take tries phase.Close r is = tt
opened_reply mode list limit take tries phase.Halt r is = refl
opened_reply mode list limit take tries phase.HaltClose r is = tt

opened_refusal : (n : ℕ) (p : Phase) → IsOpened (stage_after (on_refusal n p))
opened_refusal n phase.Open = tt
opened_refusal n phase.Select = tt
opened_refusal n phase.Seen = tt
opened_refusal n (phase.Exists k) = tt
opened_refusal n (phase.Cue k) = tt
opened_refusal n (phase.Wait k) = tt
opened_refusal n (phase.Play k) = tt
opened_refusal n (phase.Probe k) = tt
opened_refusal n (phase.Check k) = tt
opened_refusal n phase.Drain = tt
opened_refusal n phase.Close = tt
opened_refusal n phase.Halt = refl
opened_refusal n phase.HaltClose = tt

opened_silence : (mode : Mode) (p : Phase) → is_opened p ≡ true → IsOpened (stage_after (on_no_answer mode p))
opened_silence mode phase.Open is = cc
opened_silence mode phase.Select is = cc
opened_silence mode phase.Seen is = cc
opened_silence Plain (phase.Play k) is = refl
opened_silence Plain (phase.Exists k) is = refl
opened_silence Plain (phase.Cue k) is = refl
opened_silence Plain (phase.Wait k) is = refl
opened_silence Plain (phase.Probe k) is = refl
opened_silence Plain (phase.Check k) is = refl
opened_silence Plain phase.Drain is = refl
opened_silence Plain phase.Close is = refl
opened_silence Plain phase.Halt is = refl
opened_silence Plain phase.HaltClose is = refl
opened_silence Confirming (phase.Play k) is = refl
opened_silence Confirming (phase.Exists k) is = refl
opened_silence Confirming (phase.Cue k) is = refl
opened_silence Confirming (phase.Wait k) is = refl
opened_silence Confirming (phase.Probe k) is = refl
opened_silence Confirming (phase.Check k) is = refl
opened_silence Confirming phase.Drain is = refl
opened_silence Confirming phase.Close is = tt
opened_silence Confirming phase.Halt is = refl
opened_silence Confirming phase.HaltClose is = tt

opened_on : (plan : Plan) (take : Bool) (tries unanswered : ℕ) (counts : Bool) (p : Phase) (r : Option Reply)
    → is_opened p ≡ true → IsOpened (stage_after (transition_on plan take tries unanswered counts p r))
opened_on plan take tries unanswered counts p None is =
    either _ (Ends Lost) (on_no_answer plan.mode p) tt (opened_silence plan.mode p is)
opened_on plan take tries unanswered counts p (Some r) is =
    either (is_refusal r) (on_refusal (length plan.list) p) (on_reply plan.mode plan.list plan.limit take tries p r)
    (opened_refusal (length plan.list) p) (opened_reply plan.mode plan.list plan.limit take tries p r is)

opened_ended : (plan : Plan) (stage : Stage) (e : Exchange) (s : State) → s.stage ≡ stage → IsOpened stage
    → IsOpened (ended_in plan stage e s).stage
opened_ended plan (Ready p) e s is h = subst IsOpened (sym is) h
opened_ended plan (Awaiting p) e s is h =
    opened_on plan s.take s.tries s.unanswered (is_counted plan.mode e) p (answer_in e) h
opened_ended plan (Ended outcome) e s is h = subst IsOpened (sym is) h

opened_came : (plan : Plan) (came : Option Heard) (s : State) → IsOpened s.stage → IsOpened (came_to plan came s).stage
opened_came plan came s h = by (ended_by plan came s) where
  by : (o : Option Exchange) → IsOpened (option_map_or (λ e. ended_in plan s.stage e s) o s).stage
  by None = h
  by (Some e) = opened_ended plan s.stage e s refl h

opened_tick : (stage : Stage) (s : State) → s.stage ≡ stage → IsOpened stage → IsOpened (tick_in stage s).stage
opened_tick (Ready p) s is h = opened_to_send s.stop p h
opened_tick (Awaiting p) s is h = subst IsOpened (sym is) h
opened_tick (Ended outcome) s is h = subst IsOpened (sym is) h

-- The commands of steps.

abbrev AskAll : (Command → Type 0) → List Step → Type 0
AskAll Asks [] = Unit {0}
AskAll Asks (acts a ∷ later) = AskAll Asks later
AskAll Asks (asks s n ∷ later) = AskAll Asks later
AskAll Asks (misses r ∷ later) = AskAll Asks later
AskAll Asks (keeps (row.Sent c) ∷ later) = Asks c × AskAll Asks later
AskAll Asks (keeps (row.Heard h) ∷ later) = AskAll Asks later
AskAll Asks (keeps row.Silence ∷ later) = AskAll Asks later
AskAll Asks (keeps (row.Called c) ∷ later) = AskAll Asks later

all_ask : (Asks : Command → Type 0) (steps : List Step) → AskAll Asks steps → All Asks (commands_kept (kept_in steps))
all_ask Asks [] h = All-nil Asks
all_ask Asks (acts a ∷ later) h = all_ask Asks later h
all_ask Asks (asks s n ∷ later) h = all_ask Asks later h
all_ask Asks (misses r ∷ later) h = all_ask Asks later h
all_ask Asks (keeps (row.Sent c) ∷ later) h = All-cons Asks c (commands_kept (kept_in later)) h.0 (all_ask Asks later h.1)
all_ask Asks (keeps (row.Heard x) ∷ later) h = all_ask Asks later h
all_ask Asks (keeps row.Silence ∷ later) h = all_ask Asks later h
all_ask Asks (keeps (row.Called c) ∷ later) h = all_ask Asks later h

both : (Asks : Command → Type 0) (xs ys : List Step) → AskAll Asks xs → AskAll Asks ys → AskAll Asks (xs ++ ys)
both Asks [] ys h g = g
both Asks (acts a ∷ xs) ys h g = both Asks xs ys h g
both Asks (asks s n ∷ xs) ys h g = both Asks xs ys h g
both Asks (misses r ∷ xs) ys h g = both Asks xs ys h g
both Asks (keeps (row.Heard heard) ∷ xs) ys h g = both Asks xs ys h g
both Asks (keeps row.Silence ∷ xs) ys h g = both Asks xs ys h g
both Asks (keeps (row.Called c) ∷ xs) ys h g = both Asks xs ys h g
both Asks (keeps (row.Sent c) ∷ xs) ys h g = (h.0, both Asks xs ys h.1 g)

no_acts : (Asks : Command → Type 0) (xs : List Act) → AskAll Asks (map acts xs)
no_acts Asks [] = tt
no_acts Asks (x ∷ xs) = no_acts Asks xs

no_ends : (Asks : Command → Type 0) (log : List Exchange) → AskAll Asks (map keeps (ended_notes log))
no_ends Asks [] = tt
no_ends Asks (e ∷ log) = by e.heard (no_ends Asks log) where
  by : (heard : Option Heard) → AskAll Asks (map keeps (ended_notes log))
      → AskAll Asks (keeps (end_of heard) ∷ map keeps (ended_notes log))
  by None h = h
  by (Some x) h = h

-- it goes on to a question alone
goes_on : (b : Bool) → (if b then next_is.GoOn else next_is.Leave) ≡ next_is.GoOn → b ≡ true
goes_on true is = refl
goes_on false is = cc

first : (a b : Bool) → a && b ≡ true → a ≡ true
first true b is = refl
first false b is = cc

a_question : (i : Inquiring) (c : Command) → next_is.GoOn ≡ next_for i (Some c) → is_question c ≡ true
a_question i c is = first (is_question c) _ (goes_on _ (sym is))

chain_split : {A W : Type 0} (does : A → W → W → Type 0) (xs ys : List A) (u w : W) → Chain does (xs ++ ys) u w
    → (v : W) × Chain does xs u v × Chain does ys v w
chain_split does [] ys u w h = (u, refl, h)
chain_split does (x ∷ xs) ys u w h =
    let r = chain_split does xs ys h.0 w h.2 in (r.0, (h.0, h.1, r.1), r.2)

-- What holds of each command that is given where this holds of the stage, and asks.
module _ {W E : Type 0} (does : Act → W → W → Type 0) (fold : Fold E) (plan : Plan) (unit : ℕ) (Asks : Command → Type 0)
    (At : Stage → Type 0)
    (asked : (stop : Bool) (stage : Stage) (c : Command) → At stage → given_in plan stop stage ≡ Some c
    → is_question c ≡ true → Asks c)
    (ticks : (s : State) → At s.stage → At (ticked s).stage)
    (comes : (came : Option Heard) (s : State) → At s.stage → At (came_to plan came s).stage) where
  asked_one : (s : State) (i : Inquiring) (c : Command) → At s.stage → given plan s ≡ Some c → next_is.GoOn ≡ next_for i (Some c)
      → Asks c
  asked_one s i c h is goes = asked s.stop s.stage c h is (a_question i c goes)

  hears_on : (inputs : List (Option Heard)) (s : State) → At s.stage → At (receives plan inputs s).stage
  hears_on [] s h = h
  hears_on (x ∷ later) s h = hears_on later (came_to plan x s) (comes x s h)

  heeds_on : (c : Call) (a : Auto E) → At a.state.stage → At (heeds c a).state.stage
  heeds_on call.Take a h = h
  heeds_on call.Stop a h = h
  heeds_on (call.List c) a h = h

  given_asks : (s : State) (i : Inquiring) (g : Option Command) → given plan s ≡ g → At s.stage → next_is.GoOn ≡ next_for i g
      → AskAll Asks (map keeps (given_notes g))
  given_asks s i None is h goes = tt
  given_asks s i (Some c) is h goes = (asked_one s i c h is goes, tt)

  opening_asks : (a : Auto E) (i : Inquiring) → At a.state.stage → next_is.GoOn ≡ next_for i (given plan a.state)
      → AskAll Asks (opening fold plan unit a)
  opening_asks a i h is = both Asks (map keeps (given_notes (given plan a.state)))
      (map acts (sending fold.drops unit (given plan a.state)))
      (given_asks a.state i (given plan a.state) refl h is) (no_acts Asks (sending fold.drops unit (given plan a.state)))

  last_asks : (count : ℕ) (events : List Event) (a a' : Auto E) (answer : Result Ran BrokenOff) (more : List Step)
      (world world' : World W Inquiring) → At a.state.stage → Ending fold plan unit count events a answer more a'
      → Happens (asking does plan) more world world' → AskAll Asks more
  last_asks count events a a' answer more world world' at (by_itself r is to none left) h = rw none tt
  last_asks count events a a' answer more world world' at (by_hooks is going are stays) h = rw are tt
  last_asks count events a a' answer more world world' at (in_keep r is going are left) h = rw are tt
  last_asks count events a a' answer more world world' at (in_drop c is dropping gives_it are left) h =
      let asked = rw are at h in
      rw are (asked_one a.state asked.0.keep c at gives_it (asked.1.0.0 ∙ ap (next_for asked.0.keep) gives_it), tt)
  last_asks count events a a' answer more world world' at (in_send c front rest is gives_it parts are left) h =
      let asked = rw are at h in
      rw are (
        asked_one a.state asked.0.keep c at gives_it (asked.1.0.0 ∙ ap (next_for asked.0.keep) gives_it),
        no_acts Asks (dropping fold.drops ++ sends front ∷ []),
      )
  last_asks count events a a' answer more world world' at (in_listen is are left) h =
      let asked = rw are at h in
      rw are (both Asks (opening fold plan unit a) (acts fails ∷ []) (opening_asks a asked.0.keep at asked.1.0.0) tt)

  steps_ask : (events : List Event) (a : Auto E) (more : List Step) (world world' : World W Inquiring) → At a.state.stage
      → ((world : World W Inquiring) → At (after fold plan unit a events).state.stage
      → Happens (asking does plan) more world world' → AskAll Asks more)
      → Happens (asking does plan) (steps_of fold plan unit a events ++ more) world world'
      → AskAll Asks (steps_of fold plan unit a events ++ more)
  steps_ask [] a more world world' at last h = last world at h
  steps_ask (calls c ∷ later) a more world world' at last (there, asked, (on, kept, rest)) =
      steps_ask later (heeds c a) more on world' (heeds_on c a at) last rest
  steps_ask (arrives what ∷ later) a more world world' at last h =
      let b : Auto E = listens fold plan unit what (gives a) in
      let one : List Step = round fold plan unit what a in
      let rest : List Step = steps_of fold plan unit b later in
      let es : List Exchange = ended plan (inputs fold unit what a.ear) (ticked a.state) in
      let parts = append_assoc one rest more in
      let s = chain_split (Does (asking does plan)) one (rest ++ more) world world'
      (subst (λ (l : List Step). Happens (asking does plan) l world world') parts h) in
      subst (AskAll Asks) (sym parts) (both Asks one (rest ++ more)
      (both Asks (opening fold plan unit a) (acts (brings what) ∷ map keeps (ended_notes es))
      (opening_asks a s.1.0.keep at s.1.1.0.0) (no_ends Asks es))
      (steps_ask later b more s.0 world' (hears_on (inputs fold unit what a.ear) (ticked a.state) (ticks a.state at)) last s.2))

  run_asks : (count : ℕ) (a a' : Auto E) (world world' : World W Inquiring) (answer : Result Ran BrokenOff)
      → At a.state.stage → (h : HasRun (asking does plan) fold plan unit count a a' world world' answer)
      → All Asks (commands_kept (kept_in (steps_in h.run)))
  run_asks count a a' world world' answer at h = all_ask Asks (steps_in h.run)
      (steps_ask h.run.events a h.run.more world world' at
      (λ world there happened. last_asks count h.run.events _ a' answer h.run.more world world' there h.run.ending happened)
      h.happened)

-- any automation asks its port, and one that waits for a clip its state alone

weaker : (b : Bool) (port : ℕ) (c : Command) → AsksBy b port c → IsAsked port c
weaker false port c h = h
weaker true port c h = inr (inr h)

asks_port : (plan : Plan) (stop : Bool) (stage : Stage) (c : Command) → given_in plan stop stage ≡ Some c
    → is_question c ≡ true → IsAsked plan.port c
asks_port plan stop (Ready p) c is so =
    let q : Phase = phase_to_send stop p in weaker (is_opened q) plan.port c (in_phase plan.list plan.port q c is so)
asks_port plan stop (Awaiting p) c is so = cc
asks_port plan stop (Ended outcome) c is so = cc

asks_state : (plan : Plan) (stop : Bool) (stage : Stage) (c : Command) → IsOpened stage → given_in plan stop stage ≡ Some c
    → is_question c ≡ true → c ≡ command.Status 1
asks_state plan stop (Ready p) c h is so =
    let q : Phase = phase_to_send stop p in
    subst (λ (b : Bool). AsksBy b plan.port c) (opened_to_send stop p h) (in_phase plan.list plan.port q c is so)
asks_state plan stop (Awaiting p) c h is so = cc
asks_state plan stop (Ended outcome) c h is so = cc

pub run_questions : {W E : Type 0} (does : Act → W → W → Type 0) (fold : Fold E) (plan : Plan) (unit count : ℕ)
    (a a' : Auto E) (world world' : World W Inquiring) (answer : Result Ran BrokenOff)
    → (h : HasRun (asking does plan) fold plan unit count a a' world world' answer)
    → All (IsAsked plan.port) (commands_kept (kept_in (steps_in h.run)))
run_questions does fold plan unit count a a' world world' answer h =
    run_asks does fold plan unit (IsAsked plan.port) (λ stage. Unit {0})
    (λ stop stage c at is so. asks_port plan stop stage c is so) (λ s at. tt) (λ came s at. tt)
    count a a' world world' answer tt h

pub run_waits : {W E : Type 0} (does : Act → W → W → Type 0) (fold : Fold E) (plan : Plan) (unit count k : ℕ)
    (a a' : Auto E) (world world' : World W Inquiring) (answer : Result Ran BrokenOff)
    → a.state.stage ≡ Ready (phase.Wait k)
    → (h : HasRun (asking does plan) fold plan unit count a a' world world' answer)
    → All (λ c. c ≡ command.Status 1) (commands_kept (kept_in (steps_in h.run)))
run_waits does fold plan unit count k a a' world world' answer is h =
    run_asks does fold plan unit (λ c. c ≡ command.Status 1) IsOpened (asks_state plan)
    (λ s at. opened_tick s.stage s refl at) (opened_came plan) count a a' world world' answer
    (subst IsOpened (sym is) refl) h
