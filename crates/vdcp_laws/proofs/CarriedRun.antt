-- The headline of a driver whose wire's acts are carried.
use Rattle.std.proofs.Common.{ℕ, ◌⊎◌, inl, inr, ◌≡◌, List, [], ◌∷◌, ◌++◌, map, refl, sym, ap, ap₂, subst, ◌∙◌, append_assoc, append-nil}
use Rattle.std.proofs.lemmas.List.{map-append}
use Rattle.std.specs.Prelude.{Result, Err}
use Rattle.vdcp_value.specs.declared.part.Item.{Item}
use Rattle.vdcp_words.specs.declared.command.Command.{Command}
use Rattle.vdcp_port.specs.Clock.{ClockedPort}
use Rattle.vdcp_auto.specs.Plan.{Plan}
use Rattle.vdcp_auto.specs.Turn.{ticked}
use Rattle.vdcp_auto.specs.declared.exchange.Exchange.{Exchange}
use Rattle.vdcp_journal.specs.declared.row.Note.{Note}
use Rattle.vdcp_wire.specs.Acts.{Act, brings, fails, sends}
use Rattle.vdcp_wire.specs.Wires.{Arrival, bytes, silence, close}
use Rattle.vdcp_drive.specs.Serving.{begins, items_in, hook_steps}
use Rattle.vdcp_drive.specs.Turns.{Turn}
use Rattle.vdcp_drive.specs.declared.hearing.Hearing.TheVariants.{AtOnce}
use Rattle.vdcp_drive.specs.Auto.{AreMade, Auto, Event, after, log_of}
use Rattle.vdcp_drive.specs.Auto as auto
use Rattle.vdcp_drive.specs.Ears.{Fold}
use Rattle.vdcp_drive.specs.Hearing.{at_once}
use Rattle.vdcp_drive.specs.Leaves.{Ending, by_itself, by_hooks, in_keep, in_drop, in_send, in_listen, IsRun}
use Rattle.vdcp_drive.specs.Reading.{Held}
use Rattle.vdcp_drive.specs.Steps.{Step, asks, steps_of}
use Rattle.vdcp_drive.specs.Traces.{acts_in, kept_in, sent_in}
use Rattle.vdcp_drive.specs.declared.hooks.BrokenOff.{BrokenOff}
use Rattle.vdcp_drive.specs.declared.hooks.BrokenOff.TheVariants as fault
use Rattle.vdcp_drive.specs.declared.hooks.Kept.{Kept}
use Rattle.vdcp_drive.specs.declared.hooks.Next.TheVariants as next_turn
use Rattle.vdcp_drive.specs.declared.line.Ran.{Ran}
use Rattle.vdcp_journal_file.specs.Recorded.{note_for}
use Rattle.vdcp_laws.specs.Automation.{Prompt}
use Rattle.vdcp_laws.specs.Carried.{AreCarried, MayGive, driver_of, next, nothing}
use Rattle.vdcp_laws.specs.Carried as carried
use Rattle.vdcp_laws.specs.EndsHeadline.{EndsHeadline}
use Rattle.vdcp_laws.specs.Mended.{behind}
use Rattle.vdcp_laws.specs.OneConnection.{ends_at, ends_by, hears_in}
use Rattle.vdcp_laws.specs.TwoEnds as two
use Rattle.vdcp_laws.specs.TwoEnds.{AreJoined, AreLed, CanJoin, Ends, aired_now, log_now, new_ends, sent_down}
use Rattle.vdcp_laws.proofs.Bytes.{none_before}
use Rattle.vdcp_laws.proofs.Carrying.{Leads, Side, events_side, given_side, head_of, no_act, sent_both, tail_of}
use Rattle.vdcp_laws.proofs.Leading.{IsFront, IsQuiet, side_led}
use Rattle.vdcp_laws.proofs.Headline.{Laws, before_tick, of_ends}
use Rattle.vdcp_laws.proofs.Noted.{noted}
use Rattle.vdcp_laws.proofs.OneRun.{automation_so, led_on, stays}
use Rattle.vdcp_laws.proofs.Servers.{ServedSo}
use Rattle.vdcp_laws.proofs.Same.{led_log, led_so}

pub left_at : {E : Type 0} {fold : Fold E} (plan : Plan) (unit count : ℕ) (events : List Event) (a a' : Auto E)
    (answer : Result Ran BrokenOff) (more : List Step) → Ending fold plan unit count events a answer more a' → (a' ≡ a) ⊎ (a' ≡ auto.gives a)
left_at plan unit count events a a' answer more (by_itself r is to m left) = inl left
left_at plan unit count events a a' answer more (by_hooks is g m left) = inl left
left_at plan unit count events a a' answer more (in_keep r is g m left) = inl left
left_at plan unit count events a a' answer more (in_drop c is dropping g m left) = inl left
left_at plan unit count events a a' answer more (in_send c front rest is g parts m left) = inr left
left_at plan unit count events a a' answer more (in_listen is m left) = inr left

-- a run that was left by its hooks
pub left_by_hooks : {E : Type 0} {fold : Fold E} (plan : Plan) (unit count : ℕ) (events : List Event) (a a' : Auto E)
    (answer : Result Ran BrokenOff) (more : List Step) → Ending fold plan unit count events a answer more a' → answer ≡ Err fault.Left
    → (a' ≡ a) × (more ≡ asks a.state next_turn.Leave ∷ [])
left_by_hooks plan unit count events a a' answer more (by_itself r is to m left) at = absurd (cc (sym is ∙ at))
left_by_hooks plan unit count events a a' answer more (by_hooks is g m left) at = (left, m)
left_by_hooks plan unit count events a a' answer more (in_keep r is g m left) at = absurd (cc (sym is ∙ at))
left_by_hooks plan unit count events a a' answer more (in_drop c is dropping g m left) at = absurd (cc (sym is ∙ at))
left_by_hooks plan unit count events a a' answer more (in_send c front rest is g parts m left) at = absurd (cc (sym is ∙ at))
left_by_hooks plan unit count events a a' answer more (in_listen is m left) at = absurd (cc (sym is ∙ at))

-- where ends are that are carried

pub leads_on : (plan : Plan) (unit : ℕ) → Leads plan unit (AreLed plan unit)
leads_on plan unit = record { begun = λ e. two.begun; on = λ step calm j. two.went_on j step }

pub led_by : (plan : Plan) (unit : ℕ) (e : Ends) (list : List Act) (last : Ends) (turns : List Turn) (below : List Act)
    (aired : List Item) → Side plan unit (AreLed plan unit) e (sent_down unit e) list last → ServedSo e turns below aired
    → AreCarried unit e list below → AreLed plan unit e (record last { downs = e.downs ++ turns })
led_by plan unit e list last turns below aired s served c =
    side_led plan unit (AreLed plan unit) (leads_on plan unit) e list last turns served.heard s waits served.whole served.answers
    (served.carried unit e list c) where
      waits : (now : Ends) (autos : List Act) (a : Arrival) → IsFront list (autos ++ brings a ∷ []) → IsQuiet a
          → AreLed plan unit e now → AreLed plan unit e (hears_in plan unit a now)
      waits now autos (bytes piece) front quiet j = absurd quiet
      waits now autos silence front quiet j = two.went_on j two.waited
      waits now autos close front quiet j = two.went_on j two.waited

pub joined : (plan : Plan) (port : ClockedPort) (asked : List Command) (e last : Ends) (list : List Act)
    (turns : List Turn) (below : List Act) (aired : List Item) → AreJoined plan port asked e
    → Side plan port.state.unit (AreLed plan port.state.unit) e (sent_down port.state.unit e) list last → ServedSo e turns below aired
    → AreCarried port.state.unit e list below → AreJoined plan port asked (record last { downs = e.downs ++ turns })
joined plan port asked e last list turns below aired j s served c =
    led_on plan port.state.unit (new_ends port asked) e _ j
    (led_by plan port.state.unit e list last turns below aired s served c)

-- what is carried over a connection is whatever is behind it
module _ (unit : ℕ) (e : Ends) (log : List Exchange) (aired : List Item) (notes : List Note) where
  pub carried_behind : {autos servers : List Act} → AreCarried unit e autos servers
      → AreCarried unit (behind log aired notes e) autos servers
  carried_behind carried.begun = carried.begun
  carried_behind (carried.sent c b) = carried.sent (carried_behind c) b
  carried_behind (carried.up c piece rest out) = carried.up (carried_behind c) piece rest out
  carried_behind (carried.waited c) = carried.waited (carried_behind c)
  carried_behind (carried.hung_up c) = carried.hung_up (carried_behind c)
  carried_behind (carried.failed c) = carried.failed (carried_behind c)
  carried_behind (carried.answered c b) = carried.answered (carried_behind c) b
  carried_behind (carried.down c piece rest out) = carried.down (carried_behind c) piece rest out
  carried_behind (carried.paused c) = carried.paused (carried_behind c)
  carried_behind (carried.shut c) = carried.shut (carried_behind c)
  carried_behind (carried.broke c) = carried.broke (carried_behind c)

-- Ends of a run that was killed.

-- a front is all of a list, or doesn't have its last
split_last : {R : Type 0} (xs : List Act) (x : Act) (front back : List Act) → xs ++ x ∷ [] ≡ front ++ back
    → (xs ++ x ∷ [] ≡ front → R) → ((rest : List Act) → back ≡ rest ++ x ∷ [] → xs ≡ front ++ rest → R) → R
split_last xs x [] back is all more = more xs (sym is) refl
split_last [] x (y ∷ front) back is all more =
    all (ap₂ (λ (a : Act) (l : List Act). a ∷ l) (ap head_of is) (sym (none_before front back (ap tail_of is))))
split_last (z ∷ xs) x (y ∷ front) back is all more = split_last xs x front back (ap tail_of is)
    (λ same. all (ap₂ (λ (a : Act) (l : List Act). a ∷ l) (ap head_of is) same))
    (λ rest last parts. more rest last (ap₂ (λ (a : Act) (l : List Act). a ∷ l) (ap head_of is) parts))

module _ (unit : ℕ) (e : Ends) (front : List Act) where
  shorter : {servers : List Act} (autos : List Act) (x : Act) (back : List Act)
      → AreCarried unit e (autos ++ x ∷ []) servers
      → ((rest : List Act) → autos ≡ front ++ rest → sent_in rest ≡ [] → AreCarried unit e front servers)
      → autos ++ x ∷ [] ≡ front ++ back → sent_in back ≡ [] → AreCarried unit e front servers
  shorter {servers} autos x back c before is none = split_last autos x front back is
      (λ all. subst (λ (l : List Act). AreCarried unit e l servers) all c)
      (λ rest last parts. before rest parts
      (none_before (sent_in rest) (sent_in (x ∷ [])) (sym none ∙ ap sent_in last ∙ sent_both rest (x ∷ []))))

  -- what came since, and isn't heard, may be left out
  pub carried_before : {all servers : List Act} → AreCarried unit e all servers → (back : List Act)
      → all ≡ front ++ back → sent_in back ≡ [] → AreCarried unit e front servers
  carried_before carried.begun back is none =
      subst (λ (l : List Act). AreCarried unit e l []) (sym (none_before front back is)) carried.begun
  carried_before (carried.sent {autos} c b) back is none =
      shorter autos (sends b) back (carried.sent c b) (carried_before c) is none
  carried_before (carried.up {autos} c piece rest out) back is none =
      shorter autos (brings (bytes piece)) back (carried.up c piece rest out) (carried_before c) is none
  carried_before (carried.waited {autos} c) back is none = shorter autos (brings silence) back (carried.waited c) (carried_before c) is none
  carried_before (carried.hung_up {autos} c) back is none = shorter autos (brings close) back (carried.hung_up c) (carried_before c) is none
  carried_before (carried.failed {autos} c) back is none = shorter autos fails back (carried.failed c) (carried_before c) is none
  carried_before (carried.answered c b) back is none = carried.answered (carried_before c back is none) b
  carried_before (carried.down {autos} {servers} c piece rest out) back is none =
      carried.down (carried_before c back is none) piece rest
      (ap (λ (l : List ℕ). sent_down unit e ++ l)
      (sym (ap sent_in is ∙ sent_both front back ∙ ap (λ (l : List ℕ). sent_in front ++ l) none
      ∙ append-nil (sent_in front))) ∙ out)
  carried_before (carried.paused c) back is none = carried.paused (carried_before c back is none)
  carried_before (carried.shut c) back is none = carried.shut (carried_before c back is none)
  carried_before (carried.broke c) back is none = carried.broke (carried_before c back is none)

may_so : (plan : Plan) (unit : ℕ) (now last : Ends) (rows : List Kept) (out : List Act) → MayGive plan unit now rows out last
    → Side plan unit (AreLed plan unit) now (sent_down unit now) out last × (last.notes ≡ now.notes ++ map note_for rows)
may_so plan unit now _ _ _ nothing = (
  no_act plan unit (AreLed plan unit) now (sent_down unit now) [] (sym (append-nil (sent_down unit now))),
  sym (append-nil now.notes),
)
may_so plan unit now _ _ _ (next out unsent none part) =
    (given_side plan unit (AreLed plan unit) (leads_on plan unit) now out unsent none part, refl)

-- it was killed after these events, with the next command kept or not
pub killed_so : (plan : Plan) (unit : ℕ) (e last : Ends) (events : List Event) (rows : List Kept) (out : List Act)
    → (let steps : List Step = steps_of at_once plan unit (driver_of e.automation) events in
    AreMade at_once plan unit (driver_of e.automation) events → MayGive plan unit (ends_by plan unit e events) rows out last
    → Side plan unit (AreLed plan unit) e (sent_down unit e) (acts_in steps ++ out) last
    × (last.notes ≡ e.notes ++ map note_for (kept_in steps ++ rows)))
killed_so plan unit e last events rows out made may =
    let kept : List Kept = kept_in (steps_of at_once plan unit (driver_of e.automation) events) in
    let then = may_so plan unit (ends_by plan unit e events) last rows out may in (
      events_side plan unit (AreLed plan unit) (leads_on plan unit) out last events e made then.0,
      then.1
          ∙ ap (λ (l : List Note). l ++ map note_for rows) (noted plan unit e events)
          ∙ append_assoc e.notes (map note_for kept) (map note_for rows)
          ∙ ap (λ (l : List Note). e.notes ++ l) (sym (map-append note_for kept rows)),
    )

-- which leaves these
pub stays_killed : {A : Type 0} (f : ClockedPort → List Item → A) (plan : Plan) (unit : ℕ) (e last : Ends) (events : List Event)
    (rows : List Kept) (out : List Act) → MayGive plan unit (ends_by plan unit e events) rows out last
    → f last.port last.aired_before ≡ f e.port e.aired_before
stays_killed f plan unit e _ events _ _ nothing = stays (λ p l i. f p i) plan unit e events
stays_killed f plan unit e _ events _ _ (next out unsent none part) = stays (λ p l i. f p i) plan unit e events

-- The headline of a run after which the ends are joined.

-- the exchanges that ended since
pub log_so : (plan : Plan) (unit : ℕ) (e : Ends) (events : List Event)
    → log_now (ends_by plan unit e events) ≡ log_now e ++ log_of at_once plan unit (driver_of e.automation) events
log_so plan unit e events =
    ap₂ (λ (l : List Exchange) (q : Prompt). l ++ q.log) (stays (λ p l i. l) plan unit e events) (automation_so plan unit e events)
    ∙ ap (λ (l : List Exchange). e.log_before ++ l) (led_log plan unit e.automation events)
    ∙ sym (append_assoc e.log_before e.automation.log (log_of at_once plan unit (driver_of e.automation) events))

-- where the automation is then
pub driver_so : (plan : Plan) (unit : ℕ) (e : Ends) (events : List Event)
    → driver_of (ends_by plan unit e events).automation ≡ after at_once plan unit (driver_of e.automation) events
driver_so plan unit e events = ap driver_of (automation_so plan unit e events) ∙ led_so plan unit e.automation events

-- with the next command given
with_next : (law : Laws) (plan : Plan) (port : ClockedPort) (asked : List Command) (e : Ends) (events : List Event)
    (downs : List Turn) → CanJoin plan port asked → AreJoined plan port asked (ends_at plan port.state.unit e events downs)
    → EndsHeadline plan port.clips (ticked (after at_once plan port.state.unit (driver_of e.automation) events).state)
    (log_now e ++ log_of at_once plan port.state.unit (driver_of e.automation) events)
    (aired_now (record e { downs = downs }))
with_next law plan port asked e events downs start j =
    let unit : ℕ = port.state.unit in
    let now : Ends = ends_by plan unit e events in
    let more : List Exchange = log_of at_once plan unit (driver_of e.automation) events in
    let aired : List Item = aired_now (record e { downs = downs }) in
    let aired_is : aired_now (record now { downs = downs }) ≡ aired =
    stays (λ p l i. i ++ items_in (hook_steps (begins AtOnce p) downs)) plan unit e events in
    subst (λ (x : Auto Held). EndsHeadline plan port.clips (ticked x.state) (log_now e ++ more) aired) (driver_so plan unit e events)
    (subst (λ (l : List Exchange). EndsHeadline plan port.clips (ticked now.automation.state) l aired) (log_so plan unit e events)
    (subst (EndsHeadline plan port.clips (ticked now.automation.state) (log_now now)) aired_is
    (of_ends law plan port asked (ends_at plan unit e events downs) start j)))

pub of_joined : (law : Laws) (plan : Plan) (port : ClockedPort) (asked : List Command) (e : Ends) (count : ℕ)
    (answer : Result Ran BrokenOff) (a' : Auto Held) (downs : List Turn) → CanJoin plan port asked
    → (run : IsRun at_once plan port.state.unit count (driver_of e.automation) a' answer)
    → AreJoined plan port asked (ends_at plan port.state.unit e run.events downs)
    → EndsHeadline plan port.clips a'.state
    (log_now e ++ log_of at_once plan port.state.unit (driver_of e.automation) run.events)
    (aired_now (record e { downs = downs }))
of_joined law plan port asked e count answer a' downs start run j =
    by (left_at plan port.state.unit count _
    (after at_once plan port.state.unit (driver_of e.automation) run.events) a' answer run.more run.ending)
    (with_next law plan port asked e run.events downs start j) where
      by : {b : Auto Held} {log : List Exchange} {aired : List Item} → (a' ≡ b) ⊎ (a' ≡ auto.gives b)
          → EndsHeadline plan port.clips (ticked b.state) log aired → EndsHeadline plan port.clips a'.state log aired
      by {b} {log} {aired} (inl left) h =
          subst (λ (x : Auto Held). EndsHeadline plan port.clips x.state log aired) (sym left)
          (before_tick plan port.clips b.state log aired h)
      by {b} {log} {aired} (inr left) h =
          subst (λ (x : Auto Held). EndsHeadline plan port.clips x.state log aired) (sym left) h
