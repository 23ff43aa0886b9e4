-- A tick and the end of an exchange, in the phase table.
use Rattle.std.proofs.Common.{◌≡◌, ℕ, ◌+◌, ◌≤◌, ◌++◌, ◌⊎◌, inl, inr, Bool, true, false, ◌||◌, ◌&&◌, not, List, [], ◌∷◌, length, take, Option, Some, None, refl, ap, sym, arith, ◌∙◌, length-take, ◌<◌}
use Rattle.std.specs.Option.{option_map, option_map_or}
use Rattle.std.specs.Prelude.{slice_get, if◌then◌else◌, get_or}
use Rattle.std.proofs.lemmas.Option.{slice_get_cases}
use Rattle.vdcp_value.specs.declared.clip_id.ClipId.{ClipId}
use Rattle.vdcp_value.specs.declared.part.Item.{Item}
use Rattle.vdcp_value.specs.declared.part.Part.{Part}
use Rattle.vdcp_value.specs.declared.timecode.Timecode.{Timecode}
use Rattle.vdcp_words.specs.declared.command.Command.{Command}
use Rattle.vdcp_words.specs.declared.command.Command.TheVariants as command
use Rattle.vdcp_words.specs.declared.reply.Reply.{Reply}
use Rattle.vdcp_port.specs.Port.{PortState, Cued}
use Rattle.vdcp_auto.specs.Commands.{cue_for, cue_of, is_presence, is_sense, fits}
use Rattle.vdcp_auto.specs.Replies.{is_ack, is_empty, is_receipt, is_refusal}
use Rattle.vdcp_auto.specs.Table.{command_in, on_reply, on_refusal}
use Rattle.vdcp_auto.specs.Turn.{awaited_in, came_to, ended_by, ended_in, exchange_of, is_end, on_answer, on_unanswered, stage_after, settled_after, phase_to_send, transition_on}
use Rattle.vdcp_auto.specs.declared.phase.Mode.{Mode}
use Rattle.vdcp_auto.specs.declared.phase.Mode.TheVariants.{Plain, Confirming}
use Rattle.vdcp_auto.specs.declared.phase.Phase.{Phase}
use Rattle.vdcp_auto.specs.declared.phase.Transition.{Transition}
use Rattle.vdcp_auto.specs.Course.{logged}
use Rattle.vdcp_auto.specs.declared.exchange.Exchange.{Exchange}
use Rattle.vdcp_auto.specs.declared.exchange.Heard.{Heard}
use Rattle.vdcp_auto.specs.declared.exchange.Heard.TheVariants as heard
use Rattle.vdcp_auto.specs.State.{Stage, Awaiting, State}
use Rattle.vdcp_auto.specs.declared.phase.Phase.TheVariants as phase
use Rattle.vdcp_world.proofs.PhaseTable.{Near, Place, PlaceReady, PlaceAt, Tells, Firm, FirmAt, FirmTells, is_asked}
use Rattle.vdcp_auto.specs.Plan.{Plan}

pub taken : (list : List Item) (k : ℕ) → k ≤ length list → length (take k list) ≡ k
taken list k l = simp length-take (omega arith)

-- the first k events were aired, and all of them are settled but one at most
pub near_of : (list aired : List Item) (settled k : ℕ) → aired ≡ take k list → k ≤ length list → settled ≤ k
    → k ≤ settled + 1 → Near list aired settled
near_of list aired settled k is within low high =
    let size : length aired ≡ k = ap length is ∙ taken list k within in
    record {
      aired_is = is ∙ sym (ap (λ (n : ℕ). take n list) size);
      within = omega (arith, size, within);
      low = omega (arith, size, low);
      high = omega (arith, size, high);
    }

-- each phase keeps what is said of aired and settled
pub near : (list : List Item) (cued : Cued) (aired : List Item) (settled : ℕ) (q : Phase)
    → Place list cued aired settled q → Near list aired settled
near list cued aired settled q h = grind (arith, taken)

-- in Wait, plain mode hears of a cue
abbrev pub HearsCue : Mode → Phase → Reply → Type 0
HearsCue Plain (phase.Wait k) r = is_empty r ≡ false
HearsCue mode q r = Unit {0}

-- ---- an answer

module _ (list : List Item) (clips : List (ClipId × Timecode)) where
  pub replied_place : (cued : Cued) (aired : List Item) (mode : Mode) (settled limit tries : ℕ) (wish : Bool)
      (q : Phase) (r : Reply) → Place list cued aired settled q → Tells list clips cued aired q r → HearsCue mode q r
      → is_asked q r ≡ true → PlaceAt list clips cued aired (settled_after (on_reply mode list limit wish tries q r)
      settled) (stage_after (on_reply mode list limit wish tries q r))
  replied_place cued aired Plain settled limit tries wish (phase.Wait k) r h t c f = grind (arith, near)
  replied_place cued aired Confirming settled limit tries wish (phase.Wait k) r h t c f = grind (arith, near)
  replied_place cued aired mode settled limit tries wish _ r h t c f = grind (arith, near)

  pub refused_place : (p : PortState) (aired : List Item) (settled : ℕ) (q : Phase) (r : Reply)
      → Place list p.cued aired settled q → Firm list clips p q → FirmTells list clips p q r → is_refusal r ≡ true
      → PlaceAt list clips p.cued aired (settled_after (on_refusal (length list) q) settled)
      (stage_after (on_refusal (length list) q))
  refused_place p aired settled q r h firm t e = grind (arith, near)

  pub replied_firm : (p : PortState) (aired : List Item) (limit tries : ℕ) (wish : Bool) (q : Phase) (r : Reply)
      → Firm list clips p q → Tells list clips p.cued aired q r → FirmTells list clips p q r → is_asked q r ≡ true
      → FirmAt list clips p (stage_after (on_reply Plain list limit wish tries q r))
  replied_firm p aired limit tries wish q r h t c f = grind arith

  pub refused_firm : (p : PortState) (q : Phase) (r : Reply) → Firm list clips p q → FirmTells list clips p q r
      → is_refusal r ≡ true → FirmAt list clips p (stage_after (on_refusal (length list) q))
  refused_firm p q r h t e = grind arith

  -- ---- silence, and a tick

  pub silence_place : (cued : Cued) (aired : List Item) (mode : Mode) (settled limit unanswered : ℕ) (counts : Bool)
      (q : Phase) → Place list cued aired settled q → PlaceAt list clips cued aired
      (settled_after (on_unanswered mode limit unanswered counts q) settled)
      (stage_after (on_unanswered mode limit unanswered counts q))
  silence_place cued aired mode settled limit unanswered counts q h = grind (arith, near)

  pub silence_firm : (p : PortState) (limit unanswered : ℕ) (counts : Bool) (q : Phase) → Firm list clips p q
      → FirmAt list clips p (stage_after (on_unanswered Plain limit unanswered counts q))
  silence_firm p limit unanswered counts q h = grind arith

module _ (list : List Item) (cued : Cued) (aired : List Item) (settled : ℕ) where
  pub sent_place : (q : Phase) → PlaceReady list cued aired settled q → Place list cued aired settled q
  sent_place q h = grind arith

  pub tick_place : (stop : Bool) (q : Phase) → PlaceReady list cued aired settled q
      → Place list cued aired settled (phase_to_send stop q)
  tick_place true q h = near list cued aired settled q (sent_place q h)
  tick_place false q h = sent_place q h

pub tick_firm : (list : List Item) (clips : List (ClipId × Timecode)) (p : PortState) (stop : Bool) (q : Phase)
    → Firm list clips p q
    → Firm list clips p (phase_to_send stop q)
tick_firm list clips p true q h = tt
tick_firm list clips p false q h = h

-- ---- the end of an awaited exchange

-- the reply is of the kind that the phase's command asks for
pub fits_asked : (list : List Item) (port : ℕ) (q : Phase) (c : Command) (r : Reply) → command_in list port q ≡ Some c
    → fits c r ≡ true → is_asked q r ≡ true
fits_asked list port (phase.Exists k) c r e f = of_request (slice_get list k) e
  where
    of_request : (o : Option Item) → option_map (λ item. command.IdRequest item.id) o ≡ Some c → is_presence r ≡ true
    of_request None e = cc
    of_request (Some item) e = cc
fits_asked list port (phase.Cue k) c r e f = of_cue (slice_get list k) e
  where
    of_part : (id : ClipId) (part : Option Part) → cue_for id part ≡ c → is_ack r ≡ true
    of_part id None e = cc
    of_part id (Some part) e = cc

    same : (a b : Command) → Some a ≡ Some b → a ≡ b
    same a b e = cc

    of_cue : (o : Option Item) → option_map cue_of o ≡ Some c → is_ack r ≡ true
    of_cue None e = cc
    of_cue (Some item) e = of_part item.id item.part (same (cue_of item) c e)
fits_asked list port _ c r e f = cc

-- where a reply leads, or none
abbrev pub turn_by : Mode → List Item → ℕ → Bool → ℕ → ℕ → Bool → Phase → Option Reply → Transition
turn_by mode list limit take tries unanswered counts q (Some r) = on_answer mode list limit take tries q r
turn_by mode list limit take tries unanswered counts q None = on_unanswered mode limit unanswered counts q

pub either : (a b : Bool) → (a || b) ≡ true → (a ≡ true) ⊎ ((a ≡ false) × (b ≡ true))
either true b e = inl refl
either false b e = inr (refl, e)

module _ (mode : Mode) (list : List Item) (limit tries : ℕ) (take : Bool) (q : Phase) (r : Reply) where
  pub on_refused : is_refusal r ≡ true → on_answer mode list limit take tries q r ≡ on_refusal (length list) q
  on_refused e = ap (λ b. if b then on_refusal (length list) q else on_reply mode list limit take tries q r) e

  pub on_replied : is_refusal r ≡ false → on_answer mode list limit take tries q r ≡ on_reply mode list limit take tries
      q r
  on_replied e = ap (λ b. if b then on_refusal (length list) q else on_reply mode list limit take tries q r) e

pub hears_cue : (mode : Mode) (list : List Item) (clips : List (ClipId × Timecode)) (p : PortState) (q : Phase)
    (r : Reply) → (mode ≡ Plain → FirmTells list clips p q r) → HearsCue mode q r
hears_cue Plain list clips p q r t = let u : FirmTells list clips p q r = t refl in grind arith
hears_cue Confirming list clips p q r t = tt

-- a reply that ends an exchange in confirm mode is no receipt
pub no_receipt : (c : Command) (r : Reply) → is_end Confirming c (Some (heard.Reply r)) ≡ true → is_receipt r ≡ false
no_receipt c r e = of (is_sense c) (is_receipt r) e
  where
    of : (a b : Bool) → (a && not b) ≡ true → b ≡ false
    of a b e = grind arith

pub no_refusal : (r : Reply) → is_receipt r ≡ false → is_refusal r ≡ false
no_refusal r e = grind arith

-- there is an event for each phase that asks for one
pub no_item : (list : List Item) (k : ℕ) → k < length list → slice_get list k ≡ None → ⊥
no_item list k below none = at (slice_get_cases list k).1
  where
    impossible : (x : Item) → slice_get list k ≡ Some x → ⊥
    impossible x is = cc

    at : (((x : Item) × (k < length list) × (slice_get list k ≡ Some x) × (get_or list k x ≡ x))
        ⊎ ((length list ≤ k) × (slice_get list k ≡ None))) → ⊥
    at (inl (x, within, is, here)) = impossible x is
    at (inr (past, is)) = absurd (omega arith)

none_of : (f : Item → Command) (o : Option Item) → option_map f o ≡ None → o ≡ None
none_of f None e = refl
none_of f (Some item) e = cc

some_at : (list : List Item) (k : ℕ) (f : Item → Command) → k < length list → option_map f (slice_get list k) ≡ None → ⊥
some_at list k f below none = no_item list k below (none_of f (slice_get list k) none)

pub gives_some : (list : List Item) (port : ℕ) (cued : Cued) (aired : List Item) (settled : ℕ) (q : Phase)
    → Place list cued aired settled q
    → command_in list port q ≡ None → ⊥
gives_some list port cued aired settled (phase.Exists k) h e = some_at list k (λ item. command.IdRequest item.id) h.2 e
gives_some list port cued aired settled (phase.Cue k) h e = some_at list k cue_of h.2 e
gives_some list port cued aired settled _ h e = cc

pub turn_same : (plan : Plan) (take : Bool) (tries unanswered : ℕ) (counts : Bool) (q : Phase) (o : Option Reply)
    → turn_by plan.mode plan.list plan.limit take tries unanswered counts q o
    ≡ transition_on plan take tries unanswered counts q o
turn_same plan take tries unanswered counts q None = refl
turn_same plan take tries unanswered counts q (Some r) = refl

-- what came, or silence, ends the exchange that was awaited, or leaves all as it was
pub came_cases : (P : State → List Exchange → Type 0) (plan : Plan) (state : State) (log : List Exchange)
    (came : Option Heard) → P state log
    → ((q : Phase) (c : Command) → state.stage ≡ Awaiting q → command_in plan.list plan.port q ≡ Some c
    → is_end plan.mode c came ≡ true
    → P (ended_in plan (Awaiting q) (record { command = c; heard = came }) state)
    (log ++ record { command = c; heard = came } ∷ []))
    → P (came_to plan came state) (logged log (ended_by plan came state))
came_cases P plan state log came same over = by state.stage refl
  where
    After : Stage → Option Exchange → Type 0
    After stage o = P (option_map_or (λ e. ended_in plan stage e state) o state) (logged log o)

    ends : (q : Phase) (c : Command) → state.stage ≡ Awaiting q → command_in plan.list plan.port q ≡ Some c
        → (b : Bool) → is_end plan.mode c came ≡ b
        → After (Awaiting q) (if b then Some (record { command = c; heard = came }) else None)
    ends q c at is true e = over q c at is e
    ends q c at is false e = same

    awaits : (q : Phase) → state.stage ≡ Awaiting q → (o : Option Command) → command_in plan.list plan.port q ≡ o
        → After (Awaiting q) (exchange_of plan.mode came o)
    awaits q at None is = same
    awaits q at (Some c) is = ends q c at is (is_end plan.mode c came) refl

    by : (stage : Stage) → state.stage ≡ stage → After stage (exchange_of plan.mode came (awaited_in plan stage))
    by (Awaiting q) at = awaits q at (command_in plan.list plan.port q) refl
    by _ at = same
