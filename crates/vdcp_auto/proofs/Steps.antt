-- Each end of an exchange keeps what holds.
use Rattle.std.proofs.Common.{◌≡◌, ℕ, ◌+◌, Bool, true, false, cond, ◌&&◌, nat_le, Option, None, Some, List, length, refl, arith, sym, subst}
use Rattle.vdcp_value.specs.declared.clip_id.ClipId.{ClipId}
use Rattle.vdcp_value.specs.declared.part.Item.{Item}
use Rattle.vdcp_words.specs.declared.command.Command.{Command}
use Rattle.vdcp_words.specs.declared.command.Command.TheVariants as command
use Rattle.vdcp_words.specs.declared.reply.Reply.{Reply}
use Rattle.vdcp_words.specs.declared.reply.Reply.TheVariants as reply
use Rattle.vdcp_auto.specs.declared.exchange.Exchange.{Exchange}
use Rattle.vdcp_auto.specs.declared.exchange.Heard.{Heard}
use Rattle.vdcp_auto.specs.declared.exchange.Heard.TheVariants as heard
use Rattle.vdcp_auto.specs.declared.outcome.Outcome.TheVariants.{Lost}
use Rattle.vdcp_auto.specs.declared.phase.Mode.{Mode}
use Rattle.vdcp_auto.specs.declared.phase.Mode.TheVariants.{Plain, Confirming}
use Rattle.vdcp_auto.specs.declared.phase.Phase.{Phase}
use Rattle.vdcp_auto.specs.declared.phase.Phase.TheVariants as phase
use Rattle.vdcp_auto.specs.declared.phase.Transition.{Transition}
use Rattle.vdcp_auto.specs.declared.phase.Transition.TheVariants.{Ends}
use Rattle.vdcp_auto.specs.Replies.{is_refusal, is_done, is_empty}
use Rattle.vdcp_auto.specs.Commands.{fits, is_state, is_sense}
use Rattle.vdcp_auto.specs.Log.{answer_in, is_answered, is_counted, is_grant, is_done_status, is_empty_status, is_play, is_acked}
use Rattle.vdcp_auto.specs.RuleBook.{CuesItemAt}
use Rattle.vdcp_auto.specs.Table.{on_reply, on_refusal, on_no_answer}
use Rattle.vdcp_auto.specs.Turn.{is_end, transition_on, stage_after, settled_after, tries_after}
use Rattle.vdcp_auto.proofs.Memo.{Memo, remember}
use Rattle.vdcp_auto.proofs.Keeps.{InPhase, AtStage}

abbrev pub exchange : Command → Option Heard → Exchange
exchange c h = record { command = c; heard = h }

-- the transition on an exchange keeps what holds of the phase
abbrev pub Kept : Mode → List Item → ℕ → Memo → Bool → ℕ → Exchange → Transition → Type 0
Kept mode list limit m stop tries e transition =
    AtStage mode list limit (remember mode limit m e) stop (tries_after transition tries) (stage_after transition)
    × (settled_after transition m.count ≡ (remember mode limit m e).count)

-- nothing is to be learned from the exchange
record IsMute (e : Exchange) : Type 0 where
  no_grant : is_grant e ≡ false
  no_done : is_done_status e ≡ false
  no_empty : is_empty_status e ≡ false
  no_ack : (is_play e && is_acked e) ≡ false

has_state : (r : Reply) → is_state r ≡ false → (is_done r ≡ false) × (is_empty r ≡ false)
has_state (reply.State g (Some b)) h = cc
has_state other h = (refl, refl)

-- what each phase sends
pub data Sends (list : List Item) (port : ℕ) : Phase → Command → Type 0 where
  sends_open : Sends list port phase.Open (command.Open port 1)
  sends_select : Sends list port phase.Select (command.Select port)
  sends_seen : Sends list port phase.Seen (command.Status 1)
  sends_exists : {k : ℕ} {id : ClipId} → Sends list port (phase.Exists k) (command.IdRequest id)
  sends_whole : {k : ℕ} {id : ClipId} → CuesItemAt list k (command.PlayCue id)
      → Sends list port (phase.Cue k) (command.PlayCue id)
  sends_part : {k : ℕ} {id : ClipId} {start duration : List ℕ} → CuesItemAt list k (command.CueData id start duration)
      → Sends list port (phase.Cue k) (command.CueData id start duration)
  sends_wait : {k : ℕ} → Sends list port (phase.Wait k) (command.Status 1)
  sends_play : {k : ℕ} → Sends list port (phase.Play k) command.Play
  sends_probe : {k : ℕ} → Sends list port (phase.Probe k) (command.Status 1)
  sends_check : {k : ℕ} → Sends list port (phase.Check k) command.ActiveId
  sends_drain : Sends list port phase.Drain (command.Status 1)
  sends_close : Sends list port phase.Close (command.Close port)
  sends_halt : Sends list port phase.Halt command.Stop
  sends_halt_close : Sends list port phase.HaltClose (command.Close port)

-- in plain mode

silent_plain : (list : List Item) (limit port : ℕ) (m : Memo) (stop : Bool) (tries : ℕ) (h : Option Heard) {p : Phase}
    {c : Command}
    → Sends list port p c → IsMute (exchange c h) → is_answered (exchange c h) ≡ false
    → InPhase Plain list m true stop tries p
    → Kept Plain list limit m stop tries (exchange c h) (on_no_answer Plain p)
silent_plain list limit port m stop tries h (sends_whole cues) mute unanswered holds = grind arith
silent_plain list limit port m stop tries h (sends_part cues) mute unanswered holds = grind arith
silent_plain list limit port m stop tries h other mute unanswered holds = grind arith

refused_plain : (list : List Item) (limit port : ℕ) (m : Memo) (stop : Bool) (tries : ℕ) (h : Option Heard) {p : Phase}
    {c : Command}
    → Sends list port p c → IsMute (exchange c h) → is_answered (exchange c h) ≡ true
    → InPhase Plain list m true stop tries p
    → Kept Plain list limit m stop tries (exchange c h) (on_refusal (length list) p)
refused_plain list limit port m stop tries h sends_open mute answered holds = grind arith
refused_plain list limit port m stop tries h other mute answered holds = grind arith

-- in confirm mode

silent_confirming : (list : List Item) (limit port : ℕ) (m : Memo) (stop : Bool) (tries : ℕ) (h : Option Heard)
    {p : Phase} {c : Command}
    → Sends list port p c → IsMute (exchange c h) → is_answered (exchange c h) ≡ false
    → InPhase Confirming list m true stop tries p
    → Kept Confirming list limit m stop tries (exchange c h) (on_no_answer Confirming p)
silent_confirming list limit port m stop tries h (sends_whole cues) mute unanswered holds = grind arith
silent_confirming list limit port m stop tries h (sends_part cues) mute unanswered holds = grind arith
silent_confirming list limit port m stop tries h other mute unanswered holds = grind arith

-- a reply that fits, to a request for one of its own

replied : (mode : Mode) (list : List Item) (limit port : ℕ) (m : Memo) (take stop : Bool) (tries : ℕ) {p : Phase}
    {c : Command}
    → Sends list port p c → is_sense c ≡ true → (r : Reply) → fits c r ≡ true
    → InPhase mode list m true stop tries p
    → Kept mode list limit m stop tries (exchange c (Some (heard.Reply r))) (on_reply mode list limit take tries p r)
replied Plain list limit port m take stop tries sends_open sense (reply.Opened b) fit holds = grind arith
replied Plain list limit port m take stop tries sends_seen sense (reply.State g (Some b)) fit holds = grind arith
replied Plain list limit port m take stop tries sends_exists sense (reply.Present b) fit holds = grind arith
replied Plain list limit port m take stop tries sends_wait sense (reply.State g (Some b)) fit holds = grind arith
replied Plain list limit port m take stop tries sends_probe sense (reply.State g (Some b)) fit holds = grind arith
replied Plain list limit port m take stop tries sends_check sense (reply.Active i) fit holds = grind arith
replied Plain list limit port m take stop tries sends_drain sense (reply.State g (Some b)) fit holds = grind arith
replied Confirming list limit port m take stop tries sends_open sense (reply.Opened b) fit holds = grind arith
replied Confirming list limit port m take stop tries sends_seen sense (reply.State g (Some b)) fit holds = grind arith
replied Confirming list limit port m take stop tries sends_exists sense (reply.Present b) fit holds = grind arith
replied Confirming list limit port m take stop tries sends_wait sense (reply.State g (Some b)) fit holds = grind arith
replied Confirming list limit port m take stop tries sends_probe sense (reply.State g (Some b)) fit holds = grind arith
replied Confirming list limit port m take stop tries sends_check sense (reply.Active i) fit holds = grind arith
replied Confirming list limit port m take stop tries sends_drain sense (reply.State g (Some b)) fit holds = grind arith
replied mode list limit port m take stop tries _ sense r fit holds = cc

-- ACK, in plain mode
acked_plain : (list : List Item) (limit port : ℕ) (m : Memo) (take stop : Bool) (tries : ℕ) {p : Phase} {c : Command}
    → Sends list port p c → is_sense c ≡ false → (r : Reply) → fits c r ≡ true
    → InPhase Plain list m true stop tries p
    → Kept Plain list limit m stop tries (exchange c (Some (heard.Reply r))) (on_reply Plain list limit take tries p r)
acked_plain list limit port m take stop tries sends_select control reply.Ack fit holds = grind arith
acked_plain list limit port m take stop tries (sends_whole cues) control reply.Ack fit holds = grind arith
acked_plain list limit port m take stop tries (sends_part cues) control reply.Ack fit holds = grind arith
acked_plain list limit port m take stop tries sends_play control reply.Ack fit holds = grind arith
acked_plain list limit port m take stop tries sends_close control reply.Ack fit holds = grind arith
acked_plain list limit port m take stop tries sends_halt control reply.Ack fit holds = grind arith
acked_plain list limit port m take stop tries sends_halt_close control reply.Ack fit holds = grind arith
acked_plain list limit port m take stop tries _ control r fit holds = cc

-- Together.

mute_unheard : (c : Command) → IsMute (exchange c None)
mute_unheard c = record { no_grant = grind arith; no_done = grind arith; no_empty = grind arith; no_ack = grind arith }

mute_other : (c : Command) → IsMute (exchange c (Some heard.Other))
mute_other c = record { no_grant = grind arith; no_done = grind arith; no_empty = grind arith; no_ack = grind arith }

mute_refusal : (c : Command) (r : Reply) → is_refusal r ≡ true → IsMute (exchange c (Some (heard.Reply r)))
mute_refusal c r refusal =
    record { no_grant = grind arith; no_done = grind arith; no_empty = grind arith; no_ack = grind arith }

mute_unfit : (c : Command) (r : Reply) → fits c r ≡ false → IsMute (exchange c (Some (heard.Reply r)))
mute_unfit c r unfit =
    record { no_grant = grind arith; no_done = grind arith; no_empty = grind arith; no_ack = grind arith }

silent : (mode : Mode) (list : List Item) (limit port : ℕ) (m : Memo) (stop : Bool) (tries : ℕ) (h : Option Heard)
    {p : Phase} {c : Command}
    → Sends list port p c → IsMute (exchange c h) → is_answered (exchange c h) ≡ false
    → InPhase mode list m true stop tries p
    → Kept mode list limit m stop tries (exchange c h) (on_no_answer mode p)
silent Plain = silent_plain
silent Confirming = silent_confirming

nothing_settles : (mode : Mode) (limit : ℕ) (m : Memo) (e : Exchange) → IsMute e
    → m.count ≡ (remember mode limit m e).count
nothing_settles Plain limit m e mute = grind arith
nothing_settles Confirming limit m e mute = grind arith

unanswered : (mode : Mode) (list : List Item) (limit port : ℕ) (m : Memo) (stop : Bool) (tries : ℕ) (h : Option Heard)
    {p : Phase} {c : Command}
    → Sends list port p c → IsMute (exchange c h) → is_answered (exchange c h) ≡ false
    → InPhase mode list m true stop tries p
    → (lost : Bool) → Kept mode list limit m stop tries (exchange c h) (cond lost (Ends Lost) (on_no_answer mode p))
unanswered mode list limit port m stop tries h {p} {c} s mute no_answer holds true =
    (tt, nothing_settles mode limit m (exchange c h) mute)
unanswered mode list limit port m stop tries h s mute no_answer holds false =
    silent mode list limit port m stop tries h s mute no_answer holds

-- where an exchange leads
abbrev pub transition_at : Mode → List Item → ℕ → ℕ → Memo → Bool → ℕ → Phase → Exchange → Transition
transition_at mode list limit port m take tries p e =
    transition_on (record { mode = mode; list = list; port = port; limit = limit }) take tries m.row (is_counted mode e)
    p (answer_in e)

no_refusal_ends : (c : Command) (r : Reply) → is_refusal r ≡ true → is_end Confirming c (Some (heard.Reply r)) ≡ true
    → ⊥
no_refusal_ends c r refusal ends = grind arith

kept_reply : (mode : Mode) (list : List Item) (limit port : ℕ) (m : Memo) (take stop : Bool) (tries : ℕ) {p : Phase}
    {c : Command}
    → Sends list port p c → (r : Reply) → is_end mode c (Some (heard.Reply r)) ≡ true → is_refusal r ≡ false
    → fits c r ≡ true
    → InPhase mode list m true stop tries p
    → (sense : Bool) → is_sense c ≡ sense
    → Kept mode list limit m stop tries (exchange c (Some (heard.Reply r))) (on_reply mode list limit take tries p r)
kept_reply mode list limit port m take stop tries s r ends kind fit holds true sense =
    replied mode list limit port m take stop tries s sense r fit holds
kept_reply Plain list limit port m take stop tries s r ends kind fit holds false control =
    acked_plain list limit port m take stop tries s control r fit holds
kept_reply Confirming list limit port m take stop tries s r ends kind fit holds false control = cc

kept_answer : (mode : Mode) (list : List Item) (limit port : ℕ) (m : Memo) (take stop : Bool) (tries : ℕ) {p : Phase}
    {c : Command}
    → Sends list port p c → (r : Reply) → is_end mode c (Some (heard.Reply r)) ≡ true
    → InPhase mode list m true stop tries p
    → (refusal fit : Bool) → is_refusal r ≡ refusal → fits c r ≡ fit
    → Kept mode list limit m stop tries (exchange c (Some (heard.Reply r)))
    (transition_at mode list limit port m take tries p (exchange c (Some (heard.Reply r))))
kept_answer Plain list limit port m take stop tries {p} {c} s r ends holds true fit is kind =
    let e = exchange c (Some (heard.Reply r)) in
    let same : transition_at Plain list limit port m take tries p e ≡ on_refusal (length list) p = rw (is, is) refl in
    subst (λ t. Kept Plain list limit m stop tries e t) (sym same)
    (refused_plain list limit port m stop tries (Some (heard.Reply r)) s (mute_refusal c r is) (rw is refl) holds)
kept_answer Confirming list limit port m take stop tries {p} {c} s r ends holds true fit is kind =
    absurd (no_refusal_ends c r is ends)
kept_answer mode list limit port m take stop tries {p} {c} s r ends holds false true is kind =
    let e = exchange c (Some (heard.Reply r)) in
    let same : transition_at mode list limit port m take tries p e ≡ on_reply mode list limit take tries p r =
    rw (is, kind, is) refl in
    subst (λ t. Kept mode list limit m stop tries e t) (sym same)
    (kept_reply mode list limit port m take stop tries s r ends is kind holds (is_sense c) refl)
kept_answer mode list limit port m take stop tries {p} {c} s r ends holds false false is kind =
    let e = exchange c (Some (heard.Reply r)) in
    let lost = is_counted mode e && nat_le limit (m.row + 1) in
    let same : transition_at mode list limit port m take tries p e ≡ cond lost (Ends Lost) (on_no_answer mode p) =
    rw (is, kind) refl in
    subst (λ t. Kept mode list limit m stop tries e t) (sym same)
    (unanswered mode list limit port m stop tries (Some (heard.Reply r)) s (mute_unfit c r kind) (rw (is, kind) refl)
    holds lost)

pub kept : (mode : Mode) (list : List Item) (limit port : ℕ) (m : Memo) (take stop : Bool) (tries : ℕ) {p : Phase}
    {c : Command}
    → Sends list port p c → (h : Option Heard) → is_end mode c h ≡ true
    → InPhase mode list m true stop tries p
    → Kept mode list limit m stop tries (exchange c h) (transition_at mode list limit port m take tries p
    (exchange c h))
kept mode list limit port m take stop tries {p} {c} s None ends holds =
    unanswered mode list limit port m stop tries None s (mute_unheard c) refl holds
    (is_counted mode (exchange c None) && nat_le limit (m.row + 1))
kept mode list limit port m take stop tries {p} {c} s (Some heard.Other) ends holds =
    unanswered mode list limit port m stop tries (Some heard.Other) s (mute_other c) refl holds
    (is_counted mode (exchange c (Some heard.Other)) && nat_le limit (m.row + 1))
kept mode list limit port m take stop tries {p} {c} s (Some (heard.Reply r)) ends holds =
    kept_answer mode list limit port m take stop tries s r ends holds (is_refusal r) (fits c r) refl refl
