-- The line with another controller than its own, which hears nothing: so a killed automation goes on.
use Rattle.std.proofs.Common.{◌≡◌, arith, ◌⊎◌, inl, inr, ℕ, zero, suc, All, Bool, List, [], ◌∷◌, ◌++◌, None, Some, append-nil, append_assoc, refl, sym, ap, ap₂, length, subst, ◌∙◌}
use Rattle.std.proofs.lemmas.List.Elements.{All-head, All-tail}
use Rattle.std.specs.Prelude.{if◌then◌else◌, insert, remove}
use Rattle.vdcp_auto.specs.Course.{logged}
use Rattle.vdcp_auto.specs.Plan.{Plan}
use Rattle.vdcp_auto.specs.State.{State}
use Rattle.vdcp_auto.specs.Turn.{came_to, ended_by, given}
use Rattle.vdcp_auto.specs.declared.exchange.Exchange.{Exchange}
use Rattle.vdcp_journal.specs.declared.row.Note.{Note}
use Rattle.vdcp_journal.specs.declared.row.Note.TheVariants as note
use Rattle.vdcp_laws.proofs.Journaled.{asked, given_awaited, no_silence, none_awaited, one_silence, plan_stays_in, same_state}
use Rattle.vdcp_laws.proofs.Running.{no_notes}
use Rattle.vdcp_laws.specs.Kills.{asked_in_vain, IsRun, happened, end_notes, silence_notes}
use Rattle.vdcp_world.specs.LateLine.Damage.{can_become, is_junk_down, with_damage, with_junk}
use Rattle.vdcp_world.specs.LateLine.GoingOn.{IsNoTick, gone_on}
use Rattle.vdcp_world.specs.LateLine.LateChannel.{LateChannel, after_late_event, after_late_events, bursts_of, oldest, without_oldest}
use Rattle.vdcp_world.specs.LateLine.LateEvent.{LateEvent}
use Rattle.vdcp_world.specs.LateLine.LateEvent as event
use Rattle.vdcp_port.specs.Answers.{after_burst, aired_for, sent_for}
use Rattle.vdcp_value.specs.declared.part.Item.{Item}
use Rattle.vdcp_words.specs.declared.command.Command.{Command}

-- The line with another controller, and more bursts behind what is on the way down.

abbrev pub ahead : LateChannel → State → List Exchange → List (List ℕ) → LateChannel
ahead t s l x = record t { state = s; log = l; down = t.down ++ x }

first_lost : (queue : List (List ℕ)) → remove queue 0 ≡ without_oldest queue
first_lost queue = grind arith

lost_before : (x queue : List (List ℕ)) (place : ℕ)
    → (remove (queue ++ x) place ≡ remove queue place ++ x) ⊎ (remove queue place ≡ queue)
lost_before x [] zero = inr refl
lost_before x [] (suc place) = inr refl
lost_before x (b ∷ queue) zero = inl refl
lost_before x (b ∷ queue) (suc place) = grind (arith, lost_before x queue place)

damaged : (can : List ℕ → Bool) (b bytes : List ℕ) (place : ℕ) (up : List (List ℕ))
    → with_damage can bytes (suc place) (b ∷ up) ≡ b ∷ with_damage can bytes place up
damaged can b bytes place up = grind arith

damaged_first : (x queue : List (List ℕ)) (b bytes : List ℕ) (can : Bool)
    → (if can then insert (remove ((b ∷ queue) ++ x) 0) 0 bytes else (b ∷ queue) ++ x)
    ≡ (if can then insert (remove (b ∷ queue) 0) 0 bytes else b ∷ queue) ++ x
damaged_first x queue b bytes can = grind arith

damaged_before : (can : List ℕ → Bool) (bytes : List ℕ) (x queue : List (List ℕ)) (place : ℕ)
    → (with_damage can bytes place (queue ++ x) ≡ with_damage can bytes place queue ++ x)
    ⊎ (with_damage can bytes place queue ≡ queue)
damaged_before can bytes x [] zero = inr refl
damaged_before can bytes x [] (suc place) = inr refl
damaged_before can bytes x (b ∷ queue) zero = inl (damaged_first x queue b bytes (can b))
damaged_before can bytes x (b ∷ queue) (suc place) = grind (arith, damaged, damaged_before can bytes x queue place)

junk_first : (x queue : List (List ℕ)) (bytes : List ℕ) (is_junk : Bool)
    → with_junk is_junk bytes 0 (queue ++ x) ≡ with_junk is_junk bytes 0 queue ++ x
junk_first x queue bytes is_junk = grind arith

junk_past : (x : List (List ℕ)) (bytes : List ℕ) (place : ℕ) (is_junk : Bool)
    → with_junk is_junk bytes 0 x ≡ with_junk is_junk bytes (suc place) [] ++ x
junk_past x bytes place is_junk = grind arith

junked : (b bytes : List ℕ) (place : ℕ) (up : List (List ℕ)) (is_junk : Bool)
    → with_junk is_junk bytes (suc place) (b ∷ up) ≡ b ∷ with_junk is_junk bytes place up
junked b bytes place up is_junk = grind arith

junk_before : (is_junk : Bool) (bytes : List ℕ) (x queue : List (List ℕ)) (place : ℕ)
    → (at : ℕ) × (with_junk is_junk bytes at (queue ++ x) ≡ with_junk is_junk bytes place queue ++ x)
junk_before is_junk bytes x queue zero = (0, junk_first x queue bytes is_junk)
junk_before is_junk bytes x [] (suc place) = (0, junk_past x bytes place is_junk)
junk_before is_junk bytes x (b ∷ queue) (suc place) =
    let r = junk_before is_junk bytes x queue place in (
      suc r.0,
      junked b bytes r.0 (queue ++ x) is_junk ∙ ap (λ (q : List (List ℕ)). b ∷ q) r.1
          ∙ ap (λ (q : List (List ℕ)). q ++ x) (sym (junked b bytes place queue is_junk)),
    )

-- the same with this on the way down
pub with_downs : (t : LateChannel) (notes : List Note) (down down' : List (List ℕ)) → down ≡ down'
    → IsRun (record t { down = down }) notes → IsRun (record t { down = down' }) notes
with_downs t notes down down' is run = subst (λ (q : List (List ℕ)). IsRun (record t { down = q }) notes) is run

-- a burst without a byte is no event
nothing_read : (t : LateChannel) (s : State) (l : List Exchange) (x : List (List ℕ)) (notes : List Note)
    → IsRun (record t { state = s; log = l; down = x }) notes
    → IsRun (record t {
      state = s;
      log = l;
      down = x;
      port = after_burst t.port [];
      up = t.up ++ bursts_of (sent_for t.port []);
      aired = t.aired ++ aired_for t.port [];
    }) notes
nothing_read t s l x notes run =
    subst (λ (c : LateChannel). IsRun c notes)
    (ap₂ (λ (up : List (List ℕ)) (aired : List Item). record t { state = s; log = l; down = x; up = up; aired = aired })
    (sym (append-nil t.up)) (sym (append-nil t.aired))) run

reads : (t : LateChannel) (s : State) (l : List Exchange) (x : List (List ℕ)) (notes : List Note) (queue : List (List ℕ))
    → IsRun (record t { state = s; log = l; down = queue ++ x }) notes
    → IsRun (record t {
      state = s;
      log = l;
      down = without_oldest queue ++ x;
      port = after_burst t.port (oldest queue);
      up = t.up ++ bursts_of (sent_for t.port (oldest queue));
      aired = t.aired ++ aired_for t.port (oldest queue);
    }) notes
reads t s l x notes [] run = nothing_read t s l x notes run
reads t s l x notes (b ∷ queue) run = no_notes (happened run event.Down tt)

reads_copy : (t : LateChannel) (s : State) (l : List Exchange) (x : List (List ℕ)) (notes : List Note)
    (queue : List (List ℕ)) → IsRun (record t { state = s; log = l; down = queue ++ x }) notes
    → IsRun (record t {
      state = s;
      log = l;
      down = queue ++ x;
      port = after_burst t.port (oldest queue);
      up = t.up ++ bursts_of (sent_for t.port (oldest queue));
      aired = t.aired ++ aired_for t.port (oldest queue);
    }) notes
reads_copy t s l x notes [] run = nothing_read t s l x notes run
reads_copy t s l x notes (b ∷ queue) run = no_notes (happened run event.DownCopy tt)

loses : (t : LateChannel) (x : List (List ℕ)) (notes : List Note) (place : ℕ)
    → (remove (t.down ++ x) place ≡ remove t.down place ++ x) ⊎ (remove t.down place ≡ t.down)
    → IsRun (record t { down = t.down ++ x }) notes → IsRun (record t { down = remove t.down place ++ x }) notes
loses t x notes place (inl is) run = with_downs t notes _ _ is (no_notes (happened run (event.LoseDown place) tt))
loses t x notes place (inr is) run = with_downs t notes _ _ (ap (λ (q : List (List ℕ)). q ++ x) (sym is)) run

alters : (t : LateChannel) (x : List (List ℕ)) (notes : List Note) (place : ℕ) (bytes : List ℕ)
    → (with_damage (λ was. can_become was bytes) bytes place (t.down ++ x)
    ≡ with_damage (λ was. can_become was bytes) bytes place t.down ++ x)
    ⊎ (with_damage (λ was. can_become was bytes) bytes place t.down ≡ t.down)
    → IsRun (record t { down = t.down ++ x }) notes
    → IsRun (record t { down = with_damage (λ was. can_become was bytes) bytes place t.down ++ x }) notes
alters t x notes place bytes (inl is) run =
    with_downs t notes _ _ is (no_notes (happened run (event.AlterDown place bytes) tt))
alters t x notes place bytes (inr is) run = with_downs t notes _ _ (ap (λ (q : List (List ℕ)). q ++ x) (sym is)) run

-- Whatever happens on the line without a command, it may happen with this controller, which hears nothing of it.
pub ahead_one : (t : LateChannel) (s : State) (l : List Exchange) (x : List (List ℕ)) (notes : List Note) (e : LateEvent)
    → IsNoTick e → IsRun (ahead t s l x) notes → IsRun (ahead (after_late_event t e) s l x) notes
ahead_one t s l x notes event.Tick quiet run = absurd quiet
ahead_one t s l x notes (event.Ask question) quiet run = absurd quiet
ahead_one t s l x notes event.Down quiet run = reads t s l x notes t.down run
ahead_one t s l x notes event.Up quiet run =
    subst (λ (up : List (List ℕ)). IsRun (record t { state = s; log = l; down = t.down ++ x; up = up }) notes)
    (first_lost t.up) (no_notes (happened run (event.LoseUp 0) tt))
ahead_one t s l x notes event.DownCopy quiet run = reads_copy t s l x notes t.down run
ahead_one t s l x notes (event.LoseDown place) quiet run =
    loses (record t { state = s; log = l }) x notes place (lost_before x t.down place) run
ahead_one t s l x notes (event.LoseUp place) quiet run = no_notes (happened run (event.LoseUp place) tt)
ahead_one t s l x notes (event.AlterDown place bytes) quiet run =
    alters (record t { state = s; log = l }) x notes place bytes
    (damaged_before (λ was. can_become was bytes) bytes x t.down place) run
ahead_one t s l x notes (event.AlterUp place bytes) quiet run = no_notes (happened run (event.AlterUp place bytes) tt)
ahead_one t s l x notes (event.JunkDown place bytes) quiet run =
    let junk = junk_before (is_junk_down bytes) bytes x t.down place in
    with_downs (record t { state = s; log = l }) notes _ _ junk.1
    (no_notes (happened run (event.JunkDown junk.0 bytes) tt))
ahead_one t s l x notes (event.JunkUp place bytes) quiet run = no_notes (happened run (event.JunkUp place bytes) tt)
ahead_one t s l x notes event.Ready quiet run = no_notes (happened run event.Ready tt)
ahead_one t s l x notes event.End quiet run = no_notes (happened run event.End tt)
ahead_one t s l x notes event.Frame quiet run = no_notes (happened run event.Frame tt)
ahead_one t s l x notes event.ServerAnew quiet run = no_notes (happened run event.ServerAnew tt)
ahead_one t s l x notes other quiet run = run

pub ahead_all : (t : LateChannel) (s : State) (l : List Exchange) (x : List (List ℕ)) (notes : List Note)
    (since : List LateEvent) → All IsNoTick since → IsRun (ahead t s l x) notes
    → IsRun (ahead (after_late_events t since) s l x) notes
ahead_all t s l x notes [] quiet run = run
ahead_all t s l x notes (e ∷ since) quiet run =
    ahead_all (after_late_event t e) s l x notes since (All-tail IsNoTick e since quiet)
    (ahead_one t s l x notes e (All-head IsNoTick e since quiet) run)

-- Kills.

both : (notes : List Note) (one two : Note) → (notes ++ one ∷ []) ++ two ∷ [] ≡ notes ++ (one ∷ two ∷ [])
both notes one two = append_assoc notes (one ∷ []) (two ∷ [])

-- An automation that is killed goes on: what came to it since was lost, and then a time-out came.
pub kills_on : (c : LateChannel) (notes : List Note) (since : List LateEvent) → IsRun c notes → All IsNoTick since
    → IsRun (gone_on c (after_late_events c since)) (notes ++ silence_notes c)
kills_on c notes since run quiet =
    let now : LateChannel = after_late_events c since in
    let held : LateChannel = record now { state = c.state; log = c.log } in
    let still : IsRun held notes =
    with_downs held notes (now.down ++ []) now.down (append-nil now.down)
    (ahead_all c c.state c.log [] notes since quiet
    (with_downs c notes c.down (c.down ++ []) (sym (append-nil c.down)) run)) in
    subst (λ (q : Plan). IsRun (record now { state = came_to q None c.state; log = logged c.log (ended_by q None c.state) })
    (notes ++ end_notes None (ended_by q None c.state))) (plan_stays_in c since) (happened still event.Timeout tt)

pub went : (c : LateChannel) (notes : List Note) (q : Command) (since : List LateEvent) → IsRun c notes
    → given c.plan c.state ≡ Some q → All IsNoTick since
    → IsRun (gone_on (after_late_event c event.Tick) (after_late_events c (event.Tick ∷ since)))
    (notes ++ (note.Sent q ∷ note.Silence ∷ []))
went c notes q since run is quiet =
    let d : LateChannel = after_late_event c event.Tick in
    subst (IsRun (gone_on d (after_late_events d since)))
    (ap (λ (l : List Note). (notes ++ note.Sent q ∷ []) ++ l)
    (one_silence d q (given_awaited c.plan c.state.stage c.state q is))
    ∙ both notes (note.Sent q) note.Silence)
    (kills_on d (notes ++ note.Sent q ∷ []) since (asked c notes q run is) quiet)

in_vain : (c : LateChannel) (notes : List Note) (q : Command) → IsRun c notes → given c.plan c.state ≡ Some q
    → IsRun (asked_in_vain c) (notes ++ (note.Sent q ∷ note.Silence ∷ []))
in_vain c notes q run is =
    let d : LateChannel = after_late_event c event.Tick in
    let e : LateChannel = after_late_event d (event.LoseDown (length c.down)) in
    let lost : IsRun e ((notes ++ note.Sent q ∷ []) ++ []) = happened (asked c notes q run is) (event.LoseDown (length c.down)) tt in
    subst (IsRun (asked_in_vain c))
    (ap (λ (l : List Note). l ++ silence_notes e) (append-nil (notes ++ note.Sent q ∷ []))
    ∙ ap (λ (l : List Note). (notes ++ note.Sent q ∷ []) ++ l)
    (one_silence e q (given_awaited c.plan c.state.stage c.state q is))
    ∙ both notes (note.Sent q) note.Silence)
    (happened lost event.Timeout tt)

pub stayed : (c : LateChannel) (notes : List Note) (q : Command) (since : List LateEvent) → IsRun c notes
    → given c.plan c.state ≡ Some q → All IsNoTick since
    → IsRun (asked_in_vain (gone_on c (after_late_events c since))) (notes ++ (note.Sent q ∷ note.Silence ∷ []))
stayed c notes q since run is quiet =
    let now : LateChannel = gone_on c (after_late_events c since) in
    let none = none_awaited c.plan c.state.stage c.state.stop c.state q refl is in
    let on : IsRun now notes =
    subst (IsRun now) (ap (λ (l : List Note). notes ++ l) (no_silence c none) ∙ append-nil notes)
    (kills_on c notes since run quiet) in
    in_vain now notes q on
    (ap (λ (p : Plan). given p now.state) (plan_stays_in c since)
    ∙ ap (given c.plan) (same_state c.plan c.state none) ∙ is)
