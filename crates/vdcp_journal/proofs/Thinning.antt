-- Rows that leave out what says nothing new make the same controller, and show the same.
use Rattle.std.proofs.Common.{◌≡◌, true≢false, ℕ, ◌+◌, Bool, true, false, not, ◌||◌, ◌&&◌, Option, None, Some, List, [], ◌∷◌, ◌++◌, refl, sym, ap, ap₂, subst, ◌∙◌, append_assoc}
use Rattle.std.proofs.lemmas.List.{append-nil}
use Rattle.std.specs.Prelude.{IsTrue, if◌then◌else◌, is_some}
use Rattle.vdcp_auto.specs.Plan.{Plan}
use Rattle.vdcp_auto.specs.Commands.{is_sense}
use Rattle.vdcp_auto.specs.Replies.{has_off, is_done, is_empty, is_playing}
use Rattle.vdcp_auto.specs.State.{State}
use Rattle.vdcp_auto.specs.Turn.{awaited, exchange_of, given, start, ticked}
use Rattle.vdcp_auto.specs.Log.{is_acked, is_answered, is_empty_status, is_play}
use Rattle.vdcp_auto.specs.Settled.{has_open_play, may_have_aired, settled, settles, tells_of_play}
use Rattle.vdcp_auto.specs.declared.exchange.Exchange.{Exchange}
use Rattle.vdcp_auto.specs.declared.exchange.Heard.{Heard}
use Rattle.vdcp_auto.specs.declared.exchange.Heard.TheVariants as heard
use Rattle.vdcp_auto.specs.declared.phase.Mode.{Mode}
use Rattle.vdcp_auto.specs.declared.phase.Mode.TheVariants.{Plain, Confirming}
use Rattle.vdcp_journal.proofs.AiringSteps.{OpenGrows, SettledGrows, at_front}
use Rattle.vdcp_journal.specs.Airings.{settled_in}
use Rattle.vdcp_journal.specs.Resume.{AreTold, Tells, after_call_if, after_rows, call_of, ended_at, exchange_with, log_from, log_of, open_after}
use Rattle.vdcp_journal.specs.Thinned.{AreThinned, IsThinned, asks_state, before_play, hears_done, hears_free, hears_state, notes_in, takes, whole, without}
use Rattle.vdcp_journal.specs.declared.row.Note.{Note}
use Rattle.vdcp_journal.specs.declared.row.Note.TheVariants as note
use Rattle.vdcp_journal.specs.declared.row.Row.{Row}
use Rattle.vdcp_journal.proofs.BeforePlay.{plays, plays_alike}
use Rattle.vdcp_journal.proofs.StateAgain.{again, asks, once}
use Rattle.vdcp_words.specs.declared.command.Command.{Command}
use Rattle.vdcp_words.specs.declared.command.Command.TheVariants as command
use Rattle.vdcp_words.specs.declared.reply.Reply.TheVariants as reply

-- The controller after notes, and whether they are what it does.

abbrev after_notes : Plan → State → List Note → State
after_notes plan s [] = s
after_notes plan s (n ∷ notes) = after_notes plan (after_call_if plan (call_of n) s) notes

abbrev AllTold : Plan → State → List Note → Type 0
AllTold plan s [] = Unit {0}
AllTold plan s (n ∷ notes) = Tells plan s n × AllTold plan (after_call_if plan (call_of n) s) notes

after_is : (plan : Plan) (s : State) (rows : List Row) → after_rows plan s rows ≡ after_notes plan s (notes_in rows)
after_is plan s [] = refl
after_is plan s (row ∷ rows) = after_is plan (after_call_if plan (call_of row.note) s) rows

notes_told : (plan : Plan) (s : State) (rows : List Row) → AreTold plan s rows → AllTold plan s (notes_in rows)
notes_told plan s [] told = tt
notes_told plan s (row ∷ rows) told =
    (told.0, notes_told plan (after_call_if plan (call_of row.note) s) rows told.1)

rows_told : (plan : Plan) (s : State) (rows : List Row) → AllTold plan s (notes_in rows) → AreTold plan s rows
rows_told plan s [] told = tt
rows_told plan s (row ∷ rows) told =
    (told.0, rows_told plan (after_call_if plan (call_of row.note) s) rows told.1)

after_both : (plan : Plan) (s : State) (xs ys : List Note)
    → after_notes plan s (xs ++ ys) ≡ after_notes plan (after_notes plan s xs) ys
after_both plan s [] ys = refl
after_both plan s (x ∷ xs) ys = after_both plan (after_call_if plan (call_of x) s) xs ys

-- One exchange that is left out.

-- these notes lead a controller on as those do
record Same (plan : Plan) (s : State) (all few : List Note) : Type 0 where
  pub after : after_notes plan s few ≡ after_notes plan s all
  pub told : AllTold plan s few

same_behind : (plan : Plan) (s : State) (before all few : List Note) → AllTold plan s (before ++ all)
    → (AllTold plan (after_notes plan s before) all → Same plan (after_notes plan s before) all few)
    → Same plan s (before ++ all) (before ++ few)
same_behind plan s [] all few told same = same told
same_behind plan s (x ∷ before) all few told same =
    let h = same_behind plan (after_call_if plan (call_of x) s) before all few told.1 same in
    record { after = h.after; told = (told.0, h.told) }

asked : (plan : Plan) (s : State) (c : Command) → IsTrue (asks_state (note.Sent c)) → given plan s ≡ Some c
    → asks (given plan s) ≡ true
asked plan s c is gives = ap asks gives ∙ is

-- the state asked thrice, and heard twice
at_notes : (plan : Plan) (s : State) (asks hears : Note) (after : List Note) → IsTrue (asks_state asks)
    → IsTrue (hears_state hears) → AllTold plan s (asks ∷ hears ∷ asks ∷ hears ∷ asks ∷ after)
    → Same plan s (asks ∷ hears ∷ asks ∷ hears ∷ asks ∷ after) (asks ∷ hears ∷ asks ∷ after)
at_notes plan s (note.Sent c) (note.Heard (heard.Reply (reply.State g (Some b)))) after is h told =
    let came : Heard = heard.Reply (reply.State g (Some b)) in
    let third = told.1.1.1.1 in
    let same : once plan came (once plan came s) ≡ once plan came s =
    again plan s g b (asked plan s c is told.0) (asked plan (once plan came s) c is told.1.1.0)
    (asked plan (once plan came (once plan came s)) c is third.0) in
    record {
      after = ap (λ (x : State). after_notes plan x (note.Sent c ∷ after)) (sym same);
      told = (told.0, (told.1.0, subst (λ (x : State). AllTold plan x (note.Sent c ∷ after)) same third));
    }
at_notes plan s (note.Sent c) hears after is h told = cc h
at_notes plan s asks hears after is h told = cc is

-- what a note asks or hears
record Asks (n : Note) : Type 0 where
  groups : ℕ
  is : n ≡ note.Sent (command.Status groups)

asks_so : (n : Note) → IsTrue (asks_state n) → Asks n
asks_so (note.Sent (command.Status groups)) is = record { groups = groups; is = refl }
asks_so _ is = cc is

record HearsState (n : Note) (kind : ℕ → ℕ → Bool) : Type 0 where
  groups : ℕ
  byte : ℕ
  is : n ≡ note.Heard (heard.Reply (reply.State groups (Some byte)))
  so : kind groups byte ≡ true

abbrev done_state : ℕ → ℕ → Bool
done_state g b = is_done (reply.State g (Some b))

abbrev free_state : ℕ → ℕ → Bool
free_state g b = is_done (reply.State g (Some b)) && not (is_playing (reply.State g (Some b)))

hears_done_so : (n : Note) → IsTrue (hears_done n) → HearsState n done_state
hears_done_so (note.Heard (heard.Reply (reply.State g (Some b)))) is = record { groups = g; byte = b; is = refl; so = is }
hears_done_so _ is = cc is

hears_free_so : (n : Note) → IsTrue (hears_free n) → HearsState n free_state
hears_free_so (note.Heard (heard.Reply (reply.State g (Some b)))) is = record { groups = g; byte = b; is = refl; so = is }
hears_free_so _ is = cc is

-- any state ends the same exchanges
some_if : (e : Exchange) (b : Bool) → is_some (if b then Some e else None) ≡ b
some_if e true = refl
some_if e false = refl

ends_alike : (mode : Mode) (o : Option Command) (g b g' b' : ℕ)
    → is_some (exchange_of mode (Some (heard.Reply (reply.State g (Some b)))) o)
    ≡ is_some (exchange_of mode (Some (heard.Reply (reply.State g' (Some b')))) o)
ends_alike mode None g b g' b' = refl
ends_alike Plain (Some c) g b g' b' = refl
ends_alike Confirming (Some c) g b g' b' =
    some_if (record { command = c; heard = Some (heard.Reply (reply.State g (Some b))) }) (is_sense c && true)
    ∙ sym (some_if (record { command = c; heard = Some (heard.Reply (reply.State g' (Some b'))) }) (is_sense c && true))

-- the state before a PLAY
play_notes : (plan : Plan) (s : State) (c : Command) (took : Bool) (g b g' b' : ℕ) (after : List Note)
    → IsTrue (asks_state (note.Sent c)) → free_state g' b' ≡ true
    → AllTold plan s (note.Sent c ∷ (takes took ++ (note.Heard (heard.Reply (reply.State g (Some b)))
    ∷ note.Sent command.Play ∷ after)))
    → Same plan s (note.Sent c ∷ (takes took ++ (note.Heard (heard.Reply (reply.State g (Some b)))
    ∷ note.Sent command.Play ∷ after)))
    (note.Sent c ∷ note.Heard (heard.Reply (reply.State g' (Some b'))) ∷ note.Sent command.Play ∷ after)
play_notes plan s c true g b g' b' after is free told =
    let alike = plays_alike plan s true g b g' b' (asked plan s c is told.0) (ap plays told.1.1.1.0) free in
    record {
      after = ap (λ (x : State). after_notes plan x after) alike.leaves;
      told = (
        told.0,
        (
          sym (ends_alike plan.mode (awaited plan (ticked s)) g b g' b') ∙ told.1.1.0,
          (
            alike.gives,
            subst (λ (x : State). AllTold plan x after) (sym alike.leaves) told.1.1.1.1,
          ),
        ),
      );
    }
play_notes plan s c false g b g' b' after is free told =
    let alike = plays_alike plan s false g b g' b' (asked plan s c is told.0) (ap plays told.1.1.0) free in
    record {
      after = ap (λ (x : State). after_notes plan x after) alike.leaves;
      told = (
        told.0,
        (
          sym (ends_alike plan.mode (awaited plan (ticked s)) g b g' b') ∙ told.1.0,
          (
            alike.gives,
            subst (λ (x : State). AllTold plan x after) (sym alike.leaves) told.1.1.1,
          ),
        ),
      );
    }

at_play : (plan : Plan) (s : State) (took : Bool) (asks hears free : Note) (after : List Note)
    → Asks asks → HearsState hears done_state → HearsState free free_state
    → AllTold plan s (asks ∷ (takes took ++ (hears ∷ note.Sent command.Play ∷ after)))
    → Same plan s (asks ∷ (takes took ++ (hears ∷ note.Sent command.Play ∷ after)))
    (asks ∷ free ∷ note.Sent command.Play ∷ after)
at_play plan s took asks hears free after a h f told =
    let last : List Note = note.Sent command.Play ∷ after in
    subst (λ (n : Note). Same plan s (n ∷ (takes took ++ (hears ∷ last))) (n ∷ free ∷ last)) (sym a.is)
    (subst (λ (n : Note). Same plan s (note.Sent (command.Status a.groups) ∷ (takes took ++ (n ∷ last)))
    (note.Sent (command.Status a.groups) ∷ free ∷ last)) (sym h.is)
    (subst (λ (n : Note). Same plan s (note.Sent (command.Status a.groups) ∷ (takes took
    ++ (note.Heard (heard.Reply (reply.State h.groups (Some h.byte))) ∷ last)))
    (note.Sent (command.Status a.groups) ∷ n ∷ last)) (sym f.is)
    (play_notes plan s (command.Status a.groups) took h.groups h.byte f.groups f.byte after refl f.so
    (subst (λ (n : Note). AllTold plan s (note.Sent (command.Status a.groups) ∷ (takes took ++ (n ∷ last)))) h.is
    (subst (λ (n : Note). AllTold plan s (n ∷ (takes took ++ (hears ∷ last)))) a.is told)))))

-- any number
thinned_same : (plan : Plan) (s : State) (all : List Note) → AllTold plan s all → (few : List Note)
    → IsThinned all few → Same plan s all few
thinned_same plan s all told _ whole = record { after = refl; told = told }
thinned_same plan s all told _ (without before after asks hears is h thin) =
    let more = thinned_same plan s all told _ thin in
    let fewer = same_behind plan s before (asks ∷ hears ∷ asks ∷ hears ∷ asks ∷ after) (asks ∷ hears ∷ asks ∷ after)
    more.told (at_notes plan (after_notes plan s before) asks hears after is h) in
    record { after = fewer.after ∙ more.after; told = fewer.told }
thinned_same plan s all told _ (before_play before after took asks hears free is h f thin) =
    let last : List Note = note.Sent command.Play ∷ after in
    let more = thinned_same plan s all told _ thin in
    let fewer = same_behind plan s before (asks ∷ (takes took ++ (hears ∷ last))) (asks ∷ free ∷ last) more.told
    (at_play plan (after_notes plan s before) took asks hears free after (asks_so asks is) (hears_done_so hears h)
    (hears_free_so free f)) in
    record { after = fewer.after ∙ more.after; told = fewer.told }

pub makes : (plan : Plan) (all rows : List Row) → AreThinned all rows → AreTold plan start all
    → after_rows plan start rows ≡ after_rows plan start all
makes plan all rows thin told =
    let same = thinned_same plan start (notes_in all) (notes_told plan start all told) (notes_in rows) thin in
    after_is plan start rows ∙ same.after ∙ sym (after_is plan start all)

pub tells : (plan : Plan) (all rows : List Row) → AreThinned all rows → AreTold plan start all
    → AreTold plan start rows
tells plan all rows thin told =
    rows_told plan start rows
    (thinned_same plan start (notes_in all) (notes_told plan start all told) (notes_in rows) thin).told

-- The log of notes, as that of rows.

abbrev asked_notes : Option Command → List Note → Option Command
asked_notes asked [] = asked
asked_notes asked (n ∷ notes) = asked_notes (open_after asked n) notes

abbrev ended_notes : Option Command → List Note → List Exchange
ended_notes asked [] = []
ended_notes asked (n ∷ notes) = ended_at asked n (ended_notes (open_after asked n) notes)

abbrev log_notes : Option Command → List Note → List Exchange
log_notes asked [] = exchange_with None asked []
log_notes asked (n ∷ notes) = ended_at asked n (log_notes (open_after asked n) notes)

log_is : (asked : Option Command) (rows : List Row) → log_from asked rows ≡ log_notes asked (notes_in rows)
log_is asked [] = refl
log_is asked (row ∷ rows) = ap (ended_at asked row.note) (log_is (open_after asked row.note) rows)

log_both : (asked : Option Command) (xs ys : List Note)
    → log_notes asked (xs ++ ys) ≡ ended_notes asked xs ++ log_notes (asked_notes asked xs) ys
log_both asked [] ys = refl
log_both asked (x ∷ xs) ys =
    ap (ended_at asked x) (log_both (open_after asked x) xs ys)
    ∙ at_front asked x (ended_notes (open_after asked x) xs) (log_notes (asked_notes (open_after asked x) xs) ys)

-- Logs that show the same, whatever follows them.

abbrev pub AiringGrows : Type 0
AiringGrows = (mode : Mode) (log : List Exchange) (e : Exchange) → may_have_aired mode (log ++ e ∷ [])
    ≡ (not (settles mode log e) && (is_play e || may_have_aired mode log))

record Alike (mode : Mode) (x y : List Exchange) : Type 0 where
  pub opens : has_open_play x ≡ has_open_play y
  pub counts : settled mode x ≡ settled mode y
  pub may : may_have_aired mode x ≡ may_have_aired mode y

alike_same : (mode : Mode) (x y : List Exchange) → x ≡ y → Alike mode x y
alike_same mode x y is = record {
  opens = ap has_open_play is;
  counts = ap (settled mode) is;
  may = ap (may_have_aired mode) is;
}

alike_then : (mode : Mode) (x y z : List Exchange) → Alike mode x y → Alike mode y z → Alike mode x z
alike_then mode x y z f g = record {
  opens = f.opens ∙ g.opens;
  counts = f.counts ∙ g.counts;
  may = f.may ∙ g.may;
}

settles_alike : (mode : Mode) (x y : List Exchange) (e : Exchange) → has_open_play x ≡ has_open_play y
    → settles mode x e ≡ settles mode y e
settles_alike Plain x y e is = ap (λ (o : Bool). is_play e && is_acked e || is_empty_status e && o) is
settles_alike Confirming x y e is = ap (λ (o : Bool). is_empty_status e && o) is

alike_on : OpenGrows → SettledGrows → AiringGrows → (mode : Mode) (x y : List Exchange) (e : Exchange) → Alike mode x y
    → Alike mode (x ++ e ∷ []) (y ++ e ∷ [])
alike_on opens counts airs mode x y e h =
    let s = settles_alike mode x y e h.opens in
    record {
      opens = opens x e
          ∙ ap (λ (o : Bool). if tells_of_play e then is_play e && not (is_answered e) else o) h.opens
          ∙ sym (opens y e);
      counts = counts mode x e
          ∙ ap₂ (λ (b : Bool) (n : ℕ). if b then n + 1 else n) s h.counts
          ∙ sym (counts mode y e);
      may = airs mode x e
          ∙ ap₂ (λ (b m : Bool). not b && (is_play e || m)) s h.may
          ∙ sym (airs mode y e);
    }

alike_more : OpenGrows → SettledGrows → AiringGrows → (mode : Mode) (x y more : List Exchange) → Alike mode x y
    → Alike mode (x ++ more) (y ++ more)
alike_more opens counts airs mode x y [] h =
    alike_then mode _ x _ (alike_same mode _ x (append-nil x))
    (alike_then mode x y _ h (alike_same mode y _ (sym (append-nil y))))
alike_more opens counts airs mode x y (e ∷ more) h =
    let next = alike_more opens counts airs mode (x ++ e ∷ []) (y ++ e ∷ []) more
    (alike_on opens counts airs mode x y e h) in
    alike_then mode _ _ _ (alike_same mode _ _ (sym (append_assoc x (e ∷ []) more)))
    (alike_then mode _ _ _ next (alike_same mode _ _ (append_assoc y (e ∷ []) more)))

-- a state that is heard twice in a row
abbrev heard_state : ℕ → ℕ → ℕ → Exchange
heard_state groups g b =
    record { command = command.Status groups; heard = Some (heard.Reply (reply.State g (Some b))) }

twice_opens : (o x y t : Bool) → y ≡ (if t then false else o) → x ≡ (if t then false else y) → x ≡ y
twice_opens o x y true first next = next ∙ sym first
twice_opens o x y false first next = next

twice_settles : (o y t : Bool) → y ≡ (if t then false else o) → (t && y) ≡ false
twice_settles o y true first = first
twice_settles o y false first = refl

twice_mode : OpenGrows → (mode : Mode) (x : List Exchange) (groups g b : ℕ)
    → settles mode (x ++ heard_state groups g b ∷ []) (heard_state groups g b) ≡ false
twice_mode opens Plain x groups g b =
    twice_settles (has_open_play x) _ (is_empty (reply.State g (Some b))) (opens x (heard_state groups g b))
twice_mode opens Confirming x groups g b =
    twice_settles (has_open_play x) _ (is_empty (reply.State g (Some b))) (opens x (heard_state groups g b))

twice : OpenGrows → SettledGrows → AiringGrows → (mode : Mode) (x : List Exchange) (groups g b : ℕ)
    → Alike mode ((x ++ heard_state groups g b ∷ []) ++ heard_state groups g b ∷ []) (x ++ heard_state groups g b ∷ [])
twice opens counts airs mode x groups g b =
    let e : Exchange = heard_state groups g b in
    let y : List Exchange = x ++ e ∷ [] in
    let none = twice_mode opens mode x groups g b in
    record {
      opens = twice_opens (has_open_play x) _ _ (is_empty (reply.State g (Some b))) (opens x e) (opens y e);
      counts = counts mode y e ∙ ap (λ (t : Bool). if t then settled mode y + 1 else settled mode y) none;
      may = airs mode y e ∙ ap (λ (t : Bool). not t && may_have_aired mode y) none;
    }

-- so do notes that leave out such a state
notes_alike : OpenGrows → SettledGrows → AiringGrows → (mode : Mode) (before after : List Note) (asks hears : Note)
    → IsTrue (asks_state asks) → IsTrue (hears_state hears)
    → Alike mode (log_notes None (before ++ (asks ∷ hears ∷ asks ∷ hears ∷ after)))
    (log_notes None (before ++ (asks ∷ hears ∷ after)))
notes_alike opens counts airs mode before after (note.Sent (command.Status groups))
    (note.Heard (heard.Reply (reply.State g (Some b)))) is h =
    let e : Exchange = heard_state groups g b in
    let front : List Exchange = ended_notes None before in
    let more : List Exchange = log_notes None after in
    let asks : Note = note.Sent (command.Status groups) in
    let hears : Note = note.Heard (heard.Reply (reply.State g (Some b))) in
    let long : log_notes None (before ++ (asks ∷ hears ∷ asks ∷ hears ∷ after)) ≡ ((front ++ e ∷ []) ++ e ∷ []) ++ more =
    log_both None before (asks ∷ hears ∷ asks ∷ hears ∷ after)
    ∙ sym (append_assoc front (e ∷ []) (e ∷ more))
    ∙ sym (append_assoc (front ++ e ∷ []) (e ∷ []) more) in
    let short : log_notes None (before ++ (asks ∷ hears ∷ after)) ≡ (front ++ e ∷ []) ++ more =
    log_both None before (asks ∷ hears ∷ after) ∙ sym (append_assoc front (e ∷ []) more) in
    alike_then mode _ _ _ (alike_same mode _ _ long)
    (alike_then mode _ _ _
    (alike_more opens counts airs mode ((front ++ e ∷ []) ++ e ∷ []) (front ++ e ∷ []) more
    (twice opens counts airs mode front groups g b))
    (alike_same mode _ _ (sym short)))
notes_alike opens counts airs mode before after (note.Sent (command.Status groups)) hears is h = cc h
notes_alike opens counts airs mode before after other hears is h = cc is

-- so do those with another state before a PLAY

quiet_mode : (mode : Mode) (x : List Exchange) (e : Exchange) → is_play e ≡ false → is_empty_status e ≡ false
    → settles mode x e ≡ false
quiet_mode Plain x e no_play no_empty =
    ap₂ (λ (p t : Bool). p && is_acked e || t && has_open_play x) no_play no_empty
quiet_mode Confirming x e no_play no_empty = ap (λ (t : Bool). t && has_open_play x) no_empty

-- an exchange that shows nothing of a PLAY
quiet : OpenGrows → SettledGrows → AiringGrows → (mode : Mode) (x : List Exchange) (e : Exchange)
    → is_play e ≡ false → is_empty_status e ≡ false → tells_of_play e ≡ false → Alike mode (x ++ e ∷ []) x
quiet opens counts airs mode x e no_play no_empty tells_none = record {
  opens = opens x e ∙ ap (λ (t : Bool). if t then is_play e && not (is_answered e) else has_open_play x) tells_none;
  counts = counts mode x e
      ∙ ap (λ (t : Bool). if t then settled mode x + 1 else settled mode x) (quiet_mode mode x e no_play no_empty);
  may = airs mode x e
      ∙ ap₂ (λ (t p : Bool). not t && (p || may_have_aired mode x)) (quiet_mode mode x e no_play no_empty) no_play;
}

done_not_empty : (cueing done : Bool) → not done ≡ true → (cueing && done) ≡ false
done_not_empty true true h = absurd (true≢false (sym h))
done_not_empty true false h = refl
done_not_empty false done h = refl

-- a state with the cue done
quiet_state : OpenGrows → SettledGrows → AiringGrows → (mode : Mode) (x : List Exchange) (groups g b : ℕ)
    → done_state g b ≡ true → Alike mode (x ++ heard_state groups g b ∷ []) x
quiet_state opens counts airs mode x groups g b done =
    let none : is_empty (reply.State g (Some b)) ≡ false =
    done_not_empty (has_off 2 (reply.State g (Some b))) (has_off 128 (reply.State g (Some b))) done in
    quiet opens counts airs mode x (heard_state groups g b) refl none none

free_is_done : (done plays : Bool) → (done && not plays) ≡ true → done ≡ true
free_is_done true plays h = refl
free_is_done false plays h = h

-- its log, whether or not a take stands before what is heard
state_log : (took : Bool) (groups g b : ℕ) (before after : List Note)
    → log_notes None (before ++ (note.Sent (command.Status groups)
    ∷ (takes took ++ (note.Heard (heard.Reply (reply.State g (Some b))) ∷ after))))
    ≡ (ended_notes None before ++ heard_state groups g b ∷ []) ++ log_notes None after
state_log true groups g b before after =
    log_both None before (note.Sent (command.Status groups) ∷ note.Take
    ∷ note.Heard (heard.Reply (reply.State g (Some b))) ∷ after)
    ∙ sym (append_assoc (ended_notes None before) (heard_state groups g b ∷ []) (log_notes None after))
state_log false groups g b before after =
    log_both None before (note.Sent (command.Status groups) ∷ note.Heard (heard.Reply (reply.State g (Some b))) ∷ after)
    ∙ sym (append_assoc (ended_notes None before) (heard_state groups g b ∷ []) (log_notes None after))

before_alike : OpenGrows → SettledGrows → AiringGrows → (mode : Mode) (before after : List Note) (took : Bool)
    (asks hears free : Note) → Asks asks → HearsState hears done_state → HearsState free free_state
    → Alike mode (log_notes None (before ++ (asks ∷ free ∷ after)))
    (log_notes None (before ++ (asks ∷ (takes took ++ (hears ∷ after)))))
before_alike opens counts airs mode before after took asks hears free a h f =
    let front : List Exchange = ended_notes None before in
    let more : List Exchange = log_notes None after in
    let first = quiet_state opens counts airs mode front a.groups h.groups h.byte h.so in
    let second = quiet_state opens counts airs mode front a.groups f.groups f.byte
    (free_is_done (done_state f.groups f.byte) (is_playing (reply.State f.groups (Some f.byte))) f.so) in
    let same : Alike mode ((front ++ heard_state a.groups f.groups f.byte ∷ []) ++ more)
    ((front ++ heard_state a.groups h.groups h.byte ∷ []) ++ more) =
    alike_more opens counts airs mode _ _ more
    (record { opens = second.opens ∙ sym first.opens; counts = second.counts ∙ sym first.counts; may = second.may ∙ sym first.may }) in
    let free_log : log_notes None (before ++ (asks ∷ free ∷ after))
    ≡ (front ++ heard_state a.groups f.groups f.byte ∷ []) ++ more =
    ap₂ (λ (n m : Note). log_notes None (before ++ (n ∷ m ∷ after))) a.is f.is
    ∙ state_log false a.groups f.groups f.byte before after in
    let done_log : log_notes None (before ++ (asks ∷ (takes took ++ (hears ∷ after))))
    ≡ (front ++ heard_state a.groups h.groups h.byte ∷ []) ++ more =
    ap₂ (λ (n m : Note). log_notes None (before ++ (n ∷ (takes took ++ (m ∷ after))))) a.is h.is
    ∙ state_log took a.groups h.groups h.byte before after in
    alike_then mode _ _ _ (alike_same mode _ _ free_log)
    (alike_then mode _ _ _ same (alike_same mode _ _ (sym done_log)))

thinned_alike : OpenGrows → SettledGrows → AiringGrows → (mode : Mode) (all few : List Note) → IsThinned all few
    → Alike mode (log_notes None few) (log_notes None all)
thinned_alike opens counts airs mode all _ whole = alike_same mode _ _ refl
thinned_alike opens counts airs mode all _ (without before after asks hears is h thin) =
    let more = thinned_alike opens counts airs mode all _ thin in
    let one = notes_alike opens counts airs mode before (asks ∷ after) asks hears is h in
    record { opens = sym one.opens ∙ more.opens; counts = sym one.counts ∙ more.counts; may = sym one.may ∙ more.may }
thinned_alike opens counts airs mode all _ (before_play before after took asks hears free is h f thin) =
    alike_then mode _ _ _
    (before_alike opens counts airs mode before (note.Sent command.Play ∷ after) took asks hears free (asks_so asks is)
    (hears_done_so hears h) (hears_free_so free f))
    (thinned_alike opens counts airs mode all _ thin)

pub counts_same : OpenGrows → SettledGrows → AiringGrows → (mode : Mode) (all rows : List Row) → AreThinned all rows
    → settled_in mode rows ≡ settled_in mode all
counts_same opens counts airs mode all rows thin =
    let same = thinned_alike opens counts airs mode (notes_in all) (notes_in rows) thin in
    ap (settled mode) (log_is None rows) ∙ same.counts ∙ sym (ap (settled mode) (log_is None all))

pub airs_same : OpenGrows → SettledGrows → AiringGrows → (mode : Mode) (all rows : List Row) → AreThinned all rows
    → may_have_aired mode (log_of rows) ≡ may_have_aired mode (log_of all)
airs_same opens counts airs mode all rows thin =
    let same = thinned_alike opens counts airs mode (notes_in all) (notes_in rows) thin in
    ap (may_have_aired mode) (log_is None rows) ∙ same.may ∙ sym (ap (may_have_aired mode) (log_is None all))
