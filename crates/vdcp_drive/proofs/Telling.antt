-- What a wire tells after a run.
use Rattle.std.proofs.Common.{ℕ, ◌≡◌, true, false, List, [], ◌∷◌, ◌++◌, map, refl, sym, ap, subst, ◌∙◌, append_assoc, append-nil}
use Rattle.std.specs.Option.{option_to_list}
use Rattle.std.specs.Prelude.{Option, Some, None}
use Rattle.vdcp_words.specs.declared.command.Command.{Command}
use Rattle.vdcp_auto.specs.Plan.{Plan}
use Rattle.vdcp_auto.specs.Turn.{awaited}
use Rattle.vdcp_auto.specs.declared.exchange.Exchange.{Exchange}
use Rattle.vdcp_auto.specs.declared.exchange.Heard.{Heard}
use Rattle.vdcp_wire.specs.Wires.{Told, bytes, silence, close, has_closed}
use Rattle.vdcp_wire.specs.WireLaws.{closed_bytes, closed_silence, closed_close}
use Rattle.vdcp_wire.specs.Acts.{Act, sends, brings}
use Rattle.vdcp_drive.specs.Steps.{Chain}
use Rattle.vdcp_drive.specs.Auto.{Auto, Event, after, log_of}
use Rattle.vdcp_drive.specs.Ears.{Fold}
use Rattle.vdcp_drive.specs.Steps.{Step, acts, Rules, World, Happens, end_of, steps_of}
use Rattle.vdcp_wire.specs.Acts.{Tells, told_after}
use Rattle.vdcp_drive.specs.Traces.{acts_in, kept_in, sent_in, came_in, commands_kept, exchanged, kept_of, until_close}
use Rattle.vdcp_drive.specs.declared.hooks.Kept.{Kept}
use Rattle.vdcp_drive.specs.declared.hooks.Kept.TheVariants as row
use Rattle.vdcp_drive.proofs.Tracing.{commands_both, steps_kept}

-- what a wire tells after these acts
abbrev pub told_after_all : List Act → Told → Told
told_after_all [] t = t
told_after_all (act ∷ later) t = told_after_all later (told_after act t)

-- what happens on the wire
pub on_wire : {W J : Type 0} (rules : Rules W J) (xs : List Step) (old new : World W J) → Happens rules xs old new
    → Chain rules.does (acts_in xs) old.wire new.wire
on_wire rules [] old new h = ap (λ (w : World _ _). w.wire) h
on_wire rules (acts a ∷ xs) old new h = (h.0.wire, h.1.0, on_wire rules xs h.0 new h.2)
on_wire rules (x ∷ xs) old new h = rw h.1.1 at (on_wire rules xs h.0 new h.2)

tells_all : {W : Type 0} (does : Act → W → W → Type 0) (told : W → Option Told)
    → ((act : Act) (old new : W) → does act old new → Tells act (told old) (told new))
    → (xs : List Act) (old new : W) (t : Told) → Chain does xs old new → told old ≡ Some t
    → told new ≡ Some (told_after_all xs t)
tells_all does told law [] old new t h is = ap told h ∙ is
tells_all does told law (x ∷ xs) old new t h is =
    tells_all does told law xs h.0 new (told_after x t) h.2
    (subst (λ (o : Option Told). Tells x o (told h.0)) is (law x old h.0 h.1)).1

pub sent_told : (xs : List Act) (t : Told) → (told_after_all xs t).sent ≡ t.sent ++ sent_in xs
sent_told [] t = sym (append-nil t.sent)
sent_told (sends b ∷ xs) t = sent_told xs (told_after (sends b) t) ∙ append_assoc t.sent b (sent_in xs)
sent_told (x ∷ xs) t = sent_told xs (told_after x t)

-- after a close nothing is added
came_closed : (xs : List Act) (t : Told) → has_closed t.came ≡ true → (told_after_all xs t).came ≡ t.came
came_closed [] t h = refl
came_closed (brings what ∷ xs) t h = rw (h, told_after_all) (came_closed xs t h)
came_closed (x ∷ xs) t h = came_closed xs (told_after x t) h

pub came_told : (xs : List Act) (t : Told) → has_closed t.came ≡ false
    → (told_after_all xs t).came ≡ t.came ++ until_close (came_in xs)
came_told [] t h = sym (append-nil t.came)
came_told (brings (bytes piece) ∷ xs) t h =
    rw (h, told_after_all) (came_told xs (record t { came = t.came ++ bytes piece ∷ [] }) (closed_bytes t.came piece ∙ h)
    ∙ append_assoc t.came (bytes piece ∷ []) (until_close (came_in xs)))
came_told (brings silence ∷ xs) t h =
    rw (h, told_after_all) (came_told xs (record t { came = t.came ++ silence ∷ [] }) (closed_silence t.came ∙ h)
    ∙ append_assoc t.came (silence ∷ []) (until_close (came_in xs)))
came_told (brings close ∷ xs) t h =
    rw (h, told_after_all) (came_closed xs (record t { came = t.came ++ close ∷ [] }) (closed_close t.came))
came_told (x ∷ xs) t h = came_told xs (told_after x t) h

-- Commands.

commands_awaited : (o : Option Command) → commands_kept (map row.Sent (option_to_list o)) ≡ option_to_list o
commands_awaited None = refl
commands_awaited (Some c) = refl

command_first : (e : Exchange) (h : Option Heard) (rows : List Kept)
    → commands_kept (row.Sent e.command ∷ end_of h ∷ rows) ≡ e.command ∷ commands_kept rows
command_first e None rows = refl
command_first e (Some h) rows = refl

commands_logged : (log : List Exchange) → commands_kept (kept_of log) ≡ map (λ e. e.command) log
commands_logged [] = refl
commands_logged (e ∷ log) = command_first e e.heard (kept_of log)
    ∙ ap (λ (l : List Command). e.command ∷ l) (commands_logged log)

commands_exchanged : (rows : List Kept) → commands_kept (exchanged rows) ≡ commands_kept rows
commands_exchanged [] = refl
commands_exchanged (row.Called c ∷ rows) = commands_exchanged rows
commands_exchanged (row.Sent c ∷ rows) = ap (λ (l : List Command). c ∷ l) (commands_exchanged rows)
commands_exchanged (row.Heard h ∷ rows) = commands_exchanged rows
commands_exchanged (row.Silence ∷ rows) = commands_exchanged rows

pub steps_commands : {E : Type 0} (fold : Fold E) (plan : Plan) (unit : ℕ) (a : Auto E) (events : List Event)
    → option_to_list (awaited plan a.state) ++ commands_kept (kept_in (steps_of fold plan unit a events))
    ≡ map (λ e. e.command) (log_of fold plan unit a events)
    ++ option_to_list (awaited plan (after fold plan unit a events).state)
steps_commands fold plan unit a events =
    simp (commands_both, commands_awaited, commands_logged, commands_exchanged) at (ap commands_kept
    (steps_kept fold plan unit a events))

-- A run, whatever its answer.

pub run_carries : {W J : Type 0} (rules : Rules W J) (told : W → Option Told)
    → ((act : Act) (old new : W) → rules.does act old new → Tells act (told old) (told new))
    → (steps : List Step) (world world' : World W J) (t : Told) → Happens rules steps world world'
    → told world.wire ≡ Some t → told world'.wire ≡ Some (told_after_all (acts_in steps) t)
run_carries rules told law steps world world' t h is =
    tells_all rules.does told law (acts_in steps) world.wire world'.wire t (on_wire rules steps world world' h) is
