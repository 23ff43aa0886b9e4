-- What the rule book forbids, on small logs.
use Rattle.std.specs.Prelude.{◌≡◌, Bool, true, false, not, ◌||◌, ◌&&◌, None, Some, List, [], ◌∷◌, ◌++◌, refl}
use Rattle.std.specs.List.{list_any}
use Rattle.std.proofs.Common.{inl, inr, sym, ap, ◌∙◌, arith}
use Rattle.std.proofs.lemmas.Bool.{or_left, or_right, and_from}
use Rattle.vdcp_value.specs.declared.part.Item.{Item}
use Rattle.vdcp_words.specs.declared.command.Command.{Command}
use Rattle.vdcp_words.specs.declared.command.Command.TheVariants as command
use Rattle.vdcp_words.specs.declared.reply.Reply.{Reply}
use Rattle.vdcp_words.specs.declared.reply.Reply.TheVariants as reply
use Rattle.vdcp_auto.specs.declared.exchange.Exchange.{Exchange}
use Rattle.vdcp_auto.specs.declared.exchange.Heard.TheVariants as heard
use Rattle.vdcp_auto.specs.declared.phase.Mode.TheVariants.{Plain}
use Rattle.vdcp_auto.specs.Settled.{settled}
use Rattle.vdcp_auto.specs.Commands.{is_cue_command}
use Rattle.vdcp_auto.specs.Log.{is_cue, is_play, is_done_status}
use Rattle.vdcp_auto.specs.RuleBook.{May, MayPlay, MayClose}
use Rattle.vdcp_auto.proofs.Examples.{clip_one as clip, one as once, one_twice as twice}

abbrev answered : Command → Reply → Exchange
answered c r = record { command = c; heard = Some (heard.Reply r) }

abbrev silent : Command → Exchange
silent c = record { command = c; heard = None }

abbrev cue : Exchange
cue = answered (command.PlayCue clip) reply.Ack

abbrev done : Exchange
done = answered (command.Status 1) (reply.State 1 (Some 0x80))

abbrev played : Exchange
played = answered command.Play reply.Ack

abbrev unread : Exchange
unread = answered command.Play (reply.Nak 0x04)

abbrev stop : Exchange
stop = answered command.Stop reply.Ack

true_not_false : true ≡ false → ⊥
true_not_false e = cc

no_cue_while_a_play_is_open : May Plain once (cue ∷ done ∷ silent command.Play ∷ []) (command.PlayCue clip) → ⊥
no_cue_while_a_play_is_open m = true_not_false m.rule.no_open_play

no_cue_of_a_settled_event : May Plain once (cue ∷ done ∷ played ∷ []) (command.PlayCue clip) → ⊥
no_cue_of_a_settled_event m = m.rule.cues_next

no_status_after_a_stop : May Plain once (stop ∷ []) (command.Status 1) → ⊥
no_status_after_a_stop m = true_not_false (sym (m.after_stop refl))

no_stop_after_a_close : May Plain [] (answered (command.Close 1) reply.Ack ∷ []) command.Stop → ⊥
no_stop_after_a_close m = true_not_false (sym (m.after_close refl))

no_select_before_a_grant : May Plain once (silent (command.Open 1 1) ∷ []) (command.Select 1) → ⊥
no_select_before_a_grant m = true_not_false (sym m.rule)

close_of_one : MayClose Plain once (cue ∷ done ∷ []) → ⊥
close_of_one (inl stopped) = true_not_false (sym stopped)
close_of_one (inr all) = absurd (omega (arith, all.0))

no_close_before_all_is_settled : May Plain once (cue ∷ done ∷ []) (command.Close 1) → ⊥
no_close_before_all_is_settled m = close_of_one m.rule

-- a PLAY looks back to a cue, and to a done status with no PLAY after it
any-behind : (p : Exchange → Bool) (xs ys : List Exchange) → list_any p ys ≡ true → list_any p (xs ++ ys) ≡ true
any-behind p [] ys h = h
any-behind p (x ∷ xs) ys h = or_right (p x) (list_any p (xs ++ ys)) (any-behind p xs ys h)

abbrev is_fresh : List Exchange → Bool
is_fresh [] = false
is_fresh (e ∷ es) = is_done_status e && not (list_any is_play es) || is_fresh es

fresh-behind : (xs ys : List Exchange) → is_fresh ys ≡ true → is_fresh (xs ++ ys) ≡ true
fresh-behind [] ys h = h
fresh-behind (x ∷ xs) ys h = or_right (is_done_status x && not (list_any is_play (xs ++ ys))) (is_fresh (xs ++ ys))
    (fresh-behind xs ys h)

fresh_from : (list : List Item) (log : List Exchange) → MayPlay Plain list log → is_fresh log ≡ true
fresh_from list log m =
    let at : is_fresh (m.status ∷ m.after) ≡ true =
    or_left (is_done_status m.status && not (list_any is_play m.after)) (is_fresh m.after)
    (and_from (is_done_status m.status) (not (list_any is_play m.after)) m.done (ap not m.no_play)) in
    ap is_fresh m.in_order ∙ fresh-behind m.before (m.cue ∷ (m.between ++ (m.status ∷ m.after)))
    (fresh-behind (m.cue ∷ m.between) (m.status ∷ m.after) at)

no_play_without_a_done_status : May Plain once (cue ∷ []) command.Play → ⊥
no_play_without_a_done_status m = true_not_false (sym (fresh_from once (cue ∷ []) m.rule))

-- a done status serves one PLAY
no_second_play_on_one_status : May Plain once (cue ∷ done ∷ unread ∷ []) command.Play → ⊥
no_second_play_on_one_status m = true_not_false (sym (fresh_from once (cue ∷ done ∷ unread ∷ []) m.rule))

cue_at : (before log behind : List Exchange) (c : Exchange) → log ≡ before ++ (c ∷ behind) → is_cue c ≡ true
    → list_any is_cue log ≡ true
cue_at before log behind c e is = ap (list_any is_cue) e
    ∙ any-behind is_cue before (c ∷ behind) (or_left (is_cue c) (list_any is_cue behind) is)

no_play_without_a_cue : May Plain once (done ∷ []) command.Play → ⊥
no_play_without_a_cue m =
    let behind = m.rule.between ++ (m.rule.status ∷ m.rule.after) in
    true_not_false (sym (cue_at m.rule.before (done ∷ []) behind m.rule.cue m.rule.in_order
    (ap is_cue_command m.rule.cues_next)))

-- a PLAY that settled needs a new cue
old_cue : (before behind : List Exchange) (c : Exchange) → (cue ∷ done ∷ played ∷ done ∷ []) ≡ before ++ (c ∷ behind)
    → is_cue c ≡ true
    → settled Plain before ≡ 1 → ⊥
old_cue [] behind c e is n = absurd (omega arith)
old_cue (x ∷ before) behind c e is n =
    let tail : (done ∷ played ∷ done ∷ []) ≡ before ++ (c ∷ behind) = cc in
    true_not_false (sym (cue_at before (done ∷ played ∷ done ∷ []) behind c tail is))

no_play_on_an_old_cue : May Plain twice (cue ∷ done ∷ played ∷ done ∷ []) command.Play → ⊥
no_play_on_an_old_cue m =
    let behind = m.rule.between ++ (m.rule.status ∷ m.rule.after) in
    old_cue m.rule.before behind m.rule.cue m.rule.in_order (ap is_cue_command m.rule.cues_next) m.rule.none_settles
