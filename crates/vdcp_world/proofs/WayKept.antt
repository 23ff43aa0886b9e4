-- What events keep of what is on the way.
use Rattle.std.proofs.Common.{ℕ, ◌<◌, ◌≡◌, ◌⊎◌, inl, inr, Bool, true, false, ◌&&◌, List, [], ◌∷◌, ◌++◌, All, refl, arith, sym, ap, ◌∙◌, subst}
use Rattle.std.proofs.lemmas.Bool.{and_parts, or_cases}
use Rattle.std.specs.Prelude.{Option, None, Some, IfSome}
use Rattle.vdcp_value.specs.Parts.{IsItem}
use Rattle.vdcp_frame.specs.Burst.{messages_of}
use Rattle.vdcp_frame.specs.Message.{Content}
use Rattle.vdcp_words.specs.Commands.{command_message, IsWritableCommand}
use Rattle.vdcp_words.specs.declared.command.Command.{Command}
use Rattle.vdcp_words.specs.declared.reply.Reply.{Reply}
use Rattle.vdcp_auto.specs.Plan.{Plan}
use Rattle.vdcp_auto.specs.Replies.{is_receipt}
use Rattle.vdcp_auto.specs.Turn.{awaited, awaited_in, given, given_in, ticked, tick_in}
use Rattle.vdcp_auto.specs.declared.exchange.Heard.{Heard}
use Rattle.vdcp_auto.specs.declared.exchange.Heard.TheVariants as heard
use Rattle.vdcp_auto.specs.declared.phase.Mode.{Mode}
use Rattle.vdcp_auto.specs.declared.phase.Mode.TheVariants.{Plain, Confirming}
use Rattle.vdcp_auto.specs.State.{Stage, Ready, Awaiting, State}
use Rattle.vdcp_world.specs.Channel.{down_behind, up_behind, state_hearing, state_waiting, state_straying, is_short, can_become, can_become_up, altered}
use Rattle.vdcp_world.specs.Beginnings.{is_beginning}
use Rattle.vdcp_auto.specs.Heard.{heard_in, heard_first, hears_receipt}
use Rattle.vdcp_world.proofs.OnTheWay.{IsQuiet, Way}
use Rattle.vdcp_world.proofs.Beginnings.{is_beginning_of}
use Rattle.vdcp_world.specs.Below.{Below}

-- ---- a tick

module _ (plan : Plan) (state : State) (c : Command) where
  -- what a tick gives is awaited then, and where it gives nothing, what was awaited before
  pub given_awaited : given plan state ≡ Some c → awaited plan (ticked state) ≡ Some c
  given_awaited e = by state.stage e
    where
      by : (stage : Stage) → given_in plan state.stop stage ≡ Some c → awaited plan (tick_in stage state) ≡ Some c
      by (Ready q) e = e
      by _ e = cc

  none_awaited : given plan state ≡ None → awaited plan state ≡ Some c → awaited plan (ticked state) ≡ Some c
  none_awaited e aw = by state.stage aw
    where
      by : (stage : Stage) → awaited_in plan stage ≡ Some c → awaited plan (tick_in stage state) ≡ Some c
      by (Awaiting q) a = aw
      by _ a = cc

pub tick_way : Below → (mode : Mode) (unit : ℕ) (plan : Plan) (state : State) (down up : List ℕ) (g : Option Command)
    → given plan state ≡ g
    → unit < 16 → All IsItem plan.list → plan.port < 256 → Way mode unit (awaited plan state) down up
    → Way mode unit (awaited plan (ticked state)) (down_behind unit g down) (up_behind g up)
tick_way below mode unit plan state down up None e u items h (inl nothing) = inl nothing
tick_way below mode unit plan state down up None e u items h (inr (c, aw, ms, quiet)) =
    inr (c, none_awaited plan state c e aw, ms, quiet)
tick_way below mode unit plan state down up (Some c) e u items h way =
    let w : IsWritableCommand c = subst (λ o. IfSome o IsWritableCommand) e (below.given_written plan state items h) in
    inr (
      c,
      given_awaited plan state c e,
      below.alone (command_message unit c)
          (below.command_fits unit c (omega (arith, u)) w),
      tt,
    )

-- ---- what is heard

pub hear_way : Below → (mode : Mode) (unit : ℕ) (plan : Plan) (state : State) (down up : List ℕ) (h : Option Heard)
    → plan.mode ≡ mode → heard_in unit up ≡ h
    → Way mode unit (awaited plan state) down up → Way mode unit (awaited plan (state_hearing plan h state)) down up
hear_way below mode unit plan state down up None m e way = way
hear_way below mode unit plan state down up (Some h) m e (inl nothing) = inl nothing
hear_way below Plain unit plan state down up (Some h) m e (inr (c, aw, ms, quiet)) =
    absurd (subst (IsQuiet Plain) e quiet)
hear_way below Confirming unit plan state down up (Some heard.Other) m e (inr (c, aw, ms, quiet)) =
    absurd (subst (IsQuiet Confirming) e quiet)
hear_way below Confirming unit plan state down up (Some (heard.Reply r)) m e (inr (c, aw, ms, quiet)) =
    let stays = below.receipt_stays plan state (Some (heard.Reply r)) m (subst (IsQuiet Confirming) e quiet) in
    inr (c, ap (awaited plan) stays ∙ aw, ms, quiet)

pub quiet_way : (mode : Mode) (unit : ℕ) (o : Option Command) (down up new : List ℕ) → IsQuiet mode (heard_in unit new)
    → Way mode unit o down up → Way mode unit o down new
quiet_way mode unit o down up new q (inl nothing) = inl nothing
quiet_way mode unit o down up new q (inr (c, aw, ms, quiet)) = inr (c, aw, ms, q)

-- ---- damage

pub front_of_none : (ms others : List Content) → [] ≡ ms ++ others → ms ≡ []
front_of_none [] others e = refl
front_of_none (m ∷ ms) others e = cc

front_of_one : (n : Content) (ms others : List Content) → n ∷ [] ≡ ms ++ others → (ms ≡ []) ⊎ (ms ≡ n ∷ [])
front_of_one n [] others e = inl refl
front_of_one n (m ∷ []) others e = inr (cc e)
front_of_one n (m ∷ k ∷ ms) others e = cc

pub alter_down : (mode : Mode) (unit : ℕ) (o : Option Command) (down up bytes : List ℕ) (can : Bool)
    → can_become down bytes ≡ can
    → Way mode unit o down up → Way mode unit o (altered can down bytes) up
alter_down mode unit o down up bytes false e way = way
alter_down mode unit o down up bytes true e way =
    let (others, is) = is_beginning_of (messages_of bytes) (messages_of down)
    (and_parts (is_short bytes) (is_beginning (messages_of bytes) (messages_of down)) e).1 in
    by others is way
  where
    by : (others : List Content) → messages_of down ≡ messages_of bytes ++ others → Way mode unit o down up
        → Way mode unit o bytes up
    by others is (inl nothing) = inl (front_of_none (messages_of bytes) others (sym nothing ∙ is))
    by others is (inr (c, aw, ms, quiet)) =
        one (front_of_one (command_message unit c) (messages_of bytes) others (sym ms ∙ is))
      where
        one : (messages_of bytes ≡ []) ⊎ (messages_of bytes ≡ command_message unit c ∷ []) → Way mode unit o bytes up
        one (inl none) = inl none
        one (inr same) = inr (c, aw, same, quiet)

quiet_front : (mode : Mode) (unit : ℕ) (ms others : List Content) → IsQuiet mode (heard_first unit (ms ++ others))
    → IsQuiet mode (heard_first unit ms)
quiet_front mode unit [] others q = tt
quiet_front mode unit (m ∷ ms) others q = q

pub quiet_receipt : (h : Option Heard) → hears_receipt h ≡ true → IsQuiet Confirming h
quiet_receipt None e = tt
quiet_receipt (Some heard.Other) e = cc
quiet_receipt (Some (heard.Reply r)) e = e

pub alter_up : (mode : Mode) (unit : ℕ) (o : Option Command) (down up bytes : List ℕ) (can : Bool)
    → can_become_up mode unit up bytes ≡ can
    → Way mode unit o down up → Way mode unit o down (altered can up bytes)
alter_up mode unit o down up bytes false e way = way
alter_up mode unit o down up bytes true e (inl nothing) = inl nothing
alter_up mode unit o down up bytes true e (inr (c, aw, ms, quiet)) = inr (c, aw, ms, still mode quiet e)
  where
    front : (mode : Mode) → IsQuiet mode (heard_in unit up) → can_become up bytes ≡ true
        → IsQuiet mode (heard_in unit bytes)
    front mode quiet e =
        let (others, is) = is_beginning_of (messages_of bytes) (messages_of up)
        (and_parts (is_short bytes) (is_beginning (messages_of bytes) (messages_of up)) e).1 in
        quiet_front mode unit (messages_of bytes) others (subst (λ ms. IsQuiet mode (heard_first unit ms)) is quiet)

    which : IsQuiet Confirming (heard_in unit up) → (can_become up bytes ≡ true)
        ⊎ ((is_short bytes && hears_receipt (heard_in unit bytes)) ≡ true)
        → IsQuiet Confirming (heard_in unit bytes)
    which quiet (inl can) = front Confirming quiet can
    which quiet (inr receipt) =
        quiet_receipt (heard_in unit bytes) (and_parts (is_short bytes) (hears_receipt (heard_in unit bytes)) receipt).1

    still : (mode : Mode) → IsQuiet mode (heard_in unit up) → can_become_up mode unit up bytes ≡ true
        → IsQuiet mode (heard_in unit bytes)
    still Plain quiet e = front Plain quiet e
    still Confirming quiet e =
        which quiet (or_cases (can_become up bytes) (is_short bytes && hears_receipt (heard_in unit bytes)) e)

-- ---- silence, and receipts from nowhere

pub wait_way : (mode : Mode) (unit : ℕ) (plan : Plan) (state : State) (down up : List ℕ)
    → Way mode unit (awaited plan state) down up → Way mode unit (awaited plan (state_waiting plan down up state)) down
    up
wait_way mode unit plan state [] [] way = inl refl
wait_way mode unit plan state [] (b ∷ up) way = way
wait_way mode unit plan state (b ∷ down) up way = way

pub stray_same : Below → (mode : Mode) (plan : Plan) (state : State) (r : Reply) → plan.mode ≡ mode
    → is_receipt r ≡ true
    → state_straying mode plan r state ≡ state
stray_same below Plain plan state r m e = refl
stray_same below Confirming plan state r m e = below.receipt_stays plan state (Some (heard.Reply r)) m e
