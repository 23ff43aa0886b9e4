-- A run from any port: how it plays the list, and of its clips.
use Rattle.std.proofs.Common.{ℕ, ◌+◌, ◌≡◌, ◌<◌, ◌≤◌, Bool, false, inl, inr, arith, [], ◌∷◌, List, length, refl, sym, ap, ap₂, subst, ◌∙◌}
use Rattle.std.proofs.lemmas.List.Elements.{All-head, All-tail}
use Rattle.std.specs.List.{list_any}
use Rattle.std.specs.Prelude.{All, IsSome, IsTrue}
use Rattle.vdcp_value.specs.declared.clip_id.ClipId.{ClipId}
use Rattle.vdcp_value.specs.declared.part.Item.{Item}
use Rattle.vdcp_value.specs.declared.timecode.Timecode.{Timecode}
use Rattle.vdcp_port.specs.Clips.{is_playable}
use Rattle.vdcp_port.specs.Clock.{ClockedPort}
use Rattle.vdcp_port.specs.Port.{empty}
use Rattle.vdcp_auto.specs.Log.{is_stop}
use Rattle.vdcp_auto.specs.Plan.{Plan}
use Rattle.vdcp_auto.specs.State.{State}
use Rattle.vdcp_auto.specs.declared.exchange.Exchange.{Exchange}
use Rattle.vdcp_world.specs.AnyPort.{CanRun}
use Rattle.vdcp_world.specs.Below.{Below}
use Rattle.vdcp_world.specs.Channel.{Channel, Make, after_event, after_events, channel_to, make_of}
use Rattle.vdcp_world.specs.InTime.{IsNoStop, LosesNone, PlaysOn}
use Rattle.vdcp_world.specs.Losses.{IsGivenUp, loses, losing, losses}
use Rattle.vdcp_world.specs.NoCut.{CutsUnasked}
use Rattle.vdcp_world.specs.declared.event.Event.{Event}
use Rattle.vdcp_world.proofs.HeadlineProof.{reached_kept}
use Rattle.vdcp_world.proofs.Leftover.{IsBeside, beside_event, beside_new, emptied, emptied_can, emptied_reached, from_any, reached_from}
use Rattle.vdcp_world.proofs.Losses.{plays_reached, says}
use Rattle.vdcp_world.proofs.NoCutProof.{no_cut}
use Rattle.vdcp_world.proofs.Owed.{losing_more, reached_shows}
use Rattle.vdcp_world.proofs.Reached.{make_after_all}

-- of the controller, what went to air, and the log
abbrev Telling : Type 1
Telling = State → List Item → List Exchange → Type 0

abbrev Told : Telling → Channel → Type 0
Told P c = P c.state c.aired c.log

told_beside : (P : Telling) (c d : Channel) → IsBeside c d → Told P d → Told P c
told_beside P c d (inl same) h = subst (Told P) same h
told_beside P c d (inr (same, early)) h = subst (Told P) same h

-- what is so from each port with the slot empty is so from any
told_any : Below → (P : Telling) (plan : Plan) (port : ClockedPort) (es : List Event) → CanRun plan port
    → ((first : ClockedPort) → CanRun plan first → first.state.cued ≡ empty → first.clips ≡ port.clips
    → Told P (after_events (channel_to plan first) es)) → Told P (after_events (channel_to plan port) es)
told_any below P plan port es can so = from_any plan port can (λ nothing. so port can nothing refl)
    (λ plain some. told_beside P (after_events (channel_to plan port) es) (after_events (channel_to plan (emptied port)) es)
    (beside_new below plan port es can plain some) (so (emptied port) (emptied_can plan port can) refl refl))

abbrev Playable : List (ClipId × Timecode) → List Item → Type 0
Playable clips list = All (λ item. IsTrue (is_playable clips item)) list

-- no STOP is in the log of a run that isn't stopped, and it shows no more losses than there were
shows_any : Below → (plan : Plan) (port : ClockedPort) (es : List Event) → CanRun plan port → All IsNoStop es
    → Playable port.clips plan.list → (c : Channel) → c ≡ after_events (channel_to plan port) es
    → (list_any is_stop c.log ≡ false) × (losses plan.mode c.log ≤ losing es)
shows_any below plan port es can on playable c is = subst (Told P) (sym is) (told_any below P plan port es can so)
  where
    P : Telling
    P state aired log = (list_any is_stop log ≡ false) × (losses plan.mode log ≤ losing es)

    so : (first : ClockedPort) → CanRun plan first → first.state.cued ≡ empty → first.clips ≡ port.clips
        → Told P (after_events (channel_to plan first) es)
    so first can nothing clips =
        let made = make_after_all (channel_to plan first) es in
        let now : Channel = after_events (channel_to plan first) es in
        let shows = reached_shows below now (reached_from plan first es can.can_start can.numbered nothing)
        (subst (λ (m : Make). Playable m.clips m.plan.list) (sym made)
        (subst (λ (x : List (ClipId × Timecode)). Playable x plan.list) (sym clips) playable)) on in
        (shows.unstopped, subst (λ (m : Make). losses m.plan.mode now.log ≤ losing es) made shows.paid)

pub shows_few : Below → (plan : Plan) (port : ClockedPort) (es : List Event) → CanRun plan port → All IsNoStop es
    → Playable port.clips plan.list → losses plan.mode (after_events (channel_to plan port) es).log ≤ losing es
shows_few below plan port es can on playable = (shows_any below plan port es can on playable _ refl).1

-- whatever is lost it plays the list, if it isn't given up
pub plays_lossy : Below → (plan : Plan) (port : ClockedPort) (es : List Event) → CanRun plan port → All IsNoStop es
    → Playable port.clips plan.list → (c : Channel) → c ≡ after_events (channel_to plan port) es
    → (IsGivenUp plan c.log → ⊥) → PlaysOn plan c.state c.aired c.log (losses plan.mode c.log)
plays_lossy below plan port es can on playable c is =
    subst (Told P) (sym is) (told_any below P plan port es can so) (shows_any below plan port es can on playable c is).0
  where
    P : Telling
    P state aired log = list_any is_stop log ≡ false → (IsGivenUp plan log → ⊥)
        → PlaysOn plan state aired log (losses plan.mode log)

    so : (first : ClockedPort) → CanRun plan first → first.state.cued ≡ empty → first.clips ≡ port.clips
        → Told P (after_events (channel_to plan first) es)
    so first can nothing clips =
        let made = make_after_all (channel_to plan first) es in
        let now : Channel = after_events (channel_to plan first) es in
        subst (λ (m : Make). list_any is_stop now.log ≡ false → (IsGivenUp m.plan now.log → ⊥)
        → PlaysOn m.plan now.state now.aired now.log (losses m.plan.mode now.log)) made
        (plays_reached below now (reached_from plan first es can.can_start can.numbered nothing)
        (subst (λ (m : Make). Playable m.clips m.plan.list) (sym made)
        (subst (λ (x : List (ClipId × Timecode)). Playable x plan.list) (sym clips) playable)))

-- and so it does where nothing is lost
pub plays_any : Below → (plan : Plan) (port : ClockedPort) (es : List Event) → CanRun plan port → All LosesNone es
    → All IsNoStop es → Playable port.clips plan.list → (c : Channel) → c ≡ after_events (channel_to plan port) es
    → PlaysOn plan c.state c.aired c.log 0
plays_any below plan port es can none on playable c is =
    let no_losses : losses plan.mode c.log ≡ 0 = omega (arith, few, none_losing es none) in
    subst (PlaysOn plan c.state c.aired c.log) no_losses
    (plays_lossy below plan port es can on playable c is
    (λ given. absurd (omega (arith, given.many, no_losses, can.can_start.some))))
  where
    few : losses plan.mode c.log ≤ losing es
    few = (shows_any below plan port es can on playable c is).1

    none_loses : (x : Event) → LosesNone x → loses x ≡ false
    none_loses x h = grind arith

    none_losing : (es : List Event) → All LosesNone es → losing es ≡ 0
    none_losing [] none = refl
    none_losing (x ∷ es) none =
        losing_more x es ∙ ap₂ (λ (b : Bool) (n : ℕ). says b + n) (none_loses x (All-head LosesNone x es none))
        (none_losing es (All-tail LosesNone x es none))

-- no clip is cut short without a take
pub uncut : Below → (plan : Plan) (port : ClockedPort) (es : List Event) (e : Event) → CanRun plan port
    → CutsUnasked (channel_to plan port) es e → ⊥
uncut below plan port es e can cut = from_any plan port can
    (λ nothing. (no_cut below (channel_to plan port) (reached_from plan port [] can.can_start can.numbered nothing)).never_taken refl
    es e cut)
    (λ plain some.
    let c : Channel = after_events (channel_to plan port) es in
    let d : Channel = after_events (channel_to plan (emptied port)) es in
    let now = beside_new below plan port es can plain some in
    let made : make_of c ≡ make_of (channel_to plan port) = make_after_all (channel_to plan port) es in
    let next_is = beside_event below c d (ap (λ (m : Make). m.plan.mode) made ∙ plain)
    (subst (λ (m : Make). 0 < length m.plan.list) (sym made) some) (reached_kept below d (emptied_reached plan port es can)) now e in
    (no_cut below (channel_to plan (emptied port)) (emptied_reached plan port [] can)).never_taken refl es e (record {
      no_take = cut.no_take;
      cuts = record {
        plays = subst IsSome (sym (plays_so c d now)) cut.cuts.plays;
        airs = omega (
          arith,
          cut.cuts.airs,
          ap length (aired_so c d now),
          ap length (aired_so (after_event c e) (after_event d e) next_is),
        );
      };
    }))
  where
    aired_so : (c d : Channel) → IsBeside c d → d.aired ≡ c.aired
    aired_so c d (inl same) = ap (λ (x : Channel). x.aired) same
    aired_so c d (inr (same, early)) = ap (λ (x : Channel). x.aired) same

    plays_so : (c d : Channel) → IsBeside c d → d.port.state.playing ≡ c.port.state.playing
    plays_so c d (inl same) = ap (λ (x : Channel). x.port.state.playing) same
    plays_so c d (inr (same, early)) = ap (λ (x : Channel). x.port.state.playing) same
