-- Channels that events have led to, and what they keep of a channel.
use Rattle.std.proofs.Common.{ℕ, ◌+◌, ◌≡◌, ◌<◌, ◌≤◌, Bool, true, false, All, List, [], ◌∷◌, ◌++◌, length, take, drop, take-append-drop, append_assoc, get_or, refl, sym, ap, subst, arith, ◌∙◌, if◌then◌else◌}
use Rattle.std.proofs.Math.Seq.{take-length}
use Rattle.std.proofs.lemmas.List.{take_more}
use Rattle.std.specs.Prelude.{Result, Ok, Err, OnOk, OnErr}
use Rattle.vdcp_value.specs.Parts.{IsItem}
use Rattle.vdcp_value.specs.declared.clip_id.ClipId.{ClipId}
use Rattle.vdcp_value.specs.declared.timecode.Timecode.{Timecode}
use Rattle.vdcp_frame.specs.Burst.{messages_of}
use Rattle.vdcp_frame.specs.Message.{Content}
use Rattle.vdcp_port.specs.Answers.{after_messages}
use Rattle.vdcp_port.specs.Clock.{ClockedPort, new_port, after_message, after_change, after_ready, after_ended, after_frame, counted_down, completes_cue, ends_clip, row_at}
use Rattle.vdcp_port.specs.Row.{Change, keeps, opens, closes, selects, stops}
use Rattle.vdcp_auto.specs.Plan.{Plan}
use Rattle.vdcp_world.specs.Channel.{Channel, Make, channel_to, make_of, new_channel, after_event, after_events, IsReached, HappenInPart}
use Rattle.vdcp_world.specs.declared.event.Event.{Event}
use Rattle.vdcp_world.specs.declared.event.Event.TheVariants as event

pub after_all : (c : Channel) (events more : List Event)
    → after_events c (events ++ more) ≡ after_events (after_events c events) more
after_all c [] more = refl
after_all c (e ∷ events) more = after_all (after_event c e) events more

pub step_reached : (c : Channel) (e : Event) → IsReached c → IsReached (after_event c e)
step_reached c e r = record {
  plan = r.plan;
  port = r.port;
  events = r.events ++ e ∷ [];
  some = r.some;
  few = r.few;
  unit_fits = r.unit_fits;
  port_fits = r.port_fits;
  of_bytes = r.of_bytes;
  numbered = r.numbered;
  nothing_cued = r.nothing_cued;
  led = ap (λ x. after_event x e) r.led ∙ sym (after_all (channel_to r.plan r.port) r.events (e ∷ []));
}

pub events_reached : (c : Channel) (events : List Event) → IsReached c → IsReached (after_events c events)
events_reached c [] r = r
events_reached c (e ∷ events) r = events_reached (after_event c e) events (step_reached c e r)

-- a step that was taken or refused leaves such a channel
pub after_step : {A E : Type 0} (result : Result A E) (old now : Channel) (e : Event)
    → OnOk result (now ≡ after_event old e) → OnErr result (now ≡ old) → IsReached old → IsReached now
after_step (Ok a) old now e ok err r = subst IsReached (sym ok) (step_reached old e r)
after_step (Err x) old now e ok err r = subst IsReached (sym err) r

pub new_reached : (plan : Plan) (clips : List (ClipId × Timecode)) (unit cue_frames : ℕ) → 1 ≤ plan.limit
    → plan.limit ≤ 1000 → unit ≤ 15
    → plan.port < 256 → All IsItem plan.list → IsReached (new_channel plan clips unit cue_frames)
new_reached plan clips unit cue_frames some few unit_fits port_fits of_bytes = record {
  plan = plan;
  port = new_port clips unit plan.port cue_frames;
  events = [];
  some = some;
  few = few;
  unit_fits = unit_fits;
  port_fits = port_fits;
  of_bytes = of_bytes;
  numbered = refl;
  nothing_cued = refl;
  led = refl;
}

-- one event more of a list
pub one_more : (c : Channel) (es : List Event) (i : ℕ) (e : Event) → i < length es → e ≡ get_or es i e
    → after_events c (take (i + 1) es) ≡ after_event (after_events c (take i es)) e
one_more c es i e below is =
    let taken : take (i + 1) es ≡ take i es ++ e ∷ [] =
    take_more es i e below ∙ ap (λ x. take i es ++ x ∷ []) (sym is) in
    ap (after_events c) taken ∙ after_all c (take i es) (e ∷ [])

-- the elements before one of a list, it, and those after it
pub split_at : {A : Type 0} (es : List A) (i : ℕ) (e : A) → i < length es → e ≡ get_or es i e
    → es ≡ take i es ++ e ∷ drop (i + 1) es
split_at es i e below is =
    let taken : take (i + 1) es ≡ take i es ++ e ∷ [] =
    take_more es i e below ∙ ap (λ x. take i es ++ x ∷ []) (sym is) in
    sym (take-append-drop (i + 1) es) ∙ ap (λ front. front ++ drop (i + 1) es) taken
    ∙ append_assoc (take i es) (e ∷ []) (drop (i + 1) es)

-- an error after some events of a list
pub in_part : {A E : Type 0} (result : Result A E) (old now : Channel) (es : List Event) (i : ℕ) (e : Event)
    → i < length es → e ≡ get_or es i e
    → now ≡ after_events old (take i es) → OnErr result (HappenInPart es old now)
in_part (Ok a) old now es i e below is happened = tt
in_part (Err x) old now es i e below is happened = record {
  done = take i es;
  refused = e;
  left = drop (i + 1) es;
  in_order = split_at es i e below is;
  happened = happened;
}

-- all events of a list
pub all_happened : (P : Channel → Type 0) (c now : Channel) (es rest : List Event) (i : ℕ) → length es ≤ i
    → i ≤ length es → now ≡ after_events c (take i es) → es ≡ rest → P (after_events c rest) → P now
all_happened P c now es rest i low high is same h =
    let all : i ≡ length es = omega (arith, low, high) in
    subst P (sym (is ∙ ap (λ (n : ℕ). after_events c (take n es)) all ∙ ap (after_events c) (take-length es ∙ same))) h

-- ---- what a channel was made with stays

abbrev pub port_make : Plan → ClockedPort → Make
port_make plan p =
    record { plan = plan; clips = p.clips; unit = p.state.unit; number = p.state.number; cue_frames = p.cue_frames }

module _ (plan : Plan) where
  pub make_change : (change : Change) (p : ClockedPort) → port_make plan (after_change change p) ≡ port_make plan p
  make_change keeps p = refl
  make_change opens p = refl
  make_change closes p = refl
  make_change selects p = refl
  make_change stops p = refl
  make_change _ p = refl

  pub make_messages : (ms : List Content) (p : ClockedPort) → port_make plan (after_messages p ms) ≡ port_make plan p
  make_messages [] p = refl
  make_messages (m ∷ ms) p = make_messages ms (after_message p m) ∙ make_change (row_at p m).change p

make_if : (plan : Plan) (b : Bool) (p q : ClockedPort) → port_make plan q ≡ port_make plan p
    → port_make plan (if b then q else p) ≡ port_make plan p
make_if plan true p q e = e
make_if plan false p q e = refl

pub make_frame : (plan : Plan) (p : ClockedPort) → port_make plan (after_frame p) ≡ port_make plan p
make_frame plan p =
    let cued : ClockedPort = if completes_cue p then after_ready (counted_down p) else counted_down p in
    make_if plan (ends_clip p) cued (after_ended cued) refl
    ∙ make_if plan (completes_cue p) (counted_down p) (after_ready (counted_down p)) refl

pub make_stays : (c : Channel) (e : Event) → make_of (after_event c e) ≡ make_of c
make_stays c event.Down = make_messages c.plan (messages_of c.down) c.port
make_stays c event.DownCopy = make_messages c.plan (messages_of c.down) c.port
make_stays c event.Frame = make_frame c.plan c.port
make_stays c _ = refl

pub make_after_all : (c : Channel) (es : List Event) → make_of (after_events c es) ≡ make_of c
make_after_all c [] = refl
make_after_all c (e ∷ es) = make_after_all (after_event c e) es ∙ make_stays c e

pub make_after_step : {A E : Type 0} (result : Result A E) (old now : Channel) (e : Event)
    → OnOk result (now ≡ after_event old e) → OnErr result (now ≡ old) → make_of now ≡ make_of old
make_after_step (Ok a) old now e ok err = ap make_of ok ∙ make_stays old e
make_after_step (Err x) old now e ok err = ap make_of err
