-- An automation, exchange by exchange, is the driver that hears at once.
use Rattle.std.proofs.Common.{ℕ, ◌≡◌, List, [], ◌∷◌, ◌++◌, map, refl, sym, ap, ◌∙◌, append_assoc, append-nil}
use Rattle.std.specs.Option.{option_to_list}
use Rattle.std.specs.Prelude.{Option, None, Some}
use Rattle.vdcp_frame.specs.Message.{Content}
use Rattle.vdcp_auto.specs.Course.{logged}
use Rattle.vdcp_auto.specs.Heard.{heard_as}
use Rattle.vdcp_auto.specs.Plan.{Plan}
use Rattle.vdcp_auto.specs.State.{State}
use Rattle.vdcp_auto.specs.Turn.{came_to, ended_by}
use Rattle.vdcp_auto.specs.declared.exchange.Exchange.{Exchange}
use Rattle.vdcp_auto.specs.declared.exchange.Heard.{Heard}
use Rattle.vdcp_wire.specs.Wires.{Arrival, bytes, silence, close}
use Rattle.vdcp_drive.specs.Auto.{Auto, Event, after, arrives, calls, log_of}
use Rattle.vdcp_drive.specs.Auto as auto
use Rattle.vdcp_drive.specs.Ears.{inputs}
use Rattle.vdcp_drive.specs.Hearing.{at_once}
use Rattle.vdcp_drive.specs.Reading.{Held, completed, held_after}
use Rattle.vdcp_laws.specs.Automation.{Prompt, gives, heeds, hears, hears_all, led, listens}
use Rattle.vdcp_laws.specs.Carried.{driver_of}

pub logged_so : (log : List Exchange) (o : Option Exchange) → logged log o ≡ log ++ option_to_list o
logged_so log None = sym (append-nil log)
logged_so log (Some e) = refl

abbrev pub heard_in : ℕ → List Content → List (Option Heard)
heard_in unit ms = map Some (map (heard_as unit) ms)

heard_state : (plan : Plan) (unit : ℕ) (ms : List Content) (p : Prompt)
    → (hears_all plan unit ms p).state ≡ auto.receives plan (heard_in unit ms) p.state
heard_state plan unit [] p = refl
heard_state plan unit (m ∷ ms) p = heard_state plan unit ms (hears plan unit m p)

pub heard_log : (plan : Plan) (unit : ℕ) (ms : List Content) (p : Prompt)
    → (hears_all plan unit ms p).log ≡ p.log ++ auto.ended plan (heard_in unit ms) p.state
heard_log plan unit [] p = sym (append-nil p.log)
heard_log plan unit (m ∷ ms) p =
    let h : Option Heard = Some (heard_as unit m) in
    let rest : List Exchange = auto.ended plan (heard_in unit ms) (came_to plan h p.state) in
    heard_log plan unit ms (hears plan unit m p)
    ∙ ap (λ (l : List Exchange). l ++ rest) (logged_so p.log (ended_by plan h p.state))
    ∙ append_assoc p.log (option_to_list (ended_by plan h p.state)) rest

timed_log : (plan : Plan) (p : Prompt)
    → logged p.log (ended_by plan None p.state) ≡ p.log ++ (option_to_list (ended_by plan None p.state) ++ [])
timed_log plan p = logged_so p.log (ended_by plan None p.state)
    ∙ ap (λ (l : List Exchange). p.log ++ l) (sym (append-nil (option_to_list (ended_by plan None p.state))))

pub listens_so : (plan : Plan) (unit : ℕ) (a : Arrival) (p : Prompt)
    → driver_of (listens plan unit a p) ≡ auto.listens at_once plan unit a (driver_of p)
listens_so plan unit (bytes piece) p =
    ap (λ (s : State). record { ear = held_after p.held piece; state = s })
    (heard_state plan unit (completed p.held piece) p)
listens_so plan unit silence p = refl
listens_so plan unit close p = refl

listens_log : (plan : Plan) (unit : ℕ) (a : Arrival) (p : Prompt)
    → (listens plan unit a p).log ≡ p.log ++ auto.ended plan (inputs at_once unit a p.held) p.state
listens_log plan unit (bytes piece) p = heard_log plan unit (completed p.held piece) p
listens_log plan unit silence p = timed_log plan p
listens_log plan unit close p = timed_log plan p

pub led_so : (plan : Plan) (unit : ℕ) (p : Prompt) (events : List Event)
    → driver_of (led plan unit p events) ≡ after at_once plan unit (driver_of p) events
led_so plan unit p [] = refl
led_so plan unit p (arrives a ∷ later) = led_so plan unit (listens plan unit a (gives p)) later
    ∙ ap (λ (x : Auto Held). after at_once plan unit x later) (listens_so plan unit a (gives p))
led_so plan unit p (calls c ∷ later) = led_so plan unit (heeds c p) later

pub led_log : (plan : Plan) (unit : ℕ) (p : Prompt) (events : List Event)
    → (led plan unit p events).log ≡ p.log ++ log_of at_once plan unit (driver_of p) events
led_log plan unit p [] = sym (append-nil p.log)
led_log plan unit p (arrives a ∷ later) =
    let q : Prompt = listens plan unit a (gives p) in
    let es : List Exchange = auto.ended plan (inputs at_once unit a p.held) (gives p).state in
    led_log plan unit q later
    ∙ ap (λ (l : List Exchange). l ++ log_of at_once plan unit (driver_of q) later) (listens_log plan unit a (gives p))
    ∙ append_assoc p.log es (log_of at_once plan unit (driver_of q) later)
    ∙ ap (λ (x : Auto Held). p.log ++ (es ++ log_of at_once plan unit x later)) (listens_so plan unit a (gives p))
led_log plan unit p (calls c ∷ later) = led_log plan unit (heeds c p) later
