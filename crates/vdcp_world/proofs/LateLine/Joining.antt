-- Each event of a line that holds one burst each way is some events of a line that keeps order.
use Rattle.std.proofs.Common.{ℕ, ◌≡◌, ◌⊎◌, inl, inr, Bool, true, false, ◌&&◌, List, [], ◌∷◌, ◌++◌, refl, sym, ap, subst, ◌∙◌, ap₂, append-nil, if◌then◌else◌}
use Rattle.std.proofs.lemmas.Bool.{and_parts, or_cases, or_left, or_right}
use Rattle.std.specs.Prelude.{Option, None, Some, remove}
use Rattle.vdcp_frame.specs.Burst.{messages_of}
use Rattle.vdcp_frame.specs.Message.{Content, spelling}
use Rattle.vdcp_words.specs.Commands.{command_message}
use Rattle.vdcp_words.specs.declared.command.Command.{Command}
use Rattle.vdcp_words.specs.declared.command.Command.TheVariants as command
use Rattle.vdcp_port.specs.Answers.{sent_for}
use Rattle.vdcp_auto.specs.Heard.{heard_in, heard_first, hears_receipt}
use Rattle.vdcp_auto.specs.Turn.{given}
use Rattle.vdcp_auto.specs.declared.exchange.Heard.{Heard}
use Rattle.vdcp_auto.specs.declared.exchange.Heard.TheVariants as heard
use Rattle.vdcp_auto.specs.declared.phase.Mode.{Mode}
use Rattle.vdcp_auto.specs.declared.phase.Mode.TheVariants.{Plain, Confirming}
use Rattle.vdcp_world.specs.Beginnings.{is_beginning}
use Rattle.vdcp_world.specs.Channel as world
use Rattle.vdcp_world.specs.Channel.{Channel, after_event, IsReached}
use Rattle.vdcp_world.specs.declared.event.Event.{Event}
use Rattle.vdcp_world.specs.declared.event.Event.TheVariants as was
use Rattle.vdcp_world.specs.LateLine.Damage.{is_no_answer, is_junk_up, can_become_up, with_junk}
use Rattle.vdcp_world.proofs.LateLine.Happened.{quiet_start, after_all}
use Rattle.vdcp_world.specs.LateLine.Joined.{late_of}
use Rattle.vdcp_world.specs.LateLine.LateChannel.{LateChannel, after_late_events, bursts_of, command_bursts, IsLateReached}
use Rattle.vdcp_world.specs.LateLine.LateEvent.{LateEvent}
use Rattle.vdcp_world.specs.LateLine.LateEvent as late

-- late events that lead to what an event leaves
abbrev Joins : Channel → Channel → Type 0
Joins c next = (events : List LateEvent) × (after_late_events (late_of c) events ≡ late_of next)

-- ---- queues of one burst or none

lost : (bytes : List ℕ) → remove (bursts_of bytes) 0 ≡ []
lost [] = refl
lost (byte ∷ bytes) = refl

sent_whole : (unit : ℕ) (c : Command) → spelling (command_message unit c) ∷ [] ≡ bursts_of
    (spelling (command_message unit c))
sent_whole unit (command.Open port lock) = refl
sent_whole unit _ = refl

-- with other bursts on the way
same_lines : (x : LateChannel) (down down_too up up_too : List (List ℕ)) → down ≡ down_too → up ≡ up_too
    → record x { down = down; up = up } ≡ record x { down = down_too; up = up_too }
same_lines x down down_too up up_too d u = ap₂ (λ (a b : List (List ℕ)). record x { down = a; up = b }) d u

-- ---- each event

joins_tick : (c : Channel) (o : Option Command) → given c.plan c.state ≡ o → Joins c (after_event c was.Tick)
joins_tick c None e = (late.Tick ∷ [], same_lines (late_of (after_event c was.Tick)) _ _ _ _ down up)
  where
    down : bursts_of c.down ++ command_bursts c.port.state.unit (given c.plan c.state)
        ≡ bursts_of (world.down_behind c.port.state.unit (given c.plan c.state) c.down)
    down = subst (λ (o : Option Command). bursts_of c.down ++ command_bursts c.port.state.unit o
        ≡ bursts_of (world.down_behind c.port.state.unit o c.down)) (sym e) (append-nil (bursts_of c.down))

    up : bursts_of c.up ≡ bursts_of (world.up_behind (given c.plan c.state) c.up)
    up = subst (λ (o : Option Command). bursts_of c.up ≡ bursts_of (world.up_behind o c.up)) (sym e) refl
joins_tick c (Some command) e =
    (late.LoseDown 0 ∷ late.LoseUp 0 ∷ late.Tick ∷ [], same_lines (late_of (after_event c was.Tick)) _ _ _ _ down up)
  where
    down : remove (bursts_of c.down) 0 ++ command_bursts c.port.state.unit (given c.plan c.state)
        ≡ bursts_of (world.down_behind c.port.state.unit (given c.plan c.state) c.down)
    down = subst (λ (o : Option Command). remove (bursts_of c.down) 0 ++ command_bursts c.port.state.unit o
        ≡ bursts_of (world.down_behind c.port.state.unit o c.down)) (sym e)
        (ap (λ (q : List (List ℕ)). q ++ spelling (command_message c.port.state.unit command) ∷ []) (lost c.down)
        ∙ sent_whole c.port.state.unit command)

    up : remove (bursts_of c.up) 0 ≡ bursts_of (world.up_behind (given c.plan c.state) c.up)
    up = subst (λ (o : Option Command). remove (bursts_of c.up) 0 ≡ bursts_of (world.up_behind o c.up)) (sym e)
        (lost c.up)

joins_down : (c : Channel) (down : List ℕ)
    → Joins (record c { down = down }) (after_event (record c { down = down }) was.Down)
joins_down c [] = (
  late.Down ∷ [],
  same_lines (late_of (after_event (record c { down = [] }) was.Down)) _ _ _ _ refl
      (append-nil (bursts_of c.up)),
)
joins_down c (byte ∷ bytes) = (
  late.LoseUp 0 ∷ late.Down ∷ [],
  same_lines (late_of (after_event (record c { down = byte ∷ bytes }) was.Down)) _ _ _ _ refl
      (ap (λ (q : List (List ℕ)). q ++ bursts_of (sent_for c.port (byte ∷ bytes))) (lost c.up)),
)

joins_up : (c : Channel) (up : List ℕ) → Joins (record c { up = up }) (after_event (record c { up = up }) was.Up)
joins_up c [] = (late.Up ∷ [], refl)
joins_up c (byte ∷ bytes) = (late.Up ∷ [], refl)

joins_down_copy : (c : Channel) (down up : List ℕ)
    → Joins (record c { down = down; up = up }) (after_event (record c { down = down; up = up }) was.DownCopy)
joins_down_copy c [] up = (
  late.DownCopy ∷ [],
  same_lines (late_of (after_event (record c { down = []; up = up }) was.DownCopy)) _ _ _ _ refl
      (append-nil (bursts_of up)),
)
joins_down_copy c (byte ∷ bytes) [] = (
  late.DownCopy ∷ late.LoseUp 0 ∷ [],
  same_lines (late_of (after_event (record c { down = byte ∷ bytes; up = [] }) was.DownCopy)) _ _ _ _ refl
      (lost (sent_for c.port (byte ∷ bytes))),
)
joins_down_copy c (byte ∷ bytes) (first ∷ up) = (
  late.DownCopy ∷ late.LoseUp 1 ∷ [],
  same_lines (late_of (after_event (record c { down = byte ∷ bytes; up = first ∷ up }) was.DownCopy)) _ _ _ _ refl
      (ap (λ (q : List (List ℕ)). (first ∷ up) ∷ q) (lost (sent_for c.port (byte ∷ bytes)))),
)

joins_up_copy : (c : Channel) (up : List ℕ)
    → Joins (record c { up = up }) (after_event (record c { up = up }) was.UpCopy)
joins_up_copy c [] = (late.UpCopy ∷ [], refl)
joins_up_copy c (byte ∷ bytes) = (late.UpCopy ∷ [], refl)

-- ---- damage

-- the burst down, which becomes these bytes
joins_damage_down : (c : Channel) (down bytes : List ℕ) → is_beginning (messages_of bytes) (messages_of down) ≡ true
    → Joins (record c { down = down }) (record c { down = bytes })
joins_damage_down c [] [] can = ([], refl)
joins_damage_down c [] (x ∷ bytes) can = (
  late.JunkDown 0 (x ∷ bytes) ∷ [],
  ap (λ (b : Bool). record (late_of c) { down = with_junk b (x ∷ bytes) 0 [] }) can,
)
joins_damage_down c (byte ∷ down) [] can = (late.LoseDown 0 ∷ [], refl)
joins_damage_down c (byte ∷ down) (x ∷ bytes) can = (
  late.AlterDown 0 (x ∷ bytes) ∷ [],
  ap (λ (b : Bool). record (late_of c) { down = if b then (x ∷ bytes) ∷ [] else (byte ∷ down) ∷ [] }) can,
)

joins_alter_down : (c : Channel) (bytes : List ℕ) (can : Bool) → world.can_become c.down bytes ≡ can
    → Joins c (record c { down = world.altered can c.down bytes })
joins_alter_down c bytes false e = ([], refl)
joins_alter_down c bytes true e =
    joins_damage_down c c.down bytes (and_parts (world.is_short bytes) (is_beginning (messages_of bytes)
    (messages_of c.down)) e).1

-- the burst up
joins_damage_up : (c : Channel) (up bytes : List ℕ) → can_become_up c.plan.mode c.port.state.unit up bytes ≡ true
    → (up ≡ [] → is_junk_up c.plan.mode c.port.state.unit bytes ≡ true)
    → Joins (record c { up = up }) (record c { up = bytes })
joins_damage_up c [] [] can junk = ([], refl)
joins_damage_up c [] (x ∷ bytes) can junk = (
  late.JunkUp 0 (x ∷ bytes) ∷ [],
  ap (λ (b : Bool). record (late_of c) { up = with_junk b (x ∷ bytes) 0 [] }) (junk refl),
)
joins_damage_up c (byte ∷ up) [] can junk = (late.LoseUp 0 ∷ [], refl)
joins_damage_up c (byte ∷ up) (x ∷ bytes) can junk = (
  late.AlterUp 0 (x ∷ bytes) ∷ [],
  ap (λ (b : Bool). record (late_of c) { up = if b then (x ∷ bytes) ∷ [] else (byte ∷ up) ∷ [] }) can,
)

no_message : (unit : ℕ) (mode : Mode) (ms : List Content) → is_beginning ms [] ≡ true
    → is_no_answer mode (heard_first unit ms) ≡ true
no_message unit mode [] e = refl
no_message unit mode (m ∷ ms) e = cc

a_receipt : (h : Option Heard) → hears_receipt h ≡ true → is_no_answer Confirming h ≡ true
a_receipt (Some (heard.Reply r)) e = e
a_receipt _ e = refl

-- what the one line lets a burst up become the other one does
lets : (mode : Mode) (unit : ℕ) (up bytes : List ℕ) → world.can_become_up mode unit up bytes ≡ true
    → (is_beginning (messages_of bytes) (messages_of up) ≡ true) ⊎ (is_junk_up mode unit bytes ≡ true)
lets Plain unit up bytes e =
    inl (and_parts (world.is_short bytes) (is_beginning (messages_of bytes) (messages_of up)) e).1
lets Confirming unit up bytes e =
    by (or_cases (world.can_become up bytes) (world.is_short bytes && hears_receipt (heard_in unit bytes)) e)
  where
    by : (world.can_become up bytes ≡ true) ⊎ ((world.is_short bytes && hears_receipt (heard_in unit bytes)) ≡ true)
        → (is_beginning (messages_of bytes) (messages_of up) ≡ true) ⊎ (is_junk_up Confirming unit bytes ≡ true)
    by (inl can) = inl (and_parts (world.is_short bytes) (is_beginning (messages_of bytes) (messages_of up)) can).1
    by (inr receipt) =
        inr (a_receipt (heard_in unit bytes) (and_parts (world.is_short bytes) (hears_receipt (heard_in unit bytes))
        receipt).1)

joins_alter_up : (c : Channel) (bytes : List ℕ) (can : Bool)
    → world.can_become_up c.plan.mode c.port.state.unit c.up bytes ≡ can
    → Joins c (record c { up = world.altered can c.up bytes })
joins_alter_up c bytes false e = ([], refl)
joins_alter_up c bytes true e = by (lets c.plan.mode c.port.state.unit c.up bytes e)
  where
    by : (is_beginning (messages_of bytes) (messages_of c.up) ≡ true) ⊎
        (is_junk_up c.plan.mode c.port.state.unit bytes ≡ true)
        → Joins c (record c { up = bytes })
    by (inl can) = joins_damage_up c c.up bytes
        (or_left (is_beginning (messages_of bytes) (messages_of c.up)) (is_junk_up c.plan.mode c.port.state.unit bytes)
        can)
        (λ none. no_message c.port.state.unit c.plan.mode (messages_of bytes)
        (subst (λ (up : List ℕ). is_beginning (messages_of bytes) (messages_of up) ≡ true) none can))
    by (inr junk) = joins_damage_up c c.up bytes
        (or_right (is_beginning (messages_of bytes) (messages_of c.up)) (is_junk_up c.plan.mode c.port.state.unit bytes)
        junk) (λ none. junk)

-- ---- time-outs

joins_timeout : (c : Channel) (down up : List ℕ)
    → Joins (record c { down = down; up = up }) (after_event (record c { down = down; up = up }) was.Timeout)
joins_timeout c [] [] = (late.Timeout ∷ [], refl)
joins_timeout c [] (byte ∷ up) = ([], refl)
joins_timeout c (byte ∷ down) up = ([], refl)

pub joins : (c : Channel) (e : Event) → (events : List LateEvent) ×
    (after_late_events (late_of c) events ≡ late_of (after_event c e))
joins c was.Tick = joins_tick c (given c.plan c.state) refl
joins c was.Down = joins_down c c.down
joins c was.Up = joins_up c c.up
joins c was.DownCopy = joins_down_copy c c.down c.up
joins c was.UpCopy = joins_up_copy c c.up
joins c was.LoseDown = (late.LoseDown 0 ∷ [], ap (λ (q : List (List ℕ)). record (late_of c) { down = q }) (lost c.down))
joins c was.LoseUp = (late.LoseUp 0 ∷ [], ap (λ (q : List (List ℕ)). record (late_of c) { up = q }) (lost c.up))
joins c (was.AlterDown bytes) = joins_alter_down c bytes (world.can_become c.down bytes) refl
joins c (was.AlterUp bytes) = joins_alter_up c bytes (world.can_become_up c.plan.mode c.port.state.unit c.up bytes) refl
joins c was.Timeout = joins_timeout c c.down c.up
joins c was.Ready = (late.Ready ∷ [], refl)
joins c was.End = (late.End ∷ [], refl)
joins c was.Frame = (late.Frame ∷ [], refl)
joins c was.Take = (late.Take ∷ [], refl)
joins c was.Stop = (late.Stop ∷ [], refl)
joins c was.StrayAck = (late.StrayAck ∷ [], refl)
joins c (was.StrayNak byte) = (late.StrayNak byte ∷ [], refl)

-- ---- whole runs

joins_all : (c : Channel) (es : List Event)
    → (events : List LateEvent) × (after_late_events (late_of c) events ≡ late_of (world.after_events c es))
joins_all c [] = ([], refl)
joins_all c (e ∷ es) =
    let (first, led) = joins c e in
    let (rest, ended) = joins_all (after_event c e) es in
    (first ++ rest, after_all (late_of c) first rest ∙ ap (λ (x : LateChannel). after_late_events x rest) led ∙ ended)

pub reached_late : (c : Channel) → IsReached c → IsLateReached (late_of c)
reached_late c r =
    let (events, led) = joins_all (world.channel_to r.plan r.port) r.events in
    record {
      plan = r.plan;
      port = r.port;
      down = [];
      up = [];
      events = events;
      can_start = quiet_start r.plan r.port r.some r.few r.unit_fits r.port_fits r.of_bytes (λ _. r.nothing_cued);
      led = ap late_of r.led ∙ sym led;
    }
