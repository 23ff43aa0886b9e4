-- Two ends that are answered have nothing on its way.
use Rattle.std.proofs.Common.{arith, ℕ, ◌≡◌, ◌≤◌, ◌+◌, List, [], ◌∷◌, ◌++◌, length, refl, sym, ap, ap₂, subst, ◌∙◌, append_assoc, append-nil, drop, length-append}
use Rattle.std.proofs.lemmas.List.{append_cancel_left, length-map}
use Rattle.std.proofs.lemmas.List.Elements.{All-drop, All-nil}
use Rattle.vdcp_value.specs.Parts.{IsItem}
use Rattle.vdcp_frame.specs.Message.{Content}
use Rattle.vdcp_words.specs.Commands.{command_message}
use Rattle.vdcp_words.specs.declared.command.Command.{Command}
use Rattle.vdcp_port.specs.Clock.{ClockedPort}
use Rattle.vdcp_port.specs.Port.{empty}
use Rattle.vdcp_auto.specs.Plan.{Plan}
use Rattle.vdcp_auto.specs.declared.phase.Mode.TheVariants.{Confirming}
use Rattle.vdcp_wire.specs.Acts.{Act}
use Rattle.vdcp_drive.specs.Reading.{Held, completed, held_after, holds}
use Rattle.vdcp_drive.specs.ServerEars.{in_stream}
use Rattle.vdcp_drive.specs.Serving.{Service}
use Rattle.vdcp_drive.specs.Traces.{came_in, sent_in}
use Rattle.vdcp_drive.specs.Turns.{Turn, arrivals}
use Rattle.vdcp_world.specs.LateLine.LateChannel.{AnswersOnly, AsksOnly, IsQuestion}
use Rattle.vdcp_laws.specs.AsNew.{AreAnswered, IsAsNew, messages_in}
use Rattle.vdcp_laws.specs.Below.{Laws}
use Rattle.vdcp_laws.specs.Carried.{AreCarried}
use Rattle.vdcp_laws.specs.Carried as carried
use Rattle.vdcp_laws.specs.InTime.{HasCome}
use Rattle.vdcp_laws.specs.TwoEnds.{AreJoined, CanJoin, Ends, bytes_in, new_ends, port_now, sent_down, sent_up}
use Rattle.vdcp_laws.proofs.Bytes.{none_before, nothing_unfinished, spelt, spelt_both}
use Rattle.vdcp_laws.proofs.Connecting.{beside}
use Rattle.vdcp_laws.proofs.Queues.{Takes, bytes_to, messages_to, whole, whole_came, whole_came_on, whole_sent}
use Rattle.vdcp_laws.proofs.Tallied.{Answers, over_bytes}

none_left : {A : Type 0} (xs : List A) → length xs ≤ 0 → xs ≡ []
none_left [] short = refl
none_left (x ∷ xs) short = absurd (omega (arith, short))

-- all messages came whole
all_come : (sent came : List ℕ) (at : Held) (queue : List (List ℕ)) → (w : Takes sent came at queue) → w.left ≡ []
    → (sent ≡ came) × (at ≡ holds [])
all_come sent came at queue w none =
    let front : List ℕ = spelt w.done in
    let all : sent ≡ front ++ [] = w.sent_is ∙ ap (λ (l : List Content). spelt (w.done ++ l)) none ∙ spelt_both w.done [] in
    let held : w.held ≡ [] = none_before w.held w.behind (sym (append_cancel_left front (w.held ++ w.behind) []
    (sym (append_assoc front w.held w.behind) ∙ ap (λ (l : List ℕ). l ++ w.behind) (sym w.came_is) ∙ sym w.sent_on ∙ all))) in
    (all ∙ ap (λ (l : List ℕ). front ++ l) (sym held) ∙ sym w.came_is, w.at_is ∙ ap holds held)

pub as_new : (law : Laws) (plan : Plan) (port : ClockedPort) (asked : List Command) (e : Ends) → CanJoin plan port asked
    → AreJoined plan port asked e → AreAnswered e → IsAsNew e
as_new law plan port asked e can j answered =
    let unit : ℕ = port.state.unit in
    let r = beside law plan port asked e can j in
    let b = r.beside in
    let down = b.downwards in
    let up = b.upwards in
    let ms : List Content = messages_to unit e.sent in
    let sent : ms ≡ down.done ++ down.left =
    sym (whole law.spelt law.completed ms [] b.fits (nothing_unfinished law.spelt)).0
    ∙ ap messages_in (append-nil (spelt ms) ∙ sym (bytes_to unit e.sent))
    ∙ (whole_sent law.spelt law.completed (sent_down unit e) (bytes_in (arrivals e.downs)) b.held r.channel.down down).0 in
    let came : length (messages_in (bytes_in (arrivals e.downs))) ≡ length down.done =
    ap length (whole_came law.spelt law.completed (sent_down unit e) (bytes_in (arrivals e.downs)) b.held r.channel.down down).0 in
    let heard : length (messages_in e.ups) ≡ length up.done =
    ap length (whole_came law.spelt law.completed (sent_up e) e.ups e.automation.held r.channel.up up).0 in
    let out : length (messages_in (sent_up e)) ≡ length (up.done ++ up.left) =
    ap length (whole_sent law.spelt law.completed (sent_up e) e.ups e.automation.held r.channel.up up).0 in
    let count : length up.left + length down.left ≤ 0 = omega (
      arith,
      answered,
      b.fewer,
      came,
      heard,
      out,
      ap length sent,
      length-map e.sent (command_message unit),
      length-append down.done down.left,
      length-append up.done up.left,
    ) in
    let below = all_come (sent_down unit e) (bytes_in (arrivals e.downs)) b.held r.channel.down down
    (none_left down.left (omega (arith, count))) in
    let above = all_come (sent_up e) e.ups e.automation.held r.channel.up up (none_left up.left (omega (arith, count))) in
    record {
      come = subst (λ (n : ℕ). HasCome n e) (sym (ap (λ (s : Service). s.port.state.unit) b.server_is ∙ b.unit_is))
          (record { down = below.0; up = above.0 });
      holds_none = above.1;
      server_is = b.server_is ∙ ap₂ (λ (p : ClockedPort) (h : Held). record { port = p; ear = in_stream h })
          (sym (ap (λ (s : Service). s.port) b.server_is)) below.1;
    }

-- a list behind it can be begun there
pub can_follow : (law : Laws) (plan : Plan) (port : ClockedPort) (asked : List Command) (e : Ends) (first : ℕ)
    → CanJoin plan port asked → AreJoined plan port asked e → (plan.mode ≡ Confirming → (port_now e).state.cued ≡ empty)
    → CanJoin (record plan { list = drop first plan.list }) (port_now e) []
can_follow law plan port asked e first can j nothing =
    let b = (beside law plan port asked e can j).beside in record {
      can_start = record {
        some = can.can_start.some;
        few = can.can_start.few;
        unit_fits = subst (λ (n : ℕ). n ≤ 15)
            (sym (ap (λ (s : Service). s.port.state.unit) b.server_is ∙ b.unit_is)) can.can_start.unit_fits;
        port_fits = can.can_start.port_fits;
        of_bytes = All-drop IsItem first plan.list can.can_start.of_bytes;
        nothing_cued = nothing;
        asked = All-nil (AsksOnly plan (port_now e).state.unit);
        answered = All-nil (AnswersOnly plan (port_now e).state.unit);
      };
      only_asks = All-nil (IsQuestion plan.port);
    }

-- what is carried from there on is carried between new ends
module _ (e : Ends) (come : HasCome (port_now e).state.unit e) where
  abbrev unit : ℕ
  unit = (port_now e).state.unit

  since : (old out came piece rest : List ℕ) → old ++ out ≡ (old ++ came) ++ (piece ++ rest) → out ≡ came ++ (piece ++ rest)
  since old out came piece rest is =
      append_cancel_left old out (came ++ (piece ++ rest)) (is ∙ append_assoc old came (piece ++ rest))

  pub carried_since : {autos servers : List Act} → AreCarried unit e autos servers
      → AreCarried unit (new_ends (port_now e) []) autos servers
  carried_since carried.begun = carried.begun
  carried_since (carried.sent c b) = carried.sent (carried_since c) b
  carried_since (carried.up {autos} {servers} c piece rest out) = carried.up (carried_since c) piece rest
      (since e.ups (sent_in servers) (bytes_in (came_in autos)) piece rest
      (ap (λ (l : List ℕ). l ++ sent_in servers) (sym come.up) ∙ out))
  carried_since (carried.waited c) = carried.waited (carried_since c)
  carried_since (carried.hung_up c) = carried.hung_up (carried_since c)
  carried_since (carried.failed c) = carried.failed (carried_since c)
  carried_since (carried.answered c b) = carried.answered (carried_since c) b
  carried_since (carried.down {autos} {servers} c piece rest out) = carried.down (carried_since c) piece rest
      (since (bytes_in (arrivals e.downs)) (sent_in autos) (bytes_in (came_in servers)) piece rest
      (ap (λ (l : List ℕ). l ++ sent_in autos) (sym come.down) ∙ out))
  carried_since (carried.paused c) = carried.paused (carried_since c)
  carried_since (carried.shut c) = carried.shut (carried_since c)
  carried_since (carried.broke c) = carried.broke (carried_since c)

-- once each command that was given since was answered, all were
pub still_answered : (law : Laws) (plan : Plan) (port : ClockedPort) (asked : List Command) (e last : Ends) (list : List Act)
    (downs : List Turn) → CanJoin plan port asked → AreJoined plan port asked e
    → AreJoined plan port asked (record last { downs = downs }) → AreAnswered e → Answers port.state.unit e last list
    → AreAnswered last
still_answered law plan port asked e last list downs can j led answered a =
    let now : Ends = record last { downs = downs } in
    let unit : ℕ = port.state.unit in
    let r = beside law plan port asked e can j in
    let n = beside law plan port asked now can led in
    let held : Held = e.automation.held in
    let piece : List ℕ = bytes_in (came_in list) in
    let first = whole_came law.spelt law.completed (sent_up e) e.ups held r.channel.up r.beside.upwards in
    let later = whole_came law.spelt law.completed (sent_up now) now.ups now.automation.held n.channel.up n.beside.upwards in
    let end : held_after held piece ≡ holds n.beside.upwards.held =
    ap (λ (h : Held). held_after h piece) (sym first.1) ∙ sym (law.completed.pieces_held (holds []) e.ups piece)
    ∙ ap (held_after (holds [])) (sym a.ups_is) ∙ later.1 ∙ n.beside.upwards.at_is in
    omega (
      arith,
      answered,
      a.few,
      ap length a.sent_is,
      length-append e.sent a.commands,
      ap length (over_bytes law.completed unit (came_in list) held n.beside.upwards.held end),
      ap length (ap messages_in a.ups_is
          ∙ whole_came_on law.spelt law.completed (sent_up e) e.ups held r.channel.up r.beside.upwards piece),
      length-append (messages_in e.ups) (completed held piece),
    )
