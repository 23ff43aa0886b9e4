-- What a server's `serve` did is what the laws take of a server.
use Rattle.std.proofs.Common.{arith, ℕ, ◌≡◌, ◌<◌, ◌≤◌, All, Bool, List, [], ◌∷◌, ◌++◌, length, refl, sym, ap, ap₂, subst, ◌∙◌, append_assoc, append-nil, length-append}
use Rattle.std.proofs.lemmas.List.Elements.{All-append, All-cons, All-nil}
use Rattle.std.specs.Option.{option_to_list}
use Rattle.std.specs.Prelude.{Option, Result}
use Rattle.vdcp_value.specs.declared.part.Item.{Item}
use Rattle.vdcp_frame.specs.Burst.{end_of, messages_of}
use Rattle.vdcp_frame.specs.Message.{AreOctets, Content, Fits, spelling}
use Rattle.vdcp_frame.specs.Progress.{Progress, failed, reading}
use Rattle.vdcp_frame.specs.Reading.{End, IsUnfinished, SpellsAll, clean}
use Rattle.vdcp_port.specs.Answers.{after_messages, answer_bytes, answers_to, end_answers}
use Rattle.vdcp_port.specs.Clock.{ClockedPort, after_frame}
use Rattle.vdcp_wire.specs.Acts.{Act, brings, fails, sends}
use Rattle.vdcp_wire.specs.Wires.{Arrival, bytes, close, silence}
use Rattle.vdcp_drive.specs.Reading.{Held, IsAfoot, held_after, held_by, holds}
use Rattle.vdcp_drive.specs.ServeLeaves.{HasServed, ServeEnding, ServeLeaves, by_itself, cut_short}
use Rattle.vdcp_drive.specs.Served.{only}
use Rattle.vdcp_drive.specs.ServerEars as ears
use Rattle.vdcp_drive.specs.ServerEars.{HasRead, ServerEar, completes, in_burst, in_stream, says}
use Rattle.vdcp_drive.specs.Serving.{HookStep, Service, Serving, acts_of, at_end, begins, hook_steps, in_answer, in_listen, items_in, left_by}
use Rattle.vdcp_drive.specs.Steps.{Chain}
use Rattle.vdcp_drive.specs.Traces.{came_in}
use Rattle.vdcp_drive.specs.Turns.{Turn, frame, listen}
use Rattle.vdcp_drive.specs.declared.hearing.Hearing.{Hearing}
use Rattle.vdcp_drive.specs.declared.hearing.Hearing.TheVariants.{AtOnce, AtSilences}
use Rattle.vdcp_drive.specs.declared.line.DriveFault.{DriveFault}
use Rattle.vdcp_drive.specs.declared.line.TurnsEnd.{TurnsEnd}
use Rattle.vdcp_laws.specs.Below.{Spelt}
use Rattle.vdcp_laws.specs.Carried.{all_turns}
use Rattle.vdcp_laws.specs.Servers as servers
use Rattle.vdcp_laws.specs.Servers.{IsServed, ServesOn}
use Rattle.vdcp_laws.specs.TwoEnds.{Ends, aired_now, port_now, server_new, server_now}
use Rattle.vdcp_laws.specs.Untorn.{AreUntorn, IsRead, at_once_for, server_at_silences}
use Rattle.vdcp_laws.proofs.Bytes.{front_all, front_of, none_before, spells_all, spelt, spelt_both}
use Rattle.vdcp_laws.proofs.CutShort.{EarHoldsNone, HoldsNone, IsLeft, Reader, answer_left, broken_left, ended_left, front_upto, is_left, none_after, none_then}
use Rattle.vdcp_laws.proofs.Leading.{came_sent}
use Rattle.vdcp_laws.proofs.Untorn as untorn
use Rattle.vdcp_laws.proofs.Untorn.{all_downs, begun_same, completes_same, items_both, items_on, nothing_read, octets_of, untorn_front}

-- vdcp_frame::laws, and those of untorn turns
pub record Laws : Type 0 where
  pub reader : Reader
  pub same : untorn.Laws

-- the items of turns, and of what counts of the last one
items_left : (law : Laws) (s : Service) (turns last : List Turn) (steps : List HookStep)
    → items_in (hook_steps (left_by s turns) last) ≡ items_in steps
    → items_in (hook_steps s (turns ++ last)) ≡ items_in (hook_steps s turns ++ steps)
items_left law s turns last steps is =
    items_on law.same.hooks s turns last ∙ ap (λ (l : List Item). items_in (hook_steps s turns) ++ l) is
    ∙ sym (items_both (hook_steps s turns) steps)

-- ---- at once

-- what begins a message has no whole one
unfinished_none : (law : Spelt) (held : List ℕ) → IsUnfinished held → (messages_of held ≡ []) × AreOctets held
unfinished_none law held u =
    let begins = u.begins in
    let octets : AreOctets held =
    front_all (λ (byte : ℕ). byte < 256) held begins.more (law.octets begins.message (held ++ begins.more) begins.spelt) in
    let short : length held ≤ 4096 =
    omega (arith, (law.size begins.message (held ++ begins.more) begins.spelt).1, length-append held begins.more) in (
      sym (law.messages held [] (reading (length held) held) octets (record {
        whole = [];
        parts = refl;
        spelt = refl;
        unfinished = u;
        count = refl;
        limit = short;
      })),
      octets,
    )

holds_none : (law : Spelt) (ear : ServerEar) (reader : Progress) → HasRead AtOnce ear reader → EarHoldsNone ear
holds_none law (in_burst burst) reader reads = absurd reads
holds_none law (in_stream held) reader reads = subst HoldsNone (sym reads.is) (by reader reads.afoot) where
  by : (reader : Progress) → IsAfoot reader → HoldsNone (held_by reader)
  by (reading taken held) afoot = unfinished_none law held afoot.1
  by failed afoot = tt

prompt_on : {W H : Type 0} {does : Act → W → W → Type 0} {can : Bool} {hooks : HookStep → H → H → Type 0} (law : Laws) (e : Ends)
    {count : ℕ} {server server' : Serving W} {h h' : H} {result : Result TurnsEnd DriveFault} → EarHoldsNone (server_now e).ear
    → HasServed does can (λ steps. Chain hooks steps h h') count (server_now e) server server' result
    → ServesOn does can hooks e server server' h h'
prompt_on {does = does} {can = can} {hooks = hooks} law e {server' = server'} none s =
    let now : Service = server_now e in
    let then : Service = left_by now s.turns in
    let cut = is_left law.reader then s.done s.last server'.port (none_then now s.turns s.octets none) s.ending in
    let end : List Turn = only (came_in cut.last) in
    let turns : List Turn = s.turns ++ end in
    let steps : List HookStep = hook_steps now s.turns ++ s.last in
    let aired : List Item = items_in (hook_steps (server_new e) e.downs) in
    let all : aired_now (record e { downs = e.downs ++ turns }) ≡ aired_now e ++ items_in steps =
    ap (λ (l : List Item). e.aired_before ++ l)
    (items_on law.same.hooks (server_new e) e.downs turns ∙ ap (λ (l : List Item). aired ++ l) (items_left law now s.turns end s.last cut.items_are))
    ∙ sym (append_assoc e.aired_before aired (items_in steps)) in
    record {
      below = acts_of now s.turns ++ s.done;
      acted = s.acted;
      steps = steps;
      lent = s.steps;
      turns = turns;
      served = subst (IsServed does can hooks e turns (acts_of now s.turns ++ s.done)) all (servers.prompt s cut.last cut.counts);
      port_is = ap (λ (x : Service). x.port) (law.same.left (server_new e) e.downs turns ∙ law.same.left now s.turns end) ∙ cut.port_is;
    }

pub prompt_leaves : {W H : Type 0} {does : Act → W → W → Type 0} {can : Bool} {hooks : HookStep → H → H → Type 0} {failures : W → ℕ}
    (law : Laws) (e : Ends) (count : ℕ) (server server' : Serving W) (h h' : H) (result : Result TurnsEnd DriveFault)
    → failures server.wire ≡ 0 → server.hearing ≡ AtOnce → server.port ≡ port_now e
    → HasRead server.hearing (server_now e).ear server.reader
    → ServeLeaves does can (λ steps. Chain hooks steps h h') failures count server server' result
    → ServesOn does can hooks e server server' h h'
prompt_leaves {does = does} {can = can} {hooks = hooks} law e count server server' h h' result works hears port reads leaves =
    prompt_on law e
    (holds_none law.same.spelt (server_now e).ear server.reader
    (subst (λ (x : Hearing). HasRead x (server_now e).ear server.reader) hears reads))
    (subst (λ (p : ClockedPort). HasServed does can (λ steps. Chain hooks steps h h') count
    (record { port = p; ear = (server_now e).ear }) server server' result) port (leaves.serves works (server_now e).ear reads))

-- ---- at silences

all_spelt : (law : Reader) (ms : List Content) (whole : List ℕ) → SpellsAll ms whole → All Fits ms × (whole ≡ spelt ms)
all_spelt law [] whole is = (All-nil Fits, is)
all_spelt law (m ∷ ms) whole s =
    let one = law.only m s.0 s.2 in
    let more = all_spelt law ms s.1 s.3 in
    (All-cons Fits m ms one.0 more.0, s.4 ∙ ap₂ (λ (k l : List ℕ). k ++ l) one.1 more.1)

-- a beginning of what is read without a fault is, too
read_front : (law : Reader) (bytes_law : Spelt) (front behind : List ℕ) → IsRead (front ++ behind) → IsRead front
read_front law bytes_law front behind (ms, held, r) =
    let b = r.unfinished.begins in
    let one = law.only b.message (held ++ b.more) b.spelt in
    let all = all_spelt law ms r.whole r.spelt in
    let ns : List Content = ms ++ b.message ∷ [] in
    let fits : All Fits ns = All-append Fits ms (b.message ∷ []) all.0 (All-cons Fits b.message [] one.0 (All-nil Fits)) in
    let is : front ++ (behind ++ b.more) ≡ spelt ns =
    sym (append_assoc front behind b.more) ∙ ap (λ (l : List ℕ). l ++ b.more) r.parts ∙ append_assoc r.whole held b.more
    ∙ ap₂ (λ (k l : List ℕ). k ++ l) all.1 (one.1 ∙ sym (append-nil (spelling b.message)))
    ∙ sym (spelt_both ms (b.message ∷ [])) in
    let f = front_of bytes_law ns fits front (behind ++ b.more) is in (
      f.done,
      f.held,
      record {
        whole = spelt f.done;
        parts = f.front_is;
        spelt = spells_all bytes_law f.done (front_all Fits f.done f.left (subst (All Fits) f.all_is fits));
        unfinished = f.unfinished;
        count = refl;
        limit = omega (arith, r.limit, length-append front behind);
      },
    )

-- what it has taken once these turns were made, before more
record Taken (burst : List ℕ) (turns more : List Turn) (ear : ServerEar) : Type 0 where
  pub so_far : List ℕ
  pub ear_is : ear ≡ in_burst so_far
  pub read : IsRead so_far
  pub more_is : AreUntorn so_far more
  pub with_other : (other : List Turn) → AreUntorn so_far other → AreUntorn burst (turns ++ other)

taken : (none : IsRead []) (p : ClockedPort) (burst : List ℕ) (turns more : List Turn) → IsRead burst
    → AreUntorn burst (turns ++ more) → Taken burst turns more (left_by (record { port = p; ear = in_burst burst }) turns).ear
taken none p burst [] more r u =
    record { so_far = burst; ear_is = refl; read = r; more_is = u; with_other = λ other v. v }
taken none p burst (frame ∷ turns) more r u =
    let t = taken none (after_frame p) burst turns more r u in
    record { so_far = t.so_far; ear_is = t.ear_is; read = t.read; more_is = t.more_is; with_other = t.with_other }
taken none p burst (listen close ∷ turns) more r u =
    let t = taken none p burst turns more r u in
    record { so_far = t.so_far; ear_is = t.ear_is; read = t.read; more_is = t.more_is; with_other = t.with_other }
taken none p burst (listen silence ∷ turns) more r u =
    let t = taken none (after_frame p) [] turns more none u.1 in
    record { so_far = t.so_far; ear_is = t.ear_is; read = t.read; more_is = t.more_is; with_other = λ other v. (u.0, t.with_other other v) }
taken none p burst (listen (bytes b) ∷ turns) more r u =
    let t = taken none (after_messages p (ears.completed burst b)) (burst ++ b) turns more u.0 u.1 in
    record { so_far = t.so_far; ear_is = t.ear_is; read = t.read; more_is = t.more_is; with_other = λ other v. (u.0, t.with_other other v) }

-- the front of a piece that completes just these messages
heard_front : (law : Laws) (ear : ServerEar) (burst piece : List ℕ) (before : List Content) (m : Content) (others : List Content)
    → ear ≡ in_burst burst → IsRead burst → IsRead (burst ++ piece) → AreOctets piece → completes ear piece ≡ before ++ m ∷ others
    → (front behind : List ℕ) × (piece ≡ front ++ behind) × (completes ear front ≡ before ++ m ∷ []) × IsRead (burst ++ front)
heard_front law ear burst piece before m others is r q o all =
    let at : Held = held_after (holds []) burst in
    let f = front_upto law.reader at piece before m others o
    (none_after (holds []) burst (octets_of law.same burst r) (refl, All-nil (λ (byte : ℕ). byte < 256)))
    (completes_same law.same burst piece r q ∙ ap (λ (x : ServerEar). completes x piece) (sym is) ∙ all) in
    let read : IsRead (burst ++ f.front) = read_front law.reader law.same.spelt (burst ++ f.front) f.behind
    (subst IsRead (ap (λ (l : List ℕ). burst ++ l) f.parts ∙ sym (append_assoc burst f.front f.behind)) q) in (
      f.front,
      f.behind,
      f.parts,
      ap (λ (x : ServerEar). completes x f.front) is ∙ sym (completes_same law.same burst f.front r read) ∙ f.completes,
      read,
    )

silent_left : (law : Laws) {can : Bool} {count : ℕ} {turns : List Turn} {hearing : Hearing} (s : Service) (burst : List ℕ)
    {answer : Result TurnsEnd DriveFault} (done : List Act) (steps : List HookStep) (port : ClockedPort) {reader : Progress}
    → s.ear ≡ in_burst burst → IsRead burst → AreUntorn burst (only (came_in done))
    → ServeEnding can count turns hearing s answer done steps port reader → IsLeft (AreUntorn burst) s done steps port
silent_left law s burst done steps port ear r u (by_itself e to serves is so at reads) =
    ended_left (AreUntorn burst) s done steps port e is tt at so
silent_left law s burst done steps port ear r u (cut_short aired to closed (in_listen is at airs) so) =
    broken_left (AreUntorn burst) s done steps port aired (fails ∷ []) is tt (sym at) refl airs so
silent_left law s burst done steps port ear r u (cut_short aired to closed (at_end front rest reply is at airs) so) =
    let whole = subst (λ (l : List Arrival). AreUntorn burst (only l)) (ap came_in is) u in
    let ends : end_of burst ≡ clean = (law.same.whole whole.0.0 burst whole.0.1 r.2.limit).1 in
    let silent : [] ≡ front ++ rest =
    sym (ap (λ (x : ServerEar). answer_bytes s.port.state.unit (says x)) ear
    ∙ ap (λ (x : End). answer_bytes s.port.state.unit (end_answers x)) ends) ∙ reply in
    record {
      last = fails ∷ [];
      counts = servers.unanswered (is ∙ ap (λ (l : List ℕ). brings silence ∷ sends l ∷ []) (none_before front rest silent));
      holds = tt;
      port_is = sym at;
      items_are = sym (ap items_in so ∙ ap (λ (a : Option Item). option_to_list a ++ []) airs);
    }
silent_left law s burst done steps port ear r u (cut_short aired to closed (in_answer piece before m others front rest o all reply is at airs) so) =
    let came : came_in done ≡ bytes piece ∷ [] =
    ap came_in is ∙ ap (λ (l : List Arrival). bytes piece ∷ l) (came_sent s.port.state.unit (answers_to s.port before) (sends front ∷ [])) in
    let read = subst (λ (l : List Arrival). AreUntorn burst (only l)) came u in
    let f = heard_front law s.ear burst piece before m others ear r read.0 o all in
    answer_left (AreUntorn burst) s done steps port aired piece before m front rest f.0 f.1 o reply is at airs so f.2 f.3
    (f.4, tt)

pub untorn_on : {W H : Type 0} {does : Act → W → W → Type 0} {can : Bool} {hooks : HookStep → H → H → Type 0} (law : Laws) (e : Ends)
    (before : List Turn) {count : ℕ} {server server' : Serving W} {h h' : H} {result : Result TurnsEnd DriveFault}
    → e.downs ≡ at_once_for before
    → (s : HasServed does can (λ steps. Chain hooks steps h h') count (server_at_silences e.port before) server server' result)
    → AreUntorn [] (before ++ all_turns s.turns s.done) → ServesOn does can hooks e server server' h h'
untorn_on {does = does} {can = can} {hooks = hooks} law e before {server' = server'} downs s u =
    let begin : Service = begins AtSilences e.port in
    let now : Service = server_at_silences e.port before in
    let then : Service = left_by now s.turns in
    let t = taken (nothing_read law.same) e.port [] (before ++ s.turns) (only (came_in s.done)) (nothing_read law.same)
    (subst (AreUntorn []) (sym (append_assoc before s.turns (only (came_in s.done)))) u) in
    let cut = silent_left law then t.so_far s.done s.last server'.port
    (ap (λ (x : Service). x.ear) (sym (law.same.left begin before s.turns)) ∙ t.ear_is) t.read t.more_is s.ending in
    let end : List Turn = only (came_in cut.last) in
    let turns : List Turn = s.turns ++ end in
    let all : AreUntorn [] (before ++ turns) =
    subst (AreUntorn []) (append_assoc before s.turns end) (t.with_other end cut.holds) in
    let steps : List HookStep = hook_steps now s.turns ++ s.last in
    let aired : List Item = items_in (hook_steps (server_new e) e.downs) in
    let first : items_in (hook_steps begin before) ≡ aired =
    sym (ap (λ (l : List Turn). items_in (hook_steps (server_new e) l)) downs
    ∙ (begun_same law.same e.port before (untorn_front [] before turns all)).items) in
    let items : e.aired_before ++ items_in (hook_steps begin (before ++ turns)) ≡ aired_now e ++ items_in steps =
    ap (λ (l : List Item). e.aired_before ++ l) (items_on law.same.hooks begin before turns
    ∙ ap₂ (λ (k l : List Item). k ++ l) first (items_left law now s.turns end s.last cut.items_are))
    ∙ sym (append_assoc e.aired_before aired (items_in steps)) in
    record {
      below = acts_of now s.turns ++ s.done;
      acted = s.acted;
      steps = steps;
      lent = s.steps;
      turns = at_once_for turns;
      served = subst (IsServed does can hooks e (at_once_for turns) (acts_of now s.turns ++ s.done)) items
          (servers.untorn before downs s cut.last cut.counts all);
      port_is = ap (λ (l : List Turn). (left_by (server_new e) l).port) (all_downs e.downs before turns downs)
          ∙ (begun_same law.same e.port (before ++ turns) all).port
          ∙ ap (λ (x : Service). x.port) (law.same.left begin before turns ∙ law.same.left now s.turns end) ∙ cut.port_is;
    }
