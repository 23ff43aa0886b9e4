-- What has gone out at each moment of a server's turns, however it hears, with frames wherever they pass.
use Rattle.std.proofs.Common.{ℕ, ◌≡◌, ◌⊎◌, inl, inr, List, [], ◌∷◌, ◌++◌, refl, sym, ap, ap₂, subst, ◌∙◌, append_assoc, append-nil}
use Rattle.std.specs.Prelude.{Bool, Option, Result}
use Rattle.vdcp_value.specs.declared.part.Item.{Item}
use Rattle.vdcp_frame.specs.Message.{Content}
use Rattle.vdcp_frame.specs.Progress.{Progress}
use Rattle.vdcp_port.specs.Answers.{answer_bytes, answers_to}
use Rattle.vdcp_port.specs.Clock.{ClockedPort}
use Rattle.vdcp_wire.specs.Acts.{Act, brings, fails, sends}
use Rattle.vdcp_wire.specs.Wires.{Arrival, bytes, silence}
use Rattle.vdcp_drive.specs.Below.{Below}
use Rattle.vdcp_drive.specs.ServerEars.{completes, says}
use Rattle.vdcp_drive.specs.Served.{IsMoment, only}
use Rattle.vdcp_drive.specs.ServeLeaves.{ServeEnding, by_itself, cut_short}
use Rattle.vdcp_drive.specs.Serving.{HookStep, IsCutShort, Service, acts_of, at_end, in_answer, in_listen, replies, sending, serves, turn_acts}
use Rattle.vdcp_drive.specs.Serving as left
use Rattle.vdcp_drive.specs.Traces.{came_in, sent_in}
use Rattle.vdcp_drive.specs.Turns.{Turn, listen, frame, arrivals}
use Rattle.vdcp_drive.specs.declared.hearing.Hearing.{Hearing}
use Rattle.vdcp_drive.specs.declared.line.DriveFault.{DriveFault}
use Rattle.vdcp_drive.specs.declared.line.TurnsEnd.{TurnsEnd}
use Rattle.vdcp_drive.proofs.Served.{behind_first, front_sent, head_or, no_front, sending_came, sending_sent, split}
use Rattle.vdcp_drive.proofs.Tracing.{came_both, sent_both}

-- nothing came, and nothing went out
none_yet : (s : Service) (all : List Turn) (some : List Act) → came_in some ≡ [] → sent_in some ≡ [] → IsMoment s all some
none_yet s all some no_came no_sent =
    record { upto = []; later = all; parts = refl; came = sym no_came; rest = []; sent = ap (λ (l : List ℕ). l ++ []) (sym no_sent) }

-- within a turn, of whose answers these acts send a beginning
within : (s : Service) (what : Arrival) (later : List Turn) (out some behind : List Act) (more : List ℕ) → came_in out ≡ []
    → sent_in (sending s.port.state.unit (replies what s)) ≡ sent_in out ++ more
    → brings what ∷ out ≡ some ++ behind → IsMoment s (listen what ∷ later) some
within s what later out [] behind more none parts is = none_yet s (listen what ∷ later) [] refl refl
within s what later out (a ∷ some) behind more none parts is =
    let rest_is : out ≡ some ++ behind = ap behind_first is in
    let no_came : came_in some ≡ [] =
    no_front (came_in some) (came_in behind) (sym (came_both some behind) ∙ ap came_in (sym rest_is) ∙ none) in
    subst (λ (x : Act). IsMoment s (listen what ∷ later) (x ∷ some)) (ap (head_or a) is) (record {
      upto = listen what ∷ [];
      later = later;
      parts = refl;
      came = ap (λ (l : List Arrival). what ∷ l) (sym no_came);
      rest = sent_in behind ++ more;
      sent = ap sent_in (append-nil (sending s.port.state.unit (replies what s))) ∙ parts
          ∙ rw (rest_is, sent_both) (append_assoc (sent_in some) (sent_in behind) more);
    })

-- if the wire failed
cut_moment : (law : Below) (s : Service) (done some behind : List Act) (port : ClockedPort) (aired : Option Item)
    → IsCutShort s done port aired → done ≡ some ++ behind → IsMoment s (only (came_in done)) some
cut_moment law s done some behind port aired (in_listen is port_is aired_is) parts =
    let all : fails ∷ [] ≡ some ++ behind = sym is ∙ parts in
    none_yet s (only (came_in done)) some
    (no_front (came_in some) (came_in behind) (sym (came_both some behind) ∙ ap came_in (sym all)))
    (no_front (sent_in some) (sent_in behind) (sym (sent_both some behind) ∙ ap sent_in (sym all)))
cut_moment law s done some behind port aired (in_answer piece ms m others front rest fits messages part is port_is aired_is) parts =
    let out : List Act = sending s.port.state.unit (answers_to s.port ms) ++ sends front ∷ [] in
    let f = front_sent law s.port ms m others front rest part in
    let none : came_in out ≡ [] =
    came_both (sending s.port.state.unit (answers_to s.port ms)) (sends front ∷ [])
    ∙ append-nil (came_in (sending s.port.state.unit (answers_to s.port ms)))
    ∙ sending_came s.port.state.unit (answers_to s.port ms) in
    subst (λ (l : List Turn). IsMoment s l some)
    (sym (ap (λ (d : List Act). only (came_in d)) is ∙ ap (λ (l : List Arrival). listen (bytes piece) ∷ only l) none))
    (within s (bytes piece) [] out some behind f.0 none
    (sending_sent s.port.state.unit (answers_to s.port (completes s.ear piece))
    ∙ ap (λ (l : List Content). answer_bytes s.port.state.unit (answers_to s.port l)) messages ∙ f.1)
    (sym is ∙ parts))
cut_moment law s done some behind port aired (at_end front rest part is port_is aired_is) parts =
    subst (λ (l : List Turn). IsMoment s l some) (sym (ap (λ (d : List Act). only (came_in d)) is))
    (within s silence [] (sends front ∷ []) some behind rest refl
    (sending_sent s.port.state.unit (says s.ear) ∙ part ∙ ap (λ (l : List ℕ). l ++ rest) (sym (append-nil front)))
    (sym is ∙ parts))

-- a turn further
beyond : (s : Service) (what : Turn) (all : List Turn) (some zs : List Act) → came_in (turn_acts what s) ≡ arrivals (what ∷ [])
    → some ≡ turn_acts what s ++ zs → IsMoment (serves what s) all zs → IsMoment s (what ∷ all) some
beyond s what all some zs came is h = record {
  upto = what ∷ h.upto;
  later = h.later;
  parts = ap (λ (l : List Turn). what ∷ l) h.parts;
  came = arrivals_more what h.upto ∙ ap₂ (λ (x y : List Arrival). x ++ y) (sym came) h.came
      ∙ sym (came_both (turn_acts what s) zs) ∙ ap came_in (sym is);
  rest = h.rest;
  sent = sent_both (turn_acts what s) (acts_of (serves what s) h.upto)
      ∙ ap (λ (l : List ℕ). sent_in (turn_acts what s) ++ l) h.sent
      ∙ sym (append_assoc (sent_in (turn_acts what s)) (sent_in zs) h.rest)
      ∙ ap (λ (l : List ℕ). l ++ h.rest) (sym (sent_both (turn_acts what s) zs) ∙ ap sent_in (sym is));
} where
  arrivals_more : (what : Turn) (later : List Turn) → arrivals (what ∷ later) ≡ arrivals (what ∷ []) ++ arrivals later
  arrivals_more (listen a) later = refl
  arrivals_more frame later = refl

either : {A B C : Type 0} → (A → C) → (B → C) → A ⊎ B → C
either f h (inl a) = f a
either f h (inr b) = h b

moment_on : (s : Service) (what : Turn) (all : List Turn) (some behind rest : List Act)
    → ((zs : List Act) → rest ≡ zs ++ behind → IsMoment (serves what s) all zs)
    → turn_acts what s ++ rest ≡ some ++ behind → IsMoment s (what ∷ all) some
moment_on s frame all some behind rest further is = beyond s frame all some some refl refl (further some is)
moment_on s (listen what) all some behind rest further is =
    let out : List Act = sending s.port.state.unit (replies what s) in
    let here : came_in out ≡ [] = sending_came s.port.state.unit (replies what s) in
    either (λ x. within s what all out some x.0 [] here (sym (append-nil (sent_in out))) x.1)
    (λ x. beyond s (listen what) all some x.0 (ap (λ (l : List Arrival). what ∷ l) here) x.1 (further x.0 x.2))
    (split (brings what ∷ out) rest some behind is)

-- all turns, and how they ended
abbrev behind_all : Service → List Turn → Service
behind_all s [] = s
behind_all s (what ∷ later) = behind_all (serves what s) later

moments : (s : Service) (turns more : List Turn) (done some behind : List Act)
    → ((zs : List Act) → done ≡ zs ++ behind → IsMoment (behind_all s turns) more zs)
    → acts_of s turns ++ done ≡ some ++ behind → IsMoment s (turns ++ more) some
moments s [] more done some behind end is = end some is
moments s (what ∷ turns) more done some behind end is =
    moment_on s what (turns ++ more) some behind (acts_of (serves what s) turns ++ done)
    (λ zs rest_is. moments (serves what s) turns more done zs behind end rest_is)
    (sym (append_assoc (turn_acts what s) (acts_of (serves what s) turns) done) ∙ is)

same_behind : (s : Service) (turns : List Turn) → behind_all s turns ≡ left.left_by s turns
same_behind s [] = refl
same_behind s (what ∷ later) = same_behind (serves what s) later

pub moments_of : (law : Below) (s : Service) (turns : List Turn) (can : Bool) (count : ℕ) (hearing : Hearing)
    (answer : Result TurnsEnd DriveFault) (done : List Act) (last : List HookStep) (port : ClockedPort) (reader : Progress)
    → ServeEnding can count turns hearing (left.left_by s turns) answer done last port reader
    → (some behind : List Act) → acts_of s turns ++ done ≡ some ++ behind
    → IsMoment s (turns ++ only (came_in done)) some
moments_of law s turns can count hearing answer done last port reader (by_itself e is to nothing last_is port_is h) some behind parts =
    moments s turns (only (came_in done)) done some behind
    (λ zs all. let none : zs ≡ [] = no_front zs behind (sym all ∙ nothing) in
    none_yet (behind_all s turns) (only (came_in done)) zs (ap came_in none) (ap sent_in none)) parts
moments_of law s turns can count hearing answer done last port reader (cut_short aired is still cut look) some behind parts =
    moments s turns (only (came_in done)) done some behind
    (λ zs e. subst (λ (x : Service). IsMoment x (only (came_in done)) zs) (sym (same_behind s turns))
    (cut_moment law (left.left_by s turns) done zs behind port aired cut e)) parts
