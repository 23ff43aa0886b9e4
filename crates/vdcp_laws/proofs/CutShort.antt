-- A turn in which the wire failed: what counts of it leaves the port and the items that it left.
use Rattle.std.proofs.Common.{arith, ℕ, ◌≡◌, ◌<◌, Bool, All, List, [], ◌∷◌, ◌++◌, length, drop, refl, sym, ap, ap₂, subst, ◌∙◌, append_assoc, append-nil}
use Rattle.std.proofs.lemmas.List.{take-append-drop}
use Rattle.std.proofs.lemmas.List.Elements.{All-append, All-cons, All-head, All-nil, All-tail}
use Rattle.std.specs.Option.{option_to_list}
use Rattle.std.specs.Prelude.{Err, None, Option, Result}
use Rattle.vdcp_value.specs.declared.part.Item.{Item}
use Rattle.vdcp_frame.specs.Burst.{end_of, messages_of}
use Rattle.vdcp_frame.specs.Message.{AreOctets, Content, Fits, Spells, spelling}
use Rattle.vdcp_frame.specs.Progress.{Progress}
use Rattle.vdcp_frame.specs.Reading.{End, Reads, SpellsAll, burst_limit, clean, cut, fault}
use Rattle.vdcp_port.specs.Answers.{after_messages, aired_on_way, answers_to, bytes_for}
use Rattle.vdcp_port.specs.Clock.{ClockedPort, after_frame}
use Rattle.vdcp_wire.specs.Acts.{Act, brings, fails, sends}
use Rattle.vdcp_wire.specs.Wires.{Arrival, bytes, close, silence}
use Rattle.vdcp_drive.specs.Reading.{Held, completed, completed_by, held_after, held_after_byte, held_after_silence, held_with, holds, skips}
use Rattle.vdcp_drive.specs.ServeLeaves.{ServeEnding, by_itself, cut_short, end_steps}
use Rattle.vdcp_drive.specs.Served.{only}
use Rattle.vdcp_drive.specs.ServerEars.{ServerEar, after_rest, completes, in_burst, in_stream}
use Rattle.vdcp_drive.specs.Serving.{HookStep, IsCutShort, Service, at_end, broken_steps, hook_steps, in_answer, in_listen, items_in, last_aired, left_by, sending}
use Rattle.vdcp_drive.specs.Traces.{came_in}
use Rattle.vdcp_drive.specs.Turns.{AreOctetsAt, Turn, frame, listen}
use Rattle.vdcp_drive.specs.declared.hearing.Hearing.{Hearing}
use Rattle.vdcp_drive.specs.declared.line.DriveFault.{DriveFault}
use Rattle.vdcp_drive.specs.declared.line.DriveFault.TheVariants as faults
use Rattle.vdcp_drive.specs.declared.line.TurnsEnd.{TurnsEnd}
use Rattle.vdcp_drive.specs.declared.line.TurnsEnd.TheVariants as ends
use Rattle.vdcp_laws.specs.Servers as servers
use Rattle.vdcp_laws.specs.Servers.{Counts, upto_message}
use Rattle.vdcp_laws.proofs.Bytes.{front_all}
use Rattle.vdcp_laws.proofs.Leading.{came_sent}

head_is : {A : Type 0} (x y : A) (xs ys : List A) → x ∷ xs ≡ y ∷ ys → x ≡ y
head_is x y xs ys is = cc

tail_is : {A : Type 0} (x y : A) (xs ys : List A) → x ∷ xs ≡ y ∷ ys → xs ≡ ys
tail_is x y xs ys is = cc

pub no_last : {A : Type 0} (front : List A) (b : A) (out : List A) → [] ≡ front ++ b ∷ out → ⊥
no_last [] b out is = cc
no_last (x ∷ front) b out is = cc

-- what ends behind this front ends with what comes next there, or behind that
pub last_of : {A R : Type 0} (list : List A) (a : A) (front : List A) (b : A) (out : List A)
    → list ++ a ∷ [] ≡ front ++ b ∷ out → (list ≡ front → a ≡ b → out ≡ [] → R)
    → ((rest : List A) → list ≡ front ++ b ∷ rest → out ≡ rest ++ a ∷ [] → R) → R
last_of [] a [] b out is at later = at refl (head_is a b [] out is) (sym (tail_is a b [] out is))
last_of {A} (x ∷ list) a [] b out is at later = later list (ap (λ (y : A). y ∷ list) (head_is x b (list ++ a ∷ []) out is))
    (sym (tail_is x b (list ++ a ∷ []) out is))
last_of [] a (y ∷ front) b out is at later = absurd (no_last front b out (tail_is a y [] (front ++ b ∷ out) is))
last_of {A} (x ∷ list) a (y ∷ front) b out is at later =
    let first : x ≡ y = head_is x y (list ++ a ∷ []) (front ++ b ∷ out) is in
    last_of list a front b out (tail_is x y (list ++ a ∷ []) (front ++ b ∷ out) is)
    (λ same one none. at (ap₂ (λ (h : A) (l : List A). h ∷ l) first same) one none)
    (λ rest parts last. later rest (ap₂ (λ (h : A) (l : List A). h ∷ l) first parts) last)

-- ---- each byte completes one message at most

-- vdcp_frame::laws: what_is_spelt_is_bytes, one_reading, a_spelling_is_its_message, one_spelling
pub record Reader : Type 0 where
  pub read : (burst : List ℕ) → AreOctets burst → Reads burst (messages_of burst) (end_of burst)
  pub before : (m : Content) (more : List ℕ) → Fits m → AreOctets more
      → (others : List Content) × (messages_of (spelling m ++ more) ≡ m ∷ others)
  pub only : (m : Content) (bytes : List ℕ) → Spells m bytes → Fits m × (bytes ≡ spelling m)
  pub size : (m : Content) (bytes : List ℕ) → Spells m bytes → 0 < length bytes

-- what is held has no whole message
abbrev pub HoldsNone : Held → Type 0
HoldsNone (holds held) = (messages_of held ≡ []) × AreOctets held
HoldsNone skips = Unit {0}

abbrev pub EarHoldsNone : ServerEar → Type 0
EarHoldsNone (in_burst burst) = ⊥
EarHoldsNone (in_stream held) = HoldsNone held

-- bytes that end behind this front begin with it
front_held : (held : List ℕ) (b : ℕ) (first second more : List ℕ) → 0 < length second
    → held ++ b ∷ [] ≡ first ++ (second ++ more) → (rest : List ℕ) × (held ≡ first ++ rest)
front_held held b first [] more some is = absurd (omega (arith, some))
front_held held b first (c ∷ second) more some is = last_of held b first c (second ++ more) is
    (λ same one none. ([], same ∙ sym (append-nil first))) (λ rest parts last. (c ∷ rest, parts))

rest_all : (xs ys : List ℕ) → AreOctets (xs ++ ys) → AreOctets ys
rest_all [] ys o = o
rest_all (x ∷ xs) ys o = rest_all xs ys (All-tail (λ (byte : ℕ). byte < 256) x (xs ++ ys) o)

-- one byte behind what has no whole message doesn't complete two
one_alone : (law : Reader) (held : List ℕ) (b : ℕ) → messages_of held ≡ [] → AreOctets (held ++ b ∷ []) → (m n : Content)
    (ms : List Content) → messages_of (held ++ b ∷ []) ≡ m ∷ n ∷ ms → ⊥
one_alone law held b none o m n ms two =
    let r = law.read (held ++ b ∷ []) o in
    let s = subst (λ (l : List Content). SpellsAll l r.front.whole) two r.front.spelt in
    let first : List ℕ = s.0 in
    let second : List ℕ = s.3.0 in
    let behind : List ℕ = s.3.1 ++ (r.front.remainder ++ drop burst_limit (held ++ b ∷ [])) in
    let parts : held ++ b ∷ [] ≡ first ++ (second ++ behind) =
    sym (take-append-drop burst_limit (held ++ b ∷ []))
    ∙ ap (λ (l : List ℕ). l ++ drop burst_limit (held ++ b ∷ []))
    (r.front.parts ∙ ap (λ (l : List ℕ). l ++ r.front.remainder) (s.4 ∙ ap (λ (l : List ℕ). first ++ l) s.3.4))
    ∙ append_assoc (first ++ (second ++ s.3.1)) r.front.remainder (drop burst_limit (held ++ b ∷ []))
    ∙ append_assoc first (second ++ s.3.1) (r.front.remainder ++ drop burst_limit (held ++ b ∷ []))
    ∙ ap (λ (l : List ℕ). first ++ l)
    (append_assoc second s.3.1 (r.front.remainder ++ drop burst_limit (held ++ b ∷ []))) in
    let front = front_held held b first second behind (law.size n second s.3.2) parts in
    let only = law.only m first s.2 in
    let octets : AreOctets (first ++ front.0) =
    subst AreOctets front.1 (front_all (λ (byte : ℕ). byte < 256) held (b ∷ []) o) in
    let more = law.before m front.0 only.0 (rest_all first front.0 octets) in
    no_last [] m more.0
    (sym none ∙ ap messages_of (front.1 ∙ ap (λ (l : List ℕ). l ++ front.0) only.1) ∙ more.1)

with_byte : (held : List ℕ) (b : ℕ) → AreOctets held → b < 256 → AreOctets (held ++ b ∷ [])
with_byte held b o byte = All-append (λ (byte : ℕ). byte < 256) held (b ∷ []) o
    (All-cons (λ (byte : ℕ). byte < 256) b [] byte (All-nil (λ (byte : ℕ). byte < 256)))

two_never : (law : Reader) (held : Held) (b : ℕ) → b < 256 → HoldsNone held → (m n : Content) (ms : List Content)
    → completed_by held b ≡ m ∷ n ∷ ms → ⊥
two_never law (holds held) b o none m n ms two = one_alone law held b none.0 (with_byte held b none.1 o) m n ms two
two_never law skips b o none m n ms two = cc

none_with : (taken : List ℕ) (ms : List Content) (end : End) → messages_of taken ≡ ms → AreOctets taken
    → HoldsNone (held_with taken ms end)
none_with taken (m ∷ ms) end is o = (refl, All-nil (λ (byte : ℕ). byte < 256))
none_with taken [] clean is o = (is, o)
none_with taken [] (cut count) is o = (is, o)
none_with taken [] (fault which place) is o = tt

none_byte : (held : Held) (b : ℕ) → b < 256 → HoldsNone held → HoldsNone (held_after_byte held b)
none_byte (holds held) b o none = none_with (held ++ b ∷ []) (messages_of (held ++ b ∷ [])) (end_of (held ++ b ∷ [])) refl
    (with_byte held b none.1 o)
none_byte skips b o none = tt

pub none_after : (held : Held) (piece : List ℕ) → AreOctets piece → HoldsNone held → HoldsNone (held_after held piece)
none_after held [] o none = none
none_after held (b ∷ piece) o none = none_after (held_after_byte held b) piece (All-tail (λ (byte : ℕ). byte < 256) b piece o)
    (none_byte held b (All-head (λ (byte : ℕ). byte < 256) b piece o) none)

none_rested : (held : Held) → HoldsNone held → HoldsNone (held_after_silence held)
none_rested (holds held) none = none
none_rested skips none = (refl, All-nil (λ (byte : ℕ). byte < 256))

none_left : (p : ClockedPort) (held : Held) (turns : List Turn) → All AreOctetsAt turns → HoldsNone held
    → EarHoldsNone (left_by (record { port = p; ear = in_stream held }) turns).ear
none_left p held [] o none = none
none_left p held (listen (bytes piece) ∷ later) o none =
    none_left (after_messages p (completed held piece)) (held_after held piece) later
    (All-tail AreOctetsAt (listen (bytes piece)) later o)
    (none_after held piece (All-head AreOctetsAt (listen (bytes piece)) later o) none)
none_left p held (listen silence ∷ later) o none =
    none_left p (held_after_silence held) later (All-tail AreOctetsAt (listen silence) later o) (none_rested held none)
none_left p held (listen close ∷ later) o none = none_left p held later (All-tail AreOctetsAt (listen close) later o) none
none_left p held (frame ∷ later) o none = none_left (after_frame p) held later (All-tail AreOctetsAt frame later o) none

-- so it is after turns
pub none_then : (s : Service) (turns : List Turn) → All AreOctetsAt turns → EarHoldsNone s.ear → EarHoldsNone (left_by s turns).ear
none_then s turns o none = by_ear s.ear none where
  by_ear : (ear : ServerEar) → EarHoldsNone ear → EarHoldsNone (left_by (record { port = s.port; ear = ear }) turns).ear
  by_ear (in_burst burst) none = absurd none
  by_ear (in_stream held) none = none_left s.port held turns o none

-- the front of a piece that completes just these messages
pub record Front (held : Held) (piece : List ℕ) (ms : List Content) : Type 0 where
  pub front : List ℕ
  pub behind : List ℕ
  pub parts : piece ≡ front ++ behind
  pub completes : completed held front ≡ ms

by_byte : (held : Held) (b : ℕ) (piece : List ℕ) (before : List Content) (m : Content) (others now : List Content)
    → completed_by held b ≡ now → ((x y : Content) (ms : List Content) → completed_by held b ≡ x ∷ y ∷ ms → ⊥)
    → ((before : List Content) → completed (held_after_byte held b) piece ≡ before ++ m ∷ others
    → Front (held_after_byte held b) piece (before ++ m ∷ [])) → now ++ completed (held_after_byte held b) piece ≡ before ++ m ∷ others
    → Front held (b ∷ piece) (before ++ m ∷ [])
by_byte held b piece before m others [] none two more is =
    let f = more before is in record {
      front = b ∷ f.front;
      behind = f.behind;
      parts = ap (λ (l : List ℕ). b ∷ l) f.parts;
      completes = ap₂ (λ (k l : List Content). k ++ l) none f.completes;
    }
by_byte held b piece [] m others (x ∷ []) one two more is = record {
  front = b ∷ [];
  behind = piece;
  parts = refl;
  completes = append-nil (completed_by held b) ∙ one
      ∙ ap (λ (y : Content). y ∷ []) (head_is x m (completed (held_after_byte held b) piece) others is);
}
by_byte held b piece (y ∷ before) m others (x ∷ []) one two more is =
    let later : List Content = completed (held_after_byte held b) piece in
    let f = more before (tail_is x y later (before ++ m ∷ others) is) in record {
      front = b ∷ f.front;
      behind = f.behind;
      parts = ap (λ (l : List ℕ). b ∷ l) f.parts;
      completes = ap₂ (λ (k l : List Content). k ++ l) one f.completes
          ∙ ap (λ (z : Content). z ∷ (before ++ m ∷ [])) (head_is x y later (before ++ m ∷ others) is);
    }
by_byte held b piece before m others (x ∷ y ∷ ms) some two more is = absurd (two x y ms some)

pub front_upto : (law : Reader) (held : Held) (piece : List ℕ) (before : List Content) (m : Content) (others : List Content)
    → AreOctets piece → HoldsNone held → completed held piece ≡ before ++ m ∷ others → Front held piece (before ++ m ∷ [])
front_upto law held [] before m others o none is = absurd (no_last before m others is)
front_upto law held (b ∷ piece) before m others o none is =
    let byte : b < 256 = All-head (λ (byte : ℕ). byte < 256) b piece o in
    by_byte held b piece before m others (completed_by held b) refl (two_never law held b byte none)
    (λ front. front_upto law (held_after_byte held b) piece front m others (All-tail (λ (byte : ℕ). byte < 256) b piece o)
    (none_byte held b byte none)) is

-- ---- what counts of the last turn

-- its answers bring nothing
pub quiet : (s : Service) (piece : List ℕ) (out : List Act) (port : ClockedPort) (aired : Option Item)
    → IsCutShort s (brings (bytes piece) ∷ out) port aired → came_in out ≡ []
quiet s piece out port aired (in_listen is at none) =
    absurd (no_last [] (bytes piece) (came_in out) (sym (ap came_in is)))
quiet s piece out port aired (in_answer whole before m others front rest o done parts is at airs) =
    tail_is (bytes piece) (bytes whole) _ _ (ap came_in is) ∙ came_sent s.port.state.unit (answers_to s.port before) (sends front ∷ [])
quiet s piece out port aired (at_end front rest says is at none) = tail_is (bytes piece) silence _ _ (ap came_in is)

-- so it ends
pub record Ends (can : Bool) (count : ℕ) (turns : List Turn) (hearing : Hearing) (s : Service) (last : List Act) (reader : Progress) :
    Type 0 where
  pub answer : Result TurnsEnd DriveFault
  pub steps : List HookStep
  pub port : ClockedPort
  pub ending : ServeEnding can count turns hearing s answer last steps port reader

pub ends_so : {can : Bool} {count : ℕ} {turns : List Turn} {hearing : Hearing} {s : Service} {answer : Result TurnsEnd DriveFault}
    {done last : List Act} {steps : List HookStep} {port : ClockedPort} {reader : Progress}
    → ServeEnding can count turns hearing s answer done steps port reader → Counts s done last
    → Ends can count turns hearing s last reader
ends_so {answer = answer} {steps = steps} {port = port} ending servers.all =
    record { answer = answer; steps = steps; port = port; ending = ending }
ends_so (by_itself e to serves none so at reads) (upto_message piece behind out port aired is short) =
    absurd (no_last [] (brings (bytes (piece ++ behind))) out (sym none ∙ is))
ends_so (by_itself e to serves none so at reads) (servers.unanswered is) =
    absurd (no_last [] (brings silence) (sends [] ∷ []) (sym none ∙ is))
ends_so (cut_short airs to closed was so) (upto_message piece behind out port aired is short) = record {
  answer = Err faults.Device;
  steps = broken_steps port aired;
  port = port;
  ending = cut_short aired refl closed short refl;
}
ends_so {s = s} (cut_short airs to closed was so) (servers.unanswered is) = record {
  answer = Err faults.Device;
  steps = broken_steps s.port None;
  port = s.port;
  ending = cut_short None refl closed (in_listen refl refl refl) refl;
}

none_at_end : (e : TurnsEnd) → items_in (end_steps e) ≡ []
none_at_end ends.Closed = refl
none_at_end ends.Spent = refl
none_at_end ends.GivenUp = refl

-- what counts of it, of which this holds, leaves this port and these items
pub record IsLeft (P : List Turn → Type 0) (s : Service) (done : List Act) (steps : List HookStep) (port : ClockedPort) : Type 0 where
  pub last : List Act
  pub counts : Counts s done last
  pub holds : P (only (came_in last))
  pub port_is : (left_by s (only (came_in last))).port ≡ port
  pub items_are : items_in (hook_steps s (only (came_in last))) ≡ items_in steps

module _ (P : List Turn → Type 0) (s : Service) (done : List Act) (steps : List HookStep) (port : ClockedPort) where
  all_left : (acts : List Act) → done ≡ acts → P (only (came_in acts)) → (left_by s (only (came_in acts))).port ≡ port
      → items_in (hook_steps s (only (came_in acts))) ≡ items_in steps → IsLeft P s done steps port
  all_left acts is p at items = record {
    last = done;
    counts = servers.all;
    holds = subst (λ (l : List Act). P (only (came_in l))) (sym is) p;
    port_is = ap (λ (l : List Act). (left_by s (only (came_in l))).port) is ∙ at;
    items_are = ap (λ (l : List Act). items_in (hook_steps s (only (came_in l)))) is ∙ items;
  }

  pub ended_left : (e : TurnsEnd) → done ≡ [] → P [] → port ≡ s.port → steps ≡ end_steps e → IsLeft P s done steps port
  ended_left e is p at so = all_left [] is p (sym at) (sym (ap items_in so ∙ none_at_end e))

  -- it failed where nothing had aired
  pub broken_left : (aired : Option Item) (acts : List Act) → done ≡ acts → P (only (came_in acts))
      → (left_by s (only (came_in acts))).port ≡ port → items_in (hook_steps s (only (came_in acts))) ≡ [] → aired ≡ None
      → steps ≡ broken_steps port aired → IsLeft P s done steps port
  broken_left aired acts is p at items airs so =
      all_left acts is p at (items ∙ sym (ap items_in so ∙ ap (λ (a : Option Item). option_to_list a ++ []) airs))

  -- it failed in the answer to a message, by which this front of the piece had come
  pub answer_left : (aired : Option Item) (piece : List ℕ) (before : List Content) (m : Content) (out rest heard behind : List ℕ)
      → AreOctets piece → bytes_for (after_messages s.port before) m ≡ out ++ rest
      → done ≡ brings (bytes piece) ∷ (sending s.port.state.unit (answers_to s.port before) ++ sends out ∷ [])
      → port ≡ after_messages s.port (before ++ m ∷ []) → aired ≡ last_aired None (aired_on_way s.port (before ++ m ∷ []))
      → steps ≡ broken_steps port aired → piece ≡ heard ++ behind → completes s.ear heard ≡ before ++ m ∷ []
      → P (listen (bytes heard) ∷ []) → IsLeft P s done steps port
  answer_left aired piece before m out rest heard behind o reply is at airs so parts completes p =
      let ms : List Content = before ++ m ∷ [] in
      let sent : List Act = sending s.port.state.unit (answers_to s.port before) ++ sends out ∷ [] in
      let octets : AreOctets heard = front_all (λ (byte : ℕ). byte < 256) heard behind (subst AreOctets parts o) in
      let turns : only (came_in (brings (bytes heard) ∷ sent)) ≡ listen (bytes heard) ∷ [] =
      ap (λ (l : List Arrival). listen (bytes heard) ∷ only l)
      (came_sent s.port.state.unit (answers_to s.port before) (sends out ∷ [])) in
      record {
        last = brings (bytes heard) ∷ sent;
        counts = upto_message heard behind sent port aired (is ∙ ap (λ (l : List ℕ). brings (bytes l) ∷ sent) parts)
            (in_answer heard before m [] out rest octets completes reply refl at airs);
        holds = subst P (sym turns) p;
        port_is = ap (λ (l : List Turn). (left_by s l).port) turns ∙ ap (after_messages s.port) completes ∙ sym at;
        items_are = ap (λ (l : List Turn). items_in (hook_steps s l)) turns
            ∙ ap (λ (l : List Content). option_to_list (last_aired None (aired_on_way s.port l)) ++ []) completes
            ∙ sym (ap items_in so ∙ ap (λ (a : Option Item). option_to_list a ++ []) airs);
      }

-- At once.

no_frame : (ear : ServerEar) (p : ClockedPort) → EarHoldsNone ear → after_rest ear p ≡ p
no_frame (in_burst burst) p none = absurd none
no_frame (in_stream held) p none = refl

heard_front : (law : Reader) (ear : ServerEar) (piece : List ℕ) (before : List Content) (m : Content) (others : List Content)
    → AreOctets piece → EarHoldsNone ear → completes ear piece ≡ before ++ m ∷ others
    → (front behind : List ℕ) × (piece ≡ front ++ behind) × (completes ear front ≡ before ++ m ∷ [])
heard_front law (in_burst burst) piece before m others o none is = absurd none
heard_front law (in_stream held) piece before m others o none is =
    let f = front_upto law held piece before m others o none is in (f.front, f.behind, f.parts, f.completes)

abbrev pub Whatever : List Turn → Type 0
Whatever turns = Unit {0}

pub is_left : (law : Reader) {can : Bool} {count : ℕ} {turns : List Turn} {hearing : Hearing} (s : Service)
    {answer : Result TurnsEnd DriveFault} (done : List Act) (steps : List HookStep) (port : ClockedPort) {reader : Progress}
    → EarHoldsNone s.ear → ServeEnding can count turns hearing s answer done steps port reader
    → IsLeft Whatever s done steps port
is_left law s done steps port none (by_itself e to serves is so at reads) =
    ended_left Whatever s done steps port e is tt at so
is_left law s done steps port none (cut_short aired to closed (in_listen is at airs) so) =
    broken_left Whatever s done steps port aired (fails ∷ []) is tt (sym at) refl airs so
is_left law s done steps port none (cut_short aired to closed (at_end front rest says is at airs) so) =
    broken_left Whatever s done steps port aired (brings silence ∷ sends front ∷ []) is tt (no_frame s.ear s.port none ∙ sym at) refl
    airs so
is_left law s done steps port none (cut_short aired to closed (in_answer piece before m others front rest o all reply is at airs) so) =
    let f = heard_front law s.ear piece before m others o none all in
    answer_left Whatever s done steps port aired piece before m front rest f.0 f.1 o reply is at airs so f.2 f.3 tt
