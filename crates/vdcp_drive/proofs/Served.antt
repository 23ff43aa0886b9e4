-- What a server's turns come to.
use Rattle.std.proofs.Common.{ℕ, ◌≡◌, ◌⊎◌, inl, inr, List, [], ◌∷◌, ◌++◌, refl, sym, ap, ap₂, ◌∙◌, append_assoc, append-nil}
use Rattle.std.specs.Option.{option_to_list}
use Rattle.std.specs.Prelude.{None}
use Rattle.vdcp_value.specs.declared.part.Item.{Item}
use Rattle.vdcp_frame.specs.Message.{Content}
use Rattle.vdcp_words.specs.declared.reply.Reply.{Reply}
use Rattle.vdcp_port.specs.Answers.{after_messages, aired_on_way, answer_bytes, answers_to, bytes_for, bytes_for_all, reply_bytes}
use Rattle.vdcp_port.specs.Clock.{ClockedPort, answer_to}
use Rattle.vdcp_port.specs.Port as slots
use Rattle.vdcp_wire.specs.Acts.{Act, sends}
use Rattle.vdcp_wire.specs.Wires.{bytes, silence, close}
use Rattle.vdcp_drive.specs.Below.{Below}
use Rattle.vdcp_drive.specs.Serving.{HookStep, Service, acts_of, airs_at, asked, hook_steps, items_in, last_aired, left_by, lent, replies, sending, turn_acts}
use Rattle.vdcp_drive.proofs.Serving as server
use Rattle.vdcp_drive.specs.Served.{HasMore, aired_at, sent_at}
use Rattle.vdcp_drive.specs.ServerEars.{completes}
use Rattle.vdcp_drive.specs.Traces.{came_in, sent_in}
use Rattle.vdcp_drive.specs.Turns.{Turn, listen, frame}
use Rattle.vdcp_drive.proofs.Tracing.{sent_both}

-- of at most one item the last one is all
last_of : (items : List Item) (cued : Item → Type 0) → (items ≡ []) ⊎ ((item : Item) × cued item × (items ≡ item ∷ []))
    → option_to_list (last_aired None items) ≡ items
last_of items cued (inl e) = ap (λ (l : List Item). option_to_list (last_aired None l)) e ∙ sym e
last_of items cued (inr e) = ap (λ (l : List Item). option_to_list (last_aired None l)) e.2 ∙ sym e.2

last_is_all : (law : Below) (p : ClockedPort) (ms : List Content)
    → option_to_list (last_aired None (aired_on_way p ms)) ≡ aired_on_way p ms
last_is_all law p ms = last_of (aired_on_way p ms) (λ item. p.state.cued ≡ slots.done item) (law.one p ms)

-- Bytes that go out.

pub sending_sent : (unit : ℕ) (all : List Reply) → sent_in (sending unit all) ≡ answer_bytes unit all
sending_sent unit [] = refl
sending_sent unit (r ∷ all) = ap (λ (l : List ℕ). reply_bytes unit r ++ l) (sending_sent unit all)

pub sending_came : (unit : ℕ) (all : List Reply) → came_in (sending unit all) ≡ []
sending_came unit [] = refl
sending_came unit (r ∷ all) = sending_came unit all

either : {A B C : Type 0} → (A → C) → (B → C) → A ⊎ B → C
either f h (inl a) = f a
either f h (inr b) = h b

-- At each moment.

abbrev pub head_or : Act → List Act → Act
head_or other [] = other
head_or other (act ∷ acts) = act

abbrev pub behind_first : List Act → List Act
behind_first [] = []
behind_first (act ∷ acts) = acts

pub no_front : {A : Type 0} (xs ys : List A) → xs ++ ys ≡ [] → xs ≡ []
no_front [] ys is = refl
no_front (x ∷ xs) ys is = cc

-- a beginning of two lists ends within the first one, or goes beyond it
pub split : (xs ys some behind : List Act) → xs ++ ys ≡ some ++ behind
    → ((zs : List Act) × (xs ≡ some ++ zs)) ⊎ ((zs : List Act) × (some ≡ xs ++ zs) × (ys ≡ zs ++ behind))
split [] ys some behind is = inr (some, refl, is)
split (x ∷ xs) ys [] behind is = inl (x ∷ xs, refl)
split (x ∷ xs) ys (a ∷ some) behind is =
    let same : x ≡ a = ap (head_or x) is in
    either (λ h. inl (h.0, ap₂ (λ (y : Act) (l : List Act). y ∷ l) same h.1))
    (λ h. inr (h.0, ap₂ (λ (y : Act) (l : List Act). y ∷ l) (sym same) h.1, h.2))
    (split xs ys some behind (ap behind_first is))

-- of the answers to messages, up to a beginning of one
pub front_sent : (law : Below) (q : ClockedPort) (ms : List Content) (m : Content) (others : List Content)
    (front rest : List ℕ) → bytes_for (after_messages q ms) m ≡ front ++ rest
    → (more : List ℕ) × (answer_bytes q.state.unit (answers_to q (ms ++ m ∷ others))
    ≡ sent_in (sending q.state.unit (answers_to q ms) ++ sends front ∷ []) ++ more)
front_sent law q ms m others front rest parts =
    let now : ClockedPort = after_messages q ms in
    let later : List ℕ = bytes_for_all (after_messages now (m ∷ [])) others in
    let out : List Act = sending q.state.unit (answers_to q ms) in
    let one : bytes_for_all now (m ∷ others) ≡ front ++ (rest ++ later) =
    law.sent now (m ∷ []) others
    ∙ ap (λ (l : List Reply). answer_bytes now.state.unit l ++ later) (append-nil (option_to_list (answer_to now m)))
    ∙ ap (λ (l : List ℕ). l ++ later) parts ∙ append_assoc front rest later in (
      rest ++ later,
      law.sent q ms (m ∷ others)
          ∙ ap₂ (λ (x y : List ℕ). x ++ y) (sym (sending_sent q.state.unit (answers_to q ms))) one
          ∙ sym (append_assoc (sent_in out) front (rest ++ later))
          ∙ ap (λ (l : List ℕ). l ++ (rest ++ later))
          (ap (λ (l : List ℕ). sent_in out ++ l) (sym (append-nil front)) ∙ sym (sent_both out (sends front ∷ []))),
    )

-- The items that went to air.

pub items_both : (xs ys : List HookStep) → items_in (xs ++ ys) ≡ items_in xs ++ items_in ys
items_both [] ys = refl
items_both (asked answer ∷ xs) ys = items_both xs ys
items_both (lent look ∷ xs) ys = simp (append_assoc, items_both xs ys)

-- One turn more, of any server.

turn_sent : (what : Turn) (s : Service) → sent_in (turn_acts what s) ≡ sent_at what s
turn_sent (listen what) s = sending_sent s.port.state.unit (replies what s)
turn_sent frame s = refl

turn_aired : (law : Below) (what : Turn) (s : Service) → option_to_list (airs_at what s) ≡ aired_at what s
turn_aired law (listen (bytes piece)) s = last_is_all law s.port (completes s.ear piece)
turn_aired law (listen silence) s = refl
turn_aired law (listen close) s = refl
turn_aired law frame s = refl

pub has_more : (law : Below) (s : Service) (turns : List Turn) (what : Turn) → HasMore s turns what
has_more law s turns what =
    let t : Service = left_by s turns in record {
      sent = ap sent_in (server.acts_both s turns (what ∷ [])) ∙ sent_both (acts_of s turns) (acts_of t (what ∷ []))
          ∙ ap (λ (l : List Act). sent_in (acts_of s turns) ++ sent_in l) (append-nil (turn_acts what t))
          ∙ ap (λ (l : List ℕ). sent_in (acts_of s turns) ++ l) (turn_sent what t);
      aired = ap items_in (server.steps_both s turns (what ∷ [])) ∙ items_both (hook_steps s turns) (hook_steps t (what ∷ []))
          ∙ ap (λ (l : List Item). items_in (hook_steps s turns) ++ l)
          (append-nil (option_to_list (airs_at what t)) ∙ turn_aired law what t);
      left = server.left_both s turns (what ∷ []);
    }
