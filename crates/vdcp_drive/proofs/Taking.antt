-- What a server took of a burst, by one call of next after another.
use Rattle.std.proofs.Common.{ℕ, ◌≡◌, ◌<◌, ◌≤◌, ◌+◌, get_or, List, [], ◌∷◌, ◌++◌, take, drop, length, refl, sym, ap, subst, ◌∙◌, append_assoc, append-nil, arith, length-append}
use Rattle.std.proofs.Math.Seq.{drop-append_seam}
use Rattle.std.proofs.lemmas.Grind.{common_steps}
use Rattle.std.proofs.lemmas.List.{length-take, map-append, take-append-drop}
use Rattle.std.proofs.lemmas.List.Elements.{All-append, All-drop, All-from_get_or, All-take}
use Rattle.std.specs.Option.{option_to_list}
use Rattle.std.specs.Prelude.{Option, Some, Result, Ok, Err, OnErr, min}
use Rattle.vdcp_value.specs.declared.part.Item.{Item}
use Rattle.vdcp_frame.specs.Burst.{messages_of, end_of}
use Rattle.vdcp_frame.specs.Message.{Content, AreOctets}
use Rattle.vdcp_frame.specs.Pieces.{ReadsOn, with_message}
use Rattle.vdcp_frame.specs.Progress.{Progress, reading}
use Rattle.vdcp_frame.specs.Reader.{Answer, message, more, wrong, Follows}
use Rattle.vdcp_frame.specs.declared.message.Fault.{Fault}
use Rattle.vdcp_frame.specs.Reading.{Reads, ReadsShort, burst_limit}
use Rattle.vdcp_words.specs.declared.reply.Reply.{Reply}
use Rattle.vdcp_port.specs.Answers.{after_messages, aired_on_way, answers_to, bytes_for, items_for, reply_bytes}
use Rattle.vdcp_port.specs.Clock.{after_message, answer_to, ClockedPort}
use Rattle.vdcp_wire.specs.Acts.{Act, sends, OfFront}
use Rattle.vdcp_drive.specs.Below.{Below}
use Rattle.vdcp_drive.specs.ServeLeaves.{HasBroken, HasTaken}
use Rattle.vdcp_drive.specs.Steps.{Chain}
use Rattle.vdcp_drive.specs.ServerEars.{ServerEar, HasRead, completed, completes, in_burst, in_stream, takes}
use Rattle.vdcp_drive.specs.HearingLaws.{completed_both, held_both}
use Rattle.vdcp_drive.specs.Reading.{held_by}
use Rattle.vdcp_drive.specs.Serving.{last_aired, sending}
use Rattle.vdcp_drive.specs.declared.hearing.Hearing.{Hearing}
use Rattle.vdcp_drive.specs.declared.hearing.Hearing.TheVariants.{AtSilences, AtOnce}
use Rattle.vdcp_drive.proofs.Completing.{HasTold, octets_front, renewed, told_by}
use Rattle.vdcp_drive.proofs.Chains.{chain_both}

-- Messages.

pub completed_so : (burst piece : List ℕ) (ns : List Content) → messages_of (burst ++ piece) ≡ messages_of burst ++ ns
    → completed burst piece ≡ ns
completed_so burst piece ns is =
    ap (drop (length (messages_of burst))) is ∙ drop-append_seam (messages_of burst) ns

front_within : (whole rest bytes : List ℕ) → take burst_limit bytes ≡ whole ++ rest → length whole ≤ burst_limit
front_within whole rest bytes is =
    let n : length (take burst_limit bytes) ≡ length whole + length rest =
    ap length is ∙ length-append whole rest in
    let m : length (take burst_limit bytes) ≡ min burst_limit (length bytes) = length-take burst_limit bytes in
    let few : min burst_limit (length bytes) ≤ burst_limit = grind (arith, common_steps) in omega (arith, n, m, few)

-- more bytes complete more messages
messages_grow : (law : Below) (burst piece : List ℕ) → AreOctets burst → AreOctets (burst ++ piece)
    → messages_of (burst ++ piece) ≡ messages_of burst ++ completed burst piece
messages_grow law burst piece fits both =
    let r : Reads burst (messages_of burst) (end_of burst) = law.some burst fits in
    let f : ReadsShort (take burst_limit burst) (messages_of burst) r.short = r.front in
    let more : List ℕ = f.remainder ++ (drop burst_limit burst ++ piece) in
    let same : burst ++ piece ≡ f.whole ++ more =
    ap (λ (l : List ℕ). l ++ piece) (sym (take-append-drop burst_limit burst)) ∙ rw f.parts (simp append_assoc) in
    let o = law.first (messages_of burst) (messages_of (burst ++ piece)) f.whole more (end_of (burst ++ piece)) f.spelt
    (front_within f.whole f.remainder burst f.parts)
    (subst (λ (l : List ℕ). Reads l (messages_of (burst ++ piece)) (end_of (burst ++ piece))) same
    (law.some (burst ++ piece) both)) in
    o.1 ∙ ap (λ (l : List Content). messages_of burst ++ l) (sym (completed_so burst piece o.0 o.1))

burst_both : (law : Below) (burst xs ys : List ℕ) → AreOctets burst → AreOctets (burst ++ xs)
    → AreOctets ((burst ++ xs) ++ ys) → completed burst (xs ++ ys) ≡ completed burst xs ++ completed (burst ++ xs) ys
burst_both law burst xs ys a b c =
    completed_so burst (xs ++ ys) (completed burst xs ++ completed (burst ++ xs) ys)
    (ap messages_of (sym (append_assoc burst xs ys))
    ∙ messages_grow law (burst ++ xs) ys b c
    ∙ ap (λ (l : List Content). l ++ completed (burst ++ xs) ys) (messages_grow law burst xs a b)
    ∙ append_assoc (messages_of burst) (completed burst xs) (completed (burst ++ xs) ys))

completed_none : (burst : List ℕ) → completed burst [] ≡ []
completed_none burst =
    completed_so burst [] [] (ap messages_of (append-nil burst) ∙ sym (append-nil (messages_of burst)))

-- The ears.

-- its bytes are bytes
abbrev pub IsFit : ServerEar → Type 0
IsFit (in_burst burst) = AreOctets burst
IsFit (in_stream held) = Unit {0}

pub fit : (hearing : Hearing) (ear : ServerEar) (reader : Progress) → HasRead hearing ear reader → IsFit ear
fit AtSilences (in_burst burst) reader h = h.octets
fit AtSilences (in_stream held) reader h = absurd h
fit AtOnce (in_burst burst) reader h = absurd h
fit AtOnce (in_stream held) reader h = tt

fit_more : (ear : ServerEar) (xs : List ℕ) → IsFit ear → AreOctets xs → IsFit (takes ear xs)
fit_more (in_burst burst) xs h fits = All-append (λ x. x < 256) burst xs h fits
fit_more (in_stream held) xs h fits = tt

completes_none : (ear : ServerEar) → completes ear [] ≡ []
completes_none (in_burst burst) = completed_none burst
completes_none (in_stream held) = refl

takes_none : (ear : ServerEar) → takes ear [] ≡ ear
takes_none (in_burst burst) = ap in_burst (append-nil burst)
takes_none (in_stream held) = refl

pub completes_both : (law : Below) (ear : ServerEar) (xs ys : List ℕ) → IsFit ear → AreOctets xs → AreOctets ys
    → completes ear (xs ++ ys) ≡ completes ear xs ++ completes (takes ear xs) ys
completes_both law (in_burst burst) xs ys h fits fit₂ =
    let b : AreOctets (burst ++ xs) = All-append (λ x. x < 256) burst xs h fits in
    burst_both law burst xs ys h b (All-append (λ x. x < 256) (burst ++ xs) ys b fit₂)
completes_both law (in_stream held) xs ys h fits fit₂ = completed_both held xs ys

takes_both : (ear : ServerEar) (xs ys : List ℕ) → takes ear (xs ++ ys) ≡ takes (takes ear xs) ys
takes_both (in_burst burst) xs ys = ap in_burst (sym (append_assoc burst xs ys))
takes_both (in_stream held) xs ys = ap in_stream (held_both held xs ys)

-- One call of next.

-- where it leaves the reader: in a stream it begins anew behind each message
abbrev pub left : Hearing → Answer → Progress → Progress
left AtSilences answer new = new
left AtOnce answer new = renewed answer new

record Called (hearing : Hearing) (ear : ServerEar) (piece : List ℕ) (ms : List Content) (reader' : Progress) : Type 0 where
  messages : completes ear piece ≡ ms
  has_read : HasRead hearing (takes ear piece) reader'

called : (law : Below) (hearing : Hearing) (ear : ServerEar) (reader new : Progress) (rest behind : List ℕ) (answer : Answer)
    → HasRead hearing ear reader → (r : ReadsOn reader rest answer behind new) → AreOctets (take r.count rest)
    → Called hearing ear (take r.count rest) (with_message answer []) (left hearing answer new)
called law AtSilences (in_burst burst) reader new rest behind answer h r fits =
    let piece : List ℕ = take r.count rest in
    let octets : AreOctets (burst ++ piece) = All-append (λ x. x < 256) burst piece h.octets fits in
    let f : Follows (burst ++ piece) (messages_of burst ++ with_message answer []) new =
    r.follows burst (messages_of burst) h.follows in
    let same : messages_of burst ++ with_message answer [] ≡ messages_of (burst ++ piece) =
    law.messages (burst ++ piece) (messages_of burst ++ with_message answer []) new octets f in record {
      messages = completed_so burst piece (with_message answer []) (sym same);
      has_read = record { octets = octets; follows = subst (λ (l : List Content). Follows (burst ++ piece) l new) same f };
    }
called law AtSilences (in_stream held) reader new rest behind answer h r fits = absurd h
called law AtOnce (in_burst burst) reader new rest behind answer h r fits = absurd h
called law AtOnce (in_stream held) reader new rest behind answer h r fits =
    let t = told_by law reader rest r.count answer h.afoot fits r.gives
    (λ burst ms f. subst (Follows (burst ++ take r.count rest) (ms ++ with_message answer [])) r.after (r.follows burst ms f)) in
    let told : HasTold held (take r.count rest) (held_by (renewed answer new)) (with_message answer []) =
    rw (h.is, r.after) t.0 in record {
      messages = told.gives;
      has_read = record { is = sym told.takes; afoot = rw r.after t.1 };
    }

-- Items and replies.

pub last_of_both : (o : Option Item) (xs ys : List Item) → last_aired (last_aired o xs) ys ≡ last_aired o (xs ++ ys)
last_of_both o [] ys = refl
last_of_both o (x ∷ xs) ys = last_of_both (Some x) xs ys

aired_both : (law : Below) (port : ClockedPort) (ms ns : List Content) (o : Option Item)
    → last_aired (last_aired o (aired_on_way port ms)) (aired_on_way (after_messages port ms) ns)
    ≡ last_aired o (aired_on_way port (ms ++ ns))
aired_both law port ms ns o =
    last_of_both o (aired_on_way port ms) (aired_on_way (after_messages port ms) ns)
    ∙ ap (last_aired o) (sym (law.aired port ms ns))

pub sending_both : (unit : ℕ) (xs ys : List Reply) → sending unit (xs ++ ys) ≡ sending unit xs ++ sending unit ys
sending_both unit xs ys = map-append (λ (reply : Reply). sends (reply_bytes unit reply)) xs ys

answering_both : (law : Below) (port : ClockedPort) (ms ns : List Content)
    → sending port.state.unit (answers_to port ms)
    ++ sending (after_messages port ms).state.unit (answers_to (after_messages port ms) ns)
    ≡ sending port.state.unit (answers_to port (ms ++ ns))
answering_both law port ms ns =
    rw (
      law.unit port ms,
      law.answers port ms ns,
      sending_both port.state.unit (answers_to port ms) (answers_to (after_messages port ms) ns),
    ) refl

-- The part of a piece that is read, and the part that is left.

pub parts_on : (piece front rest left : List ℕ) (count : ℕ) → piece ≡ front ++ rest → left ≡ drop count rest
    → piece ≡ (front ++ take count rest) ++ left
parts_on piece front rest left count parts leaves = rw (parts, leaves) (simp (append_assoc, take-append-drop))

pub fitting : (piece : List ℕ) → ((i : ℕ) → get_or piece i 0 < 256) → AreOctets piece
fitting piece h = All-from_get_or (λ b. b < 256) piece 0 (λ i _. h i)

octets_rest : (piece front rest : List ℕ) → piece ≡ front ++ rest → AreOctets piece → AreOctets rest
octets_rest piece front rest is h =
    subst AreOctets (ap (drop (length front)) is ∙ drop-append_seam front rest)
    (All-drop (λ b. b < 256) (length front) piece h)

pub on_err_of : {T E P : Type 0} (r : Result T E) → P → OnErr r P
on_err_of (Ok x) p = tt
on_err_of (Err e) p = p

-- The reader behind a call, by how the server hears.

pub left_once : (hearing : Hearing) (m : Content) (new : Progress) → hearing ≡ AtOnce
    → left hearing (message m) new ≡ reading 0 []
left_once AtSilences m new is = cc
left_once AtOnce m new is = refl

pub left_on : (hearing : Hearing) (answer : Answer) (new : Progress) → (hearing ≡ AtOnce → ⊥) → left hearing answer new ≡ new
left_on AtSilences answer new is = refl
left_on AtOnce answer new is = absurd (is refl)

pub left_more : (hearing : Hearing) (new : Progress) → left hearing more new ≡ new
left_more AtSilences new = refl
left_more AtOnce new = refl

pub left_wrong : (hearing : Hearing) (which : Fault) (place : ℕ) (new : Progress) → left hearing (wrong which place) new ≡ new
left_wrong AtSilences which place new = refl
left_wrong AtOnce which place new = refl

-- What was taken of a piece so far, and answered.
pub record IsTaken {W : Type 0} (does : Act → W → W → Type 0) (hearing : Hearing) (port₀ : ClockedPort) (reader₀ : Progress)
    (aired₀ : Option Item) (wire₀ : W) (piece rest : List ℕ) (port : ClockedPort) (reader : Progress) (aired : Option Item)
    (wire : W) : Type 0 where
  pub front : List ℕ
  pub parts : piece ≡ front ++ rest
  pub taken : (ear : ServerEar) → HasRead hearing ear reader₀
      → HasTaken does hearing (record { port = port₀; ear = ear }) aired₀ wire₀ front port reader aired wire

pub begins_so : {W : Type 0} (does : Act → W → W → Type 0) (hearing : Hearing) (port : ClockedPort) (reader : Progress)
    (aired : Option Item) (wire : W) (piece : List ℕ) → IsTaken does hearing port reader aired wire piece piece port reader aired wire
begins_so does hearing port reader aired wire piece = record {
  front = [];
  parts = refl;
  taken = λ ear h. record {
    has_read = subst (λ (e : ServerEar). HasRead hearing e reader) (sym (takes_none ear)) h;
    port_is = sym (ap (after_messages port) (completes_none ear));
    aired_is = sym (ap (λ (l : List Content). last_aired aired (aired_on_way port l)) (completes_none ear));
    sent = subst (λ (l : List Content). Chain does (sending port.state.unit (answers_to port l)) wire wire)
        (sym (completes_none ear)) refl;
  };
}

pub goes_further : {W : Type 0} {does : Act → W → W → Type 0} {hearing : Hearing} {port₀ port₁ port₂ : ClockedPort}
    {reader₀ reader₁ reader₂ : Progress} {aired₀ aired₁ aired₂ : Option Item} {wire₀ wire₁ wire₂ : W}
    {piece rest later : List ℕ} {answer : Answer} (law : Below) (reader' : Progress) → AreOctets piece
    → IsTaken does hearing port₀ reader₀ aired₀ wire₀ piece rest port₁ reader₁ aired₁ wire₁
    → ReadsOn reader₁ rest answer later reader₂ → left hearing answer reader₂ ≡ reader'
    → port₂ ≡ after_messages port₁ (with_message answer [])
    → aired₂ ≡ last_aired aired₁ (aired_on_way port₁ (with_message answer []))
    → Chain does (sending port₁.state.unit (answers_to port₁ (with_message answer []))) wire₁ wire₂
    → IsTaken does hearing port₀ reader₀ aired₀ wire₀ piece later port₂ reader' aired₂ wire₂
goes_further {W} {does} {hearing} {port₀} {port₁} {port₂} {reader₀} {reader₁} {reader₂} {aired₀} {aired₁} {aired₂} {wire₀}
    {wire₁} {wire₂} {piece} {rest} {later} {answer} law reader' fits h r is leaves puts sent =
    let ns : List Content = with_message answer [] in
    let more : List ℕ = take r.count rest in
    let some : AreOctets more = All-take (λ b. b < 256) r.count rest (octets_rest piece h.front rest h.parts fits) in
    let before : AreOctets h.front = octets_front h.front rest (subst AreOctets h.parts fits) in record {
      front = h.front ++ more;
      parts = parts_on piece h.front rest later r.count h.parts r.leaves;
      taken = λ ear read.
          let a = h.taken ear read in
          let c : List Content = completes ear h.front in
          let q : ClockedPort = after_messages port₀ c in
          let m : Called hearing (takes ear h.front) more ns (left hearing answer reader₂) =
          called law hearing (takes ear h.front) reader₁ reader₂ rest later answer a.has_read r some in
          let all : completes ear (h.front ++ more) ≡ c ++ ns =
          completes_both law ear h.front more (fit hearing ear reader₀ read) before some
          ∙ ap (λ (l : List Content). c ++ l) m.messages in
          record {
            has_read = rw (takes_both ear h.front more, ← is) m.has_read;
            port_is = rw (leaves, a.port_is, all, law.next port₀ c ns) refl;
            aired_is = rw (puts, a.aired_is, a.port_is, all) (aired_both law port₀ c ns aired₀);
            sent = rw (all, ← answering_both law port₀ c ns)
                (chain_both does (sending port₀.state.unit (answers_to port₀ c)) (sending q.state.unit (answers_to q ns))
                wire₀ wire₁ wire₂ a.sent (rw a.port_is at sent));
          };
    }

-- a message was answered
pub answers_further : {W : Type 0} {does : Act → W → W → Type 0} {hearing : Hearing} {port₀ port₁ port₂ : ClockedPort}
    {reader₀ reader₁ reader₂ : Progress} {aired₀ aired₁ aired₂ : Option Item} {wire₀ wire₁ wire₂ : W}
    {piece rest later : List ℕ} {m : Content} (law : Below)
    (one : (p : ClockedPort) (n : Content) → aired_on_way p (n ∷ []) ≡ items_for p n) (reader' : Progress)
    → AreOctets piece → IsTaken does hearing port₀ reader₀ aired₀ wire₀ piece rest port₁ reader₁ aired₁ wire₁
    → ReadsOn reader₁ rest (message m) later reader₂ → left hearing (message m) reader₂ ≡ reader'
    → port₂ ≡ after_message port₁ m → aired₂ ≡ last_aired aired₁ (items_for port₁ m)
    → Chain does (sending port₁.state.unit (option_to_list (answer_to port₁ m))) wire₁ wire₂
    → IsTaken does hearing port₀ reader₀ aired₀ wire₀ piece later port₂ reader' aired₂ wire₂
answers_further {W} {does} {hearing} {port₀} {port₁} {port₂} {reader₀} {reader₁} {reader₂} {aired₀} {aired₁} {aired₂} {wire₀}
    {wire₁} {wire₂} {piece} {rest} {later} {m} law one reader' fits h r is leaves puts sent =
    goes_further law reader' fits h r is leaves
    (puts ∙ ap (λ (items : List Item). last_aired aired₁ items) (sym (one port₁ m)))
    (subst (λ (l : List Reply). Chain does (sending port₁.state.unit l) wire₁ wire₂)
    (sym (append-nil (option_to_list (answer_to port₁ m)))) sent)

pub breaks_off : {W : Type 0} {does : Act → W → W → Type 0} {hearing : Hearing} {port₀ port₁ port₂ : ClockedPort}
    {reader₀ reader₁ reader₂ : Progress} {aired₀ aired₁ aired₂ : Option Item} {wire₀ wire₁ wire₂ : W}
    {piece rest later : List ℕ} {m : Content} (law : Below)
    (one : (p : ClockedPort) (n : Content) → aired_on_way p (n ∷ []) ≡ items_for p n) → AreOctets piece
    → IsTaken does hearing port₀ reader₀ aired₀ wire₀ piece rest port₁ reader₁ aired₁ wire₁
    → ReadsOn reader₁ rest (message m) later reader₂
    → port₂ ≡ after_message port₁ m → aired₂ ≡ last_aired aired₁ (items_for port₁ m)
    → OfFront (bytes_for port₁ m) (λ b. does (sends b) wire₁ wire₂) → (ear : ServerEar) → HasRead hearing ear reader₀
    → HasBroken does (record { port = port₀; ear = ear }) aired₀ wire₀ piece port₂ aired₂ wire₂
breaks_off {W} {does} {hearing} {port₀} {port₁} {port₂} {reader₀} {reader₁} {reader₂} {aired₀} {aired₁} {aired₂} {wire₀}
    {wire₁} {wire₂} {piece} {rest} {later} {m} law one fits h r leaves puts sent ear read =
    let all : AreOctets rest = octets_rest piece h.front rest h.parts fits in
    let before : AreOctets h.front = octets_front h.front rest (subst AreOctets h.parts fits) in
    let some : AreOctets (take r.count rest) = All-take (λ b. b < 256) r.count rest all in
    let fit₂ : AreOctets later = subst AreOctets (sym r.leaves) (All-drop (λ b. b < 256) r.count rest all) in
    let more : List ℕ = take r.count rest in
    let begun : IsFit ear = fit hearing ear reader₀ read in
    let a = h.taken ear read in
    let c : List Content = completes ear h.front in
    let w : Called hearing (takes ear h.front) more (m ∷ []) (left hearing (message m) reader₂) =
    called law hearing (takes ear h.front) reader₁ reader₂ rest later (message m) a.has_read r some in
    let others : List Content = completes (takes (takes ear h.front) more) later in
    let parts : rest ≡ more ++ later = sym (ap (λ (l : List ℕ). more ++ l) r.leaves ∙ take-append-drop r.count rest) in
    record {
      before = c;
      last = m;
      others = others;
      messages = ap (completes ear) (h.parts ∙ ap (λ (l : List ℕ). h.front ++ l) parts)
          ∙ completes_both law ear h.front (more ++ later) begun before (All-append (λ x. x < 256) more later some fit₂)
          ∙ ap (λ (l : List Content). c ++ l) (completes_both law (takes ear h.front) more later
          (fit_more ear h.front begun before) some fit₂ ∙ ap (λ (l : List Content). l ++ others) w.messages);
      port_is = rw (leaves, a.port_is, law.next port₀ c (m ∷ [])) refl;
      aired_is = rw (puts, ← one port₁ m, a.aired_is, a.port_is) (aired_both law port₀ c (m ∷ []) aired₀);
      sent = record {
        front = sent.front;
        rest = sent.rest;
        parts = ap (λ (p : ClockedPort). bytes_for p m) (sym a.port_is) ∙ sent.parts;
        is_so = chain_both does (sending port₀.state.unit (answers_to port₀ c)) (sends sent.front ∷ []) wire₀ wire₁ wire₂
            a.sent (wire₂, sent.is_so, refl);
      };
    }

-- nothing is left
pub is_whole : {W : Type 0} {does : Act → W → W → Type 0} {hearing : Hearing} {port₀ port : ClockedPort}
    {reader₀ reader : Progress} {aired₀ aired : Option Item} {wire₀ wire : W} {piece rest : List ℕ}
    → IsTaken does hearing port₀ reader₀ aired₀ wire₀ piece rest port reader aired wire → rest ≡ [] → (ear : ServerEar)
    → HasRead hearing ear reader₀
    → HasTaken does hearing (record { port = port₀; ear = ear }) aired₀ wire₀ piece port reader aired wire
is_whole {W} {does} {hearing} {port₀} {port} {reader₀} {reader} {aired₀} {aired} {wire₀} {wire} {piece} {rest} h none ear read =
    subst (λ (b : List ℕ). HasTaken does hearing (record { port = port₀; ear = ear }) aired₀ wire₀ b port reader aired wire)
    (sym (simp (none, append-nil) at h.parts)) (h.taken ear read)
