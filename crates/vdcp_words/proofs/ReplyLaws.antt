-- A message is read as one reply, or has one fault, and what was written is read.
use Rattle.std.proofs.Common.{◌≡◌, ◌≤◌, ◌∙◌, ℕ, true, false, List, [], ◌∷◌, length, take, refl, sym, ap, arith, length-take}
use Rattle.std.proofs.lemmas.Bool.{eq-eqb, ne_eqb}
use Rattle.std.specs.Prelude.{Some, None, Result, Ok, Err}
use Rattle.std.proofs.lemmas.List.{take_all}
use Rattle.vdcp_value.specs.Ids.{id_bytes}
use Rattle.vdcp_value.specs.declared.clip_id.ClipId.{ClipId}
use Rattle.vdcp_frame.specs.Message.{Content, ack, nak, framed}
use Rattle.vdcp_words.specs.declared.reply.Reply.{Reply}
use Rattle.vdcp_words.specs.declared.reply.Reply.TheVariants.{Ack, Nak, Opened, State, Active, Present, Size}
use Rattle.vdcp_words.specs.declared.fault.WordFault.{WordFault}
use Rattle.vdcp_words.specs.declared.fault.WordFault.TheVariants.{NotCommand, Unknown, Length}
use Rattle.vdcp_words.specs.Messages.{unit_of, IsFramed, SameCode}
use Rattle.vdcp_words.proofs.Values.{length_of_bytes, length_of_id}
use Rattle.vdcp_words.specs.LawsBelow.{ValueLaws}
use Rattle.vdcp_words.specs.Replies.{reply_message, IsReadFrom, IsReply, IsWritableReply, IsUnknownReply, IsShortReply, ReadsReply, bytes_named}

-- a reply is read from its own message
pub reply_written : ValueLaws → (unit : ℕ) (reply : Reply) → IsWritableReply reply →
    IsReply (reply_message unit reply) reply
reply_written v unit Ack w = refl
reply_written v unit (Nak byte) w = refl
reply_written v unit (Opened true) w = ((refl, refl), refl)
reply_written v unit (Opened false) w = ((refl, refl), refl)
reply_written v unit (State bitmap None) w = ((refl, refl), (refl, w.1))
reply_written v unit (State bitmap (Some state)) w = ((refl, refl), (refl, w.1, refl))
reply_written v unit (Active None) w = ((refl, refl), refl)
reply_written v unit (Active (Some id)) w =
    ((refl, refl), (omega arith, sym (take_all 8 (id_bytes id) (omega (arith, length_of_id v id)))))
reply_written v unit (Size time) w =
    let size = length_of_bytes v 4 time w in
    ((refl, refl), (omega (arith, size), sym (take_all 4 time (omega (arith, size)))))
reply_written v unit (Present true) w = ((refl, refl), refl)
reply_written v unit (Present false) w = ((refl, refl), refl)

-- ---- one reading

-- the code of a reply that has one
abbrev code_of : Reply → ℕ
code_of Ack = 0
code_of (Nak byte) = 0
code_of (Opened granted) = 0x81
code_of (State bitmap state) = 0x85
code_of (Active playing) = 0x87
code_of (Size time) = 0x94
code_of (Present there) = 0x96

same_code_of : (kind unit code : ℕ) (rest : List ℕ) (reply : Reply) →
    SameCode (framed kind unit code rest) (reply_message 0 reply) → code_of reply ≡ code
same_code_of kind unit code rest Ack h = absurd h
same_code_of kind unit code rest (Nak byte) h = absurd h
same_code_of kind unit code rest (State bitmap None) h = h.1
same_code_of kind unit code rest (Active None) h = h.1
same_code_of kind unit code rest other h = h.1

same_id_read : ValueLaws → (i j : ClipId) (more : List ℕ) → id_bytes i ≡ take 8 more → id_bytes j ≡ take 8 more →
    Active (Some i) ≡ Active (Some j)
same_id_read v i j more p q = ap (λ (id : ClipId). Active (Some id)) (v.one i j (p ∙ sym q))

-- replies of one code that are read from one list are one reply
same_reply : ValueLaws → (a b : Reply) (rest : List ℕ) → code_of a ≡ code_of b → IsReadFrom a rest →
    IsReadFrom b rest → a ≡ b
same_reply v Ack b rest e p q = absurd p
same_reply v (Nak byte) b rest e p q = absurd p
same_reply v (Opened x) (Opened y) (first ∷ more) e p q = ap Opened (p ∙ sym q)
same_reply v (Opened x) (Opened y) [] e p q = absurd p
same_reply v (State x None) (State y None) (bitmap ∷ more) e p q = ap (λ (bits : ℕ). State bits None) (p.0 ∙ sym q.0)
same_reply v (State x None) (State y None) [] e p q = absurd p
same_reply v (State x None) (State y (Some t)) (bitmap ∷ byte ∷ more) e p q = absurd cc
same_reply v (State x None) (State y (Some t)) (bitmap ∷ []) e p q = absurd q
same_reply v (State x None) (State y (Some t)) [] e p q = absurd p
same_reply v (State x (Some s)) (State y None) (bitmap ∷ byte ∷ more) e p q = absurd cc
same_reply v (State x (Some s)) (State y None) (bitmap ∷ []) e p q = absurd p
same_reply v (State x (Some s)) (State y None) [] e p q = absurd p
same_reply v (State x (Some s)) (State y (Some t)) (bitmap ∷ byte ∷ more) e p q = cc
same_reply v (State x (Some s)) (State y (Some t)) (bitmap ∷ []) e p q = absurd p
same_reply v (State x (Some s)) (State y (Some t)) [] e p q = absurd p
same_reply v (Active None) (Active None) rest e p q = refl
same_reply v (Active None) (Active (Some j)) (first ∷ more) e p q = absurd (q.0 p)
same_reply v (Active None) (Active (Some j)) [] e p q = absurd p
same_reply v (Active (Some i)) (Active None) (first ∷ more) e p q = absurd (p.0 q)
same_reply v (Active (Some i)) (Active None) [] e p q = absurd p
same_reply v (Active (Some i)) (Active (Some j)) (first ∷ more) e p q = same_id_read v i j more p.1 q.1
same_reply v (Active (Some i)) (Active (Some j)) [] e p q = absurd p
same_reply v (Size x) (Size y) rest e p q = ap Size (p.1 ∙ sym q.1)
same_reply v (Present x) (Present y) (first ∷ more) e p q = ap Present (p ∙ sym q)
same_reply v (Present x) (Present y) [] e p q = absurd p
same_reply v a Ack rest e p q = absurd q
same_reply v a (Nak byte) rest e p q = absurd q
same_reply v a b rest e p q = absurd (omega (arith, e))

one_of_two : ValueLaws → (m : Content) (a b : Reply) → IsReply m a → IsReply m b → a ≡ b
one_of_two v ack a b p q = p ∙ sym q
one_of_two v (nak byte) a b p q = p ∙ sym q
one_of_two v (framed kind unit code rest) a b p q =
    same_reply v a b rest (same_code_of kind unit code rest a p.0 ∙ sym (same_code_of kind unit code rest b q.0)) p.1
    q.1

not_unknown : (m : Content) (a : Reply) → IsReply m a → IsUnknownReply m → ⊥
not_unknown ack a p q = q.is_framed
not_unknown (nak byte) a p q = q.is_framed
not_unknown (framed kind unit code rest) a p q = q.no_code a p.0

-- a reply is read from as many bytes as it names
enough : ValueLaws → (reply : Reply) (bytes : List ℕ) → IsReadFrom reply bytes → bytes_named reply bytes ≤ length bytes
enough v Ack bytes h = absurd h
enough v (Nak byte) bytes h = absurd h
enough v (Opened granted) (first ∷ more) h = omega arith
enough v (Opened granted) [] h = absurd h
enough v (State bits None) (bitmap ∷ more) h = rw h.1 (omega arith)
enough v (State bits None) [] h = absurd h
enough v (State bits (Some state)) (bitmap ∷ byte ∷ more) h = rw h.1 (omega arith)
enough v (State bits (Some state)) (bitmap ∷ []) h = absurd h
enough v (State bits (Some state)) [] h = absurd h
enough v (Active None) (first ∷ more) h = rw (eq-eqb first 0 h) (omega arith)
enough v (Active None) [] h = absurd h
enough v (Active (Some id)) (first ∷ more) h =
    rw (ne_eqb first 0 h.0) (omega (arith, length_of_id v id, ap length h.1, length-take 8 more))
enough v (Active (Some id)) [] h = absurd h
enough v (Size time) bytes h = h.0
enough v (Present there) (first ∷ more) h = omega arith
enough v (Present there) [] h = absurd h

-- replies of one code name as many bytes
same_named : (a b : Reply) (bytes : List ℕ) → code_of a ≡ code_of b → bytes_named a bytes ≡ bytes_named b bytes
same_named Ack Ack bytes e = refl
same_named Ack (Nak byte) bytes e = refl
same_named (Nak byte) Ack bytes e = refl
same_named (Nak byte) (Nak other) bytes e = refl
same_named (Opened granted) (Opened other) bytes e = refl
same_named (State bits state) (State other byte) bytes e = refl
same_named (Active playing) (Active other) bytes e = refl
same_named (Size time) (Size other) bytes e = refl
same_named (Present there) (Present other) bytes e = refl
same_named a b bytes e = absurd (omega (arith, e))

not_short : ValueLaws → (m : Content) (a : Reply) → IsReply m a → IsShortReply m → ⊥
not_short v ack a p q = q.code
not_short v (nak byte) a p q = q.code
not_short v (framed kind unit code rest) a p q =
    let codes = same_code_of kind unit code rest a p.0 ∙ sym (same_code_of kind unit code rest q.reply q.code) in
    omega (arith, enough v a rest p.1, same_named a q.reply rest codes, q.short)

-- a message is read in one way
pub one_reply_reading : ValueLaws → (m : Content) (a b : Result Reply WordFault) → ReadsReply m a → ReadsReply m b →
    a ≡ b
one_reply_reading v m (Ok a) (Ok b) p q = ap Ok (one_of_two v m a b p q)
one_reply_reading v m (Ok a) (Err NotCommand) p q = absurd q
one_reply_reading v m (Ok a) (Err Unknown) p q = absurd (not_unknown m a p q)
one_reply_reading v m (Ok a) (Err Length) p q = absurd (not_short v m a p q)
one_reply_reading v m (Err NotCommand) b p q = absurd p
one_reply_reading v m (Err Unknown) (Ok b) p q = absurd (not_unknown m b q p)
one_reply_reading v m (Err Unknown) (Err NotCommand) p q = absurd q
one_reply_reading v m (Err Unknown) (Err Unknown) p q = refl
one_reply_reading v m (Err Unknown) (Err Length) p q = absurd (p.no_code q.reply q.code)
one_reply_reading v m (Err Length) (Ok b) p q = absurd (not_short v m b q p)
one_reply_reading v m (Err Length) (Err NotCommand) p q = absurd q
one_reply_reading v m (Err Length) (Err Unknown) p q = absurd (q.no_code p.reply p.code)
one_reply_reading v m (Err Length) (Err Length) p q = refl

-- a framed reply names the unit that it was written from
pub unit_of-reply : (unit : ℕ) (reply : Reply) → IsFramed (reply_message unit reply) →
    unit_of (reply_message unit reply) ≡ unit
unit_of-reply unit Ack h = absurd h
unit_of-reply unit (Nak byte) h = absurd h
unit_of-reply unit (State bitmap None) h = refl
unit_of-reply unit (Active None) h = refl
unit_of-reply unit other h = refl
