-- A command is what its message says: a message is read as one command, or has one fault.
use Rattle.std.proofs.Common.{◌≡◌, ◌∙◌, ℕ, ◌+◌, ◌*◌, List, ◌++◌, length, take, refl, sym, ap, subst, arith, length-append}
use Rattle.std.specs.Prelude.{Result, Ok, Err}
use Rattle.std.proofs.lemmas.List.{take_at, append_cancel_left}
use Rattle.vdcp_value.specs.Bytes.{AreBytes}
use Rattle.vdcp_value.specs.Ids.{id_bytes}
use Rattle.vdcp_value.specs.declared.clip_id.ClipId.{ClipId}
use Rattle.vdcp_frame.specs.Message.{Content, ack, nak, framed}
use Rattle.vdcp_words.specs.declared.command.Command.{Command}
use Rattle.vdcp_words.specs.declared.command.Command.TheVariants.{Open, Close, Select, PlayCue, CueData, Play, Stop, Status, ActiveId, IdRequest, IdSize}
use Rattle.vdcp_words.specs.declared.fault.WordFault.{WordFault}
use Rattle.vdcp_words.specs.declared.fault.WordFault.TheVariants.{NotCommand, Unknown, Length}
use Rattle.vdcp_words.specs.Messages.{unit_of, rest_of, IsReceipt, IsFramed, SameCode}
use Rattle.vdcp_words.proofs.Values.{length_of_bytes, length_of_id}
use Rattle.vdcp_words.specs.LawsBelow.{ValueLaws}
use Rattle.vdcp_words.specs.Commands.{command_message, IsWritableCommand, IsCommand, IsUnknownCommand, HasOtherLength, ReadsCommand}

-- type and code as one number
abbrev number_of : Content → ℕ
number_of ack = 0
number_of (nak byte) = 0
number_of (framed kind unit code rest) = 256 * kind + code

same_front : (a b x y : List ℕ) → length a ≡ length b → a ++ x ≡ b ++ y → (a ≡ b) × (x ≡ y)
same_front a b x y size e =
    let front : a ≡ b = sym (take_at a x (length a) refl) ∙ ap (take (length a)) e
    ∙ take_at b y (length a) (sym size) in
    (front, append_cancel_left a x y (e ∙ ap (λ (f : List ℕ). f ++ y) (sym front)))

same_cue : ValueLaws → (i j : ClipId) (s d t f : List ℕ) → AreBytes 4 s × AreBytes 4 d → AreBytes 4 t × AreBytes 4 f →
    id_bytes i ++ s ++ d ≡ id_bytes j ++ t ++ f → CueData i s d ≡ CueData j t f
same_cue v i j s d t f p q e =
    let s_size = length_of_bytes v 4 s p.0 in
    let t_size = length_of_bytes v 4 t q.0 in
    let fronts =
    same_front (id_bytes i ++ s) (id_bytes j ++ t) d f
    (omega (
      arith,
      length-append (id_bytes i) s,
      length-append (id_bytes j) t,
      length_of_id v i,
      length_of_id v j,
      s_size,
      t_size,
    )) e in
    let ids = same_front (id_bytes i) (id_bytes j) s t (omega (arith, length_of_id v i, length_of_id v j)) fronts.0 in
    let id_is : i ≡ j = v.one i j ids.0 in
    let s_is : s ≡ t = ids.1 in
    let d_is : d ≡ f = fronts.1 in
    cc

-- commands with one message are one command
pub same_command : ValueLaws → (unit : ℕ) (a b : Command) → IsWritableCommand a → IsWritableCommand b →
    command_message unit a ≡ command_message unit b → a ≡ b
same_command v unit Stop Stop p q e = refl
same_command v unit Play Play p q e = refl
same_command v unit (Close x) (Close y) p q e = cc
same_command v unit (Select x) (Select y) p q e = cc
same_command v unit (PlayCue i) (PlayCue j) p q e = ap PlayCue (v.one i j (ap rest_of e))
same_command v unit (CueData i s d) (CueData j t f) p q e = same_cue v i j s d t f p q (ap rest_of e)
same_command v unit (Open x k) (Open y l) p q e = cc
same_command v unit (Status x) (Status y) p q e = cc
same_command v unit ActiveId ActiveId p q e = refl
same_command v unit (IdSize i) (IdSize j) p q e = ap IdSize (v.one i j (ap rest_of e))
same_command v unit (IdRequest i) (IdRequest j) p q e = ap IdRequest (v.one i j (ap rest_of e))
same_command v unit a b p q e = absurd (omega (arith, ap number_of e))

-- a command is read from its own message
pub command_written : (unit : ℕ) (command : Command) → IsWritableCommand command →
    IsCommand (command_message unit command) command
command_written unit command writable = record { writable = writable; says = refl }

-- ---- one reading

same_length : ValueLaws → (unit other : ℕ) (a b : Command) → IsWritableCommand a → IsWritableCommand b →
    SameCode (command_message unit a) (command_message other b) →
    length (rest_of (command_message unit a)) ≡ length (rest_of (command_message other b))
same_length v unit other Stop Stop p q h = refl
same_length v unit other Play Play p q h = refl
same_length v unit other (Close x) (Close y) p q h = refl
same_length v unit other (Select x) (Select y) p q h = refl
same_length v unit other (PlayCue i) (PlayCue j) p q h = omega (arith, length_of_id v i, length_of_id v j)
same_length v unit other (CueData i s d) (CueData j t f) p q h =
    omega (
      arith,
      length-append (id_bytes i ++ s) d,
      length-append (id_bytes j ++ t) f,
      length-append (id_bytes i) s,
      length-append (id_bytes j) t,
      length_of_id v i,
      length_of_id v j,
      length_of_bytes v 4 s p.0,
      length_of_bytes v 4 d p.1,
      length_of_bytes v 4 t q.0,
      length_of_bytes v 4 f q.1,
    )
same_length v unit other (Open x k) (Open y l) p q h = refl
same_length v unit other (Status x) (Status y) p q h = refl
same_length v unit other ActiveId ActiveId p q h = refl
same_length v unit other (IdSize i) (IdSize j) p q h = omega (arith, length_of_id v i, length_of_id v j)
same_length v unit other (IdRequest i) (IdRequest j) p q h = omega (arith, length_of_id v i, length_of_id v j)
same_length v unit other a b p q h = absurd (omega (arith, h.0, h.1))

not_unknown : (m : Content) (a : Command) → IsCommand m a → IsUnknownCommand m → ⊥
not_unknown m a p q =
    q.no_code a (subst (λ (x : Content). SameCode x (command_message 0 a)) (sym p.says) (refl, refl))

not_other_length : ValueLaws → (m : Content) (a : Command) → IsCommand m a → HasOtherLength m → ⊥
not_other_length v m a p q =
    let code = subst (λ (x : Content). SameCode x (command_message 0 q.command)) p.says q.code in
    let size = same_length v (unit_of m) 0 a q.command p.writable q.writable code in
    q.other (ap (λ (x : Content). length (rest_of x)) p.says ∙ size)

not_receipt : (m : Content) (a : Command) → IsCommand m a → IsReceipt m → ⊥
not_receipt m a p q = subst IsReceipt p.says q

receipt_is_not_framed : (m : Content) → IsReceipt m → IsFramed m → ⊥
receipt_is_not_framed ack p q = q
receipt_is_not_framed (nak byte) p q = q
receipt_is_not_framed (framed kind unit code rest) p q = p

receipt_has_no_code : (m other : Content) → IsReceipt m → SameCode m other → ⊥
receipt_has_no_code ack other p q = q
receipt_has_no_code (nak byte) other p q = q
receipt_has_no_code (framed kind unit code rest) other p q = p

one_of_two : ValueLaws → (m : Content) (a b : Command) → IsCommand m a → IsCommand m b → a ≡ b
one_of_two v m a b p q = same_command v (unit_of m) a b p.writable q.writable (sym p.says ∙ q.says)

-- a message is read in one way
pub one_command_reading : ValueLaws → (m : Content) (a b : Result Command WordFault) → ReadsCommand m a →
    ReadsCommand m b → a ≡ b
one_command_reading v m (Ok a) (Ok b) p q = ap Ok (one_of_two v m a b p q)
one_command_reading v m (Ok a) (Err NotCommand) p q = absurd (not_receipt m a p q)
one_command_reading v m (Ok a) (Err Unknown) p q = absurd (not_unknown m a p q)
one_command_reading v m (Ok a) (Err Length) p q = absurd (not_other_length v m a p q)
one_command_reading v m (Err NotCommand) (Ok b) p q = absurd (not_receipt m b q p)
one_command_reading v m (Err NotCommand) (Err NotCommand) p q = refl
one_command_reading v m (Err NotCommand) (Err Unknown) p q = absurd (receipt_is_not_framed m p q.is_framed)
one_command_reading v m (Err NotCommand) (Err Length) p q =
    absurd (receipt_has_no_code m (command_message 0 q.command) p q.code)
one_command_reading v m (Err Unknown) (Ok b) p q = absurd (not_unknown m b q p)
one_command_reading v m (Err Unknown) (Err NotCommand) p q = absurd (receipt_is_not_framed m q p.is_framed)
one_command_reading v m (Err Unknown) (Err Unknown) p q = refl
one_command_reading v m (Err Unknown) (Err Length) p q = absurd (p.no_code q.command q.code)
one_command_reading v m (Err Length) (Ok b) p q = absurd (not_other_length v m b q p)
one_command_reading v m (Err Length) (Err NotCommand) p q =
    absurd (receipt_has_no_code m (command_message 0 p.command) q p.code)
one_command_reading v m (Err Length) (Err Unknown) p q = absurd (q.no_code p.command p.code)
one_command_reading v m (Err Length) (Err Length) p q = refl
