-- No field of a journal has a line feed.
use Rattle.hex.specs.Hex.{encode_lower, encode_with, lower_digits}
use Rattle.std.proofs.Common.{◌≡◌, ℕ, ◌+◌, ◌/◌, ◌%◌, ◌<◌, ◌^◌, zero, suc, Bool, true, false, List, [], ◌∷◌, ◌++◌, length, refl, ap, ◌∙◌, arith}
use Rattle.std.proofs.lemmas.Fmt.{decimal_by_steps}
use Rattle.std.proofs.lemmas.Bool.Decides.{nat_tests}
use Rattle.std.proofs.Math.Bool.{and-eq-true_iff}
use Rattle.std.specs.List.{flat_map, list_all}
use Rattle.std.specs.Prelude.{◌==◌, ◌&&◌, not, nat_le, Some, None, decimal, slice_index, codes}
use Rattle.std.proofs.Common.{inl, inr}
use Rattle.vdcp_auto.specs.declared.exchange.Heard.{Heard}
use Rattle.vdcp_auto.specs.declared.exchange.Heard.TheVariants as heard
use Rattle.vdcp_auto.specs.declared.list_call.ListCall.TheVariants.{Hold, Go, Skip}
use Rattle.vdcp_auto.specs.declared.outcome.Outcome.{Outcome}
use Rattle.vdcp_auto.specs.declared.outcome.Outcome.TheVariants.{Missing, Refused, Foreign, Strange}
use Rattle.vdcp_frame.specs.Message.{spelling}
use Rattle.vdcp_journal.proofs.CsvRows.{ArePlain}
use Rattle.vdcp_journal.proofs.HexTexts.{spelt_some}
use Rattle.vdcp_journal.proofs.Lines.{both-false, feed-append, has_feed, or-left, or-right}
use Rattle.vdcp_journal.specs.Reading.{IsWritableNote, IsWritableOutcome}
use Rattle.vdcp_journal.specs.Rows.{note_fields, outcome_fields}
use Rattle.vdcp_journal.specs.declared.row.Note.{Note}
use Rattle.vdcp_journal.specs.declared.row.Note.TheVariants as note
use Rattle.vdcp_value.specs.IdText.{IsTextOf, hex_digit, has_edge_space, hex_pair, is_plain_byte}
use Rattle.vdcp_value.specs.Ids.{id_bytes, text_of_id}
use Rattle.vdcp_value.specs.declared.clip_id.ClipId.{ClipId}
use Rattle.vdcp_words.specs.Commands.{command_message}
use Rattle.vdcp_words.specs.Replies.{reply_message}
use Rattle.vdcp_words.specs.Texts.{command_text, hex_text, reply_text}
use Rattle.vdcp_words.specs.declared.command.Command.{Command}
use Rattle.vdcp_words.specs.declared.command.Command.TheVariants.{Open, Close, Select, PlayCue, CueData, Play, Stop, Status, ActiveId, IdRequest, IdSize}
use Rattle.vdcp_words.specs.declared.reply.Reply.{Reply}
use Rattle.vdcp_words.specs.declared.reply.Reply.TheVariants.{Ack, Nak, Opened, State, Active, Present, Size}

-- what is known of an ID's text
abbrev pub IdTexts : Type 0
IdTexts = (id : ClipId) → IsTextOf (text_of_id id) (id_bytes id)

-- ---- digits

digit : (n : ℕ) → (hex_digit n == 10) ≡ false
digit n = grind (arith, nat_tests)

pair : (byte : ℕ) → has_feed (hex_pair byte) ≡ false
pair byte = both-false (hex_digit (byte / 16) == 10) (has_feed (hex_digit (byte % 16) ∷ [])) (digit (byte / 16))
    (both-false (hex_digit (byte % 16) == 10) false (digit (byte % 16)) refl)

pairs : (bytes : List ℕ) → has_feed (flat_map hex_pair bytes) ≡ false
pairs [] = refl
pairs (byte ∷ bytes) = feed-append (hex_pair byte) (flat_map hex_pair bytes) (pair byte) (pairs bytes)

-- none of a table's digits is a line feed
at : (table : List ℕ) (k : ℕ) → has_feed table ≡ false → (slice_index table k == 10) ≡ false
at [] k p = refl
at (x ∷ table) zero p = or-left (x == 10) (has_feed table) p
at (x ∷ table) (suc k) p = at table k (or-right (x == 10) (has_feed table) p)

pub encoded : (bytes : List ℕ) → has_feed (encode_lower bytes) ≡ false
unfolding encode_with
encoded [] = refl
encoded (byte ∷ bytes) =
    both-false (slice_index lower_digits (byte / 16) == 10) _ (at lower_digits (byte / 16) refl)
    (both-false (slice_index lower_digits (byte % 16) == 10) _ (at lower_digits (byte % 16) refl) (encoded bytes))

glyph : (d : ℕ) → (48 + d == 10) ≡ false
glyph d = grind (arith, nat_tests)

pub numeral : (n : ℕ) → n < 2 ^ 64 → has_feed (decimal n) ≡ false
numeral =
    decimal_by_steps (λ n ds. has_feed ds ≡ false) (λ n small. both-false (48 + n == 10) false (glyph n) refl)
    (λ n ds big h. feed-append ds ((48 + n % 10) ∷ []) h (both-false (48 + n % 10 == 10) false (glyph (n % 10)) refl))

-- ---- IDs

plain_byte : (byte : ℕ) → is_plain_byte byte ≡ true → (byte == 10) ≡ false
plain_byte byte e = grind (arith, nat_tests, e)

plain_bytes : (text : List ℕ) → list_all is_plain_byte text ≡ true → has_feed text ≡ false
plain_bytes [] e = refl
plain_bytes (byte ∷ text) e =
    let h = (and-eq-true_iff (is_plain_byte byte) (list_all is_plain_byte text)).0 e in
    both-false (byte == 10) (has_feed text) (plain_byte byte h.0) (plain_bytes text h.1)

third : (a b c d : Bool) → (a && b && c && d) ≡ true → c ≡ true
third true true true d e = refl
third true true false d e = cc e
third true false c d e = cc e
third false b c d e = cc e

of_id : (text bytes : List ℕ) → IsTextOf text bytes → has_feed text ≡ false
of_id text bytes (inl h) =
    plain_bytes text (third (nat_le 1 (length text)) (nat_le (length text) 8) (list_all is_plain_byte text)
    (not (has_edge_space text)) h.0)
of_id text bytes (inr h) = ap has_feed h.1 ∙ pairs bytes

id_plain : IdTexts → (id : ClipId) → has_feed (text_of_id id) ≡ false
id_plain v id = of_id (text_of_id id) (id_bytes id) (v id)

-- ---- words

named : IdTexts → (word : List ℕ) (id : ClipId) → has_feed word ≡ false → has_feed (word ++ text_of_id id) ≡ false
named v word id p = feed-append word (text_of_id id) p (id_plain v id)

pub command_plain : IdTexts → (c : Command) → has_feed (command_text c) ≡ false
command_plain v (Open port lock) =
    feed-append (codes "open ") (hex_pair port ++ codes " " ++ hex_pair lock) refl
    (feed-append (hex_pair port) (codes " " ++ hex_pair lock) (pair port)
    (feed-append (codes " ") (hex_pair lock) refl (pair lock)))
command_plain v (Close port) = feed-append (codes "close ") (hex_pair port) refl (pair port)
command_plain v (Select port) = feed-append (codes "select ") (hex_pair port) refl (pair port)
command_plain v (PlayCue id) = named v (codes "cue ") id refl
command_plain v (CueData id start duration) =
    let named_clip = codes "cue-data " ++ text_of_id id in
    let front = named_clip ++ codes " " in
    let begun = front ++ hex_text start in
    feed-append (begun ++ codes " ") (hex_text duration)
    (feed-append begun (codes " ") (feed-append front (hex_text start)
    (feed-append named_clip (codes " ") (named v (codes "cue-data ") id refl) refl) (pairs start)) refl)
    (pairs duration)
command_plain v Play = refl
command_plain v Stop = refl
command_plain v (Status bitmap) = feed-append (codes "status ") (hex_pair bitmap) refl (pair bitmap)
command_plain v ActiveId = refl
command_plain v (IdRequest id) = named v (codes "exists ") id refl
command_plain v (IdSize id) = named v (codes "size ") id refl

pub reply_plain : IdTexts → (r : Reply) → has_feed (reply_text r) ≡ false
reply_plain v Ack = refl
reply_plain v (Nak byte) = feed-append (codes "nak ") (hex_pair byte) refl (pair byte)
reply_plain v (Opened true) = refl
reply_plain v (Opened false) = refl
reply_plain v (State bitmap (Some state)) = feed-append (codes "state ") (hex_pair state) refl (pair state)
reply_plain v (State bitmap None) = refl
reply_plain v (Active None) = refl
reply_plain v (Active (Some id)) = named v (codes "active ") id refl
reply_plain v (Present true) = refl
reply_plain v (Present false) = refl
reply_plain v (Size time) = feed-append (codes "size ") (hex_text time) refl (pairs time)

-- ---- notes

outcome_plain : (outcome : Outcome) → IsWritableOutcome outcome → ArePlain (outcome_fields outcome)
outcome_plain (Missing k) h = (refl, (numeral k h, tt))
outcome_plain (Refused k) h = (refl, (numeral k h, tt))
outcome_plain (Foreign k) h = (refl, (numeral k h, tt))
outcome_plain (Strange k) h = (refl, (numeral k h, tt))
outcome_plain other h = (refl, (refl, tt))

pub note_plain : IdTexts → (unit : ℕ) (n : Note) → IsWritableNote n → ArePlain (note_fields unit n)
note_plain v unit (note.Sent c) h = (refl, (command_plain v c, (encoded (spelling (command_message unit c)), tt)))
note_plain v unit (note.Heard (heard.Reply r)) h =
    (refl, (reply_plain v r, (encoded (spelling (reply_message unit r)), tt)))
note_plain v unit (note.List Hold) h = (refl, (refl, (refl, tt)))
note_plain v unit (note.List Go) h = (refl, (refl, (refl, tt)))
note_plain v unit (note.List (Skip first end)) h = (refl, (numeral first h.0, (numeral end h.1, tt)))
note_plain v unit (note.End outcome) h = (refl, outcome_plain outcome h)
note_plain v unit (note.From k) h = (refl, (numeral k h, (refl, tt)))
note_plain v unit (note.Left k) h = (refl, (numeral k h, (refl, tt)))
note_plain v unit other h = (refl, (refl, (refl, tt)))

-- only what is no reply has no digits
pub heard_other : (unit : ℕ) (h : Heard) (text digits : List ℕ)
    → note_fields unit (note.Heard h) ≡ codes "heard" ∷ text ∷ digits ∷ []
    → length digits ≡ 0 → h ≡ heard.Other
heard_other unit (heard.Reply r) text digits e none =
    let same : encode_lower (spelling (reply_message unit r)) ≡ digits = cc e in
    absurd (spelt_some (reply_message unit r) (ap length same ∙ none))
heard_other unit heard.Other text digits e none = refl
