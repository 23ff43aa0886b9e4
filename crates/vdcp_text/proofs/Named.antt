-- The words of a command's text, and that words name one command.
use Rattle.std.proofs.Common.{◌≡◌, ◌≢◌, ◌<◌, ◌+◌, ◌*◌, ◌/◌, ◌%◌, ℕ, Bool, eqb, ltb, List, [], ◌∷◌, ◌++◌, length, get_or, take, drop, refl, sym, ap, subst, ◌∙◌, arith, codes, IfNone, IfSome, IsAscii, IsSomeAnd, MatchResult, IsTrue, Result, Ok, Err, Option, Some, None, Bor, MatchOption}
use Rattle.std.proofs.Math.Seq.{drop-append_seam, take-append_seam}
use Rattle.std.proofs.lemmas.Bool.{ltb-true}
use Rattle.std.proofs.lemmas.Grind.{common_steps}
use Rattle.std.proofs.lemmas.List.Elements.{All-weaker}
use Rattle.std.proofs.lemmas.List.Sums.{AllPass-from_list_all}
use Rattle.std.proofs.lemmas.Str.{IsAscii-append}
use Rattle.std.proofs.lemmas.Str.Ascii.{IsAscii-cons, IsAscii-from_all, IsAscii-nil}
use Rattle.std.specs.List.{position_or_len, before_first, after_first, list_all}
use Rattle.std.specs.Result.{result_ok}
use Rattle.hex.specs.Hex.{decode_pairs, hex_digit_value}
use Rattle.vdcp_text.specs.Make.{Names, NamesNone, IsByteText, IsTimeText}
use Rattle.vdcp_value.specs.Bytes.{AreBytes}
use Rattle.vdcp_value.specs.Ids.{id_bytes, id_of_text, text_of_id, zero_id}
use Rattle.vdcp_value.specs.IdText.{IsTextOf, hex_digit, hex_pair}
use Rattle.vdcp_value.specs.declared.clip_id.ClipId.{ClipId}
use Rattle.vdcp_words.specs.Commands.{IsWritableCommand}
use Rattle.vdcp_words.specs.Texts.{command_text, hex_text}
use Rattle.vdcp_words.specs.declared.command.Command.{Command}
use Rattle.vdcp_words.specs.declared.command.Command.TheVariants.{Open, Close, Select, PlayCue, CueData, Play, Stop, Status, ActiveId, IdRequest, IdSize}

-- ---- words name one command

-- a text says the ID whose text it is
abbrev pub SaysIds : Type 0
SaysIds = (id : ClipId) (text : List ℕ) → IsTextOf text (id_bytes id) → id_of_text text ≡ id

-- the ID that stands second among words
abbrev second_id : List (List ℕ) → ClipId
second_id [] = zero_id
second_id (word ∷ []) = zero_id
second_id (word ∷ text ∷ more) = id_of_text text

-- if the command has an ID, it is this one
abbrev HasId : ClipId → Command → Type 0
HasId x (Open port lock) = Unit {0}
HasId x (Close port) = Unit {0}
HasId x (Select port) = Unit {0}
HasId x (PlayCue id) = x ≡ id
HasId x (CueData id start duration) = x ≡ id
HasId x (IdRequest id) = x ≡ id
HasId x (IdSize id) = x ≡ id
HasId x other = Unit {0}

has_id : SaysIds → (words : List (List ℕ)) (c : Command) → Names words c → HasId (second_id words) c
has_id says words (Open port lock) names = tt
has_id says words (Close port) names = tt
has_id says words (Select port) names = tt
has_id says words (PlayCue id) (i, is, e) = ap second_id e ∙ says id i is
has_id says words (CueData id x y) (i, s, d, is, starts, lasts, e) = ap second_id e ∙ says id i is
has_id says words Play names = tt
has_id says words Stop names = tt
has_id says words (Status bitmap) names = tt
has_id says words ActiveId names = tt
has_id says words (IdRequest id) (i, is, e) = ap second_id e ∙ says id i is
has_id says words (IdSize id) (i, is, e) = ap second_id e ∙ says id i is

pub one_name : SaysIds → (words : List (List ℕ)) (a b : Command) → Names words a → Names words b → a ≡ b
one_name says words (Open port lock) b n m = grind (arith)
one_name says words (Close port) b n m = grind (arith)
one_name says words (Select port) b n m = grind (arith)
one_name says words (PlayCue id) b n m = let first = has_id says words (PlayCue id) n in
    let second = has_id says words b m in grind (arith)
one_name says words (CueData id x y) b n m = let first = has_id says words (CueData id x y) n in
    let second = has_id says words b m in grind (arith)
one_name says words (IdRequest id) b n m = let first = has_id says words (IdRequest id) n in
    let second = has_id says words b m in grind (arith)
one_name says words (IdSize id) b n m = let first = has_id says words (IdSize id) n in
    let second = has_id says words b m in grind (arith)
one_name says words other b n m = grind (arith)

-- what is read of words that name a command
pub named : SaysIds → (words : List (List ℕ)) (c : Command) (r : Option Command) → Names words c → IfSome r (Names words)
    → IfNone r (NamesNone words)
    → r ≡ Some c
named says words c (Some d) names some none = ap Some (one_name says words d c some names)
named says words c None names some none = absurd (none c names)

-- ---- the words of a text

abbrev pub is_space : ℕ → Bool
is_space byte = eqb byte 32

-- a text with a space; what stands before the first one, and after it
pub record Spaced (front rest text : List ℕ) : Type 0 where
  pub before : before_first is_space text ≡ front
  pub after : after_first is_space text ≡ rest
  pub has : position_or_len is_space text < length text

pub spaced : (front rest : List ℕ) → position_or_len is_space front ≡ length front → Spaced front rest (front ++ 32 ∷ rest)
spaced [] rest none = record { before = refl; after = refl; has = omega arith }
spaced (byte ∷ front) rest none =
    let apart : is_space byte ≡ Bool.false = grind (arith) in
    let more : position_or_len is_space front ≡ length front = grind (arith) in
    let rest_of = spaced front rest more in
    let before : before_first is_space (byte ∷ (front ++ 32 ∷ rest)) ≡ byte ∷ front = grind (arith, common_steps, rest_of.before) in
    let after : after_first is_space (byte ∷ (front ++ 32 ∷ rest)) ≡ rest = grind (arith, common_steps, rest_of.after) in
    let has : position_or_len is_space (byte ∷ (front ++ 32 ∷ rest)) < length (byte ∷ (front ++ 32 ∷ rest)) =
    grind (arith, common_steps, rest_of.has) in
    record { before = before; after = after; has = has }

digit_is_no_space : (n : ℕ) → is_space (hex_digit n) ≡ Bool.false
digit_is_no_space n = grind (arith)

digit_is_read : (n : ℕ) → n < 16 → hex_digit_value (hex_digit n) ≡ Some n
digit_is_read n low = grind (arith)

-- pairs of digits are their bytes' text
pairs_are_read : (i : ℕ) (bytes : List ℕ) → IsTrue (list_all (λ byte. ltb byte 256) bytes)
    → decode_pairs i (hex_text bytes) ≡ Ok bytes
unfolding decode_pairs
pairs_are_read i [] all = refl
pairs_are_read i (byte ∷ bytes) all =
    let low : byte < 256 = grind (arith) in
    let more : IsTrue (list_all (λ byte. ltb byte 256) bytes) = grind (arith) in
    let high_digit = digit_is_read (byte / 16) (omega arith) in
    let low_digit = digit_is_read (byte % 16) (omega arith) in
    let whole : byte / 16 * 16 + byte % 16 ≡ byte = omega arith in
    let rest = pairs_are_read (i + 2) bytes more in
    grind (arith, high_digit, low_digit, whole, rest)

-- two digits are a byte's text
pub pair_is_byte : (byte : ℕ) → byte < 256 → IsByteText (hex_pair byte) byte
pair_is_byte byte low = pairs_are_read 0 (byte ∷ []) (grind (arith))

-- eight digits are a time code's
pub digits_are_time : (time : List ℕ) → AreBytes 4 time → IsTimeText (hex_text time) time
digits_are_time (a ∷ b ∷ c ∷ d ∷ []) are = (refl, pairs_are_read 0 (a ∷ b ∷ c ∷ d ∷ []) (grind (arith)))
digits_are_time other are = absurd (grind (arith))

-- ---- the words of a command's text

-- each ID has a text
abbrev pub HaveTexts : Type 0
HaveTexts = (id : ClipId) → IsTextOf (text_of_id id) (id_bytes id)

-- a text without a space
pub alone : (c : Command) (text : List ℕ) → command_text c ≡ text → position_or_len is_space text ≡ length text
    → Names (text ∷ []) c
alone (Open port lock) text e none = let s = spaced (codes "open") (hex_pair port ++ codes " " ++ hex_pair lock) refl in
    absurd (omega (arith, subst (λ t. position_or_len is_space t < length t) e s.has, none))
alone (Close port) text e none = let s = spaced (codes "close") (hex_pair port) refl in
    absurd (omega (arith, subst (λ t. position_or_len is_space t < length t) e s.has, none))
alone (Select port) text e none = let s = spaced (codes "select") (hex_pair port) refl in
    absurd (omega (arith, subst (λ t. position_or_len is_space t < length t) e s.has, none))
alone (PlayCue id) text e none = let s = spaced (codes "cue") (text_of_id id) refl in
    absurd (omega (arith, subst (λ t. position_or_len is_space t < length t) e s.has, none))
alone (CueData id start duration) text e none =
    let s = spaced (codes "cue-data") (text_of_id id ++ codes " " ++ hex_text start ++ codes " " ++ hex_text duration) refl in
    absurd (omega (arith, subst (λ t. position_or_len is_space t < length t) e s.has, none))
alone Play text e none = ap (λ t. t ∷ []) (sym e)
alone Stop text e none = ap (λ t. t ∷ []) (sym e)
alone (Status bitmap) text e none = let s = spaced (codes "status") (hex_pair bitmap) refl in
    absurd (omega (arith, subst (λ t. position_or_len is_space t < length t) e s.has, none))
alone ActiveId text e none = ap (λ t. t ∷ []) (sym e)
alone (IdRequest id) text e none = let s = spaced (codes "exists") (text_of_id id) refl in
    absurd (omega (arith, subst (λ t. position_or_len is_space t < length t) e s.has, none))
alone (IdSize id) text e none = let s = spaced (codes "size") (text_of_id id) refl in
    absurd (omega (arith, subst (λ t. position_or_len is_space t < length t) e s.has, none))

-- a text with a space, cut there
abbrev pub IsCut : List ℕ → List ℕ → List ℕ → Type 0
IsCut text word rest =
    (position_or_len is_space text < length text) × (word ≡ before_first is_space text) × (rest ≡ after_first is_space text)

-- of a text that is a word, a space and more
cut_at : (name more text word rest : List ℕ) → position_or_len is_space name ≡ length name → name ++ 32 ∷ more ≡ text
    → IsCut text word rest → (word ≡ name) × (rest ≡ more)
cut_at name more text word rest none e cut =
    let s = spaced name more none in
    let same = subst (λ t. (before_first is_space t ≡ name) × (after_first is_space t ≡ more)) e (s.before, s.after) in
    (cut.1 ∙ same.0, cut.2 ∙ same.1)

-- a text without a space isn't cut
uncut : {P : Type 0} (text name : List ℕ) → position_or_len is_space name ≡ length name → name ≡ text
    → position_or_len is_space text < length text → P
uncut text name none e has = absurd (omega (arith, subst (λ t. position_or_len is_space t < length t) (sym e) has, none))

-- what `split_once` answers
abbrev IsSplit : List ℕ → Option (Bor (List ℕ) × Bor (List ℕ)) → Type 0
IsSplit text r = MatchOption r (position_or_len is_space text ≡ length text) (λ x. IsCut text x.0.now x.1.now)

pub not_split : (text : List ℕ) (r : Option (Bor (List ℕ) × Bor (List ℕ))) → IsSplit text r → r ≡ None
    → position_or_len is_space text ≡ length text
not_split text None is e = is
not_split text (Some x) is e = cc e

pub split : (text : List ℕ) (r : Option (Bor (List ℕ) × Bor (List ℕ))) (x : Bor (List ℕ) × Bor (List ℕ)) → IsSplit text r
    → r ≡ Some x → IsCut text x.0.now x.1.now
split text None x is e = cc e
split text (Some y) x is e = let same : y ≡ x = cc e in subst (λ z. IsCut text z.0.now z.1.now) same is

pub none_of_some : {T : Type 0} (Q : T → Type 0) (r : Option T) → r ≡ None → IsSomeAnd r Q → ⊥
none_of_some Q None e found = found
none_of_some Q (Some x) e found = cc e

pub of_some : {T : Type 0} (Q : T → Type 0) (r : Option T) (x : T) → r ≡ Some x → IsSomeAnd r Q → Q x
of_some Q None x e found = absurd found
of_some Q (Some y) x e found = let same : y ≡ x = cc e in subst Q same found

-- a text that begins with `open`
pub opens : (c : Command) (text rest port lock : List ℕ) → IsWritableCommand c → command_text c ≡ text
    → IsCut text (codes "open") rest → IsCut rest port lock → Names (codes "open" ∷ port ∷ lock ∷ []) c
opens (Open p l) text rest port lock low e cut again =
    let whole = cut_at (codes "open") (hex_pair p ++ codes " " ++ hex_pair l) text (codes "open") rest refl e cut in
    let pair = cut_at (hex_pair p) (hex_pair l) rest port lock (grind (arith, digit_is_no_space (p / 16), digit_is_no_space (p % 16)))
    (sym whole.1) again in
    (hex_pair p, hex_pair l, pair_is_byte p low.0, pair_is_byte l low.1, cc (pair.0, pair.1))
opens (Close port') text rest port lock low e cut again =
    let whole = cut_at (codes "close") _ text (codes "open") rest refl e cut in absurd (cc (whole.0))
opens (Select port') text rest port lock low e cut again =
    let whole = cut_at (codes "select") _ text (codes "open") rest refl e cut in absurd (cc (whole.0))
opens (PlayCue id) text rest port lock low e cut again =
    let whole = cut_at (codes "cue") _ text (codes "open") rest refl e cut in absurd (cc (whole.0))
opens (CueData id start duration) text rest port lock low e cut again =
    let whole = cut_at (codes "cue-data") _ text (codes "open") rest refl e cut in absurd (cc (whole.0))
opens Play text rest port lock low e cut again = uncut text _ refl e cut.0
opens Stop text rest port lock low e cut again = uncut text _ refl e cut.0
opens (Status bitmap) text rest port lock low e cut again =
    let whole = cut_at (codes "status") _ text (codes "open") rest refl e cut in absurd (cc (whole.0))
opens ActiveId text rest port lock low e cut again = uncut text _ refl e cut.0
opens (IdRequest id) text rest port lock low e cut again =
    let whole = cut_at (codes "exists") _ text (codes "open") rest refl e cut in absurd (cc (whole.0))
opens (IdSize id) text rest port lock low e cut again =
    let whole = cut_at (codes "size") _ text (codes "open") rest refl e cut in
    let letter : ◌≡◌ {A = ℕ} 111 115 = ap (λ word. get_or word 0 0) whole.0 in absurd (omega (arith, letter))

-- a text that begins with another word has no more than one argument
pub names_one : HaveTexts → (c : Command) (text word rest : List ℕ) → IsWritableCommand c → command_text c ≡ text
    → IsCut text word rest → word ≢ codes "open" → word ≢ codes "cue-data" → Names (word ∷ rest ∷ []) c
names_one have (Open p l) text word rest low e cut no_open no_part =
    let whole = cut_at (codes "open") _ text word rest refl e cut in absurd (no_open whole.0)
names_one have (Close p) text word rest low e cut no_open no_part =
    let whole = cut_at (codes "close") (hex_pair p) text word rest refl e cut in (hex_pair p, pair_is_byte p low, cc (whole.0, whole.1))
names_one have (Select p) text word rest low e cut no_open no_part =
    let whole = cut_at (codes "select") (hex_pair p) text word rest refl e cut in (hex_pair p, pair_is_byte p low, cc (whole.0, whole.1))
names_one have (PlayCue id) text word rest low e cut no_open no_part =
    let whole = cut_at (codes "cue") (text_of_id id) text word rest refl e cut in (text_of_id id, have id, cc (whole.0, whole.1))
names_one have (CueData id start duration) text word rest low e cut no_open no_part =
    let whole = cut_at (codes "cue-data") _ text word rest refl e cut in absurd (no_part whole.0)
names_one have Play text word rest low e cut no_open no_part = uncut text _ refl e cut.0
names_one have Stop text word rest low e cut no_open no_part = uncut text _ refl e cut.0
names_one have (Status p) text word rest low e cut no_open no_part =
    let whole = cut_at (codes "status") (hex_pair p) text word rest refl e cut in (hex_pair p, pair_is_byte p low, cc (whole.0, whole.1))
names_one have ActiveId text word rest low e cut no_open no_part = uncut text _ refl e cut.0
names_one have (IdRequest id) text word rest low e cut no_open no_part =
    let whole = cut_at (codes "exists") (text_of_id id) text word rest refl e cut in (text_of_id id, have id, cc (whole.0, whole.1))
names_one have (IdSize id) text word rest low e cut no_open no_part =
    let whole = cut_at (codes "size") (text_of_id id) text word rest refl e cut in (text_of_id id, have id, cc (whole.0, whole.1))

eight : (time : List ℕ) → AreBytes 4 time → length (hex_text time) ≡ 8
eight (a ∷ b ∷ c ∷ d ∷ []) are = refl
eight other are = absurd (grind (arith))

-- a text that begins with `cue-data`: an ID and two time codes
pub record IsPartText (c : Command) (rest : List ℕ) : Type 0 where
  pub id : List ℕ
  pub start : List ℕ
  pub duration : List ℕ
  pub are : rest ≡ id ++ 32 ∷ (start ++ 32 ∷ duration)
  pub start_length : length start ≡ 8
  pub duration_length : length duration ≡ 8
  pub names : Names (codes "cue-data" ∷ id ∷ start ∷ duration ∷ []) c

pub cues_part : HaveTexts → (c : Command) (text rest : List ℕ) → IsWritableCommand c → command_text c ≡ text
    → IsCut text (codes "cue-data") rest → IsPartText c rest
cues_part have (Open p l) text rest low e cut =
    let whole = cut_at (codes "open") _ text (codes "cue-data") rest refl e cut in absurd (cc (whole.0))
cues_part have (Close p) text rest low e cut =
    let whole = cut_at (codes "close") _ text (codes "cue-data") rest refl e cut in absurd (cc (whole.0))
cues_part have (Select p) text rest low e cut =
    let whole = cut_at (codes "select") _ text (codes "cue-data") rest refl e cut in absurd (cc (whole.0))
cues_part have (PlayCue id) text rest low e cut =
    let whole = cut_at (codes "cue") _ text (codes "cue-data") rest refl e cut in absurd (cc (whole.0))
cues_part have (CueData id start duration) text rest low e cut =
    let whole = cut_at (codes "cue-data") _ text (codes "cue-data") rest refl e cut in
    let are : rest ≡ text_of_id id ++ 32 ∷ (hex_text start ++ 32 ∷ hex_text duration) = grind (arith, common_steps, whole.1) in
    record {
      id = text_of_id id;
      start = hex_text start;
      duration = hex_text duration;
      are = are;
      start_length = eight start low.0;
      duration_length = eight duration low.1;
      names = (text_of_id id, hex_text start, hex_text duration, have id, digits_are_time start low.0, digits_are_time duration low.1, refl);
    }
cues_part have Play text rest low e cut = uncut text _ refl e cut.0
cues_part have Stop text rest low e cut = uncut text _ refl e cut.0
cues_part have (Status p) text rest low e cut =
    let whole = cut_at (codes "status") _ text (codes "cue-data") rest refl e cut in absurd (cc (whole.0))
cues_part have ActiveId text rest low e cut = uncut text _ refl e cut.0
cues_part have (IdRequest id) text rest low e cut =
    let whole = cut_at (codes "exists") _ text (codes "cue-data") rest refl e cut in absurd (cc (whole.0))
cues_part have (IdSize id) text rest low e cut =
    let whole = cut_at (codes "size") _ text (codes "cue-data") rest refl e cut in absurd (cc (whole.0))

-- ---- a part's text

-- a list in two
seam : (front back whole : List ℕ) (n : ℕ) → whole ≡ front ++ back → n ≡ length front
    → (take n whole ≡ front) × (drop n whole ≡ back)
seam front back whole n e size = rw (e, size) (take-append_seam front back, drop-append_seam front back)

pub record IsPieces (id start duration text : List ℕ) (n : ℕ) : Type 0 where
  pub front : take n text ≡ id
  pub middle : take 9 (drop n text) ≡ 32 ∷ start
  pub back : drop 9 (drop n text) ≡ 32 ∷ duration

pub pieces : (id start duration text : List ℕ) (n : ℕ) → text ≡ id ++ 32 ∷ (start ++ 32 ∷ duration) → length start ≡ 8
    → length duration ≡ 8 → n + 18 ≡ length text → IsPieces id start duration text n
pieces id start duration text n e size_start size_duration size =
    let there : n ≡ length id = grind (arith, common_steps) in
    let first = seam id (32 ∷ (start ++ 32 ∷ duration)) text n e there in
    let second = seam (32 ∷ start) (32 ∷ duration) (drop n text) 9 first.1 (omega (arith, size_start)) in
    record { front = first.0; middle = second.0; back = second.1 }

-- what `strip_prefix` answers of a text that begins with a space
pub stripped : (text rest : List ℕ) (r : Option (Bor (List ℕ)))
    → MatchOption r ((more : List ℕ) → text ≢ 32 ∷ more) (λ x. text ≡ 32 ∷ x.now) → text ≡ 32 ∷ rest
    → IsSomeAnd r (λ x. x.now ≡ rest)
stripped text rest None none e = none rest e
stripped text rest (Some x) some e = cc (some, e)

-- ---- a command's text is text

ascii_by_test : (text : List ℕ) → list_all (λ byte. ltb byte 128) text ≡ Bool.true → IsAscii text
ascii_by_test text all = IsAscii-from_all text (All-weaker _ (λ byte. byte < 128) (λ byte. ltb-true byte 128) text
    (AllPass-from_list_all (λ byte. ltb byte 128) text all))

pair_is_ascii : (byte : ℕ) → byte < 256 → IsAscii (hex_pair byte)
pair_is_ascii byte low =
    let high_digit : hex_digit (byte / 16) < 128 = grind (arith) in
    let low_digit : hex_digit (byte % 16) < 128 = grind (arith) in
    IsAscii-cons (hex_digit (byte / 16)) (hex_digit (byte % 16) ∷ []) high_digit
    (IsAscii-cons (hex_digit (byte % 16)) [] low_digit IsAscii-nil)

pairs_are_ascii : (bytes : List ℕ) → IsTrue (list_all (λ byte. ltb byte 256) bytes) → IsAscii (hex_text bytes)
pairs_are_ascii [] all = IsAscii-nil
pairs_are_ascii (byte ∷ bytes) all =
    IsAscii-append (hex_pair byte) (hex_text bytes) (pair_is_ascii byte (grind (arith))) (pairs_are_ascii bytes (grind (arith)))

time_is_ascii : (time : List ℕ) → AreBytes 4 time → IsAscii (hex_text time)
time_is_ascii time are = pairs_are_ascii time (grind (arith))

pub command_text_is_ascii : ((id : ClipId) → IsAscii (text_of_id id)) → (c : Command) → IsWritableCommand c
    → IsAscii (command_text c)
command_text_is_ascii ids (Open port lock) low =
    let a = IsAscii-append (codes "open ") (hex_pair port) (ascii_by_test (codes "open ") refl) (pair_is_ascii port low.0) in
    let b = IsAscii-append (codes "open " ++ hex_pair port) (codes " ") a (ascii_by_test (codes " ") refl) in
    IsAscii-append (codes "open " ++ hex_pair port ++ codes " ") (hex_pair lock) b (pair_is_ascii lock low.1)
command_text_is_ascii ids (Close port) low =
    IsAscii-append (codes "close ") (hex_pair port) (ascii_by_test (codes "close ") refl) (pair_is_ascii port low)
command_text_is_ascii ids (Select port) low =
    IsAscii-append (codes "select ") (hex_pair port) (ascii_by_test (codes "select ") refl) (pair_is_ascii port low)
command_text_is_ascii ids (PlayCue id) low = IsAscii-append (codes "cue ") (text_of_id id) (ascii_by_test (codes "cue ") refl) (ids id)
command_text_is_ascii ids (CueData id start duration) low =
    let a = IsAscii-append (codes "cue-data ") (text_of_id id) (ascii_by_test (codes "cue-data ") refl) (ids id) in
    let b = IsAscii-append (codes "cue-data " ++ text_of_id id) (codes " ") a (ascii_by_test (codes " ") refl) in
    let d = IsAscii-append (codes "cue-data " ++ text_of_id id ++ codes " ") (hex_text start) b (time_is_ascii start low.0) in
    let e = IsAscii-append (codes "cue-data " ++ text_of_id id ++ codes " " ++ hex_text start) (codes " ") d (ascii_by_test (codes " ") refl) in
    IsAscii-append (codes "cue-data " ++ text_of_id id ++ codes " " ++ hex_text start ++ codes " ") (hex_text duration) e
    (time_is_ascii duration low.1)
command_text_is_ascii ids Play low = ascii_by_test (codes "play") refl
command_text_is_ascii ids Stop low = ascii_by_test (codes "stop") refl
command_text_is_ascii ids (Status bitmap) low =
    IsAscii-append (codes "status ") (hex_pair bitmap) (ascii_by_test (codes "status ") refl) (pair_is_ascii bitmap low)
command_text_is_ascii ids ActiveId low = ascii_by_test (codes "active") refl
command_text_is_ascii ids (IdRequest id) low = IsAscii-append (codes "exists ") (text_of_id id) (ascii_by_test (codes "exists ") refl) (ids id)
command_text_is_ascii ids (IdSize id) low = IsAscii-append (codes "size ") (text_of_id id) (ascii_by_test (codes "size ") refl) (ids id)

-- the text of bytes
pub decoded : {E : Type 0} (bytes : List ℕ) (P : Type 0) (Q : E → Type 0) (r : Result (Bor (List ℕ)) E) (text : Bor (List ℕ))
    → MatchResult r (λ s. (s.now ≡ bytes) × P) Q → result_ok r ≡ Some text → text.now ≡ bytes
decoded bytes P Q (Ok s) text is e = let same : s ≡ text = cc e in subst (λ t. t.now ≡ bytes) same is.0
decoded bytes P Q (Err fault) text is e = cc e
