-- Words that name no command.
use Rattle.std.proofs.Common.{◌≡◌, ℕ, List, ◌∷◌, length, subst, arith}
use Rattle.std.specs.Prelude.{◌⊎◌, codes, Ok, Err}
use Rattle.hex.proofs.HexLemmas.{decode_of-ok, decode_sized-twice}
use Rattle.hex.specs.Hex.{decode_of, decode_sized}
use Rattle.hex.specs.declared.error.FromHexError.{FromHexError}
use Rattle.vdcp_text.specs.Make.{IsIdText, NamesNone}
use Rattle.vdcp_value.specs.declared.clip_id.ClipId.{ClipId}
use Rattle.vdcp_words.specs.declared.command.Command.TheVariants.{Open, Close, Select, PlayCue, CueData, Play, Stop, Status, ActiveId, IdRequest, IdSize}

-- text that doesn't decode to n bytes decodes to no list of n bytes
pub no_bytes : (text : List ℕ) (n : ℕ) (e : FromHexError) → decode_sized text n ≡ Err e → (bytes : List ℕ)
    → length bytes ≡ n
    → decode_of text ≡ Ok bytes → ⊥
no_bytes text n e refused bytes size decoded =
    let d = decode_of-ok text bytes decoded in
    let same = decode_sized-twice text n (omega (arith, d.2, size)) in
    cc (refused, same, decoded)

-- after each of these words stands an ID
abbrev TakesId : List ℕ → Type 0
TakesId word = (word ≡ codes "cue") ⊎ (word ≡ codes "exists") ⊎ (word ≡ codes "size") ⊎ (word ≡ codes "cue-data")

pub no_id : (word text : List ℕ) (more : List (List ℕ)) → ((id : ClipId) → ¬ IsIdText text id) → TakesId word
    → NamesNone (word ∷ text ∷ more)
no_id word text more none takes (Open port lock) (p, l, _, _, e) = grind (arith)
no_id word text more none takes (Close port) (p, _, e) = grind (arith)
no_id word text more none takes (Select port) (p, _, e) = grind (arith)
no_id word text more none takes (PlayCue id) (i, is, e) =
    let same : i ≡ text = cc e in none id (subst (λ t. IsIdText t id) same is)
no_id word text more none takes (CueData id start duration) (i, s, d, is, _, _, e) =
    let same : i ≡ text = cc e in none id (subst (λ t. IsIdText t id) same is)
no_id word text more none takes Play e = cc e
no_id word text more none takes Stop e = cc e
no_id word text more none takes (Status bitmap) (p, _, e) = grind (arith)
no_id word text more none takes ActiveId e = cc e
no_id word text more none takes (IdRequest id) (i, is, e) =
    let same : i ≡ text = cc e in none id (subst (λ t. IsIdText t id) same is)
no_id word text more none takes (IdSize id) (i, is, e) =
    let same : i ≡ text = cc e in none id (subst (λ t. IsIdText t id) same is)
