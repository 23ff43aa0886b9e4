use Rattle.std.proofs.Common.{◌≡◌, ℕ, ◌+◌, ◌-◌, ◌<◌, ◌∙◌, List, [], ◌∷◌, ◌++◌, ap, arith, length, replicate, drop, sym, take, true, get_or}
use Rattle.std.proofs.lemmas.Grind.{common_steps}
use Rattle.std.proofs.lemmas.List.{drop-drop, drop-set-lt, length-drop, length-replicate, take_more, take_more_set}
use Rattle.std.proofs.Math.ListN.{set}
use Rattle.std.specs.List.{list_all}
use Rattle.vdcp_value.proofs.IdText.{drop-spaces}
use Rattle.vdcp_value.proofs.clip_id.ClipId.from_plain.Goals as goal
use Rattle.vdcp_value.specs.IdText.{is_plain_byte}

plain_next : (text : List ℕ) (k : ℕ) → k < length text → list_all is_plain_byte (take k text) ≡ true →
    is_plain_byte (get_or text k 0) ≡ true
    → list_all is_plain_byte (take (k + 1) text) ≡ true
plain_next text k below front here = grind (arith, common_steps, take_more text k 0 below)

copied_next : (text bytes : List ℕ) (k : ℕ) → k < length text → k < length bytes → take k bytes ≡ take k text
    → take (k + 1) (set bytes k (get_or text k 0)) ≡ take (k + 1) text
copied_next text bytes k below within copied =
    take_more_set bytes k (get_or text k 0) within ∙ ap (λ front. front ++ get_or text k 0 ∷ []) copied
    ∙ sym (take_more text k 0 below)

spaces_next : (bytes : List ℕ) (k byte : ℕ) → drop k bytes ≡ replicate (8 - k) 32 →
    drop (k + 1) (set bytes k byte) ≡ replicate (8 - (k + 1)) 32
spaces_next bytes k byte spaces =
    let one_fewer : 8 - k - 1 ≡ 8 - (k + 1) = omega arith in
    drop-set-lt (k + 1) bytes k byte (omega arith) ∙ sym (drop-drop 1 k bytes) ∙ ap (drop 1) spaces
    ∙ drop-spaces 1 (8 - k)
    ∙ ap (λ n. replicate n 32) one_fewer

has_place : (bytes : List ℕ) (k : ℕ) → k < 8 → drop k bytes ≡ replicate (8 - k) 32 → k < length bytes
has_place bytes k few spaces = omega (arith, ap length spaces, length-drop k bytes, length-replicate {A = ℕ} (8 - k) 32)

pub loop-k-preserved : goal.loop-k-preserved
loop-k-preserved c =
    let text = c.args.text.now in
    let k = c.loop-k.k in
    let within = has_place c.loop-k.bytes k (omega arith) c.loop-k.invariant.spaces in
    record {
      plain = plain_next text k c.loop-k-test.true c.loop-k.invariant.plain
          (sym c.is_plain_byte.ensures ∙ c.if-not-is_plain_byte.false);
      copied = copied_next text c.loop-k.bytes k c.loop-k-test.true within c.loop-k.invariant.copied;
      spaces = spaces_next c.loop-k.bytes k (get_or text k 0) c.loop-k.invariant.spaces;
    }
