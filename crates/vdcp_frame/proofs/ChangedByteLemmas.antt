-- One changed byte of a frame is a bad sum.
use Rattle.std.proofs.Common.{◌≡◌, ◌≢◌, ℕ, suc, ◌+◌, ◌-◌, ◌*◌, ◌%◌, ◌<◌, ◌≤◌, List, [], ◌∷◌, ◌++◌, length, set, get_or, sum, sym, ap, subst, ◌∙◌}
use Rattle.std.proofs.Common.{arith, length-append}
use Rattle.std.proofs.lemmas.List.{length-set, append-nil}
use Rattle.std.proofs.lemmas.List.Elements.{All-push, All-set, All-cons, All-get_or}
use Rattle.std.proofs.lemmas.List.Sums.{sum_by-cons, sum_by_push, sum_by-set}
use Rattle.vdcp_frame.specs.declared.message.Fault.TheVariants.{BadSum}
use Rattle.vdcp_frame.specs.Message.{Content, framed, AreOctets, Spells}
use Rattle.vdcp_frame.specs.Reading.{SpellsAll, fault, ReadsUpTo}
use Rattle.vdcp_frame.specs.Head.{wrong, head_of, IsWrong, HeadIs}
use Rattle.vdcp_frame.proofs.HeadLemmas.{head_is, spelt_list}
use Rattle.vdcp_frame.proofs.FrameLemmas.{frame_bad}
use Rattle.vdcp_frame.proofs.ReadingLemmas.{wrong_reads}

same_part : (a b x y : ℕ) → x < 256 → y < 256 → b + y ≡ a + x → a % 256 ≡ 0 → b % 256 ≡ 0 → x ≡ y
same_part a b x y x_fits y_fits e p q = omega arith

-- one byte changed changes the sum
sum_changed : (body : List ℕ) (i byte : ℕ) → i < length body → byte < 256 → get_or body i 0 < 256
    → byte ≢ get_or body i 0 → sum body % 256 ≡ 0
    → sum (set body i byte) % 256 ≡ 0 → ⊥
sum_changed body i byte lt fits was ne p q =
    let e : sum (set body i byte) + get_or body i 0 ≡ sum body + byte = sum_by-set (λ x. x) body i byte 0 lt in
    ne (same_part (sum body) (sum (set body i byte)) byte (get_or body i 0) fits was e p q)

-- the bytes of a frame from CMD-1 on
body_bytes : (x code : ℕ) (rest : List ℕ) (check : ℕ) → x < 256 → code < 256 → check < 256 → AreOctets rest
    → AreOctets (x ∷ code ∷ (rest ++ check ∷ []))
body_bytes x code rest check x_fits code_fits check_fits fits =
    All-cons (λ b. b < 256) x (code ∷ (rest ++ check ∷ [])) x_fits
    (All-cons (λ b. b < 256) code (rest ++ check ∷ []) code_fits (All-push (λ b. b < 256) rest check fits check_fits))

body_sum : (x code : ℕ) (rest : List ℕ) (check : ℕ)
    → sum (x ∷ code ∷ (rest ++ check ∷ [])) ≡ x + code + sum rest + check
body_sum x code rest check =
    omega (
      arith,
      sum_by-cons (λ (y : ℕ). y) x (code ∷ (rest ++ check ∷ [])),
      sum_by-cons (λ (y : ℕ). y) code (rest ++ check ∷ []),
      sum_by_push (λ (y : ℕ). y) rest check,
    )

-- a changed frame is wrong at its last byte
changed_wrong : (n : ℕ) (body : List ℕ) (j byte : ℕ) → n ≤ 253 → length body ≡ n + 3 → sum body % 256 ≡ 0
    → AreOctets body → j < length body
    → byte < 256 → byte ≢ get_or body j 0 →
    IsWrong (2 ∷ suc (suc n) ∷ set body j byte) BadSum (n + 5)
changed_wrong n body j byte small size adds_up fits lt byte_fits ne =
    let was : get_or body j 0 < 256 = All-get_or (λ b. b < 256) body j 0 lt fits in
    let bad = sum_changed body j byte lt byte_fits was ne adds_up in
    let new_size : length (set body j byte) ≡ n + 3 = length-set body j byte ∙ size in
    let is : head_of (2 ∷ suc (suc n) ∷ set body j byte) ≡ wrong BadSum (n + 5) =
    ap (λ (b : List ℕ). head_of (2 ∷ suc (suc n) ∷ b)) (sym (append-nil (set body j byte)))
    ∙ frame_bad n (set body j byte) [] new_size bad in
    let all_fits : AreOctets (2 ∷ suc (suc n) ∷ set body j byte) =
    All-cons (λ b. b < 256) 2 (suc (suc n) ∷ set body j byte) (omega arith)
    (All-cons (λ b. b < 256) (suc (suc n)) (set body j byte) (omega arith)
    (All-set (λ b. b < 256) body j byte byte_fits fits)) in
    subst (HeadIs (2 ∷ suc (suc n) ∷ set body j byte)) is (head_is (2 ∷ suc (suc n) ∷ set body j byte) all_fits)

pub changed_byte : (limit kind unit code : ℕ) (rest frame : List ℕ) (i byte : ℕ) (ms : List Content)
    (before more : List ℕ)
    → Spells (framed kind unit code rest) frame → 2 ≤ i → i < length frame → byte < 256 → byte ≢ get_or frame i 0 →
    SpellsAll ms before → length before + length frame ≤ limit
    → ReadsUpTo limit ((before ++ set frame i byte) ++ more) ms (fault BadSum (length before + length frame))
changed_byte limit kind unit code rest frame i byte ms before more s two lt byte_fits ne all room =
    let x : ℕ = 16 * kind + unit in
    let n : ℕ = length rest in
    let body : List ℕ = x ∷ code ∷ (rest ++ s.check ∷ []) in
    let is : frame ≡ 2 ∷ suc (suc n) ∷ body = spelt_list kind unit code rest frame s in
    let size : length body ≡ n + 3 = omega (arith, length-append rest (s.check ∷ [])) in
    let whole : length frame ≡ n + 5 = omega (arith, ap (length {A = ℕ}) is, length-append rest (s.check ∷ [])) in
    let place : i ≡ suc (suc (i - 2)) = omega arith in
    let adds_up : sum body % 256 ≡ 0 = ap (λ (t : ℕ). t % 256) (body_sum x code rest s.check) ∙ s.adds_up in
    let fits = body_bytes x code rest s.check
    (omega (arith, s.fits.kind_fits, s.fits.unit_fits)) s.fits.code_fits s.byte s.fits.rest_fits in
    let old : get_or frame i 0 ≡ get_or body (i - 2) 0 = ap (λ (f : List ℕ). get_or f i 0) is
    ∙ ap (λ (k : ℕ). get_or (2 ∷ suc (suc n) ∷ body) k 0) place in
    let new : set frame i byte ≡ 2 ∷ suc (suc n) ∷ set body (i - 2) byte = ap (λ (f : List ℕ). set f i byte) is
    ∙ ap (λ (k : ℕ). set (2 ∷ suc (suc n) ∷ body) k byte) place in
    let bad = changed_wrong n body (i - 2) byte s.fits.rest_size size adds_up fits (omega arith) byte_fits
    (λ e. ne (e ∙ sym old)) in
    let same_size : n + 5 ≡ length (set frame i byte) = sym whole ∙ sym (length-set frame i byte) in
    let there : IsWrong (set frame i byte) BadSum (length (set frame i byte)) =
    subst (λ (f : List ℕ). IsWrong f BadSum (length (set frame i byte))) (sym new)
    (subst (IsWrong (2 ∷ suc (suc n) ∷ set body (i - 2) byte) BadSum) same_size bad) in
    subst (λ (l : ℕ). ReadsUpTo limit ((before ++ set frame i byte) ++ more) ms (fault BadSum (length before + l)))
    (length-set frame i byte)
    (wrong_reads limit ms before (set frame i byte) more BadSum all there (omega (arith, length-set frame i byte)))
