-- How many exchanges at a log's end are unanswered, and that no shorter front of it ends so.
use Rattle.std.proofs.Common.{◌≡◌, ◌≢◌, ℕ, zero, suc, ◌+◌, ◌-◌, ◌≤◌, ◌<◌, Bool, true, false, cond, ◌||◌, List, [], ◌∷◌, ◌++◌, length, drop, refl, arith, sym, ap, subst, ◌∙◌, inl, inr, append_assoc}
use Rattle.std.specs.Prelude.{if◌then◌else◌}
use Rattle.std.specs.List.{list_any}
use Rattle.std.proofs.lemmas.List.{append-nil, drop-append-le, length-append}
use Rattle.std.proofs.lemmas.List.Elements.{filter-append}
use Rattle.std.proofs.lemmas.List.Folds.{list_any-append}
use Rattle.vdcp_auto.specs.declared.exchange.Exchange.{Exchange}
use Rattle.vdcp_auto.specs.declared.phase.Mode.{Mode}
use Rattle.vdcp_auto.specs.Log.{is_answered, is_counted}
use Rattle.vdcp_auto.specs.Endings.{counted, EndsUnanswered}
use Rattle.vdcp_auto.proofs.Lists.{cut}
use Rattle.vdcp_auto.proofs.Memo.{row_after}

-- the list is empty or ends with an answered exchange
pub data IsAnsweredLast : List Exchange → Type 0 where
  none : IsAnsweredLast []
  ends : (front : List Exchange) (e : Exchange) → is_answered e ≡ true → IsAnsweredLast (front ++ e ∷ [])

-- the number of unanswered exchanges at the list's end
pub record Run (log : List Exchange) (row : ℕ) : Type 0 where
  pub front : List Exchange
  pub rest : List Exchange
  pub in_order : log ≡ front ++ rest
  pub is_row : length rest ≡ row
  pub unanswered : list_any is_answered rest ≡ false
  pub answered : IsAnsweredLast front

pub no_run : Run [] 0
no_run = record { front = []; rest = []; in_order = refl; is_row = refl; unanswered = refl; answered = none }

run_push : (log : List Exchange) (row : ℕ) (e : Exchange) (answered : Bool) → is_answered e ≡ answered → Run log row
    → Run (log ++ e ∷ []) (if answered then 0 else row + 1)
run_push log row e true is run = record {
  front = log ++ e ∷ [];
  rest = [];
  in_order = sym (append-nil (log ++ e ∷ []));
  is_row = refl;
  unanswered = refl;
  answered = ends log e is;
}
run_push log row e false is run = record {
  front = run.front;
  rest = run.rest ++ e ∷ [];
  in_order = ap (λ xs. xs ++ e ∷ []) run.in_order ∙ append_assoc run.front run.rest (e ∷ []);
  is_row = rw length-append (omega (arith, run.is_row));
  unanswered = list_any-append is_answered run.rest (e ∷ []) ∙ (let before = run.unanswered in grind arith);
  answered = run.answered;
}

run_counted : (mode : Mode) (log : List Exchange) (row : ℕ) (e : Exchange) (counts : Bool) → Run (counted mode log) row
    → Run (counted mode log ++ cond counts (e ∷ []) []) (if counts then (if is_answered e then 0 else row + 1) else row)
run_counted mode log row e true run = run_push (counted mode log) row e (is_answered e) refl run
run_counted mode log row e false run = rw append-nil run

pub run_more : (mode : Mode) (log : List Exchange) (row : ℕ) (e : Exchange) → Run (counted mode log) row
    → Run (counted mode (log ++ e ∷ [])) (row_after mode row e)
run_more mode log row e run =
    subst (λ xs. Run xs (row_after mode row e)) (sym (filter-append (is_counted mode) log (e ∷ [])))
    (run_counted mode log row e (is_counted mode e) run)

drop_any : (p : Exchange → Bool) (n : ℕ) (xs : List Exchange) → list_any p xs ≡ false → list_any p (drop n xs) ≡ false
drop_any p zero xs h = h
drop_any p (suc n) [] h = refl
drop_any p (suc n) (x ∷ xs) h = drop_any p n xs (let here = h in grind arith)

drop_past : (front rest : List Exchange) (n k : ℕ) → k ≡ length front + n → drop k (front ++ rest) ≡ drop n rest
drop_past [] rest n k is = let same : k ≡ n = omega arith in ap (λ j. drop j rest) same
drop_past (x ∷ xs) rest n zero is = absurd (omega arith)
drop_past (x ∷ xs) rest n (suc k) is = drop_past xs rest n k (omega arith)

run_long : (log : List Exchange) (row limit : ℕ) → Run log row → limit ≤ row
    → (limit ≤ length log) × (list_any is_answered (drop (length log - limit) log) ≡ false)
run_long log row limit run long =
    let size : length log ≡ length run.front + row = ap length run.in_order ∙ length-append run.front run.rest
    ∙ ap (λ n. length run.front + n) run.is_row in
    let place : length log - limit ≡ length run.front + (row - limit) = omega arith in
    let tail : drop (length log - limit) log ≡ drop (row - limit) run.rest =
    ap (drop (length log - limit)) run.in_order ∙ drop_past run.front run.rest (row - limit) (length log - limit)
    place in
    (omega arith, ap (list_any is_answered) tail ∙ drop_any is_answered (row - limit) run.rest run.unanswered)

-- an answered exchange among the last ones
found : (before rest : List Exchange) (e : Exchange) (k : ℕ) → k ≤ length before → is_answered e ≡ true
    → list_any is_answered (drop k (before ++ (e ∷ rest))) ≡ false → ⊥
found before rest e k within is quiet =
    let split : drop k (before ++ (e ∷ rest)) ≡ drop k before ++ (e ∷ rest) =
    drop-append-le k before (e ∷ rest) within in
    let parts : list_any is_answered (drop k (before ++ (e ∷ rest)))
    ≡ (list_any is_answered (drop k before) || list_any is_answered (e ∷ rest)) =
    ap (list_any is_answered) split ∙ list_any-append is_answered (drop k before) (e ∷ rest) in
    grind arith

run_short : (log front rest : List Exchange) (limit : ℕ) → log ≡ front ++ rest → IsAnsweredLast front
    → limit ≤ length log
    → list_any is_answered (drop (length log - limit) log) ≡ false → length rest < limit → ⊥
run_short log [] rest limit in_order none fits quiet short = let size : length log ≡ length rest = ap length in_order in
    omega arith
run_short log front rest limit in_order (ends before e is) fits quiet short =
    let order : log ≡ before ++ (e ∷ rest) = in_order ∙ append_assoc before (e ∷ []) rest in
    let size : length log ≡ length before + (1 + length rest) =
    ap length order ∙ length-append before (e ∷ rest) ∙ omega arith in
    found before rest e (length log - limit) (omega arith) is
    (ap (λ xs. list_any is_answered (drop (length log - limit) xs)) (sym order) ∙ quiet)

pub run_is : (mode : Mode) (limit : ℕ) (log : List Exchange) (row : ℕ) → Run (counted mode log) row → limit ≤ row
    → EndsUnanswered mode limit log
run_is mode limit log row run long = run_long (counted mode log) row limit run long

pub run_has : (mode : Mode) (limit : ℕ) (log : List Exchange) (row : ℕ) → Run (counted mode log) row → row < limit
    → EndsUnanswered mode limit log → ⊥
run_has mode limit log row run short quiet = run_short (counted mode log) run.front run.rest limit run.in_order
    run.answered quiet.0 quiet.1
    (omega (arith, run.is_row))

-- of the fronts of the log only the whole of it ends so
abbrev pub IsFirst : Mode → ℕ → List Exchange → Type 0
IsFirst mode limit log = (front rest : List Exchange) → rest ≢ [] → log ≡ front ++ rest
    → ¬ EndsUnanswered mode limit front

pub first_none : (mode : Mode) (limit : ℕ) → IsFirst mode limit []
first_none mode limit [] [] some is quiet = some refl
first_none mode limit [] (x ∷ rest) some is quiet = cc
first_none mode limit (x ∷ front) rest some is quiet = cc

pub first_push : (mode : Mode) (limit : ℕ) (log : List Exchange) (e : Exchange) → IsFirst mode limit log
    → ¬ EndsUnanswered mode limit log
    → IsFirst mode limit (log ++ e ∷ [])
first_push mode limit log e before now front rest some is quiet =
    elim (cut log front rest e some is) [
      | inl w ↦ now (subst (EndsUnanswered mode limit) w.0 quiet)
      | inr w ↦ before front w.last w.some w.before quiet
    ]
