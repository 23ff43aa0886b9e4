-- The look-backs of specs/ over a log that has grown by one exchange, and what a log leaves behind.
use Rattle.std.proofs.Common.{◌≡◌, ℕ, suc, ◌+◌, ◌≤◌, ◌<◌, Bool, true, false, cond, not, ◌||◌, ◌&&◌, None, List, [], ◌∷◌, ◌++◌, Some, length, take, drop, take-append-drop, refl, arith, sym, ap, subst, ◌∙◌, append_assoc}
use Rattle.std.specs.Prelude.{if◌then◌else◌, nat_eq, slice_get, count_by, filter}
use Rattle.std.specs.Option.{option_map_or}
use Rattle.std.specs.List.{last_or, range_with_len, list_any}
use Rattle.std.proofs.Math.Seq.{take-append_seam}
use Rattle.std.proofs.lemmas.List.{append-nil, take-append-le, length-append}
use Rattle.std.proofs.lemmas.List.Elements.{filter-append}
use Rattle.std.proofs.lemmas.List.Folds.{list_any-append}
use Rattle.std.proofs.lemmas.List.Sums.{sum_by_push}
use Rattle.vdcp_words.specs.declared.command.Command.{Command}
use Rattle.vdcp_auto.specs.declared.exchange.Exchange.{Exchange}
use Rattle.vdcp_auto.specs.declared.phase.Mode.{Mode}
use Rattle.vdcp_auto.specs.declared.phase.Mode.TheVariants.{Plain, Confirming}
use Rattle.vdcp_auto.specs.Log.{is_play, is_stop, is_cue, is_acked, is_answered, is_done_status, is_empty_status}
use Rattle.vdcp_auto.specs.Settled.{tells_of_play, has_open_play, settles, settles_at, settled, plays_at, may_have_aired}
use Rattle.vdcp_auto.proofs.Lists.{last_or-push, slice_get-append, slice_get-push, count_by-range_more, count_by-range_same, list_any-range_more, list_any-range_same, list_any-range_none}
use Rattle.vdcp_auto.proofs.Memo.{opens, settles_now}

-- Open PLAYs.

open_bools : (p s m answered opened : Bool) → p || s || m ≡ true
    → (p && not answered) ≡ (if p then not answered else (if s || m then false else opened))
open_bools p s m answered opened tells = grind arith

open_others : (p s m answered opened : Bool) → p || s || m ≡ false
    → opened ≡ (if p then not answered else (if s || m then false else opened))
open_others p s m answered opened tells = grind arith

abbrev is_open : Exchange → Bool
is_open e = is_play e && not (is_answered e)

open_push : (told : List Exchange) (e : Exchange) (tells : Bool) → tells_of_play e ≡ tells
    → option_map_or is_open (last_or None (told ++ cond tells (e ∷ []) [])) false
    ≡ opens (option_map_or is_open (last_or None told) false) e
open_push told e true is =
    let was_open = option_map_or is_open (last_or None told) false in
    rw last_or-push (open_bools (is_play e) (is_stop e) (is_empty_status e) (is_answered e) was_open is)
open_push told e false is =
    let was_open = option_map_or is_open (last_or None told) false in
    rw append-nil (open_others (is_play e) (is_stop e) (is_empty_status e) (is_answered e) was_open is)

pub has_open_play-push : (log : List Exchange) (e : Exchange)
    → has_open_play (log ++ e ∷ []) ≡ opens (has_open_play log) e
has_open_play-push log e =
    let told : filter tells_of_play (log ++ e ∷ []) ≡ filter tells_of_play log ++ filter tells_of_play (e ∷ []) =
    filter-append tells_of_play log (e ∷ []) in
    ap (λ xs. option_map_or is_open (last_or None xs) false) told
    ∙ open_push (filter tells_of_play log) e (tells_of_play e) refl

-- What settles.

settles_is : (mode : Mode) (log : List Exchange) (e : Exchange)
    → settles mode log e ≡ settles_now mode (has_open_play log) e
settles_is Plain log e = refl
settles_is Confirming log e = refl

settles_at_within : (mode : Mode) (log : List Exchange) (e : Exchange) (k : ℕ) → k < length log
    → settles_at mode (log ++ e ∷ []) k ≡ settles_at mode log k
settles_at_within mode log e k below =
    let front : take k (log ++ e ∷ []) ≡ take k log = take-append-le k log (e ∷ []) (omega arith) in
    let here : slice_get (log ++ e ∷ []) k ≡ slice_get log k = slice_get-append log (e ∷ []) k below in
    ap (λ before. option_map_or (settles mode before) (slice_get (log ++ e ∷ []) k) false) front
    ∙ ap (λ found. option_map_or (settles mode (take k log)) found false) here

settles_at_end : (mode : Mode) (log : List Exchange) (e : Exchange)
    → settles_at mode (log ++ e ∷ []) (length log) ≡ settles mode log e
settles_at_end mode log e =
    let front : take (length log) (log ++ e ∷ []) ≡ log = take-append_seam log (e ∷ []) in
    ap (λ before. option_map_or (settles mode before) (slice_get (log ++ e ∷ []) (length log)) false) front
    ∙ ap (λ found. option_map_or (settles mode log) found false) (slice_get-push log e)

pub settled-push : (mode : Mode) (log : List Exchange) (e : Exchange) → settled mode (log ++ e ∷ [])
    ≡ settled mode log + cond (settles_now mode (has_open_play log) e) 1 0
settled-push mode log e =
    let grown : length (log ++ e ∷ []) ≡ suc (length log) = rw length-append (omega arith) in
    let p = settles_at mode (log ++ e ∷ []) in
    ap (λ n. count_by p (range_with_len 0 n)) grown
    ∙ count_by-range_more p 0 (length log)
    ∙ ap (λ n. n + cond {A = ℕ} (p (0 + length log)) 1 0)
    (count_by-range_same p (settles_at mode log) 0 (length log)
    (λ k below. settles_at_within mode log e k (omega arith)))
    ∙ ap (λ b. settled mode log + cond {A = ℕ} b 1 0) (ap p (omega arith) ∙ settles_at_end mode log e
    ∙ settles_is mode log e)

-- What may have aired.

front_settles : (mode : Mode) (log more : List Exchange) → settled mode log ≤ settled mode (log ++ more)
front_settles mode log [] = rw append-nil (omega arith)
front_settles mode log (e ∷ more) =
    let here = settled-push mode log e in
    let rest : settled mode (log ++ e ∷ []) ≤ settled mode (log ++ e ∷ more) =
    subst (λ xs. settled mode (log ++ e ∷ []) ≤ settled mode xs) (append_assoc log (e ∷ []) more)
    (front_settles mode (log ++ e ∷ []) more) in
    omega (arith, here, rest)

taken_settles : (mode : Mode) (log : List Exchange) (k : ℕ) → settled mode (take k log) ≤ settled mode log
taken_settles mode log k =
    subst (λ xs. settled mode (take k log) ≤ settled mode xs) (take-append-drop k log)
    (front_settles mode (take k log) (drop k log))

-- a PLAY stands at this place, and nothing has settled since
abbrev airs_at : Mode → List Exchange → ℕ → Bool
airs_at mode log k = plays_at log k && nat_eq (settled mode (take k log)) (settled mode log)

airs_within : (mode : Mode) (log : List Exchange) (e : Exchange) → settled mode (log ++ e ∷ []) ≡ settled mode log
    → (k : ℕ) → k < length log → airs_at mode (log ++ e ∷ []) k ≡ airs_at mode log k
airs_within mode log e same k below =
    let front : take k (log ++ e ∷ []) ≡ take k log = take-append-le k log (e ∷ []) (omega arith) in
    let here : slice_get (log ++ e ∷ []) k ≡ slice_get log k = slice_get-append log (e ∷ []) k below in
    rw (front, here, same)

airs_at_end : (mode : Mode) (log : List Exchange) (e : Exchange) → settled mode (log ++ e ∷ []) ≡ settled mode log
    → airs_at mode (log ++ e ∷ []) (length log) ≡ is_play e
airs_at_end mode log e same =
    let front : take (length log) (log ++ e ∷ []) ≡ log = take-append_seam log (e ∷ []) in
    let here : slice_get (log ++ e ∷ []) (length log) ≡ Some e = slice_get-push log e in
    rw (front, here, same) (equal (is_play e) (settled mode log))
  where
    equal : (b : Bool) (n : ℕ) → (b && nat_eq n n) ≡ b
    equal b n = grind arith

none_airs : (mode : Mode) (log : List Exchange) (e : Exchange) → settled mode (log ++ e ∷ []) ≡ settled mode log + 1
    → (k : ℕ) → k < length log + 1 → airs_at mode (log ++ e ∷ []) k ≡ false
none_airs mode log e more k below =
    let front : take k (log ++ e ∷ []) ≡ take k log = take-append-le k log (e ∷ []) (omega arith) in
    let few = taken_settles mode log k in
    rw (front, more) (apart (plays_at (log ++ e ∷ []) k) (settled mode (take k log)) (settled mode log) few)
  where
    apart : (b : Bool) (n m : ℕ) → n ≤ m → (b && nat_eq n (m + 1)) ≡ false
    apart b n m few = grind arith

-- after one exchange more
airs-push : (mode : Mode) (log : List Exchange) (e : Exchange) (now : Bool) → settles mode log e ≡ now
    → may_have_aired mode (log ++ e ∷ []) ≡ (not now && (is_play e || may_have_aired mode log))
airs-push mode log e true is =
    let more : settled mode (log ++ e ∷ []) ≡ settled mode log + 1 =
    settled-push mode log e ∙ ap (λ b. settled mode log + cond {A = ℕ} b 1 0) (sym (settles_is mode log e) ∙ is) in
    list_any-range_none (airs_at mode (log ++ e ∷ [])) 0 (length (log ++ e ∷ []))
    (λ k below. none_airs mode log e more k (omega (arith, below, length-append log (e ∷ []))))
airs-push mode log e false is =
    let same : settled mode (log ++ e ∷ []) ≡ settled mode log =
    omega (
      arith,
      settled-push mode log e,
      ap (λ b. cond {A = ℕ} b 1 0) (sym (settles_is mode log e) ∙ is),
    ) in
    let grown : length (log ++ e ∷ []) ≡ suc (length log) = rw length-append (omega arith) in
    let p = airs_at mode (log ++ e ∷ []) in
    let fronts = list_any-range_same p (airs_at mode log) 0 (length log)
    (λ k below. airs_within mode log e same k (omega arith)) in
    let last : p (0 + length log) ≡ is_play e = ap p (omega arith) ∙ airs_at_end mode log e same in
    ap (λ n. list_any p (range_with_len 0 n)) grown
    ∙ list_any-range_more p 0 (length log)
    ∙ either (list_any p (range_with_len 0 (length log))) (p (0 + length log)) (may_have_aired mode log) (is_play e)
    fronts last
  where
    either : (a b c d : Bool) → a ≡ c → b ≡ d → (a || b) ≡ (d || c)
    either a b c d e f = grind arith

-- the same in the words of specs/

opens_is : (p s m answered opened : Bool) → (if p then not answered else (if s || m then false else opened))
    ≡ (if p || s || m then p && not answered else opened)
opens_is p s m answered opened = grind arith

pub open_grows : (log : List Exchange) (e : Exchange) → has_open_play (log ++ e ∷ [])
    ≡ (if tells_of_play e then is_play e && not (is_answered e) else has_open_play log)
open_grows log e = has_open_play-push log e
    ∙ opens_is (is_play e) (is_stop e) (is_empty_status e) (is_answered e) (has_open_play log)

one_if : (n : ℕ) (b : Bool) → n + cond b 1 0 ≡ (if b then n + 1 else n)
one_if n true = refl
one_if n false = omega arith

pub settled_grows : (mode : Mode) (log : List Exchange) (e : Exchange) → settled mode (log ++ e ∷ [])
    ≡ (if settles mode log e then settled mode log + 1 else settled mode log)
settled_grows mode log e = settled-push mode log e
    ∙ ap (λ b. settled mode log + cond {A = ℕ} b 1 0) (sym (settles_is mode log e))
    ∙ one_if (settled mode log) (settles mode log e)

pub airing_grows : (mode : Mode) (log : List Exchange) (e : Exchange) → may_have_aired mode (log ++ e ∷ [])
    ≡ (not (settles mode log e) && (is_play e || may_have_aired mode log))
airing_grows mode log e = airs-push mode log e (settles mode log e) refl

pub settled_stays : (mode : Mode) (log : List Exchange) (opened : Bool) (e : Exchange) → has_open_play log ≡ opened
    → settles_now mode opened e ≡ false
    → settled mode (log ++ e ∷ []) ≡ settled mode log
settled_stays mode log opened e is none =
    let now : settles_now mode (has_open_play log) e ≡ false = ap (λ o. settles_now mode o e) is ∙ none in
    omega (arith, settled-push mode log e, ap (λ b. cond {A = ℕ} b 1 0) now)

-- The last cue, and the first one.

-- a done status with no PLAY after it
pub record HasDone (after : List Exchange) : Type 0 where
  pub between : List Exchange
  pub status : Exchange
  pub rest : List Exchange
  pub in_order : after ≡ between ++ (status ∷ rest)
  pub done : is_done_status status ≡ true
  pub no_play : list_any is_play rest ≡ false

-- the log's last cue, from which on nothing settles
pub record LastCue (mode : Mode) (log : List Exchange) (command : Command) (acked done : Bool) : Type 0 where
  pub before : List Exchange
  pub cue : Exchange
  pub after : List Exchange
  pub in_order : log ≡ before ++ (cue ∷ after)
  pub is_command : cue.command ≡ command
  pub is_taken : is_acked cue ≡ acked
  pub last : list_any is_cue after ≡ false
  pub none_settles : settled mode before ≡ settled mode log
  pub is_done : done ≡ true → HasDone after

-- a cue from which on nothing settles, and the number of empty statuses after it
pub record FirstCue (mode : Mode) (log : List Exchange) (command : Command) (empties : ℕ) : Type 0 where
  pub before : List Exchange
  pub cue : Exchange
  pub after : List Exchange
  pub in_order : log ≡ before ++ (cue ∷ after)
  pub is_command : cue.command ≡ command
  pub none_settles : settled mode before ≡ settled mode log
  pub is_count : empties ≤ count_by is_empty_status after

in_order_push : (log before : List Exchange) (cue : Exchange) (after : List Exchange) (e : Exchange)
    → log ≡ before ++ (cue ∷ after)
    → log ++ e ∷ [] ≡ before ++ (cue ∷ (after ++ e ∷ []))
in_order_push log before cue after e is = ap (λ xs. xs ++ e ∷ []) is ∙ append_assoc before (cue ∷ after) (e ∷ [])

pub any_push : (p : Exchange → Bool) (log : List Exchange) (e : Exchange) (b : Bool) → list_any p log ≡ b
    → list_any p (log ++ e ∷ []) ≡ (b || p e)
any_push p log e b is = list_any-append p log (e ∷ []) ∙ grind arith

done_push : (after : List Exchange) (e : Exchange) (done : Bool) → (done ≡ true → HasDone after) → is_play e ≡ false
    → (status : Bool) → is_done_status e ≡ status → (status || done) ≡ true → HasDone (after ++ e ∷ [])
done_push after e done had no_play true is now =
    record { between = after; status = e; rest = []; in_order = refl; done = is; no_play = refl }
done_push after e done had no_play false is now =
    let h = had now in
    record {
      between = h.between;
      status = h.status;
      rest = h.rest ++ e ∷ [];
      in_order = in_order_push after h.between h.status h.rest e h.in_order;
      done = h.done;
      no_play = any_push is_play h.rest e false h.no_play ∙ no_play;
    }

no_play_in : (play done : Bool) → (not play && done) ≡ true → play ≡ false
no_play_in play done h = grind arith

done_in : (play done : Bool) → (not play && done) ≡ true → done ≡ true
done_in play done h = grind arith

one_more : {n m : ℕ} (b : Bool) → n ≤ m → (if b then n + 1 else n) ≤ m + cond b 1 0
one_more true h = omega arith
one_more false h = omega arith

-- what the last cue is after one more exchange that doesn't settle
pub last_push : (mode : Mode) (log : List Exchange) (opened : Bool) (e : Exchange) (command : Command)
    (acked done : Bool)
    → has_open_play log ≡ opened → settles_now mode opened e ≡ false
    → (cues : Bool) → is_cue e ≡ cues → (cued : Bool) → (cues || cued) ≡ true
    → (cued ≡ true → LastCue mode log command acked done)
    → LastCue mode (log ++ e ∷ []) (if cues then e.command else command) (if cues then is_acked e else acked)
    (not (cues || is_play e) && (is_done_status e || done))
last_push mode log opened e command acked done open_is none true is cued some had = record {
  before = log;
  cue = e;
  after = [];
  in_order = refl;
  is_command = refl;
  is_taken = refl;
  last = refl;
  none_settles = sym (settled_stays mode log opened e open_is none);
  is_done = λ h. cc;
}
last_push mode log opened e command acked done open_is none false is cued some had =
    let h = had some in
    record {
      before = h.before;
      cue = h.cue;
      after = h.after ++ e ∷ [];
      in_order = in_order_push log h.before h.cue h.after e h.in_order;
      is_command = h.is_command;
      is_taken = h.is_taken;
      last = any_push is_cue h.after e false h.last ∙ is;
      none_settles = h.none_settles ∙ sym (settled_stays mode log opened e open_is none);
      is_done = λ now. done_push h.after e done h.is_done (no_play_in (is_play e) (is_done_status e || done) now)
          (is_done_status e) refl
          (done_in (is_play e) (is_done_status e || done) now);
    }

pub first_push : (mode : Mode) (log : List Exchange) (opened : Bool) (e : Exchange) (command : Command) (empties : ℕ)
    → has_open_play log ≡ opened → settles_now mode opened e ≡ false
    → (cued : Bool) → (is_cue e || cued) ≡ true → (cued ≡ true → FirstCue mode log command empties)
    → FirstCue mode (log ++ e ∷ []) (if cued then command else e.command)
    (if cued then (if is_empty_status e then empties + 1 else empties) else 0)
first_push mode log opened e command empties open_is none true some had =
    let h = had refl in
    record {
      before = h.before;
      cue = h.cue;
      after = h.after ++ e ∷ [];
      in_order = in_order_push log h.before h.cue h.after e h.in_order;
      is_command = h.is_command;
      none_settles = h.none_settles ∙ sym (settled_stays mode log opened e open_is none);
      is_count = rw (sum_by_push (λ x. cond {A = ℕ} (is_empty_status x) 1 0) h.after e)
          (one_more (is_empty_status e) h.is_count);
    }
first_push mode log opened e command empties open_is none false some had = record {
  before = log;
  cue = e;
  after = [];
  in_order = refl;
  is_command = refl;
  none_settles = sym (settled_stays mode log opened e open_is none);
  is_count = omega arith;
}
