-- The connections to a page take turns: what holds once one more had its turn.
use Rattle.std.proofs.Common.{◌≡◌, ◌<◌, ◌+◌, ◌∙◌, ℕ, zero, suc, List, [], ◌∷◌, drop, length, take, refl, sym, subst, ap, arith}
use Rattle.std.proofs.lemmas.List.{drop-drop, drop-set-lt}
use Rattle.std.specs.Prelude.{slice_index_or, slice_set}
use Rattle.http.specs.declared.request.Request.{Request}
use Rattle.http_server.specs.declared.response.Response.{Response}
use Rattle.vdcp_panel.specs.Turned.{HasTurned, HaveTurned}
use Rattle.vdcp_panel.specs.declared.desk.Desk.{Desk}
use Rattle.vdcp_panel.specs.declared.peer.Peer.{Peer}

same_head : {A : Type 0} (x y : A) (xs ys : List A) → (x ∷ xs) ≡ (y ∷ ys) → x ≡ y
same_head x y xs ys e = cc e

-- the first k had theirs, and then that at k, which had waited
pub one_more : {V T : Type 0} (answers : Desk V → Request (List ℕ) → Response → Desk V → Type 0) (s m s' : Desk V)
    (olds nows : List (Peer T)) (k : ℕ) (p q : Peer T) → k < length nows → drop k nows ≡ drop k olds
    → p ≡ slice_index_or nows k p
    → HaveTurned answers s (take k olds) (take k nows) m → HasTurned answers m p q s'
    → HaveTurned answers s (take (suc k) olds) (take (suc k) (slice_set nows k q)) s'
one_more answers s m s' olds [] k p q within waits at h c = absurd (omega (arith, within))
one_more answers s m s' [] (n ∷ ns) zero p q within waits at h c = cc waits
one_more answers s m s' (o ∷ os) (n ∷ ns) zero p q within waits at h c =
    let first : p ≡ o = at ∙ same_head n o ns os waits in
    (s', subst (λ x. HasTurned answers x o q s') h (subst (λ x. HasTurned answers m x q s') first c), refl)
one_more answers s m s' [] (n ∷ ns) (suc k) p q within waits at h c = absurd h
one_more answers s m s' (o ∷ os) (n ∷ ns) (suc k) p q within waits at h c =
    (h.0, h.1, one_more answers h.0 m s' os ns k p q (omega (arith, within)) waits at h.2 c)

-- those after k wait still
pub wait_still : {A : Type 0} (olds nows : List A) (k : ℕ) (q : A) → drop k nows ≡ drop k olds
    → drop (k + 1) (slice_set nows k q) ≡ drop (k + 1) olds
wait_still olds nows k q waits =
    drop-set-lt (k + 1) nows k q (omega arith) ∙ sym (drop-drop 1 k nows) ∙ ap (drop 1) waits ∙ drop-drop 1 k olds
