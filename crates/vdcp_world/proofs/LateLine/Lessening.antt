-- What is left of what is on the way, and of the port, if something is left out or comes twice, or the port changes by
-- itself.
use Rattle.std.proofs.Common.{◌≡◌, ℕ, ◌⊎◌, inl, inr, Bool, true, false, List, [], ◌∷◌, ◌++◌, ◌≤◌, refl, sym, ap, subst, ◌∙◌, ◌+◌, ◌*◌, arith, ◌||◌, not, nat_eq}
use Rattle.std.specs.List.{list_any}
use Rattle.std.proofs.lemmas.Bool.{or_from}
use Rattle.vdcp_value.specs.declared.part.Item.{Item}
use Rattle.vdcp_port.specs.Port.{Cued, empty, cueing, done, made_ready, is_done as is_done_cue}
use Rattle.vdcp_auto.specs.declared.phase.Mode.{Mode}
use Rattle.vdcp_auto.specs.declared.phase.Phase.{Phase}
use Rattle.vdcp_auto.specs.declared.phase.Phase.TheVariants as phase
use Rattle.vdcp_world.specs.LateLine.Pipe.{Climbs, IsPipe, stretch, stretches, oldest_stretch}
use Rattle.vdcp_world.specs.LateLine.Asking.{asked_by}
use Rattle.vdcp_world.specs.LateLine.Asking.{Question}
use Rattle.vdcp_world.specs.LateLine.Asking as question
use Rattle.std.specs.Prelude.{Some}
use Rattle.vdcp_world.proofs.LateLine.Pipes.{climbs_pushed, climbs_thins}
use Rattle.vdcp_world.proofs.LateLine.Stretches.{pipe_copied, pipe_pushed}
use Rattle.vdcp_world.proofs.LateLine.Places.{Answer, pipe_of, plays, says_done, says_empty, HasItem, HasDone, HasNone}
use Rattle.vdcp_world.proofs.LateLine.Thinning.{Thins, any_thins, none_thins}
use Rattle.vdcp_world.proofs.PhaseTable.{cued_item}
use Rattle.vdcp_auto.specs.declared.phase.Mode.TheVariants.{Plain, Confirming}

-- ---- what is said and sent

-- a state that shows that nothing is cued never comes after one that shows a cue to be done
abbrev pub FullAfterDone : List Answer → Type 0
FullAfterDone [] = Unit {0}
FullAfterDone (x ∷ ups) = (says_done x ≡ true → list_any says_empty ups ≡ false) × FullAfterDone ups

abbrev pub cues : Phase → Bool
cues (phase.Cue k) = true
cues _ = false

abbrev pub cues_other : ℕ → Phase → Bool
cues_other s (phase.Cue k) = not (nat_eq k s)
cues_other s _ = false

-- each cue is of one event, and none comes after a PLAY
abbrev pub LastOf : ℕ → List Phase → Type 0
LastOf s [] = Unit {0}
LastOf s (d ∷ downs) = (cues_other s d ≡ false) × (plays d ≡ true → list_any cues downs ≡ false) × LastOf s downs

pub full_thins : (ups others : List Answer) → Thins ups others → FullAfterDone ups → FullAfterDone others
full_thins [] others t h = subst FullAfterDone (sym t) tt
full_thins (x ∷ ups) others (inl t) h = full_thins ups others t h.1
full_thins (x ∷ ups) others (inr (rest, is, t)) h =
    subst FullAfterDone (sym is) (λ e. none_thins says_empty ups rest t (h.0 e), full_thins ups rest t h.1)

pub none_copied : (test : Phase → Bool) (d : Phase) (downs : List Phase) → list_any test (d ∷ downs) ≡ false
    → list_any test (d ∷ d ∷ downs) ≡ false
none_copied test d downs e = by (test d) (list_any test downs) e
  where
    by : (x y : Bool) → (x || y) ≡ false → (x || (x || y)) ≡ false
    by x y e = grind arith

pub last_thins : (s : ℕ) (downs left : List Phase) → Thins downs left → LastOf s downs → LastOf s left
last_thins s [] left t h = subst (LastOf s) (sym t) tt
last_thins s (d ∷ downs) left (inl t) h = last_thins s downs left t h.2
last_thins s (d ∷ downs) left (inr (rest, is, t)) h =
    subst (LastOf s) (sym is) (h.0, λ e. none_thins cues downs rest t (h.1 e), last_thins s downs rest t h.2)

plays_not_cues : (d : Phase) → plays d ≡ true → cues d ≡ false
plays_not_cues d e = grind arith

pub last_copied : (s : ℕ) (d : Phase) (downs : List Phase) → LastOf s (d ∷ downs) → LastOf s (d ∷ d ∷ downs)
last_copied s d downs h = (h.0, λ e. or_from (cues d) (list_any cues downs) (plays_not_cues d e) (h.1 e), h)

-- ---- the pipe

module _ (mode : Mode) where
  -- the pipe
  pub pipe_thins : (n : ℕ) (ups others : List Answer) (downs left : List Phase) → Thins ups others → Thins downs left
      → Thins (stretches mode n (pipe_of ups downs)) (stretches mode n (pipe_of others left))
  pipe_thins n [] others downs left u d =
      subst (λ (o : List Answer). Thins (stretches mode n downs) (stretches mode n (pipe_of o left))) (sym u)
      (below downs left d)
    where
      below : (downs left : List Phase) → Thins downs left → Thins (stretches mode n downs) (stretches mode n left)
      below [] left d = ap (stretches mode n) d
      below (x ∷ downs) left (inl d) = inl (below downs left d)
      below (x ∷ downs) left (inr (rest, is, d)) =
          inr (stretches mode n rest, ap (stretches mode n) is, below downs rest d)
  pipe_thins n (a ∷ ups) others downs left (inl u) d = inl (pipe_thins n ups others downs left u d)
  pipe_thins n (a ∷ ups) others downs left (inr (rest, is, u)) d =
      inr (
        stretches mode n (pipe_of rest left),
        ap (λ (o : List Answer). stretches mode n (pipe_of o left)) is,
        pipe_thins n ups rest downs left u d,
      )

  -- a phase's pipe is one still where what climbs in it climbs still
  flow_maps : (n : ℕ) (pipe other : List Phase) (q : Phase) → ((low high : ℕ) → Climbs low high (stretches mode n pipe)
      → Climbs low high (stretches mode n other)) → IsPipe mode n q pipe → IsPipe mode n q other
  flow_maps n pipe other phase.Halt f c = tt
  flow_maps n pipe other phase.HaltClose f c = tt
  flow_maps n pipe other _ f c = f _ _ c

  pub flow_thins : (n : ℕ) (ups others : List Answer) (downs left : List Phase) (q : Phase) → Thins ups others
      → Thins downs left → IsPipe mode n q (pipe_of ups downs) → IsPipe mode n q (pipe_of others left)
  flow_thins n ups others downs left q u d =
      flow_maps n (pipe_of ups downs) (pipe_of others left) q (λ low high. climbs_thins low high
      (stretches mode n (pipe_of ups downs)) (stretches mode n (pipe_of others left)) (pipe_thins n ups others downs
      left u d))

  -- the oldest command is copied in its place
  pub flow_copied : (n : ℕ) (ups : List Answer) (d : Phase) (downs : List Phase) (q : Phase)
      → IsPipe mode n q (pipe_of ups (d ∷ downs)) → IsPipe mode n q (pipe_of ups (d ∷ d ∷ downs))
  flow_copied n ups d downs q =
      flow_maps n (pipe_of ups (d ∷ downs)) (pipe_of ups (d ∷ d ∷ downs)) q (λ low high. pipe_copied mode n low high ups
      d downs)

  -- the pipe with one more of the greatest
  pushed : (n low : ℕ) (ups : List Answer) (downs : List Phase) (q : Phase) → low ≤ stretch mode n q
      → Climbs low (stretch mode n q) (stretches mode n (pipe_of ups downs))
      → Climbs low (stretch mode n q) (stretches mode n (pipe_of ups (downs ++ q ∷ [])))
  pushed n low ups downs q l c =
      subst (Climbs low (stretch mode n q)) (sym (pipe_pushed mode n ups downs q)) (climbs_pushed low (stretch mode n q)
      (stretches mode n (pipe_of ups downs)) l c)

pub flow_pushed : (mode : Mode) (n : ℕ) (ups : List Answer) (downs : List Phase) (q : Phase)
    → IsPipe mode n q (pipe_of ups downs) → IsPipe mode n q (pipe_of ups (downs ++ q ∷ []))
flow_pushed mode n ups downs phase.Halt c = tt
flow_pushed mode n ups downs phase.HaltClose c = tt
flow_pushed Plain n ups downs (phase.Cue k) c = pushed Plain n (5 * k + 2) ups downs (phase.Cue k) (omega arith) c
flow_pushed Confirming n ups downs (phase.Cue k) c =
    pushed Confirming n (5 * k + 2) ups downs (phase.Cue k) (omega arith) c
flow_pushed Plain n ups downs (phase.Wait k) c = pushed Plain n (5 * k + 3) ups downs (phase.Wait k) (omega arith) c
flow_pushed Confirming n ups downs (phase.Wait k) c =
    pushed Confirming n (5 * k + 2) ups downs (phase.Wait k) (omega arith) c
flow_pushed mode n ups downs q c = pushed mode n (oldest_stretch mode n q) ups downs q (omega arith) c

pub unwrapped : {p d : Phase} → Some p ≡ Some d → p ≡ d
unwrapped is = cc

-- the pipe with one question more, which is of the phase's own stretch
of_stretch : (mode : Mode) (n : ℕ) (asks : Question) (q d : Phase) → asked_by asks q ≡ Some d
    → stretch mode n d ≡ stretch mode n q
of_stretch mode n question.Open phase.Open d is = ap (stretch mode n) (sym (unwrapped is))
of_stretch mode n question.Select phase.Open phase.Select is = refl
of_stretch mode n question.State phase.Open phase.Seen is = refl
of_stretch mode n question.State phase.Select phase.Seen is = refl
of_stretch mode n question.State phase.Seen phase.Seen is = refl
of_stretch mode n question.State (phase.Wait k) d is = ap (stretch mode n) (sym (unwrapped is))
of_stretch mode n question.State (phase.Play k) d is = ap (stretch mode n) (sym (unwrapped is))
of_stretch mode n question.State (phase.Probe k) d is = ap (stretch mode n) (sym (unwrapped is))
of_stretch mode n question.State phase.Drain d is = ap (stretch mode n) (sym (unwrapped is))
of_stretch mode n asks q d is = cc

pub flow_asked : (mode : Mode) (n : ℕ) (ups : List Answer) (downs : List Phase) (asks : Question) (q d : Phase)
    → asked_by asks q ≡ Some d → IsPipe mode n q (pipe_of ups downs) → IsPipe mode n q (pipe_of ups (downs ++ d ∷ []))
flow_asked mode n ups downs asks q d is c =
    flow_maps mode n (pipe_of ups (downs ++ q ∷ [])) (pipe_of ups (downs ++ d ∷ [])) q
    (λ low high. subst (Climbs low high) (pipe_pushed mode n ups downs q
    ∙ ap (λ (x : ℕ). stretches mode n (pipe_of ups downs) ++ x ∷ []) (sym (of_stretch mode n asks q d is))
    ∙ sym (pipe_pushed mode n ups downs d))) (flow_pushed mode n ups downs q c)

-- ---- the port changes by itself: its cue gets done, or it is made anew

-- what it has it has still, or it can't be made to play
pub record Ages (s : Bool) (a : Cued) (t : Bool) (b : Cued) : Type 0 where
  pub no_more : t ≡ true → s ≡ true
  pub item : t ≡ true → cued_item b ≡ cued_item a
  pub done : t ≡ true → is_done_cue a ≡ true → is_done_cue b ≡ true
  pub none : t ≡ true → a ≡ empty → b ≡ empty
  -- and whatever the port, nothing else is cued than was
  pub still_empty : a ≡ empty → b ≡ empty
  pub nothing_else : (b ≡ empty) ⊎ (cued_item b ≡ cued_item a)

pub item_ages : (list : List Item) (s : Bool) (a : Cued) (t : Bool) (b : Cued) (k : ℕ) → Ages s a t b
    → HasItem list s a k → HasItem list t b k
item_ages list s a t b k g h = λ e. g.item e ∙ h (g.no_more e)

pub done_ages : (s : Bool) (a : Cued) (t : Bool) (b : Cued) → Ages s a t b → HasDone s a → HasDone t b
done_ages s a t b g h = λ e. g.done e (h (g.no_more e))

pub none_ages : (s : Bool) (a : Cued) (t : Bool) (b : Cued) → Ages s a t b → HasNone s a → HasNone t b
none_ages s a t b g h = λ e. g.none e (h (g.no_more e))

pub same_ages : (s : Bool) (a : Cued) → Ages s a s a
same_ages s a =
    record {
      no_more = λ e. e;
      item = λ _. refl;
      done = λ _ e. e;
      none = λ _ e. e;
      still_empty = λ e. e;
      nothing_else =
          inr refl;
    }

pub ready_ages : (s : Bool) (a : Cued) → Ages s a s (made_ready a)
ready_ages s empty = same_ages s empty
ready_ages s (cueing x) =
    record {
      no_more = λ e. e;
      item = λ _. refl;
      done = λ _ _. refl;
      none = λ _ e. cc;
      still_empty = λ e. cc;
      nothing_else = inr refl;
    }
ready_ages s (done x) = same_ages s (done x)

pub anew_ages : (s : Bool) (a : Cued) → Ages s a false empty
anew_ages s a =
    record {
      no_more = λ e. cc;
      item = λ e. cc;
      done = λ e. cc;
      none = λ e. cc;
      still_empty = λ _. refl;
      nothing_else =
          inl refl;
    }

-- ---- all of it

-- less, or the same
pub record Lessens (s : Bool) (a : Cued) (ups : List Answer) (downs : List Phase) (t : Bool) (b : Cued)
    (others : List Answer) (left : List Phase) : Type 0 where
  pub ages : Ages s a t b
  pub ups_none : (test : Answer → Bool) → list_any test ups ≡ false → list_any test others ≡ false
  pub ups_any : (test : Answer → Bool) → list_any test others ≡ true → list_any test ups ≡ true
  pub downs_none : (test : Phase → Bool) → list_any test downs ≡ false → list_any test left ≡ false
  pub full : FullAfterDone ups → FullAfterDone others
  pub last : (k : ℕ) → LastOf k downs → LastOf k left
  pub flows : (mode : Mode) (n : ℕ) (q : Phase) → IsPipe mode n q (pipe_of ups downs)
      → IsPipe mode n q (pipe_of others left)

pub thinned : (s : Bool) (a : Cued) (ups others : List Answer) (downs left : List Phase) → Thins ups others
    → Thins downs left → Lessens s a ups downs s a others left
thinned s a ups others downs left u d = record {
  ages = same_ages s a;
  ups_none = λ test. none_thins test ups others u;
  ups_any = λ test. any_thins test ups others u;
  downs_none = λ test. none_thins test downs left d;
  full = full_thins ups others u;
  last = λ k. last_thins k downs left d;
  flows = λ mode n q. flow_thins mode n ups others downs left q u d;
}

pub copied : (s : Bool) (a : Cued) (ups : List Answer) (d : Phase) (downs : List Phase)
    → Lessens s a ups (d ∷ downs) s a ups (d ∷ d ∷ downs)
copied s a ups d downs = record {
  ages = same_ages s a;
  ups_none = λ test e. e;
  ups_any = λ test e. e;
  downs_none = λ test. none_copied test d downs;
  full = λ h. h;
  last = λ k. last_copied k d downs;
  flows = λ mode n q. flow_copied mode n ups d downs q;
}

pub aged : (s : Bool) (a : Cued) (t : Bool) (b : Cued) (ups : List Answer) (downs : List Phase) → Ages s a t b
    → Lessens s a ups downs t b ups downs
aged s a t b ups downs g = record {
  ages = g;
  ups_none = λ test e. e;
  ups_any = λ test e. e;
  downs_none = λ test e. e;
  full = λ h. h;
  last = λ k h. h;
  flows = λ mode n q h. h;
}
