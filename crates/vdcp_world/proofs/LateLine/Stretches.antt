-- Which phases are in the stretches that a pipe can have.
use Rattle.std.proofs.Common.{◌≡◌, ℕ, ◌+◌, ◌*◌, ◌<◌, ◌≤◌, ◌⊎◌, inl, inr, Bool, false, List, [], ◌∷◌, ◌++◌, refl, arith, ap}
use Rattle.std.proofs.lemmas.Bool.{or_parts}
use Rattle.std.specs.List.{list_any}
use Rattle.vdcp_auto.specs.declared.phase.Mode.{Mode}
use Rattle.vdcp_auto.specs.declared.phase.Mode.TheVariants.{Plain, Confirming}
use Rattle.vdcp_auto.specs.declared.phase.Phase.{Phase}
use Rattle.vdcp_auto.specs.declared.phase.Phase.TheVariants as phase
use Rattle.vdcp_world.specs.LateLine.Pipe.{stretch, Climbs, stretches}
use Rattle.vdcp_world.proofs.LateLine.Places.{Answer, pipe_of}
use Rattle.vdcp_world.proofs.LateLine.Pipes.{climbs_within}

-- a phase's stretch lies between these
abbrev pub Lies : Mode → ℕ → ℕ → ℕ → Phase → Type 0
Lies mode n low high d = (low ≤ stretch mode n d) × (stretch mode n d ≤ high)

-- ---- in plain mode

pub cue_or_before : (n k : ℕ) (d : Phase) → k < n → Lies Plain n (5 * k + 2) (5 * k + 3) d
    → ((j : ℕ) × (d ≡ phase.Exists j)) ⊎ (d ≡ phase.Cue k)
cue_or_before n k (phase.Exists j) below l = inl (j, refl)
cue_or_before n k (phase.Cue j) below l = let e : j ≡ k = omega arith in inr (ap phase.Cue e)
cue_or_before n k d below l = absurd (omega arith)

pub wait_or_before : (n k : ℕ) (d : Phase) → k < n → Lies Plain n (5 * k + 3) (5 * k + 4) d
    → (d ≡ phase.Cue k) ⊎ (d ≡ phase.Wait k)
wait_or_before n k (phase.Cue j) below l = let e : j ≡ k = omega arith in inl (ap phase.Cue e)
wait_or_before n k (phase.Wait j) below l = let e : j ≡ k = omega arith in inr (ap phase.Wait e)
wait_or_before n k d below l = absurd (omega arith)

pub play_or_before : (n k : ℕ) (d : Phase) → k < n → Lies Plain n (5 * k + 4) (5 * k + 5) d
    → (d ≡ phase.Wait k) ⊎ (d ≡ phase.Play k) ⊎ (d ≡ phase.Probe k)
play_or_before n k (phase.Wait j) below l = let e : j ≡ k = omega arith in inl (ap phase.Wait e)
play_or_before n k (phase.Play j) below l = let e : j ≡ k = omega arith in inr (inl (ap phase.Play e))
play_or_before n k (phase.Probe j) below l = let e : j ≡ k = omega arith in inr (inr (ap phase.Probe e))
play_or_before n k d below l = absurd (omega arith)

pub check_or_before : (mode : Mode) (n k : ℕ) (d : Phase) → k < n → Lies mode n (5 * k + 5) (5 * k + 6) d
    → (d ≡ phase.Play k) ⊎ (d ≡ phase.Probe k) ⊎ (d ≡ phase.Check k)
check_or_before mode n k (phase.Play j) below l = let e : j ≡ k = omega arith in inl (ap phase.Play e)
check_or_before mode n k (phase.Probe j) below l = let e : j ≡ k = omega arith in inr (inl (ap phase.Probe e))
check_or_before mode n k (phase.Check j) below l = let e : j ≡ k = omega arith in inr (inr (ap phase.Check e))
check_or_before Plain n k (phase.Cue j) below l = absurd (omega arith)
check_or_before Confirming n k (phase.Cue j) below l = absurd (omega arith)
check_or_before mode n k d below l = absurd (omega arith)

-- ---- lists of phases between bounds

module _ (mode : Mode) (n low high : ℕ) where
  -- none passes a test that none between the bounds passes
  pub none_within : (test : Phase → Bool) (ds : List Phase) → ((d : Phase) → Lies mode n low high d → test d ≡ false)
      → Climbs low high (stretches mode n ds) → list_any test ds ≡ false
  none_within test [] f c = refl
  none_within test (d ∷ ds) f c =
      let here = f d (c.0, c.1) in
      let rest = none_within test ds f (climbs_within (stretch mode n d) high low high
      (stretches mode n ds) c.0 (omega arith) c.2) in
      rw here rest

  -- what is on the way down climbs as the pipe does
  pub downs_climb : (ups : List Answer) (downs : List Phase) → Climbs low high (stretches mode n (pipe_of ups downs))
      → Climbs low high (stretches mode n downs)
  downs_climb [] downs c = c
  downs_climb (a ∷ ups) downs c =
      downs_climb ups downs (climbs_within (stretch mode n a.to) high low high (stretches mode n (pipe_of ups downs))
      c.0 (omega arith) c.2)

module _ (mode : Mode) (n low high : ℕ) (ups : List Answer) (d : Phase) (downs : List Phase) where
  -- and after one of it, from that one on
  pub climbs_after : Climbs low high (stretches mode n (pipe_of ups (d ∷ downs)))
      → Climbs (stretch mode n d) high (stretches mode n downs)
  climbs_after c = (downs_climb mode n low high ups (d ∷ downs) c).2

  -- of numbers that climb each is as high as the first ones at least
  lowest_at : Climbs low high (stretches mode n (pipe_of ups (d ∷ downs))) → low ≤ stretch mode n d
  lowest_at c = (downs_climb mode n low high ups (d ∷ downs) c).0

module _ (mode : Mode) where
  -- the answers climb up to what is on the way down
  pub climbs_before : (n low high : ℕ) (ups : List Answer) (d : Phase) (downs : List Phase)
      → Climbs low high (stretches mode n (pipe_of ups (d ∷ downs)))
      → Climbs low (stretch mode n d) (stretches mode n (pipe_of ups []))
  climbs_before n low high [] d downs c = tt
  climbs_before n low high (a ∷ ups) d downs c = (
    c.0,
    lowest_at mode n (stretch mode n a.to) high ups d downs c.2,
    climbs_before n
        (stretch mode n a.to) high ups d downs c.2,
  )

  -- the answers climb as the pipe does
  pub ups_climb : (n low high : ℕ) (ups : List Answer) (downs : List Phase)
      → Climbs low high (stretches mode n (pipe_of ups downs)) → Climbs low high (stretches mode n (pipe_of ups []))
  ups_climb n low high [] downs c = tt
  ups_climb n low high (a ∷ ups) downs c = (c.0, c.1, ups_climb n (stretch mode n a.to) high ups downs c.2)

  -- of answers between bounds, of which none passes one test, none passes another
  pub none_answers : (n low high : ℕ) (given test : Answer → Bool) (ups : List Answer)
      → ((a : Answer) → Lies mode n low high a.to → given a ≡ false → test a ≡ false)
      → Climbs low high (stretches mode n (pipe_of ups [])) → list_any given ups ≡ false → list_any test ups ≡ false
  none_answers n low high given test [] f c m = refl
  none_answers n low high given test (a ∷ ups) f c m =
      let here = f a (c.0, c.1) (or_parts (given a) (list_any given ups) m).0 in
      let rest = none_answers n low high given test ups f
      (climbs_within (stretch mode n a.to) high low high (stretches mode n (pipe_of ups [])) c.0 (omega arith) c.2)
      (or_parts (given a) (list_any given ups) m).1 in
      rw here rest

  -- one on the way down lies between the bounds
  pub lies_at : (n low high : ℕ) (ups : List Answer) (d : Phase) (downs : List Phase)
      → Climbs low high (stretches mode n (pipe_of ups (d ∷ downs))) → Lies mode n low high d
  lies_at n low high ups d downs c = let h = downs_climb mode n low high ups (d ∷ downs) c in (h.0, h.1)

-- one that is delivered moves within the pipe
pub pipe_delivered : (ups : List Answer) (a : Answer) (downs : List Phase)
    → pipe_of (ups ++ a ∷ []) downs ≡ pipe_of ups (a.to ∷ downs)
pipe_delivered [] a downs = refl
pipe_delivered (x ∷ ups) a downs = ap (λ (p : List Phase). x.to ∷ p) (pipe_delivered ups a downs)

-- one that is sent joins it at the end
pub pipe_pushed : (mode : Mode) (n : ℕ) (ups : List Answer) (downs : List Phase) (q : Phase)
    → stretches mode n (pipe_of ups (downs ++ q ∷ [])) ≡ stretches mode n (pipe_of ups downs) ++ stretch mode n q ∷ []
pipe_pushed mode n [] [] q = refl
pipe_pushed mode n [] (d ∷ downs) q = ap (λ (p : List ℕ). stretch mode n d ∷ p) (pipe_pushed mode n [] downs q)
pipe_pushed mode n (a ∷ ups) downs q = ap (λ (p : List ℕ). stretch mode n a.to ∷ p) (pipe_pushed mode n ups downs q)

-- one is copied in its place
pub pipe_copied : (mode : Mode) (n low high : ℕ) (ups : List Answer) (d : Phase) (downs : List Phase)
    → Climbs low high (stretches mode n (pipe_of ups (d ∷ downs)))
    → Climbs low high (stretches mode n (pipe_of ups (d ∷ d ∷ downs)))
pipe_copied mode n low high [] d downs c = (c.0, c.1, (omega arith, c.1, c.2))
pipe_copied mode n low high (a ∷ ups) d downs c =
    (c.0, c.1, pipe_copied mode n (stretch mode n a.to) high ups d downs c.2)
