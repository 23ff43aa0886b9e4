-- A port that is kept, one connection after another, and the frames between two of them.
use Rattle.std.proofs.Common.{◌≡◌, ◌∙◌, ℕ, zero, suc, List, ap, refl, subst}
use Rattle.std.specs.Prelude.{Option, Some}
use Rattle.vdcp_port.specs.Clock.{ClockedPort, after_frame, after_frames}
use Rattle.vdcp_serve.specs.Serve.{IsTaken, LineDoes, line_failures}
use Rattle.vdcp_serve.specs.Stay.{IsKept, IsServed, at_first, no_line_came, nobody_came, served}
use Rattle.vdcp_serve.specs.declared.hooks.Hooks.{Hooks}
use Rattle.vdcp_serve.specs.declared.serve.ServeSettings.{ServeSettings}
use Rattle.vdcp_laws.specs.Stays.{HasServedEach, none, one_more}

-- a frame more, at the end or at the beginning
one_frame : (n : ℕ) (p : ClockedPort) → after_frame (after_frames n p) ≡ after_frames n (after_frame p)
one_frame zero p = refl
one_frame (suc n) p = one_frame n (after_frame p)

-- a port that is kept was served over its lines, with the frames between them
pub kept_over : {S R L : Type 0} {ahead written : S → Option (List ℕ)} {settings : ServeSettings} {port : ClockedPort}
    {first : Hooks R L} (now : ClockedPort) (left : ℕ) (h : Hooks R L)
    → IsKept (LineDoes {L = L}) line_failures (IsTaken ahead written settings) settings port first now left h
    → HasServedEach R L ahead written settings port now
kept_over {port = port} _ _ _ at_first = record { left = port; lines = none; frames = 0; now_is = refl }
kept_over _ left h' (nobody_came {now = now} {h = h} kept anew looks) =
    let so = kept_over now (suc left) h kept in record {
      left = so.left;
      lines = so.lines;
      frames = suc so.frames;
      now_is = ap after_frame so.now_is ∙ one_frame so.frames so.left;
    }
kept_over now left h' (no_line_came {h = h} kept anew) = kept_over now (suc left) h kept
kept_over {settings = settings} now' _ h' (served {now = now} {left = left} {h = h} kept line taken works from answer s) =
    let so = kept_over now (suc left) h kept in record {
      left = now';
      lines = one_more so.lines so.frames left line taken (Some from) answer h h'
          (subst (λ (p : ClockedPort). IsServed LineDoes line_failures settings left p line (Some from) h now' answer h') so.now_is s);
      frames = 0;
      now_is = refl;
    }
