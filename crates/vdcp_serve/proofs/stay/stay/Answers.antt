use Rattle.std.proofs.Common.{◌≡◌, ◌∙◌, ap, arith, subst}
use Rattle.vdcp_serve.proofs.Kept.{line_is, one_more}
use Rattle.vdcp_serve.proofs.stay.stay.Goals as goal
use Rattle.vdcp_serve.proofs.stay.stay.Goals.{in-Failed, in-Line}
use Rattle.vdcp_serve.specs.Stay.{IfLine, at_first, nobody_came, no_line_came, served}

pub turns-init : goal.turns-init
turns-init g c = record { kept = rw c.from-left.ensures at_first; made = c.requires }

pub turns-preserved-in-Nobody : goal.turns-preserved-in-Nobody
turns-preserved-in-Nobody g c =
    let looks = rw c.frame.ensures.next at c.show.ensures.looks in record {
      kept = rw c.frame.ensures.next
          (nobody_came (one_more c.turns.port c.turns.left c.turns-test.true c.turns.invariant.kept)
          (c.show.ensures.timing ∙ c.miss_line.ensures)
          record { noted = looks.noted; notes = looks.notes; shows = looks.shows; count = looks.count });
      made = c.wait.ensures.keeps ∙ c.turns.invariant.made;
    }

pub turns-preserved : goal.turns-preserved
turns-preserved g c =
    let more = one_more c.turns.port c.turns.left c.turns-test.true c.turns.invariant.kept in record {
      kept = elim c.match-branch-2.branch [
        | in-Failed w ↦
            rw (w.port-is, w.left-is, w.hooks-is)
            (no_line_came more (ap (λ t. record c.turns.hooks { timing = t }) w.miss_line-in-Failed.ensures))
        -- the line works, and so the server over it
        | in-Line w ↦
            rw (w.port-is, w.left-is, w.hooks-is, w.saturating_sub-left.ensures, w.turns-in-Line.ensures)
            (served {h' = w.serve_over-rest.new.hooks} more w.in-Line.line
            (line_is (g.D.Connections.is_line c.args.settings) c.in_ok-wait.field-0 w.in-Line.line w.in-Line.from w.in-Line.is
            (subst (λ s. IfLine c.in_ok-wait.field-0 (g.D.Connections.is_line s)) c.turns.invariant.made c.in_ok-wait.ensures.comes))
            (line_is (λ w. g.W.Wire.failures w ≡ 0) c.in_ok-wait.field-0 w.in-Line.line w.in-Line.from w.in-Line.is
            c.in_ok-wait.ensures.works)
            w.in-Line.from w.serve_over-rest.result.1 w.serve_over-rest.ensures)
      ];
      made = c.tell_end.ensures.keeps ∙ (c.wait.ensures.keeps ∙ c.turns.invariant.made);
    }

pub returns : goal.returns
returns g c =
    let none : c.turns.left ≡ 0 = omega (arith, c.turns-test.false) in rw none at c.turns.invariant.kept
