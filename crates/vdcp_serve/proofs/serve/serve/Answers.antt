use Rattle.std.proofs.Common.{Bool, subst, sym}
use Rattle.std.proofs.lemmas.Result.{err_from_is_err_and}
use Rattle.vdcp_port.specs.Clock.{ClockedPort}
use Rattle.vdcp_serve.proofs.serve.serve.Goals as goal
use Rattle.vdcp_serve.proofs.serve.serve.Goals.{then-settings+in_ok-end, else-settings+in_ok-end-2}
use Rattle.vdcp_serve.specs.Serve.{AreNewHooks, ServesBy}

pub returns-in_err-clips-clause-refused : goal.returns-in_err-clips-clause-refused
returns-in_err-clips-clause-refused g c =
    let p = err_from_is_err_and c.from_residual.result c.from_residual.ensures.1 in
    rw (p.1, p.2) (λ is. record { failure = _; refused = c.in_err-clips.ensures.refused; of_row = is })

pub returns-in-Ok-write_end-clause-served : goal.returns-in-Ok-write_end-clause-served
returns-in-Ok-write_end-clause-served g c =
    let port = c.new_port-port.ensures in
    elim c.if-settings.branch [
      | then-settings+in_ok-end w ↦
          let s = w.in_ok-end.ensures.served in record {
            clips = c.in_ok-clips.clips;
            reads = c.in_ok-clips.ensures.clips;
            first = s.0;
            last = s.1;
            new = subst (λ p. AreNewHooks c.args.settings p s.0) port s.3;
            left = s.2;
            serves = subst (λ (p : ClockedPort). ServesBy c.args.settings.stay g.row.R-Listener.Denot g.R.Stream.Duplex.ahead
                g.R.Stream.Duplex.written c.args.settings p s.0 s.1 s.2) port
                (subst (λ (b : Bool). ServesBy b g.row.R-Listener.Denot g.R.Stream.Duplex.ahead g.R.Stream.Duplex.written c.args.settings
                c.new_port-port.result s.0 s.1 s.2) (sym w.if-settings.true) s.4);
          }
      | else-settings+in_ok-end-2 w ↦
          let s = w.in_ok-end-2.ensures.served in record {
            clips = c.in_ok-clips.clips;
            reads = c.in_ok-clips.ensures.clips;
            first = s.0;
            last = s.1;
            new = subst (λ p. AreNewHooks c.args.settings p s.0) port s.3;
            left = s.2;
            serves = subst (λ (p : ClockedPort). ServesBy c.args.settings.stay g.row.R-Listener.Denot g.R.Stream.Duplex.ahead
                g.R.Stream.Duplex.written c.args.settings p s.0 s.1 s.2) port
                (subst (λ (b : Bool). ServesBy b g.row.R-Listener.Denot g.R.Stream.Duplex.ahead g.R.Stream.Duplex.written c.args.settings
                c.new_port-port.result s.0 s.1 s.2) (sym w.if-settings.false) s.4);
          }
    ]
