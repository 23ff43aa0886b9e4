use Rattle.std.proofs.Common.{◌≡◌, ◌∙◌, ◌≤◌, arith, subst, sym}
use Rattle.std.specs.Prelude.{IfOk, IfSome, None, Option, Some}
use Rattle.vdcp_list.specs.List.{items_of}
use Rattle.vdcp_run.proofs.Ending.{came_to_nothing, last_ends, latest_is}
use Rattle.vdcp_run.proofs.session.Session.play_events.Goals as goal
use Rattle.vdcp_run.proofs.session.Session.play_events.Goals.{in_default-2, in_default-2-2}
use Rattle.vdcp_run.specs.Run.{CameTo, IsEarlier, IsEnd, first, first_event, later, later_after}
use Rattle.vdcp_wire.specs.Streams.{Streamed}

pub tries-init : goal.tries-init
tries-init g c = record {
  unit = c.requires.unit;
  some = c.requires.some;
  few = c.requires.few;
  listed = c.requires.listed;
  works = c.try_events-end.ensures.works;
  tries = (
    None,
    first,
    subst (λ (wire : Option Streamed). CameTo g.row.R-Stream.Denot c.args.settings (items_of c.args.events.now) wire c.try_events-end.result.0
        c.try_events-end.result.1.line) c.requires.new c.try_events-end.ensures.came,
  );
  earlier = tt;
}

pub tries-preserved : goal.tries-preserved
tries-preserved g c =
    let before = c.tries.invariant in
    let same = c.in-Some.ensures.same in
    let count = c.len.ensures in
    record {
      unit = omega (arith, before.unit, same.0);
      some = omega (arith, before.some, same.1);
      few = omega (arith, before.few, same.1);
      listed = subst (λ n. first_event c.in-Some.later.from ≤ n) count
          (c.in-Some.ensures.listed (subst (λ n. first_event c.tries.settings.from ≤ n) (sym count) before.listed));
      works = c.try_events-next.ensures.works;
      tries = (
        c.tries.session.line,
        later before.tries.1 c.tries.end before.tries.2
            (subst (λ n. later_after c.tries.settings n c.tries.end ≡ Some c.in-Some.later) count (sym c.in-Some.ensures.later)),
        c.try_events-next.ensures.came,
      );
      earlier = subst (λ end. IfSome end (IsEarlier g.row.R-Stream.Denot c.args.settings (items_of c.args.events.now))) (sym c.latest_end-earlier.ensures)
          (latest_is c.args.settings c.tries.settings (items_of c.args.events.now) before.tries.0 c.tries.session.line before.tries.1
          c.tries.end c.tries.earlier before.tries.2 before.earlier);
    }

pub returns-in-Err-Some : goal.returns-in-Err-Some
returns-in-Err-Some g c =
    let at = c.in-Err-Some in
    let last = c.tries.invariant in
    let over = subst (λ n. later_after c.tries.settings n c.tries.end ≡ None) c.len.ensures
    (sym c.later_after.ensures.later ∙ c.in_default.is) in
    came_to_nothing c.args.settings c.tries.settings (items_of c.args.events.now) last.tries.0 c.tries.session.line last.tries.1
    at.failure at.before c.save_asrun_of_journal.result (rw at.is-0 at last.tries.2) (rw at.is-0 at over) (rw at.is-1 at last.earlier)
    c.save_asrun_of_journal.ensures

pub returns : goal.returns
returns g c =
    let over = subst (λ n. later_after c.tries.settings n c.tries.end ≡ None) c.len.ensures
    (sym c.later_after.ensures.later ∙ c.in_default.is) in
    let ends = last_ends c.args.settings c.tries.settings (items_of c.args.events.now) c.tries.invariant.tries.0 c.tries.session.line
    c.tries.invariant.tries.1 c.tries.end c.tries.invariant.tries.2 over in
    elim c.match-end.branch [
      | in_default-2 w ↦ subst (λ r. IfOk r (IsEnd g.row.R-Stream.Denot c.args.settings (items_of c.args.events.now))) (sym w.result-is) tt
      | in_default-2-2 w ↦ subst (λ r. IfOk r (IsEnd g.row.R-Stream.Denot c.args.settings (items_of c.args.events.now))) (sym w.result-is) ends
    ]
