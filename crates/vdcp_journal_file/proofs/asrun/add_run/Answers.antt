use Rattle.std.proofs.Common.{ℕ, List, ap, length, subst, ◌∙◌}
use Rattle.vdcp_journal.specs.declared.airings.Airing.{Airing}
use Rattle.vdcp_journal_file.proofs.Shown.{shows_written, text_twice, to_print}
use Rattle.vdcp_journal_file.proofs.asrun.add_run.Goals as goal
use Rattle.vdcp_journal_file.specs.Resuming.{EndsSo}
use Rattle.vdcp_journal_file.specs.Showing.{left_unsure}

pub left_unsure-unsure-requires : goal.left_unsure-unsure-requires
left_unsure-unsure-requires g c =
    let (heading, run, runs, shows) = c.requires in
    (to_print _ heading run _ _ _ _ shows.0 (subst (EndsSo (g.S.Source.items c.args.events.now) heading run) c.in_ok-first.was shows.0.ends_so)
    (g.met.S.Source.countable c.args.events.now)).counts

pub add_reported-requires : goal.add_reported-requires
add_reported-requires g c =
    let (heading, run, runs, shows) = c.requires in
    rw c.as_slice-airings.ensures.value (to_print _ heading run _ _ _ _ shows.0
    (subst (EndsSo (g.S.Source.items c.args.events.now) heading run) c.in_ok-first.was shows.0.ends_so)
    (g.met.S.Source.countable c.args.events.now)).listed

pub add_skipped-requires : goal.add_skipped-requires
add_skipped-requires g c =
    let (heading, run, runs, shows) = c.requires in
    (to_print _ heading run _ _ _ _ shows.0 (subst (EndsSo (g.S.Source.items c.args.events.now) heading run) c.in_ok-first.was shows.0.ends_so)
    (g.met.S.Source.countable c.args.events.now)).left

pub returns : goal.returns
returns g c = λ heading run runs shows.
    let ends = subst (EndsSo (g.S.Source.items c.args.events.now) heading run) c.in_ok-first.was shows.0.ends_so in
    let is = c.left_unsure-unsure.ensures ∙ ap (λ (n : ℕ). left_unsure c.args.shown.now.unsure c.args.run.now.from n
    c.args.run.now.unsettled) (ap (λ (l : List Airing). length l) c.as_slice-airings.ensures.value) in
    let p = to_print _ heading run _ _ _ _ shows.0 ends (g.met.S.Source.countable c.args.events.now) in
    record {
      text = _;
      told = _;
      shows = shows_written c.args.settings _ heading c.args.calls.now run runs c.args.run.now _ _ c.args.shown.now.unsure c.next_begin-next.result
          c.left_unsure-unsure.result shows.0 ends p (c.next_begin-next.ensures _ heading runs shows.1) is;
      text_is = text_twice _ _ _ _ _ (rw c.as_slice-airings.ensures.value at c.in_ok-add_reported.ensures.text)
          (rw (c.why_skipped-why.ensures, c.is_left_out.ensures) at c.in_ok-add_skipped.ensures.text);
      told_is = rw c.undecided.ensures at c.in_ok-add_event.ensures.told;
      unsure_is = is ∙ p.is_after c.args.shown.now.unsure;
    }
