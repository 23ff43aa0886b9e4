use Rattle.std.proofs.Common.{◌+◌, ◌++◌, ◌≤◌, ℕ, length, sym, ap, subst, ◌∙◌, List}
use Rattle.vdcp_value.specs.declared.part.Item.{Item}
use Rattle.vdcp_journal.specs.Airings.{settled_in}
use Rattle.vdcp_laws.specs.TwoEnds.{aired_now, with_kept}
use Rattle.vdcp_laws.specs.SeveralRuns.{aired_from}
use Rattle.vdcp_laws.proofs.Headline.{Laws}
use Rattle.vdcp_laws.proofs.Killed.{kept_aired, kept_joined}
use Rattle.vdcp_laws.proofs.Numbered.{beginning}
use Rattle.vdcp_laws.proofs.SeveralRuns.{Grows, all_ascend, all_events, asks_same, most_aired, number_aired}
use Rattle.vdcp_laws.proofs.two_ends.several_runs_air_each_event_once.Goals as goal

pub returns : goal.returns
returns c =
    let law : Laws = record {
      ends = c.two_ends_are_a_late_channel.ensures.ends;
      headline = c.a_late_line_keeps_the_headline.ensures;
    } in
    let grows : Grows = record {
      settled_is = c.a_log_grows.ensures.settled;
      airing_is = c.a_log_grows.ensures.airing;
    } in
    let thinned = c.a_thinned_journal_makes_the_same.ensures in
    record {
      once = all_ascend;
      events = all_events law;
      list = λ list items have. beginning list items (all_events law list (aired_from 0 items) have);
      next = λ plan port asked kept now all rows asks can j since noted thin few quiet.
          let same = asks_same grows plan.mode rows asks few in
          ap (length {A = Item}) (sym (kept_aired plan port asked kept now j since))
          ∙ number_aired law plan port asked (with_kept kept now) all can (kept_joined plan port asked kept now j since) noted
          (sym (thinned.airs plan.mode all (rows ++ asks) thin) ∙ same.0 quiet)
          ∙ sym (thinned.counts plan.mode all (rows ++ asks) thin) ∙ same.1;
      most = λ plan port asked kept now all rows asks can j since noted thin few.
          let same = asks_same grows plan.mode rows asks few in
          subst (λ (n : ℕ). length (aired_now now) ≤ n + 1)
          (sym (thinned.counts plan.mode all (rows ++ asks) thin) ∙ same.1)
          (subst (λ (l : List Item). length l ≤ settled_in plan.mode all + 1) (kept_aired plan port asked kept now j since)
          (most_aired law plan port asked (with_kept kept now) all can (kept_joined plan port asked kept now j since) noted));
    }
