use Rattle.vdcp_laws.proofs.Mended.{below_of, is_mended}
use Rattle.vdcp_laws.proofs.killed_runs.a_mended_journal_is_gone_on_with.Goals as goal

pub returns : goal.returns
returns c =
    is_mended (below_of (record {
      comes = c.an_announced_play_comes_next.ensures;
      makes = c.a_journal_makes_the_automation.ensures.makes;
      told = c.a_journal_makes_the_automation.ensures.told;
      thinned_makes = c.a_thinned_journal_makes_the_same.ensures.makes;
      thinned_told = c.a_thinned_journal_makes_the_same.ensures.told;
    }))
