use Rattle.vdcp_laws.proofs.Ended.{airs_no_more}
use Rattle.vdcp_laws.proofs.Headline.{Laws}
use Rattle.vdcp_laws.proofs.two_ends.nothing_airs_after_a_complete_end.Goals as goal

pub returns : goal.returns
returns c =
    let law : Laws = record {
      ends = c.two_ends_are_a_late_channel.ensures.ends;
      headline = c.a_late_line_keeps_the_headline.ensures;
    } in
    airs_no_more law
