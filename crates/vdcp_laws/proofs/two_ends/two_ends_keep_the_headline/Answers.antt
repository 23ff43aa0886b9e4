use Rattle.vdcp_laws.proofs.Headline.{Laws, of_ends}
use Rattle.vdcp_laws.proofs.two_ends.two_ends_keep_the_headline.Goals as goal

pub returns : goal.returns
returns c =
    let law : Laws = record {
      ends = c.two_ends_are_a_late_channel.ensures.ends;
      headline = c.a_late_line_keeps_the_headline.ensures;
    } in
    record { ends = of_ends law }
