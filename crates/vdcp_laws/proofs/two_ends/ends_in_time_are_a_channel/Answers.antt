use Rattle.vdcp_laws.proofs.InTime.{Laws, are_channel, are_ended, are_playing, cuts_none}
use Rattle.vdcp_laws.proofs.two_ends.ends_in_time_are_a_channel.Goals as goal

pub returns : goal.returns
returns c =
    let law : Laws = record {
      ends = c.what_is_below.ensures;
      line = c.what_loses_nothing_plays_the_list.ensures.line;
      plays = c.what_loses_nothing_plays_the_list.ensures.plays;
      headline = c.any_port_keeps_the_headline.ensures;
      uncut = c.no_cut_without_a_take.ensures.any_port;
    } in
    record { channel = are_channel law; ended = are_ended law; plays = are_playing law; uncut = cuts_none law }
