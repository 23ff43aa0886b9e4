use Rattle.vdcp_world.proofs.laws.crates_below.Goals as goal

pub returns : goal.returns
returns c = record {
  alone = c.a_spelling_is_its_message.ensures.messages;
  before = c.a_spelling_is_its_message.ensures.before;
  command_fits = c.command_is_read_first.ensures.fits;
  reply_fits = c.reply_is_read_first.ensures.fits;
  reply_read = c.written_reply_is_read.ensures.computed;
  own_row = c.a_command_has_its_own_row.ensures;
  answered = c.a_command_is_answered.ensures;
  none_sent = c.a_burst_without_a_message.ensures.sent;
  none_aired = c.a_burst_without_a_message.ensures.aired;
  none_left = c.a_burst_without_a_message.ensures.next;
  one_sent = c.a_burst_with_one_message.ensures.sent;
  one_aired = c.a_burst_with_one_message.ensures.aired;
  one_left = c.a_burst_with_one_message.ensures.next;
  unit_frame = c.the_unit_stays.ensures.frame;
  awaited_written = c.commands_can_be_written.ensures.awaited;
  given_written = c.commands_can_be_written.ensures.given;
  receipt_stays = c.a_receipt_confirms_nothing.ensures.changes;
  lawful = c.reached_is_lawful.ensures;
  settled_grows = c.a_log_grows.ensures.settled;
  airing_grows = c.a_log_grows.ensures.airing;
}
