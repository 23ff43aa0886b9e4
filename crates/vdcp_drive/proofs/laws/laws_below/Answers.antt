use Rattle.vdcp_drive.proofs.laws.laws_below.Goals as goal

pub returns : goal.returns
returns c = record {
  no_other = c.no_spelling_begins_another.ensures;
  only = c.one_spelling.ensures.only;
  octets = c.what_is_spelt_is_bytes.ensures.message;
  size = c.what_is_spelt_is_bytes.ensures.size;
  start = c.what_is_fed_is_followed.ensures.start;
  further = c.what_is_fed_is_followed.ensures.next;
  alone = c.a_spelling_is_its_message.ensures.messages;
  before = c.a_spelling_is_its_message.ensures.before;
  some = c.one_reading.ensures.some;
  first = c.written_is_read.ensures.first;
  computed = c.one_reading.ensures.computed;
  read = c.what_is_followed_is_read.ensures.read;
  messages = c.what_is_followed_is_read.ensures.messages;
  answers = c.messages_after_messages.ensures.answers;
  sent = c.messages_after_messages.ensures.sent;
  aired = c.messages_after_messages.ensures.aired;
  next = c.messages_after_messages.ensures.next;
  unit = c.the_unit_stays.ensures.messages;
  one = c.a_burst_airs_at_most_the_cued_item.ensures;
}
