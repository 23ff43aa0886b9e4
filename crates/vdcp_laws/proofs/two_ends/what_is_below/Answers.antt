use Rattle.vdcp_laws.proofs.two_ends.what_is_below.Goals as goal

pub returns : goal.returns
returns c =
    record {
      spelt = record {
        no_other = c.no_spelling_begins_another.ensures;
        spelt = c.one_spelling.ensures.spelt;
        octets = c.what_is_spelt_is_bytes.ensures.message;
        octets_all = c.what_is_spelt_is_bytes.ensures.messages;
        size = c.what_is_spelt_is_bytes.ensures.size;
        alone = c.a_spelling_is_its_message.ensures.messages;
        messages = c.what_is_followed_is_read.ensures.messages;
        end = c.what_is_followed_is_read.ensures.end;
      };
      completed = record {
        messages = c.what_is_spelt_is_completed.ensures.messages;
        held = c.what_is_spelt_is_completed.ensures.held;
        pieces = c.what_is_spelt_is_completed.ensures.pieces;
        pieces_held = c.what_is_spelt_is_completed.ensures.pieces_held;
      };
      happens = c.one_event_more.ensures;
      answered = record {
        sent = c.messages_after_messages.ensures.sent;
        aired = c.messages_after_messages.ensures.aired;
        next = c.messages_after_messages.ensures.next;
        unit_message = c.the_unit_stays.ensures.message;
        unit_messages = c.the_unit_stays.ensures.messages;
        unit_frame = c.the_unit_stays.ensures.frame;
        one_sent = c.a_burst_of_one_message.ensures.sent;
        one_aired = c.a_burst_of_one_message.ensures.aired;
        one_next = c.a_burst_of_one_message.ensures.next;
        read_back = c.answers_are_read_back.ensures;
      };
      written = record {
        command = c.command_is_read_first.ensures.fits;
        reply = c.reply_is_read_first.ensures.fits;
        given = c.commands_can_be_written.ensures.given;
      };
      stays = (
        c.the_unit_stays.ensures.burst,
        c.the_unit_stays.ensures.frame,
        c.the_unit_stays.ensures.ready,
        c.the_unit_stays.ensures.ended,
      );
      lawful = c.reached_is_lawful.ensures;
      goes_on = c.a_killed_automation_goes_on.ensures.event;
    }
