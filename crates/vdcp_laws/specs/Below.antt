-- What the laws of the crates below say of bytes and messages, taken together.
use Rattle.std.specs.Prelude.{ℕ, ◌≡◌, ◌<◌, ◌≤◌, All, IfSome, List, [], ◌∷◌, ◌++◌, length}
use Rattle.vdcp_value.specs.Parts.{IsItem}
use Rattle.vdcp_frame.specs.Burst.{messages_of, end_of}
use Rattle.vdcp_frame.specs.Message.{Content, AreOctets, Fits, Spells, spelling}
use Rattle.vdcp_frame.specs.Progress.{Progress}
use Rattle.vdcp_frame.specs.Reader.{Follows, IsEnd, ended_of}
use Rattle.vdcp_frame.specs.Reading.{End, IsUnfinished, SpellsAll}
use Rattle.vdcp_words.specs.Commands.{command_message, IsWritableCommand}
use Rattle.vdcp_words.specs.Replies.{reply_message, IsWritableReply}
use Rattle.vdcp_words.specs.declared.command.Command.{Command}
use Rattle.vdcp_words.specs.declared.reply.Reply.{Reply}
use Rattle.vdcp_port.specs.Answers.{answers_to, aired_on_way, after_messages, bytes_for, bytes_for_all, items_for, end_answers, sent_for, aired_for, after_burst}
use Rattle.vdcp_port.specs.Clock.{ClockedPort, after_ended, after_frame, after_message, after_ready}
use Rattle.vdcp_auto.specs.Course.{Reached}
use Rattle.vdcp_auto.specs.Law.{IsLawful}
use Rattle.vdcp_auto.specs.Plan.{Plan}
use Rattle.vdcp_auto.specs.State.{State}
use Rattle.vdcp_auto.specs.Turn.{given}
use Rattle.vdcp_auto.specs.declared.exchange.Exchange.{Exchange}
use Rattle.vdcp_drive.specs.Served.{HasMore}
use Rattle.vdcp_drive.specs.Serving.{Service}
use Rattle.vdcp_drive.specs.Turns.{Turn}
use Rattle.vdcp_drive.specs.Reading.{Held, holds, completed, held_after}
use Rattle.vdcp_world.specs.LateLine.LateChannel.{LateChannel, IsLateReached, after_late_events}
use Rattle.vdcp_world.specs.LateLine.LateEvent.{LateEvent}

-- vdcp_frame::laws: no_spelling_begins_another, one_spelling, what_is_spelt_is_bytes, a_spelling_is_its_message,
-- what_is_followed_is_read
pub record Spelt : Type 0 where
  pub no_other : (m n : Content) (a b more : List ℕ) → Spells m a → Spells n b → b ≡ a ++ more → (m ≡ n) × (more ≡ [])
  pub spelt : (m : Content) → Fits m → Spells m (spelling m)
  pub octets : (m : Content) (bytes : List ℕ) → Spells m bytes → AreOctets bytes
  pub octets_all : (ms : List Content) (bytes : List ℕ) → SpellsAll ms bytes → AreOctets bytes
  pub size : (m : Content) (bytes : List ℕ) → Spells m bytes → (0 < length bytes) × (length bytes ≤ 258)
  pub alone : (m : Content) → Fits m → messages_of (spelling m) ≡ m ∷ []
  pub messages : (burst : List ℕ) (ms : List Content) (p : Progress) → AreOctets burst → Follows burst ms p
      → ms ≡ messages_of burst
  pub end : (burst : List ℕ) (ms : List Content) (p : Progress) → AreOctets burst → Follows burst ms p
      → IsEnd (ended_of p) (end_of burst)

-- vdcp_drive::laws::what_is_spelt_is_completed
pub record Completed : Type 0 where
  pub messages : (ms : List Content) (bytes rest : List ℕ) → SpellsAll ms bytes → IsUnfinished rest
      → completed (holds []) (bytes ++ rest) ≡ ms
  pub held : (ms : List Content) (bytes rest : List ℕ) → SpellsAll ms bytes → IsUnfinished rest
      → held_after (holds []) (bytes ++ rest) ≡ holds rest
  pub pieces : (at : Held) (piece more : List ℕ) → completed at (piece ++ more)
      ≡ completed at piece ++ completed (held_after at piece) more
  pub pieces_held : (at : Held) (piece more : List ℕ) → held_after at (piece ++ more)
      ≡ held_after (held_after at piece) more

-- vdcp_port::laws: messages_after_messages, the_unit_stays, a_burst_of_one_message, answers_are_read_back
pub record Answered : Type 0 where
  pub sent : (p : ClockedPort) (ms ns : List Content) → bytes_for_all p (ms ++ ns)
      ≡ bytes_for_all p ms ++ bytes_for_all (after_messages p ms) ns
  pub aired : (p : ClockedPort) (ms ns : List Content) → aired_on_way p (ms ++ ns)
      ≡ aired_on_way p ms ++ aired_on_way (after_messages p ms) ns
  pub next : (p : ClockedPort) (ms ns : List Content) → after_messages p (ms ++ ns)
      ≡ after_messages (after_messages p ms) ns
  pub unit_message : (p : ClockedPort) (m : Content) → (after_message p m).state.unit ≡ p.state.unit
  pub unit_messages : (p : ClockedPort) (ms : List Content) → (after_messages p ms).state.unit ≡ p.state.unit
  pub unit_frame : (p : ClockedPort) → (after_frame p).state.unit ≡ p.state.unit
  pub one_sent : (p : ClockedPort) (m : Content) → Fits m → sent_for p (spelling m) ≡ bytes_for p m
  pub one_aired : (p : ClockedPort) (m : Content) → Fits m → aired_for p (spelling m) ≡ items_for p m
  pub one_next : (p : ClockedPort) (m : Content) → Fits m → after_burst p (spelling m) ≡ after_message p m
  pub read_back : (p : ClockedPort) (ms : List Content) (end : End)
      → All IsWritableReply (answers_to p ms ++ end_answers end)

-- vdcp_words::laws: command_is_read_first, reply_is_read_first; vdcp_auto::laws::commands_can_be_written
pub record Written : Type 0 where
  pub command : (unit : ℕ) (command : Command) → unit ≤ 15 → IsWritableCommand command → Fits (command_message unit command)
  pub reply : (unit : ℕ) (reply : Reply) → unit ≤ 15 → IsWritableReply reply → Fits (reply_message unit reply)
  pub given : (plan : Plan) (state : State) → All IsItem plan.list → plan.port < 256
      → IfSome (given plan state) IsWritableCommand

-- vdcp_drive::laws::one_event_more
abbrev pub Happened : Type 0
Happened = (s : Service) (turns : List Turn) (what : Turn) → HasMore s turns what

-- vdcp_port::laws::the_unit_stays
abbrev pub UnitStays : Type 0
UnitStays = ((p : ClockedPort) (burst : List ℕ) → (after_burst p burst).state.unit ≡ p.state.unit)
    × ((p : ClockedPort) → (after_frame p).state.unit ≡ p.state.unit)
    × ((p : ClockedPort) → (after_ready p).state.unit ≡ p.state.unit)
    × ((p : ClockedPort) → (after_ended p).state.unit ≡ p.state.unit)

-- vdcp_auto::laws::reached_is_lawful
abbrev pub Lawful : Type 0
Lawful = (plan : Plan) (state : State) (log : List Exchange) → Reached plan state log → IsLawful plan state log

-- all of these, and vdcp_world::laws::a_killed_automation_goes_on
pub record Laws : Type 0 where
  pub spelt : Spelt
  pub completed : Completed
  pub happens : Happened
  pub answered : Answered
  pub written : Written
  pub stays : UnitStays
  pub lawful : Lawful
  pub goes_on : (c : LateChannel) (events : List LateEvent) → IsLateReached c → IsLateReached (after_late_events c events)
