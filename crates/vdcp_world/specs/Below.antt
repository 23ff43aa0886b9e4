-- What the laws of this crate take from those of the crates below.
use Rattle.std.specs.Prelude.{ℕ, ◌+◌, ◌<◌, ◌≤◌, ◌≡◌, ◌⊎◌, ◌||◌, ◌&&◌, not, if◌then◌else◌, true, All, List, [], ◌∷◌, ◌++◌, Option, Some, IfSome, Ok}
use Rattle.vdcp_value.specs.Parts.{IsItem}
use Rattle.vdcp_value.specs.declared.clip_id.ClipId.{ClipId}
use Rattle.vdcp_value.specs.declared.timecode.Timecode.{Timecode}
use Rattle.vdcp_frame.specs.Burst.{messages_of, end_of}
use Rattle.vdcp_frame.specs.Message.{Content, AreOctets, Fits, spelling}
use Rattle.vdcp_words.specs.Commands.{command_message, IsWritableCommand}
use Rattle.vdcp_words.specs.Computed.{reply_of}
use Rattle.vdcp_words.specs.Replies.{reply_message, IsWritableReply}
use Rattle.vdcp_words.specs.declared.command.Command.{Command}
use Rattle.vdcp_words.specs.declared.reply.Reply.{Reply}
use Rattle.vdcp_port.specs.Answers.{sent_for, aired_for, after_burst, bytes_for, items_for, answer_bytes, end_answers}
use Rattle.vdcp_port.specs.Clock.{ClockedPort, after_message, after_frame, row_at}
use Rattle.vdcp_port.specs.Port.{PortState}
use Rattle.vdcp_port.specs.Row.{command_row}
use Rattle.vdcp_auto.specs.Heard.{hears_receipt}
use Rattle.vdcp_auto.specs.Course.{Reached}
use Rattle.vdcp_auto.specs.Law.{IsLawful}
use Rattle.vdcp_auto.specs.Log.{is_play}
use Rattle.vdcp_auto.specs.Plan.{Plan}
use Rattle.vdcp_auto.specs.Settled.{may_have_aired, settled, settles}
use Rattle.vdcp_auto.specs.Turn.{awaited, given, came_to}
use Rattle.vdcp_auto.specs.declared.exchange.Exchange.{Exchange}
use Rattle.vdcp_auto.specs.declared.exchange.Heard.{Heard}
use Rattle.vdcp_auto.specs.declared.phase.Mode.{Mode}
use Rattle.vdcp_auto.specs.declared.phase.Mode.TheVariants.{Confirming}
use Rattle.vdcp_auto.specs.State.{State}

pub record Below : Type 0 where
  -- what is spelt reads as its message, alone and with bytes after it
  pub alone : (m : Content) → Fits m → messages_of (spelling m) ≡ m ∷ []
  pub before : (m : Content) (more : List ℕ) → Fits m → AreOctets more
      → (others : List Content) × (messages_of (spelling m ++ more) ≡ m ∷ others)
  -- commands and replies
  pub command_fits : (unit : ℕ) (c : Command) → unit ≤ 15 → IsWritableCommand c → Fits (command_message unit c)
  pub reply_fits : (unit : ℕ) (r : Reply) → unit ≤ 15 → IsWritableReply r → Fits (reply_message unit r)
  pub reply_read : (unit : ℕ) (r : Reply) → IsWritableReply r → reply_of (reply_message unit r) ≡ Ok r
  -- the port
  pub own_row : (p : ClockedPort) (c : Command) → IsWritableCommand c
      → row_at p (command_message p.state.unit c) ≡ command_row p.clips p.state c
  pub answered : (clips : List (ClipId × Timecode)) (p : PortState) (c : Command)
      → (reply : Reply) × ((command_row clips p c).answer ≡ Some reply) × IsWritableReply reply
  pub none_sent : (p : ClockedPort) (burst : List ℕ) → messages_of burst ≡ []
      → (sent_for p burst ≡ []) ⊎ (sent_for p burst ≡ 0x05 ∷ 0x04 ∷ []) ⊎ (sent_for p burst ≡ 0x05 ∷ 0x80 ∷ [])
  pub none_aired : (p : ClockedPort) (burst : List ℕ) → messages_of burst ≡ [] → aired_for p burst ≡ []
  pub none_left : (p : ClockedPort) (burst : List ℕ) → messages_of burst ≡ [] → after_burst p burst ≡ p
  pub one_sent : (p : ClockedPort) (m : Content) (burst : List ℕ) → messages_of burst ≡ m ∷ []
      → sent_for p burst ≡ bytes_for p m ++ answer_bytes p.state.unit (end_answers (end_of burst))
  pub one_aired : (p : ClockedPort) (m : Content) (burst : List ℕ) → messages_of burst ≡ m ∷ []
      → aired_for p burst ≡ items_for p m
  pub one_left : (p : ClockedPort) (m : Content) (burst : List ℕ) → messages_of burst ≡ m ∷ []
      → after_burst p burst ≡ after_message p m
  pub unit_frame : (p : ClockedPort) → (after_frame p).state.unit ≡ p.state.unit
  -- the controller
  pub awaited_written : (plan : Plan) (state : State) → All IsItem plan.list → plan.port < 256
      → IfSome (awaited plan state) IsWritableCommand
  pub given_written : (plan : Plan) (state : State) → All IsItem plan.list → plan.port < 256
      → IfSome (given plan state) IsWritableCommand
  pub receipt_stays : (plan : Plan) (state : State) (came : Option Heard) → plan.mode ≡ Confirming
      → hears_receipt came ≡ true
      → came_to plan came state ≡ state
  pub lawful : (plan : Plan) (state : State) (log : List Exchange) → Reached plan state log → IsLawful plan state log
  -- a log that has grown
  pub settled_grows : (mode : Mode) (log : List Exchange) (e : Exchange) → settled mode (log ++ e ∷ [])
      ≡ (if settles mode log e then settled mode log + 1 else settled mode log)
  pub airing_grows : (mode : Mode) (log : List Exchange) (e : Exchange) → may_have_aired mode (log ++ e ∷ [])
      ≡ (not (settles mode log e) && (is_play e || may_have_aired mode log))
