-- What is on the way between the two ends, and what the port and the controller read of it.
use Rattle.std.proofs.Common.{ℕ, ◌≡◌, ◌⊎◌, ◌≢◌, true, List, [], ◌∷◌}
use Rattle.std.specs.Prelude.{Option, None, Some}
use Rattle.std.specs.Option.{option_to_list}
use Rattle.vdcp_frame.specs.Burst.{messages_of}
use Rattle.vdcp_words.specs.Commands.{command_message}
use Rattle.vdcp_words.specs.declared.command.Command.{Command}
use Rattle.vdcp_words.specs.declared.reply.Reply.{Reply}
use Rattle.vdcp_words.specs.declared.reply.Reply.TheVariants as reply
use Rattle.vdcp_auto.specs.Replies.{is_receipt}
use Rattle.vdcp_auto.specs.declared.phase.Mode.{Mode}
use Rattle.vdcp_auto.specs.declared.phase.Mode.TheVariants.{Plain, Confirming}
use Rattle.vdcp_auto.specs.declared.exchange.Heard.{Heard}
use Rattle.vdcp_auto.specs.declared.exchange.Heard.TheVariants as heard
use Rattle.vdcp_port.specs.Answers.{sent_for, aired_for, after_burst}
use Rattle.vdcp_port.specs.Clock.{ClockedPort, after_change}
use Rattle.vdcp_port.specs.Row.{command_row, on_air}
use Rattle.vdcp_auto.specs.Heard.{heard_in}

-- the port reads nothing in a burst: it stays as it is, and answers at most a NAK that is no refusal
pub record ReadsNothing (p : ClockedPort) (down : List ℕ) : Type 0 where
  pub stays : after_burst p down ≡ p
  pub airs : aired_for p down ≡ []
  pub says : (sent_for p down ≡ []) ⊎ ((byte : ℕ) × (byte ≢ 0x01) ×
      (heard_in p.state.unit (sent_for p down) ≡ Some (heard.Reply (reply.Nak byte))))

-- the port reads a command, and does what its row says
pub record ReadsCommand (p : ClockedPort) (down : List ℕ) (c : Command) : Type 0 where
  pub answer : Reply
  pub answers : (command_row p.clips p.state c).answer ≡ Some answer
  pub leaves : after_burst p down ≡ after_change (command_row p.clips p.state c).change p
  pub airs : aired_for p down ≡ option_to_list (on_air (command_row p.clips p.state c).change)
  pub heard : heard_in p.state.unit (sent_for p down) ≡ Some (heard.Reply answer)

-- what is heard ends no exchange: nothing, or in confirm mode a receipt
abbrev pub IsQuiet : Mode → Option Heard → Type 0
IsQuiet mode None = Unit {0}
IsQuiet Plain (Some h) = ⊥
IsQuiet Confirming (Some heard.Other) = ⊥
IsQuiet Confirming (Some (heard.Reply r)) = is_receipt r ≡ true

-- nothing is read of what is on the way down, or exactly the command that is awaited, and then nothing that ends its
-- exchange is on the way up
abbrev pub Way : Mode → ℕ → Option Command → List ℕ → List ℕ → Type 0
Way mode unit awaited down up =
    (messages_of down ≡ [])
    ⊎ ((c : Command) × (awaited ≡ Some c) × (messages_of down ≡ command_message unit c ∷ [])
    × IsQuiet mode (heard_in unit up))
