-- The meaning of a message: the text of the command or the reply that it carries.
use Rattle.std.specs.Prelude.{ℕ, List, [], ◌++◌, codes, Result, Ok, Err}
use Rattle.vdcp_frame.specs.Message.{Content, ack, nak, framed}
use Rattle.vdcp_words.specs.declared.command.Command.{Command}
use Rattle.vdcp_words.specs.declared.reply.Reply.{Reply}
use Rattle.vdcp_words.specs.declared.fault.WordFault.{WordFault}
use Rattle.vdcp_words.specs.Computed.{command_of, reply_of}
use Rattle.vdcp_words.specs.Texts.{command_text, reply_text}

-- what is added for a reply
abbrev pub reply_meaning : Result Reply WordFault → List ℕ
reply_meaning (Ok reply) = codes " = " ++ reply_text reply
reply_meaning (Err fault) = []

-- what is added for a command, or else for a reply
abbrev pub command_meaning : Result Command WordFault → Result Reply WordFault → List ℕ
command_meaning (Ok command) reply = codes " = " ++ command_text command
command_meaning (Err fault) reply = reply_meaning reply

-- what is added to a framed message: the text of the command or the reply that it carries
abbrev pub meaning_text : Content → List ℕ
meaning_text ack = []
meaning_text (nak byte) = []
meaning_text (framed kind unit code rest) =
    command_meaning (command_of (framed kind unit code rest)) (reply_of (framed kind unit code rest))
