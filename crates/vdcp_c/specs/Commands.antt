-- What the structs of commands and replies stand for.
use Rattle.std.specs.Prelude.{ℕ, ℤ, pos, ◌≡◌, Bool, true, false, Option, None, Some, Result, Ok, Err}
use Rattle.vdcp_value.specs.Ids.{id_bytes}
use Rattle.vdcp_words.specs.declared.command.Command.{Command}
use Rattle.vdcp_words.specs.declared.command.Command.TheVariants as command
use Rattle.vdcp_words.specs.declared.fault.WordFault.{WordFault}
use Rattle.vdcp_words.specs.declared.reply.Reply.{Reply}
use Rattle.vdcp_words.specs.declared.reply.Reply.TheVariants as reply
use Rattle.vdcp_c.specs.Told.{bad_command}
use Rattle.vdcp_c.specs.declared.command.vdcp_command.{vdcp_command}
use Rattle.vdcp_c.specs.declared.reply.vdcp_reply.{vdcp_reply}

abbrev pub IsCommand : vdcp_command → Command → Type 0
IsCommand c (command.Open port lock) = (c.word ≡ 1) × (c.byte ≡ port) × (c.lock ≡ lock)
IsCommand c (command.Close port) = (c.word ≡ 2) × (c.byte ≡ port)
IsCommand c (command.Select port) = (c.word ≡ 3) × (c.byte ≡ port)
IsCommand c (command.PlayCue id) = (c.word ≡ 4) × (c.id ≡ id_bytes id)
IsCommand c (command.CueData id start duration) =
    (c.word ≡ 5) × (c.id ≡ id_bytes id) × (c.start ≡ start) × (c.duration ≡ duration)
IsCommand c command.Play = c.word ≡ 6
IsCommand c command.Stop = c.word ≡ 7
IsCommand c (command.Status bitmap) = (c.word ≡ 8) × (c.byte ≡ bitmap)
IsCommand c command.ActiveId = c.word ≡ 9
IsCommand c (command.IdRequest id) = (c.word ≡ 10) × (c.id ≡ id_bytes id)
IsCommand c (command.IdSize id) = (c.word ≡ 11) × (c.id ≡ id_bytes id)

abbrev pub flag_code : Bool → ℕ
flag_code false = 0
flag_code true = 1

abbrev pub IsReply : vdcp_reply → Reply → Type 0
IsReply r reply.Ack = r.word ≡ 1
IsReply r (reply.Nak byte) = (r.word ≡ 2) × (r.byte ≡ byte)
IsReply r (reply.Opened granted) = (r.word ≡ 3) × (r.yes ≡ flag_code granted)
IsReply r (reply.State bitmap None) = (r.word ≡ 4) × (r.byte ≡ bitmap) × (r.yes ≡ 0)
IsReply r (reply.State bitmap (Some state)) = (r.word ≡ 4) × (r.byte ≡ bitmap) × (r.yes ≡ 1) × (r.state ≡ state)
IsReply r (reply.Active None) = (r.word ≡ 5) × (r.yes ≡ 0)
IsReply r (reply.Active (Some id)) = (r.word ≡ 5) × (r.yes ≡ 1) × (r.id ≡ id_bytes id)
IsReply r (reply.Present there) = (r.word ≡ 6) × (r.yes ≡ flag_code there)
IsReply r (reply.Size time) = (r.word ≡ 7) × (r.time ≡ time)

-- what a call answers that reads a word of a message
abbrev pub IsReadCommand : Result Command WordFault → ℤ → vdcp_command → vdcp_command → Type 0
IsReadCommand (Ok c) code old new = (code ≡ pos 0) × IsCommand new c
IsReadCommand (Err fault) code old new = (code ≡ bad_command) × (new ≡ old)

abbrev pub IsReadReply : Result Reply WordFault → ℤ → vdcp_reply → vdcp_reply → Type 0
IsReadReply (Ok r) code old new = (code ≡ pos 0) × IsReply new r
IsReadReply (Err fault) code old new = (code ≡ bad_command) × (new ≡ old)

-- what a call answers that gives a command, if there is one
abbrev pub IsGiven : Option Command → ℤ → vdcp_command → vdcp_command → Type 0
IsGiven (Some c) code old new = (code ≡ pos 1) × IsCommand new c
IsGiven None code old new = (code ≡ pos 0) × (new ≡ old)
