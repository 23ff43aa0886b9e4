-- Exchanges as text.
use Rattle.std.specs.Prelude.{ℕ, List, ◌++◌, codes, Option, None, Some}
use Rattle.vdcp_auto.specs.declared.exchange.Exchange.{Exchange}
use Rattle.vdcp_auto.specs.declared.exchange.Heard.{Heard}
use Rattle.vdcp_auto.specs.declared.exchange.Heard.TheVariants.{Other, Reply}
use Rattle.vdcp_words.specs.Texts.{command_text, reply_text}

-- what was heard: a reply, something else, or nothing
abbrev pub heard_text : Option Heard → List ℕ
heard_text None = codes "silence"
heard_text (Some Other) = codes "other"
heard_text (Some (Reply reply)) = reply_text reply

abbrev pub exchange_text : Exchange → List ℕ
exchange_text e = command_text e.command ++ codes " -> " ++ heard_text e.heard
