-- A spelling reads as its message.
use Rattle.vdcp_frame.specs.Message.{spelling}
use Rattle.vdcp_frame.proofs.ReadingLemmas.{Spells-spelling}
use Rattle.vdcp_frame.proofs.SpellingLemmas.{read_only, read_first, one_message, message_first}
use Rattle.vdcp_frame.proofs.laws.a_spelling_is_its_message.Goals as goal

pub returns-clause-alone : goal.returns-clause-alone
returns-clause-alone c m ms end fits reads = read_only m (spelling m) ms end (Spells-spelling m fits) reads

pub returns-clause-first : goal.returns-clause-first
returns-clause-first c m more ms end fits reads = read_first m (spelling m) more ms end (Spells-spelling m fits) reads

pub returns-clause-messages : goal.returns-clause-messages
returns-clause-messages c m fits = (one_message m fits).0

pub returns-clause-end : goal.returns-clause-end
returns-clause-end c m fits = (one_message m fits).1

pub returns-clause-before : goal.returns-clause-before
returns-clause-before c = message_first
