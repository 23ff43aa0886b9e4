-- What is followed is read.
use Rattle.vdcp_frame.proofs.ReaderLemmas.{silence_reads}
use Rattle.vdcp_frame.proofs.FollowLemmas.{followed_first, followed_messages, followed_end, followed_further}
use Rattle.vdcp_frame.proofs.laws.what_is_followed_is_read.Goals as goal

pub returns-clause-read : goal.returns-clause-read
returns-clause-read c = silence_reads

pub returns-clause-first : goal.returns-clause-first
returns-clause-first c = followed_first

pub returns-clause-messages : goal.returns-clause-messages
returns-clause-messages c = followed_messages

pub returns-clause-end : goal.returns-clause-end
returns-clause-end c = followed_end

pub returns-clause-further : goal.returns-clause-further
returns-clause-further c = followed_further
