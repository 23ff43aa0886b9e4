-- The spelling of a message is a burst with this message and a clean end.
use Rattle.vdcp_frame.specs.Message.{spelling}
use Rattle.vdcp_port.proofs.FewMessages.{sent_for_one, aired_with_one, after_with_one}
use Rattle.vdcp_port.proofs.laws.a_burst_of_one_message.Goals as goal

pub returns-clause-sent : goal.returns-clause-sent
returns-clause-sent c = λ p m fits.
    sent_for_one p m (spelling m) (c.a_spelling_is_its_message.ensures.messages m fits)
    (c.a_spelling_is_its_message.ensures.end m fits)

pub returns-clause-aired : goal.returns-clause-aired
returns-clause-aired c =
    λ p m fits. aired_with_one p m (spelling m) (c.a_spelling_is_its_message.ensures.messages m fits)

pub returns-clause-next : goal.returns-clause-next
returns-clause-next c =
    λ p m fits. after_with_one p m (spelling m) (c.a_spelling_is_its_message.ensures.messages m fits)
