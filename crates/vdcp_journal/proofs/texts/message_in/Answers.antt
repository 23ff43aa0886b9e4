use Rattle.std.proofs.Common.{◌≡◌, [], subst, refl}
use Rattle.vdcp_frame.specs.Message.{spelling}
use Rattle.vdcp_frame.specs.Reading.{Reads}
use Rattle.vdcp_journal.proofs.Messages.{ended, not_message}
use Rattle.vdcp_journal.proofs.texts.message_in.Goals as goal

pub returns-in-Clean : goal.returns-in-Clean
returns-in-Clean c = λ message fits e.
    let spelt = c.one_spelling.ensures.spelt message fits in
    let octets = c.what_is_spelt_is_bytes.ensures.message message (spelling message) spelt in
    let size = c.what_is_spelt_is_bytes.ensures.size message (spelling message) spelt in
    let some = c.in-Some.ensures (spelling message) octets size.1 e in
    let bytes : c.in-Some.bytes.now ≡ spelling message = cc some in
    let (end, reads) = ended c.read_at.result _ (not_message c.read_at.result c.in-Clean.is) c.read_at.ensures.end in
    let alone = c.a_spelling_is_its_message.ensures.alone message [] end fits
    (subst (λ b. Reads b [] end) bytes (reads [] refl)) in
    absurd (cc alone.0)
