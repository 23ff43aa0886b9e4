use Rattle.vdcp_journal.proofs.HexTexts.{all_below}
use Rattle.vdcp_journal.proofs.texts.digits_of.Goals as goal

pub returns-clause-bytes : goal.returns-clause-bytes
returns-clause-bytes c = (c.bytes_are_counted.ensures 32 c.args.digest.now).1
    (c.told-digest, all_below c.args.digest.now c.fits-digest)
