use Rattle.vdcp_words.proofs.Joining.{joined_parts}
use Rattle.vdcp_words.proofs.room.joined.Goals as goal

pub returns-clause-bytes : goal.returns-clause-bytes
returns-clause-bytes c =
    rw c.bytes.ensures
    (joined_parts _ _ _ ((c.bytes_are_counted.ensures 8 _).0 (c.an_id_is_its_bytes.ensures.eight c.args.id.now)).0
    c.told-start c.told-duration)
