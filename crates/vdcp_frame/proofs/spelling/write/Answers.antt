-- What is written is the spelling.
use Rattle.vdcp_frame.specs.Message.{framed, Content}
use Rattle.vdcp_frame.proofs.ReadingLemmas.{Spells-spelling}
use Rattle.vdcp_frame.proofs.spelling.write.Goals as goal

pub returns-in-Framed-clause-spelt : goal.returns-in-Framed-clause-spelt
returns-in-Framed-clause-spelt g c =
    let m : Content = framed c.in-Framed.kind c.in-Framed.unit c.in-Framed.code c.in-Framed.rest.now in
    rw c.in-Framed.is (Spells-spelling m c.write_frame.ensures.fits)
