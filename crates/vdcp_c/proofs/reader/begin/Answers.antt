-- What is held of a piece is short.
use Rattle.std.proofs.Common.{ap, sym, ◌∙◌, arith, of_z, w32}
use Rattle.vdcp_frame.specs.Reader.{answer_of}
use Rattle.vdcp_c.proofs.Short.{more_short}
use Rattle.vdcp_c.proofs.reader.begin.Goals as goal

pub slice_bounds-copy_from_slice-end : goal.slice_bounds-copy_from_slice-end
slice_bounds-copy_from_slice-end c =
    let s = more_short c.what_is_spelt_is_bytes.ensures.size c.args.reader.now.taken c.read_front-n.result.0
    c.args.piece.now (answer_of c.read_front-n.result.1)
    (ap (of_z w32) (sym c.tell-code.ensures.code) ∙ c.if-code-eq-MORE.true) c.read_front-n.ensures.gives in
    omega (arith, s.0)
