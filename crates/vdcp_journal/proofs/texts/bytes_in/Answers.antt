use Rattle.std.proofs.Common.{◌≤◌, sym, ap, ◌∙◌, arith, length}
use Rattle.std.specs.Prelude.{Some}
use Rattle.vdcp_journal.proofs.HexTexts.{half, no_error, read_back, room_for}
use Rattle.vdcp_journal.proofs.texts.bytes_in.Goals as goal

pub returns-then-count-gt-LONGEST : goal.returns-then-count-gt-LONGEST
returns-then-count-gt-LONGEST c = λ bytes below short e.
    absurd (omega (arith, half bytes c.args.digits.now e, short, c.if-count-gt-LONGEST.true))

pub returns-then-is_err : goal.returns-then-is_err
returns-then-is_err c = λ bytes below short e.
    let fits : length bytes ≤ length c.args.room.now = omega (arith, short, c.told-room) in
    let back = read_back bytes _ _ _ _ below (room_for bytes _ c.args.room.now e fits) e c.decode_to_slice.ensures.value
    in
    absurd (no_error _ back.0 (sym c.is_err.ensures.value ∙ c.if-is_err.true))

pub returns : goal.returns
returns c = λ bytes below short e.
    let fits : length bytes ≤ length c.args.room.now = omega (arith, short, c.told-room) in
    let back = read_back bytes _ _ _ _ below (room_for bytes _ c.args.room.now e fits) e c.decode_to_slice.ensures.value
    in
    ap Some back.1
