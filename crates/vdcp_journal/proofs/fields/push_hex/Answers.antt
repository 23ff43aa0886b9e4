use Rattle.std.proofs.Common.{◌≡◌, rules}
use Rattle.std.specs.Str.{IsUtf8}
use Rattle.hex.specs.Hex.{encode_lower}
use Rattle.vdcp_journal.proofs.Digits.{digits_are_text}
use Rattle.vdcp_journal.proofs.fields.push_hex.Goals as goal

pub unwrap-requires-2 : goal.unwrap-requires-2
unwrap-requires-2 c =
    let shown : c.encode_to_slice.new.output ≡ encode_lower c.args.bytes.now = search rules in
    let text : IsUtf8 c.encode_to_slice.new.output = rw shown (digits_are_text c.args.bytes.now) in
    search rules
