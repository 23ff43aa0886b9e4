-- Text that isn't a byte in two digits stands for no byte.
use Rattle.std.proofs.Common.{◌∙◌, ◌∷◌, [], sym, refl}
use Rattle.vdcp_text.proofs.MakeLemmas.{no_bytes}
use Rattle.vdcp_text.proofs.make.byte_of.Goals as goal

pub returns-in-Err-clause-none : goal.returns-in-Err-clause-none
returns-in-Err-clause-none c byte is =
    no_bytes c.args.text.now 1 c.in-Err.field-0 (sym c.from_hex.ensures ∙ c.in-Err.is) (byte ∷ []) refl is
