-- Text that isn't four bytes in eight digits stands for no time code's bytes.
use Rattle.std.proofs.Common.{◌∙◌, sym}
use Rattle.vdcp_text.proofs.MakeLemmas.{no_bytes}
use Rattle.vdcp_text.proofs.make.time_of.Goals as goal

pub returns-in-Err-clause-none : goal.returns-in-Err-clause-none
returns-in-Err-clause-none c time is =
    no_bytes c.args.text.now 4 c.in-Err.field-0 (sym c.from_hex.ensures ∙ c.in-Err.is) time is.0 is.1
