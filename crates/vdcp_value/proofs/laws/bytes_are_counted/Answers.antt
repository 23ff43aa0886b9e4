use Rattle.vdcp_value.proofs.Bytes.{are_bytes_of, bytes_below, length_of_bytes}
use Rattle.vdcp_value.proofs.laws.bytes_are_counted.Goals as goal

pub returns : goal.returns
returns c = λ n bytes. (
  λ are. (length_of_bytes n bytes are, bytes_below n bytes are),
  λ h. are_bytes_of n bytes h.0
      h.1,
)
