-- What the code's `Head` says of some bytes.
use Rattle.std.specs.Prelude.{ℕ, List}
use Rattle.vdcp_frame.specs.declared.head.Head.{Head}
use Rattle.vdcp_frame.specs.declared.head.Head.TheVariants as head
use Rattle.vdcp_frame.specs.Message.{content_of}
use Rattle.vdcp_frame.specs.Head as spec
use Rattle.vdcp_frame.specs.Head.{HeadIs}

-- a head of the code, without where its data lies in memory
abbrev pub seen : Head → spec.Head
seen (head.Part needs) = spec.part needs
seen (head.Wrong which size) = spec.wrong which size
seen (head.Found message size) = spec.found (content_of message) size

-- what a head of the code says of the bytes
abbrev pub Means : List ℕ → Head → Type 0
Means bytes h = HeadIs bytes (seen h)
