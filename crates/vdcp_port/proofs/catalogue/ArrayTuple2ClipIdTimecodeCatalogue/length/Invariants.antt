-- A search of the rows.
use Rattle.std.proofs.Common.{◌≡◌, drop}
use Rattle.vdcp_port.specs.Clips.{length_of}
use Rattle.vdcp_port.proofs.catalogue.ArrayTuple2ClipIdTimecodeCatalogue.length.Given as goal

-- none of those before is the clip
abbrev pub invariant-loop-known : goal.invariant-loop-known
invariant-loop-known g l = length_of (drop l.known-index l.self) l.id ≡ length_of l.self l.id
