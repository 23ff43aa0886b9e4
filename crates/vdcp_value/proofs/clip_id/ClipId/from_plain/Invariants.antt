use Rattle.std.proofs.Common.{◌≡◌, ◌-◌, true, replicate, drop, take}
use Rattle.std.specs.List.{list_all}
use Rattle.vdcp_value.proofs.clip_id.ClipId.from_plain.Given as goal
use Rattle.vdcp_value.specs.IdText.{is_plain_byte}

abbrev pub invariant-loop-k : goal.invariant-loop-k
invariant-loop-k l = record {
  plain : list_all is_plain_byte (take l.k l.text) ≡ true;
  copied : take l.k l.bytes ≡ take l.k l.text;
  spaces : drop l.k l.bytes ≡ replicate (8 - l.k) 32;
}
