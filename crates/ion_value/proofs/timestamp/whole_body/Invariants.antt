use Rattle.std.proofs.Common.{◌≡◌, ◌+◌, ◌≤◌, ◌++◌, length, map, take}
use Rattle.ion_value.specs.Number.{var_uint_octets}
use Rattle.ion_value.specs.Timestamp.{offset_octets}
use Rattle.ion_value.proofs.timestamp.whole_body.Given as goal

abbrev pub invariant-loop-part : goal.invariant-loop-part
invariant-loop-part l = record {
  so_far : l.body.items ≡ (offset_octets l.fn.utc.offset ++ var_uint_octets l.fn.utc.year) ++ map (λ n. n + 128) (take l.part-index l.part-items);
  room : length l.body.items ≤ 18 + l.part-index;
}
