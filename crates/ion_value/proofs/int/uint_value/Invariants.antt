use Rattle.std.proofs.Common.{◌≡◌, ◌^◌, ◌<◌, take}
use Rattle.ion_value.specs.Number.{uint}
use Rattle.ion_value.proofs.int.uint_value.Given as goal

abbrev pub invariant-loop-byte : goal.invariant-loop-byte
invariant-loop-byte l = record {
  so_far : l.value ≡ uint (take l.byte-index l.bytes);
  small : l.value < 256 ^ l.byte-index;
}
