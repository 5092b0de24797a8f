use Rattle.std.proofs.Common.{◌≡◌, ◌^◌, ◌<◌, ◌≤◌, false}
use Rattle.std.specs.Prelude.{from_bits}
use Rattle.std.specs.Float.{binary64}
use Rattle.ion_value.specs.Shortest.{near, search, shortest}
use Rattle.ion_float.proofs.shortest.search_down.Given as goal

abbrev pub invariant-loop-row : goal.invariant-loop-row
invariant-loop-row l = record {
  some : 0 < l.row;
  within : l.row ≤ 651;
  same : shortest l.bits ≡ search (from_bits binary64 l.bits) l.bits l.row false false;
  few : near (from_bits binary64 l.bits) l.row ≤ 2 ^ 53;
}

abbrev pub decreases-loop-row : goal.decreases-loop-row
decreases-loop-row l = l.row
