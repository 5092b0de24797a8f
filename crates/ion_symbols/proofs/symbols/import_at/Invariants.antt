use Rattle.std.proofs.Common.{◌-◌, ◌<◌, ◌≤◌, length}
use Rattle.ion_symbols.proofs.Importing.{start_at}
use Rattle.ion_symbols.proofs.symbols.import_at.Given as goal

-- the import at `low` begins at the place or before, and the one at `high`, if there is one, after it
abbrev pub invariant-loop-high : goal.invariant-loop-high
invariant-loop-high l = record {
  order : l.low < l.high;
  within : l.high ≤ length l.imports;
  begins : start_at l.imports l.low ≤ l.place;
  above : l.high < length l.imports → l.place < start_at l.imports l.high;
}

abbrev pub decreases-loop-high : goal.decreases-loop-high
decreases-loop-high l = l.high - l.low
