use Rattle.std.proofs.Common.{◌≡◌, ◌-◌, ◌≤◌, length, take, drop, All, Less, Greater}
use Rattle.ion_symbols.specs.Output.{text_cmp}
use Rattle.ion_symbols.specs.Ordered.{in_order}
use Rattle.ion_symbols.specs.Ranks.{key_of, keys}
use Rattle.ion_symbols.proofs.ranks.rank_of.Given as goal

-- the keys before the lower rank are less, and those from the higher one on greater
abbrev pub invariant-loop-low : goal.invariant-loop-low
invariant-loop-low g l = record {
  below : l.low ≤ l.high;
  within : l.high ≤ length l.order;
  before : All (λ k. text_cmp k (key_of l.name l.version) ≡ Less) (take l.low (in_order (keys l.tables) l.order));
  after : All (λ k. text_cmp k (key_of l.name l.version) ≡ Greater) (drop l.high (in_order (keys l.tables) l.order));
}

abbrev pub decreases-loop-low : goal.decreases-loop-low
decreases-loop-low g l = l.high - l.low
