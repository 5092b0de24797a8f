use Rattle.std.proofs.Common.{◌≡◌, ◌+◌, ◌-◌, ◌^◌, ◌<◌, ◌≤◌, length, take, drop, All, Less, Greater}
use Rattle.ion_symbols.specs.Output.{binary_digits, probes_for, text_cmp}
use Rattle.ion_symbols.proofs.Probes.{between}
use Rattle.ion_symbols.proofs.search.place_of.Given as goal

abbrev pub invariant-loop-low : goal.invariant-loop-low
invariant-loop-low l = record {
  texts : l.search.texts ≡ l.fn.search.texts;
  few : length l.fn.search.texts < 2 ^ 31;
  below : l.low ≤ l.high;
  within : l.high ≤ length l.fn.search.texts;
  before : All (λ s. text_cmp s l.text ≡ Less) (take l.low l.fn.search.texts);
  after : All (λ s. text_cmp s l.text ≡ Greater) (drop l.high l.fn.search.texts);
  probes : l.search.probes + binary_digits (l.high - l.low) ≤ binary_digits (length l.fn.search.texts);
  exact : l.search.probes + probes_for (between l.low l.high l.fn.search.texts) l.text ≡ probes_for l.fn.search.texts l.text;
}

abbrev pub decreases-loop-low : goal.decreases-loop-low
decreases-loop-low l = l.high - l.low
