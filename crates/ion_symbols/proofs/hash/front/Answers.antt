use Rattle.std.proofs.Common.{rules}
use Rattle.ion_symbols.specs.Hash.{front_of}
use Rattle.ion_symbols.proofs.hash.front.Goals as goal

pub returns-then-text-ge8 : goal.returns-then-text-ge8
unfolding front_of
returns-then-text-ge8 c = search rules

pub returns-then-text-ge4 : goal.returns-then-text-ge4
unfolding front_of
returns-then-text-ge4 c = search rules

pub returns-else-text-ge4 : goal.returns-else-text-ge4
unfolding front_of
returns-else-text-ge4 c = search rules
