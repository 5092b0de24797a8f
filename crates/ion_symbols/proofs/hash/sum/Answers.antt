use Rattle.std.proofs.Common.{rules}
use Rattle.ion_symbols.specs.Hash.{ends_of, sum_of}
use Rattle.ion_symbols.proofs.hash.sum.Goals as goal

pub returns-then-text-gt16 : goal.returns-then-text-gt16
unfolding sum_of ends_of
returns-then-text-gt16 c = search rules

pub returns-else-text-gt16 : goal.returns-else-text-gt16
unfolding sum_of ends_of
returns-else-text-gt16 c = search rules
