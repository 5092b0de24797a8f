use Rattle.std.proofs.Common.{rules}
use Rattle.ion_symbols.specs.Hash.{back_of}
use Rattle.ion_symbols.proofs.hash.back.Goals as goal

pub returns-then-text-ge8 : goal.returns-then-text-ge8
unfolding back_of
returns-then-text-ge8 c = search rules

pub returns-then-text-ge4 : goal.returns-then-text-ge4
unfolding back_of
returns-then-text-ge4 c = search rules

pub returns-else-text-ge4 : goal.returns-else-text-ge4
unfolding back_of
returns-else-text-ge4 c = search rules
