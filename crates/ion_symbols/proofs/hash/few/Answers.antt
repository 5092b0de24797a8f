use Rattle.std.proofs.Common.{rules}
use Rattle.ion_symbols.specs.Hash.{few_of}
use Rattle.ion_symbols.proofs.hash.few.Goals as goal

pub returns-then-is_empty : goal.returns-then-is_empty
unfolding few_of
returns-then-is_empty c = search rules

pub returns : goal.returns
unfolding few_of
returns c = search rules
