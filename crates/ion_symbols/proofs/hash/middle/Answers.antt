use Rattle.std.proofs.Common.{rules}
use Rattle.ion_symbols.specs.Hash.{middle_of}
use Rattle.ion_symbols.proofs.hash.middle.Goals as goal

pub returns : goal.returns
unfolding middle_of
returns c = search rules
