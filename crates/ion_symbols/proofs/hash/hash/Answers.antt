use Rattle.std.proofs.Common.{rules}
use Rattle.ion_symbols.specs.Hash.{hash_of}
use Rattle.ion_symbols.proofs.hash.hash.Goals as goal

pub returns : goal.returns
unfolding hash_of
returns c = search rules
