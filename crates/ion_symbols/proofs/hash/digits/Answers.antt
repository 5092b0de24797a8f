use Rattle.std.proofs.Common.{rules}
use Rattle.ion_symbols.specs.Hash.{digits_in}
use Rattle.ion_symbols.proofs.hash.digits.Goals as goal

pub returns : goal.returns
unfolding digits_in
returns c = search rules
