use Rattle.std.proofs.Common.{rules}
use Rattle.ion_symbols.specs.Hash.{bucket_in}
use Rattle.ion_symbols.proofs.hash.bucket.Goals as goal

pub returns-clause-of : goal.returns-clause-of
unfolding bucket_in
returns-clause-of c = search rules
