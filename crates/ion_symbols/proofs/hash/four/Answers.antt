use Rattle.ion_symbols.specs.Hash.{four_at}
use Rattle.ion_symbols.proofs.hash.four.Goals as goal

pub returns : goal.returns
unfolding four_at
returns c = c.from_le_bytes.ensures
