use Rattle.ion_symbols.specs.Hash.{eight_at}
use Rattle.ion_symbols.proofs.hash.eight.Goals as goal

pub returns : goal.returns
unfolding eight_at
returns c = c.from_le_bytes.ensures
