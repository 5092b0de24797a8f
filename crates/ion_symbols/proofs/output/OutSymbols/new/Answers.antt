use Rattle.std.proofs.Common.{refl, arith}
use Rattle.ion_symbols.proofs.KeptTexts.{same_output, same_share}
use Rattle.ion_symbols.proofs.output.OutSymbols.new.Goals as goal

pub returns : goal.returns
returns g c = same_output _ _ _ _ _ _ _ c.new.ensures.nothing refl c.new.ensures.linked

pub invariant_of-result : goal.invariant_of-result
invariant_of-result g c = (c.new.ensures.kept, same_share _ _ _ c.new.ensures.nothing (omega arith), omega (arith, c.requires))
