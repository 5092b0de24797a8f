use Rattle.std.proofs.Common.{ap, subst, arith}
use Rattle.ion_meter.specs.Counts.{Shrinks}
use Rattle.ion_symbols.specs.Output.{Output, texts_cost}
use Rattle.ion_symbols.proofs.KeptTexts.{same_output, same_share}
use Rattle.ion_symbols.proofs.output.OutSymbols.clear.Goals as goal

pub clear-requires-clause-held : goal.clear-requires-clause-held
clear-requires-clause-held g c = same_share _ _ _ (ap (λ (s : Output). s.texts) c.self.view_is) c.requires

pub returns-clause-cleared : goal.returns-clause-cleared
returns-clause-cleared g c = same_output _ _ _ _ _ _ _ c.clear.ensures.nothing (ap (λ (s : Output). s.limit) c.self.view_is) c.clear.ensures.linked

pub returns-clause-cost : goal.returns-clause-cost
returns-clause-cost g c = subst (λ (s : Output). Shrinks c.args.meter.now c.clear.new.meter (texts_cost s.texts)) c.self.view_is c.clear.ensures.cost

pub invariant_of-self : goal.invariant_of-self
invariant_of-self g c = (c.clear.ensures.kept, same_share _ _ _ c.clear.ensures.nothing (omega arith), c.self.invariant.2)
