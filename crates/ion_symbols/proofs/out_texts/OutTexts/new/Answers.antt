use Rattle.std.proofs.Common.{refl, ap}
use Rattle.ion_symbols.specs.Ordered.{texts_in}
use Rattle.ion_symbols.proofs.LinkedTexts.{none_kept}
use Rattle.ion_symbols.proofs.out_texts.OutTexts.new.Goals as goal

pub returns-clause-kept : goal.returns-clause-kept
returns-clause-kept g c = none_kept _ c.new.ensures c.new-2.ensures.items c.new-3.ensures.items c.no_buckets.ensures refl c.new-2.ensures.cost c.new-3.ensures.cost

pub returns-clause-nothing : goal.returns-clause-nothing
returns-clause-nothing g c = ap (texts_in c.new.result) c.new-2.ensures.items
