use Rattle.std.proofs.Common.{arith}
use Rattle.std.proofs.lemmas.Grind.{common_steps, elements}
use Rattle.ion_symbols.proofs.texts.Texts.get.Goals as goal

pub returns : goal.returns
returns c = grind (arith, elements)

pub returns-in_err-place : goal.returns-in_err-place
returns-in_err-place c = grind (arith, elements)

pub slice_bounds-result-end : goal.slice_bounds-result-end
slice_bounds-result-end c = grind (arith, common_steps)

pub slice_bounds-result-count : goal.slice_bounds-result-count
slice_bounds-result-count c = grind (arith, common_steps)

pub slice_bounds-result-start : goal.slice_bounds-result-start
slice_bounds-result-start c = grind (arith, common_steps)
