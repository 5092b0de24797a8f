use Rattle.std.proofs.Common.{arith}
use Rattle.std.proofs.lemmas.Grind.{common_steps}
use Rattle.ion_symbols.proofs.user.UserReader.next.Goals as goal

pub returns-in-Some-clause-causes : goal.returns-in-Some-clause-causes
returns-in-Some-clause-causes g c = grind (arith, common_steps)

pub returns-in-Err-clause-ready : goal.returns-in-Err-clause-ready
returns-in-Err-clause-ready g c = grind (arith, common_steps) steps 400000

pub returns-in-Err-clause-falls : goal.returns-in-Err-clause-falls
returns-in-Err-clause-falls g c = grind (arith, common_steps)

pub returns-in-Err-clause-causes : goal.returns-in-Err-clause-causes
returns-in-Err-clause-causes g c = grind (arith, common_steps)

pub returns-in_default-outcome-clause-refuses : goal.returns-in_default-outcome-clause-refuses
returns-in_default-outcome-clause-refuses g c = grind (arith, common_steps)

pub returns-in-Some-clause-again : goal.returns-in-Some-clause-again
returns-in-Some-clause-again g c = grind (arith, common_steps)

pub returns-in-Err-clause-level : goal.returns-in-Err-clause-level
returns-in-Err-clause-level g c = grind (arith, common_steps)

pub returns-in-Err-clause-refuses : goal.returns-in-Err-clause-refuses
returns-in-Err-clause-refuses g c = grind (arith, common_steps)

pub returns-in-Err-clause-again : goal.returns-in-Err-clause-again
returns-in-Err-clause-again g c = grind (arith, common_steps)

pub returns-in-Err-clause-stays : goal.returns-in-Err-clause-stays
returns-in-Err-clause-stays g c = grind (arith, common_steps)

pub returns-in_default-outcome-clause-falls : goal.returns-in_default-outcome-clause-falls
returns-in_default-outcome-clause-falls g c = grind (arith, common_steps)

pub returns-in-Some-clause-stays : goal.returns-in-Some-clause-stays
returns-in-Some-clause-stays g c = grind (arith, common_steps)

pub returns-in_default-outcome-clause-again : goal.returns-in_default-outcome-clause-again
returns-in_default-outcome-clause-again g c = grind (arith, common_steps)

pub returns-in_default-outcome-clause-level : goal.returns-in_default-outcome-clause-level
returns-in_default-outcome-clause-level g c = grind (arith, common_steps)

pub returns-in-Some-clause-comes : goal.returns-in-Some-clause-comes
returns-in-Some-clause-comes g c = grind (arith, common_steps)

pub returns-in-Err-clause-charges : goal.returns-in-Err-clause-charges
returns-in-Err-clause-charges g c = grind (arith, common_steps)

pub returns-in_default-outcome-clause-charges : goal.returns-in_default-outcome-clause-charges
returns-in_default-outcome-clause-charges g c = grind (arith, common_steps)

pub returns-in-Some-clause-refuses : goal.returns-in-Some-clause-refuses
returns-in-Some-clause-refuses g c = grind (arith, common_steps)

pub returns-in-Some-clause-ends : goal.returns-in-Some-clause-ends
returns-in-Some-clause-ends g c = grind (arith, common_steps)

pub returns-in-Err-clause-kept : goal.returns-in-Err-clause-kept
returns-in-Err-clause-kept g c = grind (arith, common_steps)

pub returns-in_default-outcome-clause-kept : goal.returns-in_default-outcome-clause-kept
returns-in_default-outcome-clause-kept g c = grind (arith, common_steps)
