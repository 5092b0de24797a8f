use Rattle.std.proofs.Common.{arith}
use Rattle.std.proofs.lemmas.Grind.{common_steps}
use Rattle.ion_symbols.proofs.checks.check_symbol.Goals as goal

pub returns-in-Gap : goal.returns-in-Gap
returns-in-Gap g c = grind (arith, common_steps) steps 400000

pub returns-in_default-text-2 : goal.returns-in_default-text-2
returns-in_default-text-2 g c = grind (arith, common_steps)
