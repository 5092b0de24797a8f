use Rattle.std.proofs.Common.{arith}
use Rattle.std.proofs.lemmas.Grind.{common_steps}
use Rattle.ion_value.proofs.name.all_identifier_bytes.Goals as goal

pub returns-then-not-is_identifier_byte : goal.returns-then-not-is_identifier_byte
returns-then-not-is_identifier_byte c = grind (arith, common_steps)
