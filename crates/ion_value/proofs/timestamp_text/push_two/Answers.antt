use Rattle.std.proofs.Common.{arith}
use Rattle.std.proofs.lemmas.Grind.{common_steps}
use Rattle.ion_value.proofs.FixedDigits.{fixed_digits-two}
use Rattle.ion_value.proofs.timestamp_text.push_two.Goals as goal

pub returns-clause-text : goal.returns-clause-text
returns-clause-text c = rw (fixed_digits-two c.args.number c.requires.small) (grind (arith, common_steps))
