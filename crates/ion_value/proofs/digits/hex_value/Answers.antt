use Rattle.std.proofs.Common.{refl, arith}
use Rattle.ion_value.specs.declared.digits.TheConstants.{VALUES}
use Rattle.ion_value.proofs.TextDigits.{hex-digit, hex-value}
use Rattle.ion_value.proofs.digits.hex_value.Goals as goal

pub returns-then-place-lt55-clause-digit : goal.returns-then-place-lt55-clause-digit
returns-then-place-lt55-clause-digit c = hex-digit VALUES c.args.byte refl (omega arith) c.if-place-lt55.true

pub returns-then-place-lt55-clause-value : goal.returns-then-place-lt55-clause-value
returns-then-place-lt55-clause-value c = hex-value VALUES c.args.byte refl (omega arith) c.if-place-lt55.true
