use Rattle.std.proofs.Common.{refl}
use Rattle.ion_value.specs.Float.{value_of}
use Rattle.ion_value.proofs.FloatBits.{is_nan-test}
use Rattle.ion_value.proofs.float.Float64.is_nan.Goals as goal

pub returns : goal.returns
returns c = is_nan-test c.args.self.bits (value_of c.args.self) refl c.args.self.kept
