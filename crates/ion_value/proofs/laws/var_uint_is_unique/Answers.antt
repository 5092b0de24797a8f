use Rattle.ion_value.proofs.Numbers.{VarUInt-unique}
use Rattle.ion_value.proofs.laws.var_uint_is_unique.Goals as goal

pub returns : goal.returns
returns c = VarUInt-unique
