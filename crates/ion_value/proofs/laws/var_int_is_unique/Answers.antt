use Rattle.ion_value.proofs.Fields.{VarInt-unique}
use Rattle.ion_value.proofs.laws.var_int_is_unique.Goals as goal

pub returns : goal.returns
returns c = VarInt-unique
