use Rattle.ion_float.proofs.OctetLaws.{octets-fewest}
use Rattle.ion_float.proofs.laws.float_octets_are_fewest.Goals as goal

pub returns : goal.returns
returns c = octets-fewest
