use Rattle.ion_float.proofs.OctetLaws.{octets-read}
use Rattle.ion_float.proofs.laws.float_octets_are_read.Goals as goal

pub returns : goal.returns
returns c = octets-read
