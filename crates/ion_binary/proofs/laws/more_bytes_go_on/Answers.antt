use Rattle.ion_binary.proofs.Cutting.{more-bytes-go-on}
use Rattle.ion_binary.proofs.laws.more_bytes_go_on.Goals as goal

pub returns : goal.returns
returns c = more-bytes-go-on
