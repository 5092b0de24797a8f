use Rattle.ion_binary.proofs.ShortestHeaders.{headers_are_shortest}
use Rattle.ion_binary.proofs.laws.headers_are_shortest.Goals as goal

pub returns : goal.returns
returns c = headers_are_shortest
