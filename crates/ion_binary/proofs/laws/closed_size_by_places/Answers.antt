use Rattle.ion_binary.proofs.PlacedHeaders.{closed_size_by_places}
use Rattle.ion_binary.proofs.laws.closed_size_by_places.Goals as goal

pub returns : goal.returns
returns c = closed_size_by_places
