use Rattle.ion_binary.proofs.PlacedHeaders.{closed_size_by_counts}
use Rattle.ion_binary.proofs.laws.closed_size_by_counts.Goals as goal

pub returns : goal.returns
returns c = closed_size_by_counts
