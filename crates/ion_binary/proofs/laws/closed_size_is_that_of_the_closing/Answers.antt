use Rattle.ion_binary.proofs.ClosedSize.{closed_size_is}
use Rattle.ion_binary.proofs.laws.closed_size_is_that_of_the_closing.Goals as goal

pub returns : goal.returns
returns c = closed_size_is
