use Rattle.ion_binary.proofs.ClosedSize.{open_items_put}
use Rattle.ion_binary.proofs.laws.open_items_put_what_is_whole.Goals as goal

pub returns : goal.returns
returns c = open_items_put
