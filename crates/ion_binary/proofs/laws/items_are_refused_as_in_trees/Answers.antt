use Rattle.ion_binary.proofs.RefusedItems.{items_are_refused_as_in_trees}
use Rattle.ion_binary.proofs.laws.items_are_refused_as_in_trees.Goals as goal

pub returns : goal.returns
returns c = items_are_refused_as_in_trees
