use Rattle.ion_transcode.proofs.AcceptedTrees.{trees-in-order}
use Rattle.ion_transcode.proofs.laws.trees_in_order_are_accepted.Goals as goal

pub returns : goal.returns
returns c = trees-in-order c.why_refused.ensures c.what_is_declared.ensures c.good_streams_are_accepted.ensures
