use Rattle.ion_transcode.proofs.ReadAgain.{show-once}
use Rattle.ion_transcode.proofs.laws.show_once.Goals as goal

pub returns : goal.returns
returns c = show-once c.layouts_are_shown_alike.ensures
