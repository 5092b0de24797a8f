use Rattle.ion_transcode.proofs.AcceptedAgain.{what-is-shown-is-accepted}
use Rattle.ion_transcode.proofs.laws.what_is_shown_is_accepted.Goals as goal

pub returns : goal.returns
returns c = what-is-shown-is-accepted c.each_shown_text_is_accepted.ensures
