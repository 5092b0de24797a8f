use Rattle.ion_text_in.proofs.After.{step-after}
use Rattle.ion_text_in.proofs.laws.blanks_change_no_step.Goals as goal

pub returns : goal.returns
returns c = step-after
