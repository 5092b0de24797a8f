use Rattle.ion_text_in.proofs.Steps.{step-follows}
use Rattle.ion_text_in.proofs.laws.each_step_follows.Goals as goal

pub returns : goal.returns
returns c = step-follows
