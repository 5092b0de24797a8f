use Rattle.ion_text_in.proofs.Falling as whole
use Rattle.ion_text_in.proofs.laws.each_step_falls.Goals as goal

pub returns : goal.returns
returns c = whole.each_step_falls
