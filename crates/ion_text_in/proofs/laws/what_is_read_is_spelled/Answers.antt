use Rattle.ion_text_in.proofs.Sound.{sound}
use Rattle.ion_text_in.proofs.laws.what_is_read_is_spelled.Goals as goal

pub returns : goal.returns
returns c = sound
