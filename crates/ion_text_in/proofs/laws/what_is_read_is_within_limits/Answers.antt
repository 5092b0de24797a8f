use Rattle.ion_text_in.proofs.ReadWithin.{what_is_read_is_within}
use Rattle.ion_text_in.proofs.laws.what_is_read_is_within_limits.Goals as goal

pub returns : goal.returns
returns c = what_is_read_is_within
