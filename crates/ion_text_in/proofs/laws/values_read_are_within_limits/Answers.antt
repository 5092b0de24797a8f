use Rattle.ion_text_in.proofs.ValuesWithin.{values_are_within}
use Rattle.ion_text_in.proofs.laws.values_read_are_within_limits.Goals as goal

pub returns : goal.returns
returns c = values_are_within c.what_is_read_is_within_limits.ensures
