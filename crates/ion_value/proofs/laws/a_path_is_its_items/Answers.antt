use Rattle.ion_value.proofs.Paths.{same_path}
use Rattle.ion_value.proofs.laws.a_path_is_its_items.Goals as goal

pub returns : goal.returns
returns c = same_path
