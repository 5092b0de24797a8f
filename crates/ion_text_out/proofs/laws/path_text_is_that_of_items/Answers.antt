use Rattle.ion_text_out.proofs.Below.{canonical}
use Rattle.ion_text_out.proofs.Paths.{path_text_of}
use Rattle.ion_text_out.proofs.laws.path_text_is_that_of_items.Goals as goal

pub returns : goal.returns
returns c = path_text_of canonical
