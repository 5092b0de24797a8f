use Rattle.ion_text_out.proofs.Below.{canonical}
use Rattle.ion_text_out.proofs.Paths.{text_of_items}
use Rattle.ion_text_out.proofs.laws.text_is_that_of_items.Goals as goal

pub returns : goal.returns
returns c = text_of_items canonical
