use Rattle.ion_text_out.proofs.Paths.{path_text_of, text_of_items}
use Rattle.ion_text_out.proofs.laws.each_text_is_that_of_items.Goals as goal

pub returns : goal.returns
returns c = λ layout. (text_of_items layout, path_text_of layout)
