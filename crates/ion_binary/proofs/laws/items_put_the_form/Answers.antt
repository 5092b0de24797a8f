use Rattle.ion_binary.proofs.WholeValues.{items_put_the_form}
use Rattle.ion_binary.proofs.laws.items_put_the_form.Goals as goal

pub returns : goal.returns
returns c = items_put_the_form
