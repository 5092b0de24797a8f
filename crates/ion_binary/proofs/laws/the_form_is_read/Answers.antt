use Rattle.ion_binary.proofs.WrittenStream.{the_form_is_read}
use Rattle.ion_binary.proofs.laws.the_form_is_read.Goals as goal

pub returns : goal.returns
returns c = the_form_is_read
