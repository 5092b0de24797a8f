use Rattle.ion_text_in.proofs.Plain.{plain-spelled}
use Rattle.ion_text_in.proofs.laws.plain_bytes_are_spelled.Goals as goal

pub returns : goal.returns
returns c = plain-spelled
