use Rattle.ion_text_out.proofs.Layouts.{canonical_is, pretty_is}
use Rattle.ion_text_out.proofs.laws.are_layouts.Goals as goal

pub returns : goal.returns
returns c = (canonical_is, pretty_is)
