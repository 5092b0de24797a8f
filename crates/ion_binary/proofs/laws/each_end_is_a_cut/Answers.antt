use Rattle.ion_binary.proofs.EachEnd.{each-end-is-a-cut}
use Rattle.ion_binary.proofs.laws.each_end_is_a_cut.Goals as goal

pub returns : goal.returns
returns c = each-end-is-a-cut
