use Rattle.ion_text_in.proofs.NumberEnds.{numbers-end}
use Rattle.ion_text_in.proofs.RunCuts.{numbers-are-cut}
use Rattle.ion_text_in.proofs.laws.what_ends_a_number.Goals as goal

pub returns : goal.returns
returns c = record { ends = numbers-end; cut = numbers-are-cut }
