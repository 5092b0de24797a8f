use Rattle.ion_text_in.proofs.FirmReading.{cut-where-one-begins, cut-after-firm}
use Rattle.ion_text_in.proofs.laws.lines_are_cut.Goals as goal

pub returns : goal.returns
returns c = record { begun = cut-where-one-begins; firm = cut-after-firm }
