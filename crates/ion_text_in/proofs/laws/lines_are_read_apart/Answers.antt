use Rattle.ion_text_in.proofs.FirmReading.{lines-are-read-apart, none-goes-on, firm-ends}
use Rattle.ion_text_in.proofs.laws.lines_are_read_apart.Goals as goal

pub returns : goal.returns
returns c = record { apart = lines-are-read-apart; begun = none-goes-on; firm = firm-ends }
