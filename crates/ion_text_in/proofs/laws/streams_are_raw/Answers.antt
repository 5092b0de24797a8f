use Rattle.ion_text_in.proofs.ValuesWithin as whole
use Rattle.ion_text_in.proofs.laws.streams_are_raw.Goals as goal

pub returns : goal.returns
returns c = whole.streams-are_raw
