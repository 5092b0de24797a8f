use Rattle.ion_binary.proofs.RawStreams.{streams_are_raw}
use Rattle.ion_binary.proofs.laws.streams_are_raw.Goals as goal

pub returns : goal.returns
returns c = streams_are_raw
