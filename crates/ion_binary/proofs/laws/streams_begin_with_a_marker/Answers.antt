use Rattle.ion_binary.proofs.FirstMarker.{streams-begin-with-marker}
use Rattle.ion_binary.proofs.laws.streams_begin_with_a_marker.Goals as goal

pub returns : goal.returns
returns c = streams-begin-with-marker
