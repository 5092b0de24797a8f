use Rattle.ion_transcode.proofs.ReadAgain.{round-trip}
use Rattle.ion_transcode.proofs.laws.round_trip.Goals as goal

pub returns : goal.returns
returns c = round-trip c.values_of_streams.ensures c.text_is_read.ensures c.the_form_is_read.ensures
