use Rattle.ion_transcode.proofs.ReadAgain.{values-of-streams}
use Rattle.ion_transcode.proofs.laws.values_of_streams.Goals as goal

pub returns : goal.returns
returns c = values-of-streams c.users_of_raw_values.ensures c.streams_are_raw.ensures c.streams_are_raw-2.ensures
