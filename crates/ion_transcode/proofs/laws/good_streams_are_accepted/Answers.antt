use Rattle.ion_transcode.proofs.Accepted.{good-streams}
use Rattle.ion_transcode.proofs.laws.good_streams_are_accepted.Goals as goal

pub returns : goal.returns
returns c = good-streams c.what_is_read_is_accepted.ensures c.streams_within_limits_are_read.ensures c.streams_within_limits_are_read-2.ensures
