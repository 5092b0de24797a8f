use Rattle.ion_text_in.proofs.Complete.{paths_within, streams_within}
use Rattle.ion_text_in.proofs.laws.what_is_within_limits_is_read.Goals as goal

pub returns : goal.returns
returns c = record { paths = paths_within; streams = streams_within }
