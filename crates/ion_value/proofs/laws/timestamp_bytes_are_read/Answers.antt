use Rattle.ion_value.proofs.TimestampBodies.{bytes-back}
use Rattle.ion_value.proofs.laws.timestamp_bytes_are_read.Goals as goal

pub returns : goal.returns
returns c = bytes-back
