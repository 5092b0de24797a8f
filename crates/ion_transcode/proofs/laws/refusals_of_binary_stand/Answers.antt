use Rattle.ion_transcode.proofs.RefusalsStand.{refusals-of-binary-stand}
use Rattle.ion_transcode.proofs.laws.refusals_of_binary_stand.Goals as goal

pub returns : goal.returns
returns c = refusals-of-binary-stand c.streams_are_read.ensures c.one_verdict.ensures c.more_bytes_go_on.ensures
