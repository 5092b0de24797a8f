use Rattle.ion_transcode.proofs.NoDeeper.{what-is-read-is-no-deeper}
use Rattle.ion_transcode.proofs.laws.what_is_read_is_no_deeper.Goals as goal

pub returns : goal.returns
returns c = what-is-read-is-no-deeper
