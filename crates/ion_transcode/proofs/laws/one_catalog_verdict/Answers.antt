use Rattle.ion_transcode.proofs.Loading.{one_verdict}
use Rattle.ion_transcode.proofs.laws.one_catalog_verdict.Goals as goal

pub returns : goal.returns
returns c = one_verdict c.users_are_read.ensures
