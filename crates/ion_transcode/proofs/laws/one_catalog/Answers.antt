use Rattle.ion_transcode.proofs.TableStreams.{one_catalog}
use Rattle.ion_transcode.proofs.laws.one_catalog.Goals as goal

pub returns : goal.returns
returns c = one_catalog c.one_spelling.ensures
