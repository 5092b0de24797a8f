use Rattle.ion_transcode.proofs.SpellsOnce.{binary-once}
use Rattle.ion_transcode.proofs.laws.binary_is_spelled_once.Goals as goal

pub returns : goal.returns
returns c = binary-once c.one_path.ensures c.one_stream.ensures
