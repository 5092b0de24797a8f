use Rattle.ion_transcode.proofs.SpellsOnce.{text-once}
use Rattle.ion_transcode.proofs.laws.text_is_spelled_once.Goals as goal

pub returns : goal.returns
returns c = text-once c.one_path.ensures c.one_stream.ensures
