use Rattle.ion_transcode.proofs.SpellsOnce.{one_spelling}
use Rattle.ion_transcode.proofs.laws.one_spelling.Goals as goal

pub returns : goal.returns
returns c = one_spelling c.binary_is_spelled_once.ensures c.text_is_spelled_once.ensures
