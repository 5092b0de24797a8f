use Rattle.ion_transcode.proofs.Loading.{verdicts_read}
use Rattle.ion_transcode.proofs.laws.catalog_verdicts_are_read.Goals as goal

pub returns : goal.returns
returns c = verdicts_read c.binary_is_sound.ensures c.text_is_sound.ensures c.users_are_read.ensures
