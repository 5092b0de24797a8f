use Rattle.ion_transcode.proofs.Loading.{catalogs_loaded}
use Rattle.ion_transcode.proofs.laws.catalogs_are_loaded.Goals as goal

pub returns : goal.returns
returns c = catalogs_loaded c.binary_is_sound.ensures c.text_is_sound.ensures c.users_are_read.ensures c.catalogs_are_read.ensures c.catalogs_are_tables.ensures
