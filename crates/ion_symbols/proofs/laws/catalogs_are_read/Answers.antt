use Rattle.ion_symbols.proofs.CatalogReadings.{catalogs_are_read}
use Rattle.ion_symbols.proofs.laws.catalogs_are_read.Goals as goal

pub returns : goal.returns
returns c = catalogs_are_read
