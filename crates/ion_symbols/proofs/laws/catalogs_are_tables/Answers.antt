use Rattle.ion_symbols.proofs.CatalogRefusals.{catalogs_are_tables}
use Rattle.ion_symbols.proofs.laws.catalogs_are_tables.Goals as goal

pub returns : goal.returns
returns c = catalogs_are_tables
