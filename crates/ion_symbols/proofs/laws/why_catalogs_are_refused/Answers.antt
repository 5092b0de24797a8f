use Rattle.ion_symbols.proofs.CatalogRefusals.{why_catalogs_are_refused}
use Rattle.ion_symbols.proofs.laws.why_catalogs_are_refused.Goals as goal

pub returns : goal.returns
returns c = why_catalogs_are_refused
