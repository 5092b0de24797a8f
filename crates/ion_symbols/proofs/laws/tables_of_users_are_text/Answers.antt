use Rattle.ion_symbols.proofs.CatalogTexts.{tables_of_users_are_text}
use Rattle.ion_symbols.proofs.laws.tables_of_users_are_text.Goals as goal

pub returns : goal.returns
returns c = tables_of_users_are_text
