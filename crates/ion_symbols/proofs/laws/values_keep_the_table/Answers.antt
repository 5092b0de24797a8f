use Rattle.ion_symbols.proofs.ReadOn.{values-keep-the-table}
use Rattle.ion_symbols.proofs.laws.values_keep_the_table.Goals as goal

pub returns : goal.returns
returns c = values-keep-the-table
