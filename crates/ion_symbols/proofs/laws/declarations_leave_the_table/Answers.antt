use Rattle.ion_symbols.proofs.ReadOn.{declarations-leave-the-table}
use Rattle.ion_symbols.proofs.laws.declarations_leave_the_table.Goals as goal

pub returns : goal.returns
returns c = declarations-leave-the-table
