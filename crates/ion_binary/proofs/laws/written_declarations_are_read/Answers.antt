use Rattle.ion_binary.proofs.WrittenDeclarations.{written_declarations_are_read}
use Rattle.ion_binary.proofs.laws.written_declarations_are_read.Goals as goal

pub returns : goal.returns
returns c = written_declarations_are_read
