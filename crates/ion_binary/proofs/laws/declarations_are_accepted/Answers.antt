use Rattle.ion_binary.proofs.WrittenDeclarations.{declarations_are_accepted}
use Rattle.ion_binary.proofs.laws.declarations_are_accepted.Goals as goal

pub returns : goal.returns
returns c = declarations_are_accepted
