use Rattle.ion_binary.proofs.HeldMoves.{what_is_held_moves}
use Rattle.ion_binary.proofs.laws.what_is_held_moves.Goals as goal

pub returns : goal.returns
returns c = what_is_held_moves
