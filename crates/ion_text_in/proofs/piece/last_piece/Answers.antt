use Rattle.std.proofs.Common.{arith}
use Rattle.std.proofs.lemmas.Grind.{common_steps}
use Rattle.ion_text_in.specs.Quoted.{piece_at}
use Rattle.ion_text_in.proofs.piece.last_piece.Goals as goal

pub returns-in-len1-up : goal.returns-in-len1-up
unfolding piece_at
returns-in-len1-up c = grind (arith, common_steps) steps 400000

pub returns-in-92 : goal.returns-in-92
unfolding piece_at
returns-in-92 c = grind (arith, common_steps) steps 400000
