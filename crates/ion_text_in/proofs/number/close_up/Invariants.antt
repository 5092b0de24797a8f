use Rattle.ion_text_in.proofs.ClosingUp.{Moves}
use Rattle.ion_text_in.proofs.number.close_up.Given as goal

abbrev pub invariant-loop-place : goal.invariant-loop-place
invariant-loop-place g l = Moves l.text l.fn.text l.count l.place
