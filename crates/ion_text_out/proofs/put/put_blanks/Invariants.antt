use Rattle.ion_text_out.proofs.Below.{◌*◌, replicate, Onward}
use Rattle.ion_text_out.proofs.put.put_blanks.Given as goal

abbrev pub invariant-levels : goal.invariant-levels
invariant-levels g l = Onward g.O.Output.written g.O.Output.observable g.O.Output.failure_count l.fn.sink l.sink (replicate (2 * l.fn.depth) 32) (replicate (2 * l.left) 32)

abbrev pub decreases-levels : goal.decreases-levels
decreases-levels g l = l.left
