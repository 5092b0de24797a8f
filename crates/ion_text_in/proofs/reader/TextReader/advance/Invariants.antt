use Rattle.ion_text_in.proofs.ReaderCalls.{SoFar}
use Rattle.ion_text_in.specs.Steps.{left_to}
use Rattle.ion_text_in.proofs.reader.TextReader.advance.Given as goal

abbrev pub invariant-steps : goal.invariant-steps
invariant-steps g l = SoFar g.I.Input l.fn.self l.self l.fn.meter l.meter

abbrev pub decreases-steps : goal.decreases-steps
decreases-steps g l = left_to l.self
