use Rattle.ion_float.proofs.Reading.{shortest_reads, is-positive}
use Rattle.ion_float.proofs.laws.shortest_reads_back.Goals as goal

pub returns : goal.returns
returns c = λ bits p. shortest_reads bits p.1 (is-positive bits p)
