use Rattle.std.proofs.Common.{◌≡◌, ◌++◌, arith}
use Rattle.std.proofs.lemmas.Grind.{common_steps}
use Rattle.ion_meter.proofs.Putting.{Puts-taken}
use Rattle.ion_meter.proofs.sink.Sink.put.Goals as goal

pub returns-then-bytes-self-clause-puts : goal.returns-then-bytes-self-clause-puts
returns-then-bytes-self-clause-puts g c =
    let all : c.take.new.self.pending ≡ c.args.self.now.pending ++ c.args.bytes.now = grind (arith, common_steps) in
    λ _. Puts-taken g.O.Output.written g.O.Output.observable c.args.self.now c.take.new.self c.args.bytes.now c.take.ensures.device all

pub returns-then-bytes-self-clause-within : goal.returns-then-bytes-self-clause-within
returns-then-bytes-self-clause-within g c = grind (arith, common_steps)

pub returns-then-bytes-self-clause-ok : goal.returns-then-bytes-self-clause-ok
returns-then-bytes-self-clause-ok g c = grind (arith, common_steps)

pub returns-clause-within : goal.returns-clause-within
returns-clause-within g c = grind (arith, common_steps)

pub returns-then-bytes-self-clause-again : goal.returns-then-bytes-self-clause-again
returns-then-bytes-self-clause-again g c = grind (arith, common_steps)
