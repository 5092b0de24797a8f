use Rattle.std.proofs.Common.{arith}
use Rattle.std.proofs.lemmas.Grind.{common_steps}
use Rattle.ion_meter.proofs.Putting.{Puts-nothing}
use Rattle.ion_transcode.proofs.copy_items.flush_ended.Goals as goal

pub returns-then-not-may_wait-clause-puts : goal.returns-then-not-may_wait-clause-puts
returns-then-not-may_wait-clause-puts g c = Puts-nothing g.O.Output.written g.O.Output.observable c.args.sink.now

pub returns-in-Err-clause-same : goal.returns-in-Err-clause-same
returns-in-Err-clause-same g c = grind (arith, common_steps) steps 400000

pub returns-in-Err-clause-well : goal.returns-in-Err-clause-well
returns-in-Err-clause-well g c = grind (arith, common_steps) steps 400000

pub returns-in-Err-clause-count : goal.returns-in-Err-clause-count
returns-in-Err-clause-count g c = grind (arith, common_steps) steps 400000

pub returns-in-Err-clause-puts : goal.returns-in-Err-clause-puts
returns-in-Err-clause-puts g c = grind (arith, common_steps)

pub returns-in-Ok-clause-puts : goal.returns-in-Ok-clause-puts
returns-in-Ok-clause-puts g c = grind (arith, common_steps)

pub returns-in-Ok-clause-count : goal.returns-in-Ok-clause-count
returns-in-Ok-clause-count g c = grind (arith, common_steps)
