use Rattle.std.proofs.Common.{rules, arith}
use Rattle.std.proofs.lemmas.Grind.{common_steps}
use Rattle.ion_transcode.proofs.copy_stream.finish.Goals as goal

pub returns-in-Err-clause-writes : goal.returns-in-Err-clause-writes
returns-in-Err-clause-writes g c = search rules

pub returns-in-Err-flush-clause-writes : goal.returns-in-Err-flush-clause-writes
returns-in-Err-flush-clause-writes g c = search rules

pub returns-in-Err-flush-clause-grown : goal.returns-in-Err-flush-clause-grown
returns-in-Err-flush-clause-grown g c = grind (arith, common_steps)

pub returns-in-Err-flush-clause-still_observable : goal.returns-in-Err-flush-clause-still_observable
returns-in-Err-flush-clause-still_observable g c = grind (arith, common_steps)

pub returns-in-Err-clause-passes : goal.returns-in-Err-clause-passes
returns-in-Err-clause-passes g c = grind (arith, common_steps) steps 400000
