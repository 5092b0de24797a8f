use Rattle.std.proofs.Common.{arith}
use Rattle.std.proofs.lemmas.Grind.{common_steps}
use Rattle.ion_meter.proofs.Extending.{extends-then}
use Rattle.ion_meter.proofs.source.Source.reach.Goals as goal

pub fill-requires-clause-short : goal.fill-requires-clause-short
fill-requires-clause-short g c = grind (arith, common_steps)

pub loop-self-smaller : goal.loop-self-smaller
loop-self-smaller g c = grind (arith, common_steps)

pub loop-self-preserved : goal.loop-self-preserved
loop-self-preserved g c = grind (arith, common_steps)

pub returns-in_err-fill-clause-kept : goal.returns-in_err-fill-clause-kept
returns-in_err-fill-clause-kept g c = extends-then g.I.Input c.args.self.now c.loop-self.self c.fill.new.self c.loop-self.invariant.kept c.fill.ensures.kept

pub returns-after-loop-self-clause-reached : goal.returns-after-loop-self-clause-reached
returns-after-loop-self-clause-reached g c = grind (arith, common_steps)

pub returns-in_err-fill-clause-needed : goal.returns-in_err-fill-clause-needed
returns-in_err-fill-clause-needed g c = grind (arith, common_steps)

pub returns-else-not-self-clause-reached : goal.returns-else-not-self-clause-reached
returns-else-not-self-clause-reached g c = grind (arith, common_steps)
