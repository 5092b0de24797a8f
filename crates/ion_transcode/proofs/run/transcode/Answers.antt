use Rattle.std.proofs.Common.{ap, ◌∙◌, arith}
use Rattle.std.proofs.lemmas.Grind.{common_steps}
use Rattle.ion_meter.proofs.ReadOn.{read_on-same}
use Rattle.ion_transcode.proofs.run.transcode.Goals as goal

pub returns-clause-causes : goal.returns-clause-causes
returns-clause-causes g c = grind (arith, common_steps)

pub returns-in-Err-new-clause-causes : goal.returns-in-Err-new-clause-causes
returns-in-Err-new-clause-causes g c = grind (arith, common_steps)

pub returns-in-Err-clause-causes : goal.returns-in-Err-clause-causes
returns-in-Err-clause-causes g c = grind (arith, common_steps)

pub returns-clause-gives_back : goal.returns-clause-gives_back
returns-clause-gives_back g c = grind (arith, common_steps)

pub returns-clause-writes : goal.returns-clause-writes
returns-clause-writes g c = grind (arith, common_steps)

pub returns-in-Err-new-clause-writes : goal.returns-in-Err-new-clause-writes
returns-in-Err-new-clause-writes g c = grind (arith, common_steps)

pub returns-in-Err-clause-writes : goal.returns-in-Err-clause-writes
returns-in-Err-clause-writes g c = grind (arith, common_steps)

pub returns-in-Err-new-clause-gives_back : goal.returns-in-Err-new-clause-gives_back
returns-in-Err-new-clause-gives_back g c = grind (arith, common_steps)

pub returns-clause-bytes : goal.returns-clause-bytes
returns-clause-bytes g c = grind (arith, common_steps)

pub returns-clause-input : goal.returns-clause-input
returns-clause-input g c = grind (arith, common_steps)

pub returns-in-Err-new-clause-input : goal.returns-in-Err-new-clause-input
returns-in-Err-new-clause-input g c = grind (arith, common_steps)

pub returns-clause-says : goal.returns-clause-says
returns-clause-says g c = grind (arith, common_steps)

pub returns-in-Err-clause-input : goal.returns-in-Err-clause-input
returns-in-Err-clause-input g c = grind (arith, common_steps)

pub returns-in-Err-clause-gives_back : goal.returns-in-Err-clause-gives_back
returns-in-Err-clause-gives_back g c = grind (arith, common_steps)

pub release-requires-2 : goal.release-requires-2
release-requires-2 g c = grind (arith, common_steps)

pub returns-in-Err-clause-taken : goal.returns-in-Err-clause-taken
returns-in-Err-clause-taken g c =
    read_on-same g.I.Input c.args.input c.in-Err.input c.in-Err.ensures.err

pub returns-in-Err-new-clause-taken : goal.returns-in-Err-new-clause-taken
returns-in-Err-new-clause-taken g c =
    read_on-same g.I.Input c.args.input c.release.result (c.release.ensures.device ∙ ap (λ s. s.device) c.in-Ok.ensures.ok)
