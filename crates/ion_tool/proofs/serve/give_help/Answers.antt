use Rattle.ion_tool.proofs.Writing.{gets}
use Rattle.ion_tool.proofs.serve.give_help.Goals as goal

pub returns-in-Err-clause-given : goal.returns-in-Err-clause-given
returns-in-Err-clause-given g c =
    let write = c.write_all.ensures in
    gets g.O.Output _ _ _ c.write_all.result write.observable write.count write.all write.prefix
