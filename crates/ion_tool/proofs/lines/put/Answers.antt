use Rattle.ion_tool.proofs.Writing.{puts}
use Rattle.ion_tool.proofs.lines.put.Goals as goal

pub returns : goal.returns
returns g c =
    let write = c.write_all.ensures in
    puts g.D.Output _ _ _ c.write_all.result _ c.is_ok.ensures.value write.observable write.count write.all write.prefix
