use Rattle.ion_tool.proofs.Writing.{puts_cut}
use Rattle.ion_tool.proofs.lines.put_line.Goals as goal

pub returns-then-not-put_label : goal.returns-then-not-put_label
returns-then-not-put_label g c = puts_cut g.D.Output _ c.args.line.now _ _ c.put_label.result c.if-not-put_label.true c.put_label.ensures
