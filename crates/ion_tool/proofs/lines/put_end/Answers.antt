use Rattle.std.specs.Prelude.{codes}
use Rattle.ion_tool.specs.Serving.{reason_text}
use Rattle.ion_tool.proofs.Writing.{puts_cut, puts_then}
use Rattle.ion_tool.proofs.lines.put_end.Goals as goal

pub returns-then-not-put_reason : goal.returns-then-not-put_reason
returns-then-not-put_reason g c =
    puts_cut g.D.Output (reason_text c.args.reason.now) (codes "\n") _ _ c.put_reason.result c.if-not-put_reason.true c.put_reason.ensures

pub returns : goal.returns
returns g c =
    puts_then g.D.Output (reason_text c.args.reason.now) (codes "\n") _ _ _ c.put_reason.result c.put.result c.if-not-put_reason.false c.put_reason.ensures c.put.ensures
