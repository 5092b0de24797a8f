use Rattle.std.specs.Prelude.{codes}
use Rattle.ion_tool.specs.Serving.{name_in_line}
use Rattle.ion_tool.proofs.Writing.{puts_cut}
use Rattle.ion_tool.proofs.lines.put_label.Goals as goal

pub returns-then-not-put_name : goal.returns-then-not-put_name
returns-then-not-put_name g c =
    rw c.in-Some.is (puts_cut g.D.Output (name_in_line c.in-Some.word.now) (codes ": ") _ _ c.put_name.result c.if-not-put_name.true c.put_name.ensures)
