use Rattle.std.proofs.Common.{◌∙◌, sym}
use Rattle.std.specs.Prelude.{codes}
use Rattle.ion_tool.proofs.Writing.{puts_cut, some_reason}
use Rattle.ion_tool.proofs.lines.put_reason.Goals as goal

pub returns-then-not-put : goal.returns-then-not-put
returns-then-not-put g c =
    rw (some_reason c.args.reason.now (sym c.is_empty.ensures ∙ c.if-is_empty.false))
    (puts_cut g.D.Output (codes ": ") c.args.reason.now _ _ c.put.result c.if-not-put.true c.put.ensures)
