use Rattle.std.proofs.Common.{◌++◌}
use Rattle.std.specs.Prelude.{codes, false}
use Rattle.ion_tool.specs.Serving.{name_in_line, reason_text}
use Rattle.ion_tool.proofs.Writing.{puts_cut, puts_then}
use Rattle.ion_tool.proofs.lines.say_unopened.Goals as goal

pub returns-then-not-put : goal.returns-then-not-put
returns-then-not-put g c =
    let rest = reason_text c.args.reason.now ++ codes "\n" in
    (puts_cut g.E.Output (codes "cannot open ") (name_in_line c.args.name.now ++ rest) _ _ c.put.result c.if-not-put.true c.put.ensures).gets

pub returns-then-not-put_name : goal.returns-then-not-put_name
returns-then-not-put_name g c =
    let rest = reason_text c.args.reason.now ++ codes "\n" in
    (puts_then g.E.Output (codes "cannot open ") (name_in_line c.args.name.now ++ rest) _ _ _ c.put.result false c.if-not-put.false c.put.ensures
    (puts_cut g.E.Output (name_in_line c.args.name.now) rest _ _ c.put_name.result c.if-not-put_name.true c.put_name.ensures)).gets

pub returns : goal.returns
returns g c =
    let rest = reason_text c.args.reason.now ++ codes "\n" in
    (puts_then g.E.Output (codes "cannot open ") (name_in_line c.args.name.now ++ rest) _ _ _ c.put.result c.put_end.result c.if-not-put.false c.put.ensures
    (puts_then g.E.Output (name_in_line c.args.name.now) rest _ _ _ c.put_name.result c.put_end.result c.if-not-put_name.false c.put_name.ensures c.put_end.ensures)).gets
