use Rattle.std.proofs.Common.{arith}
use Rattle.std.proofs.lemmas.Grind.{common_steps}
use Rattle.ion_tool.specs.Counting.{BeginsAt}
use Rattle.ion_tool.proofs.LineEnds.{line_ends-split}
use Rattle.ion_tool.proofs.MarksOf.{found_before, found_here}
use Rattle.ion_tool.proofs.marks.LineMarks.search.Goals as goal

pub loop-preserved : goal.loop-preserved
loop-preserved c =
    let i = c.loop.invariant in
    record {
      line = grind (arith, common_steps);
      later = λ counted has within.
          let most = i.later counted has within in
          let at : BeginsAt counted c.loop.line c.begin_of-begin.result = rw c.begin_of-begin.ensures (has.begins c.loop.line (omega arith) (omega arith)) in
          let before = found_before counted c.loop.line c.begin_of-begin.result c.args.place at c.if-begin-place.false in
          omega arith;
    }

pub returns-then-begin-place : goal.returns-then-begin-place
returns-then-begin-place c counted has within =
    let i = c.loop.invariant in
    let most = i.later counted has within in
    let at : BeginsAt counted c.loop.line c.begin_of-begin.result = rw c.begin_of-begin.ensures (has.begins c.loop.line (omega arith) (omega arith)) in
    found_here counted c.loop.line c.begin_of-begin.result c.args.place at c.if-begin-place.true within (omega arith)

pub returns : goal.returns
returns c counted has within =
    let most = c.loop.invariant.later counted has within in
    let split = line_ends-split c.args.place counted in
    omega (arith, has.ends)
