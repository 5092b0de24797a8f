use Rattle.std.proofs.Common.{arith, ◌∙◌, ◌-◌, ◌++◌, ap, length, take, subst, sym}
use Rattle.std.proofs.lemmas.List.{length-drop, take_rest}
use Rattle.ion_tool.specs.Counting.{HasMarks, Marks}
use Rattle.ion_tool.proofs.MarksOf.{marks-found, marks-rest}
use Rattle.ion_tool.proofs.marks.LineMarks.count_lines.Goals as goal

pub loop-found-preserved : goal.loop-found-preserved
loop-found-preserved c =
    let i = c.loop-found.invariant in
    let line = c.end_line.ensures.line in
    let rest = take_rest c.args.bytes.now c.loop-found.at in
    let first = c.in-Some.ensures.0 in
    record {
      within = omega (arith, first.high, ap length rest, length-drop c.loop-found.at c.args.bytes.now);
      marks = λ counted has. marks-found counted c.args.bytes.now _ c.loop-found.at c.in-Some.found c.loop-found.self c.end_line.new.self rest (i.marks counted has) line c.end_line.ensures.room
          first.high (λ k below. first.before k (omega arith) below) c.in-Some.ensures.1;
      count = rw line (omega (arith, i.count));
      form = rw line i.form;
    }

pub returns-clause-marks : goal.returns-clause-marks
returns-clause-marks c counted has =
    let i = c.loop-found.invariant in
    let rest = take_rest c.args.bytes.now c.loop-found.at in
    let known = subst (λ (m : Marks). HasMarks (counted ++ take c.loop-found.at c.args.bytes.now) m) (sym c.self.view_is) (i.marks counted has) in
    marks-rest counted c.args.bytes.now _ c.loop-found.at (length c.args.bytes.now - c.loop-found.at) _ rest known (sym (length-drop c.loop-found.at c.args.bytes.now) ∙ ap length (sym rest))
    (λ k within. c.in_default.ensures k (omega arith) within)
