use Rattle.std.proofs.Common.{arith, ap, take}
use Rattle.ion_tool.specs.Counting.{Marks}
use Rattle.ion_tool.proofs.MarksOf.{counted-more}
use Rattle.ion_tool.proofs.marks.LineMarks.note.Goals as goal

pub returns-clause-counted : goal.returns-clause-counted
returns-clause-counted c read has =
    let known = ap (λ (m : Marks). m.count) c.self.view_is in
    let kept = ap (λ (m : Marks). m.count) c.note_form.ensures.same in
    let n = c.min-counted.result in
    counted-more read c.args.bytes.now _ n c.args.self.now c.note_form.new.self c.count_lines.new.self has (omega arith) (omega (arith, c.min-counted.ensures))
    (ap (λ k. take k c.args.bytes.now) (omega arith)) (omega (arith, c.count_lines.ensures.count)) c.note_form.ensures.same c.note_form.ensures.first c.note_form.ensures.known
    c.count_lines.ensures.marks c.count_lines.ensures.form
