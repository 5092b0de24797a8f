use Rattle.std.proofs.Common.{◌∙◌, ap, sym}
use Rattle.std.specs.Prelude.{min}
use Rattle.ion_tool.specs.Counting.{Marks}
use Rattle.ion_tool.proofs.MarksOf.{finds}
use Rattle.ion_tool.proofs.marks.LineMarks.find.Goals as goal

pub returns : goal.returns
returns c read has =
    finds read c.args.place c.min.result c.args.self.now c.search.result has c.ranges.place.fits (c.min.ensures ∙ ap (λ (m : Marks). min c.args.place m.count) c.self.view_is)
    (ap (λ (m : Marks). m.is_binary) (sym c.self.view_is) ∙ c.if-self.false) c.search.ensures
