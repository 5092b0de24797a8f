use Rattle.std.proofs.Common.{◌∙◌, Option, reverse, inl, inr, sym, ap}
use Rattle.ion_value.specs.declared.ion_type.Kind.{Kind}
use Rattle.ion_text_in.specs.Reading.{after_member}
use Rattle.ion_text_in.proofs.ReaderSteps.{steps-closed, steps-unclosed}
use Rattle.ion_text_in.proofs.reader.TextReader.close.Goals as goal
use Rattle.ion_text_in.proofs.reader.TextReader.close.Goals.{then-is_some-via-then-is_some, then-is_some-via-else-is_some+then-is_annotated, then-is_some-via-else-is_some+else-is_annotated+then-not-is_same}

pub returns-in_default : goal.returns-in_default
returns-in_default g c = steps-unclosed g.I.Input c.args.self.now c.args.kind c.args.place c.args.meter.now c.requires (inl (sym c.innermost.ensures ∙ c.in_default.is))

pub returns-then-is_some : goal.returns-then-is_some
returns-then-is_some g c = steps-unclosed g.I.Input c.args.self.now c.args.kind c.args.place c.args.meter.now c.requires (elim c.then-is_some.branch [
  | then-is_some-via-then-is_some w ↦ inr (inl (sym c.is_some.ensures ∙ w.if-is_some.true))
  | then-is_some-via-else-is_some+then-is_annotated w ↦ inr (inr (inl (sym w.is_annotated.ensures ∙ w.if-is_annotated.true)))
  | then-is_some-via-else-is_some+else-is_annotated+then-not-is_same w ↦ inr (inr (inr (c.in-Some.innermost, (sym c.innermost.ensures ∙ c.in-Some.is, sym w.is_same.ensures ∙ w.if-not-is_same.true))))
])

pub returns : goal.returns
returns g c =
    let e = c.after_member-self.ensures in
    let inner = c.innermost-2.ensures in
    let left = c.pop-closed.new.self in
    steps-closed g.I.Input c.args.self.now c.in-Some.innermost c.args.kind left c.pop-closed.result c.after_member-self.result c.args.place c.args.meter.now c.pop-closed.new.meter
    (sym c.innermost.ensures ∙ c.in-Some.is) c.pop-closed.ensures.items c.pop-closed.ensures.cost (sym c.is_same.ensures ∙ c.if-not-is_same.false) (sym c.is_some.ensures ∙ c.if-is_some.false)
    (sym c.is_annotated.ensures ∙ c.if-is_annotated.false) (e.is ∙ ap (λ (k : Option Kind). after_member k) inner) (e.may (reverse left) (sym inner)) c.requires
