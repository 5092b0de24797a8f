use Rattle.std.proofs.Common.{◌∙◌, Option, is_some, sym, ap}
use Rattle.ion_value.specs.declared.ion_type.Kind.{Kind}
use Rattle.ion_text_in.proofs.ReaderSteps.{steps-ended}
use Rattle.ion_text_in.proofs.reader.TextReader.end.Goals as goal

pub returns-in-Value-None-clause-steps : goal.returns-in-Value-None-clause-steps
returns-in-Value-None-clause-steps g c = λ m can over.
    rw c.in-Value-None.is-1
    (steps-ended g.I.Input c.args.self.now m (sym (c.is_some.ensures ∙ ap (λ (k : Option Kind). is_some k) c.innermost.ensures) ∙ c.if-not-is_some.true) (sym c.is_annotated.ensures ∙ c.if-not-is_annotated.true) c.in-Value-None.is-0 can over)
