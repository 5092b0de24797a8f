use Rattle.std.proofs.Common.{Option, sym, ap, ◌∙◌}
use Rattle.ion_value.specs.declared.ion_type.Kind.{Kind}
use Rattle.ion_text_in.specs.Reading.{after_member}
use Rattle.ion_text_in.specs.Steps.{opened_in}
use Rattle.ion_text_in.proofs.ReaderSteps.{steps-given}
use Rattle.ion_text_in.proofs.reader.TextReader.give.Goals as goal

pub returns : goal.returns
returns g c = λ m can value may.
    let r = c.args.self.now in
    let e = c.after_member-self.ensures in
    let inner = c.innermost.ensures in
    steps-given g.I.Input r c.args.what c.args.place c.top_at-self.result c.args.unfinished c.after_member-self.result m c.top_at-self.ensures (e.is ∙ ap (λ (k : Option Kind). after_member k) inner)
    (e.may (opened_in r) (sym inner)) can value may
