use Rattle.std.proofs.Common.{List, ℕ, arith, subst}
use Rattle.std.proofs.lemmas.Grind.{common_steps}
use Rattle.ion_text_in.specs.Symbols.{GrowsBy, IsKept}
use Rattle.ion_text_in.proofs.ReaderSymbols.{steps-annotated}
use Rattle.ion_text_in.proofs.reader.TextReader.annotate.Goals as goal

pub returns : goal.returns
returns g c =
    let r = c.args.self.now in
    let texts = c.keep_text.new.texts in
    let a = c.in_ok-annotation.annotation in
    let one = subst (λ (l : List ℕ). IsKept r.texts texts l c.args.symbol c.args.place a) c.as_slice-3.ensures c.in_ok-annotation.ensures.kept in
    let text = subst (λ (l : List ℕ). GrowsBy c.args.meter.now c.keep_text.new.meter l c.args.symbol) c.as_slice-3.ensures c.in_ok-annotation.ensures.cost in
    steps-annotated g.I.Input r c.args.symbol c.args.place c.consume.new.self texts c.push.new.self a c.args.meter.now c.keep_text.new.meter c.push.new.meter c.requires.can_step c.requires.value one
    c.in_default.ensures.ok (grind (arith, common_steps)) c.requires.colons c.consume.ensures text c.in_default.ensures.cost
