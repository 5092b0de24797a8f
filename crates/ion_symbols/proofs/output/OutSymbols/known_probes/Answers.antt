use Rattle.std.proofs.Common.{sym, ap, ◌∙◌, arith}
use Rattle.ion_symbols.specs.Output.{Output, position}
use Rattle.ion_symbols.specs.OutTexts.{texts_of}
use Rattle.ion_symbols.proofs.KeptTexts.{known_kept, number_few, unknown_kept}
use Rattle.ion_symbols.proofs.output.OutSymbols.known_probes.Goals as goal

pub overflow_add-result : goal.overflow_add-result
overflow_add-result g c =
    let there = ap (λ k. position (texts_of k) c.args.text.now) (sym c.probe-probe.ensures.of) ∙ sym c.in-Some.ensures.finds in
    omega (arith, number_few c.self.inside.kept c.args.text.now _ c.self.invariant.0 there)

pub returns-in-Some-clause-known : goal.returns-in-Some-clause-known
returns-in-Some-clause-known g c =
    known_kept _ _ _ _ c.self.invariant.0 (ap (λ (s : Output). s.texts) c.self.view_is)
    (ap (λ k. position (texts_of k) c.args.text.now) (sym c.probe-probe.ensures.of) ∙ sym c.in-Some.ensures.finds)

pub returns-in-None-clause-known : goal.returns-in-None-clause-known
returns-in-None-clause-known g c =
    c.system_id.ensures
    ∙ unknown_kept c.self.inside.kept _ _ (ap (λ (s : Output). s.texts) c.self.view_is)
    (ap (λ k. position (texts_of k) c.args.text.now) (sym c.probe-probe.ensures.of) ∙ sym c.in-None.ensures.finds)
