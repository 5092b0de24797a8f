use Rattle.std.proofs.Common.{◌-◌, sym, subst, arith}
use Rattle.ion_symbols.specs.OutTexts.{AreKept}
use Rattle.ion_symbols.proofs.FewProbes.{few_probes}
use Rattle.ion_symbols.proofs.out_texts.OutTexts.halve.Goals as goal

pub overflow_add-probes : goal.overflow_add-probes
overflow_add-probes g c =
    let few = few_probes c.probe-probe.result.kept.now (c.halve-found.new.self.probes - c.probe-probe.result.probes) (subst (λ k. AreKept k) (sym c.probe-probe.ensures.of) c.requires.kept)
    (omega (arith, c.halve-found.ensures.probes)) in
    omega (arith, c.requires.few, c.probes.ensures, c.probe-probe.ensures.probes, few)
