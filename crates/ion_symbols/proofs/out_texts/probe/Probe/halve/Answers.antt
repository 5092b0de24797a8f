use Rattle.std.proofs.Common.{◌≡◌, ℕ, slice_get, Some, ap, sym, subst, ◌∙◌, arith}
use Rattle.ion_symbols.specs.Output.{Belongs}
use Rattle.ion_symbols.specs.OutTexts.{texts_of}
use Rattle.ion_symbols.proofs.FewProbes.{few_probes, halved_probes}
use Rattle.ion_symbols.proofs.Orders.{found_position, belongs_none}
use Rattle.ion_symbols.proofs.out_texts.probe.Probe.halve.Goals as goal

pub overflow_add-self : goal.overflow_add-self
overflow_add-self g c =
    let k = c.args.self.now.kept.now in
    let few = few_probes k c.place_of-found.new.search.probes c.requires.kept (halved_probes k _ _ c.requires.kept c.search-search.ensures.texts c.place_of-found.ensures.probes) in
    omega (arith, c.requires.countable, few, c.probes.ensures)

pub returns-in-Ok-clause-there : goal.returns-in-Ok-clause-there
returns-in-Ok-clause-there g c =
    let k = c.args.self.now.kept.now in
    found_position (texts_of k) k.ids.items c.args.text.now c.in-Ok.place (c.requires.kept.order c.requires.ordered)
    (subst (λ ts. slice_get ts c.in-Ok.place ≡ Some c.args.text.now) c.search-search.ensures.texts c.in-Ok.ensures.found)
    ∙ ap (λ (n : ℕ). Some n) (sym c.number_at.ensures)

pub returns-in-Err-clause-new : goal.returns-in-Err-clause-new
returns-in-Err-clause-new g c =
    let k = c.args.self.now.kept.now in
    let b = subst (λ ts. Belongs ts c.args.text.now c.in-Err.place) c.search-search.ensures.texts c.in-Err.ensures.belongs in
    (belongs_none (texts_of k) k.ids.items c.args.text.now c.in-Err.place (c.requires.kept.order c.requires.ordered) b, (c.requires.ordered, b))
