use Rattle.std.proofs.Common.{◌≡◌, ap, ◌∙◌, sym, arith}
use Rattle.std.proofs.lemmas.Grind.{common_steps}
use Rattle.ion_symbols.specs.Output.{Searched, text_cmp}
use Rattle.ion_symbols.proofs.TextOrder.{at_place}
use Rattle.ion_symbols.proofs.OutputTexts.{kept_place, kept_text}
use Rattle.ion_symbols.proofs.ordered.Search.compare.Goals as goal

pub slice_bounds-cmp-count : goal.slice_bounds-cmp-count
slice_bounds-cmp-count c = (kept_place _ _ _ _ c.self.invariant (ap (λ (s : Searched). s.texts) c.self.view_is) c.args.place c.requires.within _).0

pub slice_bounds-cmp-start : goal.slice_bounds-cmp-start
slice_bounds-cmp-start c =
    let h = kept_place _ _ _ _ c.self.invariant (ap (λ (s : Searched). s.texts) c.self.view_is) c.args.place c.requires.within (record { from = 0; to = 0; next = 0 }) in
    omega (arith, h.0, h.1)

pub slice_bounds-cmp-end : goal.slice_bounds-cmp-end
slice_bounds-cmp-end c =
    let h = kept_place _ _ _ _ c.self.invariant (ap (λ (s : Searched). s.texts) c.self.view_is) c.args.place c.requires.within (record { from = 0; to = 0; next = 0 }) in
    omega (arith, h.0, h.1)

pub returns-clause-order : goal.returns-clause-order
returns-clause-order c =
    let e = ap (λ (s : Searched). s.texts) c.self.view_is in
    let k = kept_text _ _ _ _ c.self.invariant e c.args.place c.requires.within (record { from = 0; to = 0; next = 0 }) in
    at_place (λ kept. c.cmp.result ≡ text_cmp kept c.args.text.now) c.args.self.now.texts c.args.place c.requires.within (c.cmp.ensures ∙ ap (λ s. text_cmp s c.args.text.now) (sym k))

pub returns-clause-probes : goal.returns-clause-probes
returns-clause-probes c = grind (arith, common_steps) steps 400000

pub bounds-self-inside-self-inside : goal.bounds-self-inside-self-inside
bounds-self-inside-self-inside c = grind (arith, common_steps)

pub bounds-self-inside-place : goal.bounds-self-inside-place
bounds-self-inside-place c = grind (arith, common_steps)

pub returns-clause-texts : goal.returns-clause-texts
returns-clause-texts c = grind (arith, common_steps)

pub returns-clause-ascend : goal.returns-clause-ascend
returns-clause-ascend c = grind (arith, common_steps)
