use Rattle.std.proofs.Common.{refl, ap, ◌∙◌, arith}
use Rattle.ion_symbols.specs.Ordered.{texts_in}
use Rattle.ion_symbols.proofs.LinkedTexts.{none_kept, kept_parts_cost}
use Rattle.ion_symbols.proofs.out_texts.OutTexts.clear.Goals as goal

pub clear-requires : goal.clear-requires
clear-requires g c = let k = kept_parts_cost c.args.self.now c.requires.kept in omega (arith, k, c.requires.held)

pub clear-requires-2 : goal.clear-requires-2
clear-requires-2 g c = let k = kept_parts_cost c.args.self.now c.requires.kept in omega (arith, k, c.requires.held, c.clear.ensures.cost.held)

pub clear-requires-3 : goal.clear-requires-3
clear-requires-3 g c = let k = kept_parts_cost c.args.self.now c.requires.kept in omega (arith, k, c.requires.held, c.clear.ensures.cost.held, c.clear-2.ensures.cost.held)

pub returns-clause-kept : goal.returns-clause-kept
returns-clause-kept g c =
    none_kept _ c.clear.ensures.bytes c.clear-2.ensures.items c.clear-3.ensures.items c.no_buckets-self.ensures refl
    (c.clear-2.ensures.same_cost ∙ c.requires.kept.place_cost) (c.clear-3.ensures.same_cost ∙ c.requires.kept.id_cost)

pub returns-clause-nothing : goal.returns-clause-nothing
returns-clause-nothing g c = ap (texts_in c.clear.new.self) c.clear-2.ensures.items

pub returns-clause-cost : goal.returns-clause-cost
returns-clause-cost g c =
    let k = kept_parts_cost c.args.self.now c.requires.kept in
    record {
      held = omega (arith, k, c.clear.ensures.cost.held, c.clear-2.ensures.cost.held, c.clear-3.ensures.cost.held);
      peak = c.clear-3.ensures.cost.peak ∙ (c.clear-2.ensures.cost.peak ∙ c.clear.ensures.cost.peak);
      refused = c.clear-3.ensures.cost.refused ∙ (c.clear-2.ensures.cost.refused ∙ c.clear.ensures.cost.refused);
    }
