use Rattle.std.proofs.Common.{arith, ◌+◌, ◌<◌, length, take, drop, ap, sym, subst, ◌∙◌}
use Rattle.std.specs.List.{insert}
use Rattle.std.proofs.lemmas.List.{with_items_is}
use Rattle.ion_meter.proofs.Shifted.{shifted_in}
use Rattle.std.proofs.lemmas.Grind.{common_steps}
use Rattle.ion_meter.proofs.table.Table.shift_in.Goals as goal

pub returns-clause-items : goal.returns-clause-items
returns-clause-items g c =
    let same = c.deref_mut.ensures.value ∙ ap (λ t. t.items) c.self.view_is in
    let put = shifted_in c.deref_mut.result.now c.copy_within.new.self c.args.place c.args.end c.args.entry c.requires.order (subst (λ xs. c.args.end < length xs) (sym same) c.requires.within) c.copy_within.ensures.after in
    ap (take (c.args.end + 1)) (with_items_is c.self.inside.items _ (put.1 ∙ c.deref_mut.ensures.len)) ∙ (put.0 ∙ ap (λ xs. insert (take c.args.end xs) c.args.place c.args.entry) same)

pub returns-clause-after : goal.returns-clause-after
returns-clause-after g c =
    let same = c.deref_mut.ensures.value ∙ ap (λ t. t.items) c.self.view_is in
    let put = shifted_in c.deref_mut.result.now c.copy_within.new.self c.args.place c.args.end c.args.entry c.requires.order (subst (λ xs. c.args.end < length xs) (sym same) c.requires.within) c.copy_within.ensures.after in
    ap (drop (c.args.end + 1)) (with_items_is c.self.inside.items _ (put.1 ∙ c.deref_mut.ensures.len)) ∙ (put.2 ∙ ap (drop (c.args.end + 1)) same)

pub returns-clause-len : goal.returns-clause-len
returns-clause-len g c = grind (arith, common_steps)

pub returns-clause-cost : goal.returns-clause-cost
returns-clause-cost g c = grind (arith, common_steps)
