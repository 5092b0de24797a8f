use Rattle.std.proofs.Common.{◌≡◌, suc, ◌+◌, ◌*◌, [], ◌∷◌, ◌++◌, length, Some, ap, sym, ◌∙◌, arith, length-append}
use Rattle.std.proofs.lemmas.Grind.{common_steps}
use Rattle.ion_symbols.specs.Table.{slots_cost}
use Rattle.ion_symbols.specs.Kept.{kept_slots}
use Rattle.ion_symbols.proofs.Keeping.{kept_cost, marked_push, pushed_tiles, pushed_kept}
use Rattle.ion_symbols.proofs.slots.Slots.push_text.Goals as goal

pub overflow_add-to : goal.overflow_add-to
overflow_add-to g c =
    let k : slots_cost (kept_slots c.self.inside.texts c.self.inside.parts) + 0 ≡ 16 * length c.self.inside.parts + length c.self.inside.texts = kept_cost c.self.inside.texts 0 c.self.inside.parts (length c.self.inside.texts) c.self.invariant.0 (omega arith) in
    let v : slots_cost c.args.self.now ≡ slots_cost (kept_slots c.self.inside.texts c.self.inside.parts) = ap slots_cost (sym c.self.view_is) in
    omega (arith, k, v, c.requires.held, c.requires.can_grow.room, (ap length c.as_slice-from.ensures))

pub pop-last-requires : goal.pop-last-requires
pop-last-requires g c =
    let k : slots_cost (kept_slots c.self.inside.texts c.self.inside.parts) + 0 ≡ 16 * length c.self.inside.parts + length c.self.inside.texts = kept_cost c.self.inside.texts 0 c.self.inside.parts (length c.self.inside.texts) c.self.invariant.0 (omega arith) in
    let v : slots_cost c.args.self.now ≡ slots_cost (kept_slots c.self.inside.texts c.self.inside.parts) = ap slots_cost (sym c.self.view_is) in
    let n : length c.push.new.self ≡ suc (length c.self.inside.parts) = ap length c.in_default.ensures.ok ∙ length-append c.self.inside.parts _ ∙ (omega arith) in
    omega (arith, k, v, n, c.requires.held, c.in_default.ensures.cost.held, c.in-Err-extend.ensures.refused.held)

pub invariant_of-self-in_default-extend : goal.invariant_of-self-in_default-extend
invariant_of-self-in_default-extend g c = (
  pushed_tiles c.self.inside.texts c.args.text.now c.extend.new.self c.self.inside.parts c.push.new.self (length c.as_slice-from.result.now) c.quoting_of.result c.self.invariant.0 (ap length c.as_slice-from.ensures) c.in_default.ensures.ok c.in_default-extend.ensures.ok,
  marked_push c.self.inside.texts c.extend.new.self c.self.inside.parts c.push.new.self _ (Some c.args.text.now) c.self.invariant.1 c.in_default.ensures.ok
      (pushed_kept c.self.inside.texts c.args.text.now c.extend.new.self c.self.inside.parts c.push.new.self (length c.as_slice-from.result.now) c.quoting_of.result c.self.invariant.0 (ap length c.as_slice-from.ensures) c.in_default.ensures.ok c.in_default-extend.ensures.ok)
      c.quoting_of.ensures,
)

pub returns-clause-ok : goal.returns-clause-ok
returns-clause-ok g c = pushed_kept c.self.inside.texts c.args.text.now c.extend.new.self c.self.inside.parts c.push.new.self (length c.as_slice-from.result.now) c.quoting_of.result c.self.invariant.0 (ap length c.as_slice-from.ensures) c.in_default.ensures.ok c.in_default-extend.ensures.ok ∙ ap (λ ss. ss ++ Some c.args.text.now ∷ []) c.self.view_is

pub returns-in-Err-extend-clause-undone : goal.returns-in-Err-extend-clause-undone
returns-in-Err-extend-clause-undone g c = grind (arith, common_steps)

pub invariant_of-self-in-Err-extend : goal.invariant_of-self-in-Err-extend
invariant_of-self-in-Err-extend g c = grind (arith, common_steps)

pub returns-in-Err-extend-clause-err : goal.returns-in-Err-extend-clause-err
returns-in-Err-extend-clause-err g c = grind (arith, common_steps)

pub invariant_of-self : goal.invariant_of-self
invariant_of-self g c = grind (arith, common_steps)

pub returns-clause-cost : goal.returns-clause-cost
returns-clause-cost g c = grind (arith, common_steps)

pub returns-in-Err-clause-err : goal.returns-in-Err-clause-err
returns-in-Err-clause-err g c = grind (arith, common_steps)
