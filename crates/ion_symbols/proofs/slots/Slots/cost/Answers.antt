use Rattle.std.proofs.Common.{◌≡◌, ◌+◌, ◌*◌, length, ap, sym, arith}
use Rattle.ion_symbols.specs.Table.{slots_cost}
use Rattle.ion_symbols.specs.Kept.{kept_slots}
use Rattle.ion_symbols.proofs.Keeping.{kept_cost}
use Rattle.ion_symbols.proofs.slots.Slots.cost.Goals as goal

pub overflow_add-result : goal.overflow_add-result
overflow_add-result g c =
    let k : slots_cost (kept_slots c.self.inside.texts c.self.inside.parts) + 0 ≡ 16 * length c.self.inside.parts + length c.self.inside.texts = kept_cost c.self.inside.texts 0 c.self.inside.parts (length c.self.inside.texts) c.self.invariant.0 (omega arith) in
    let v : slots_cost c.args.self.now ≡ slots_cost (kept_slots c.self.inside.texts c.self.inside.parts) = ap slots_cost (sym c.self.view_is) in
    let n : length c.as_slice.result.now ≡ length c.self.inside.parts = ap length c.as_slice.ensures in
    omega (arith, k, v, n, c.requires, (ap length c.as_slice-2.ensures))

pub returns : goal.returns
returns g c =
    let k : slots_cost (kept_slots c.self.inside.texts c.self.inside.parts) + 0 ≡ 16 * length c.self.inside.parts + length c.self.inside.texts = kept_cost c.self.inside.texts 0 c.self.inside.parts (length c.self.inside.texts) c.self.invariant.0 (omega arith) in
    let v : slots_cost c.args.self.now ≡ slots_cost (kept_slots c.self.inside.texts c.self.inside.parts) = ap slots_cost (sym c.self.view_is) in
    let n : length c.as_slice.result.now ≡ length c.self.inside.parts = ap length c.as_slice.ensures in
    omega (arith, k, v, n, (ap length c.as_slice-2.ensures))
