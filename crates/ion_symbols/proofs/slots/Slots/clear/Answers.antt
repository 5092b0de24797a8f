use Rattle.std.proofs.Common.{◌≡◌, ◌+◌, ◌*◌, length, ap, sym, arith}
use Rattle.ion_symbols.specs.Table.{slots_cost}
use Rattle.ion_symbols.specs.Kept.{kept_slots}
use Rattle.ion_symbols.proofs.Keeping.{kept_cost}
use Rattle.ion_symbols.proofs.slots.Slots.clear.Goals as goal

pub clear-requires : goal.clear-requires
clear-requires g c =
    let k : slots_cost (kept_slots c.self.inside.texts c.self.inside.parts) + 0 ≡ 16 * length c.self.inside.parts + length c.self.inside.texts = kept_cost c.self.inside.texts 0 c.self.inside.parts (length c.self.inside.texts) c.self.invariant.0 (omega arith) in
    let v : slots_cost c.args.self.now ≡ slots_cost (kept_slots c.self.inside.texts c.self.inside.parts) = ap slots_cost (sym c.self.view_is) in
    omega (arith, k, v, c.requires.held)

pub clear-requires-2 : goal.clear-requires-2
clear-requires-2 g c =
    let k : slots_cost (kept_slots c.self.inside.texts c.self.inside.parts) + 0 ≡ 16 * length c.self.inside.parts + length c.self.inside.texts = kept_cost c.self.inside.texts 0 c.self.inside.parts (length c.self.inside.texts) c.self.invariant.0 (omega arith) in
    let v : slots_cost c.args.self.now ≡ slots_cost (kept_slots c.self.inside.texts c.self.inside.parts) = ap slots_cost (sym c.self.view_is) in
    omega (arith, k, v, c.requires.held, c.clear.ensures.cost.held)

pub returns-clause-cost : goal.returns-clause-cost
returns-clause-cost g c =
    let k : slots_cost (kept_slots c.self.inside.texts c.self.inside.parts) + 0 ≡ 16 * length c.self.inside.parts + length c.self.inside.texts = kept_cost c.self.inside.texts 0 c.self.inside.parts (length c.self.inside.texts) c.self.invariant.0 (omega arith) in
    let v : slots_cost c.args.self.now ≡ slots_cost (kept_slots c.self.inside.texts c.self.inside.parts) = ap slots_cost (sym c.self.view_is) in
    record { held = omega (arith, k, v, c.requires.held, c.clear.ensures.cost.held, c.clear-2.ensures.cost.held); peak = search; refused = search }
