use Rattle.std.proofs.Common.{◌≡◌, ◌+◌, ◌*◌, length, ap, sym, ◌∙◌, arith}
use Rattle.ion_symbols.specs.Table.{slots_cost}
use Rattle.ion_symbols.specs.Kept.{kept_slots}
use Rattle.ion_symbols.proofs.Keeping.{kept_cost}
use Rattle.ion_symbols.proofs.slots.Slots.release.Goals as goal

pub release-requires : goal.release-requires
release-requires g c =
    let k : slots_cost (kept_slots c.self.inside.texts c.self.inside.parts) + 0 ≡ 16 * length c.self.inside.parts + length c.self.inside.texts = kept_cost c.self.inside.texts 0 c.self.inside.parts (length c.self.inside.texts) c.self.invariant.0 (omega arith) in
    let v : slots_cost c.args.self ≡ slots_cost (kept_slots c.self.inside.texts c.self.inside.parts) = ap slots_cost (sym c.self.view_is) in
    omega (arith, k, v, c.requires.held)

pub release-requires-2 : goal.release-requires-2
release-requires-2 g c =
    let k : slots_cost (kept_slots c.self.inside.texts c.self.inside.parts) + 0 ≡ 16 * length c.self.inside.parts + length c.self.inside.texts = kept_cost c.self.inside.texts 0 c.self.inside.parts (length c.self.inside.texts) c.self.invariant.0 (omega arith) in
    let v : slots_cost c.args.self ≡ slots_cost (kept_slots c.self.inside.texts c.self.inside.parts) = ap slots_cost (sym c.self.view_is) in
    omega (arith, k, v, c.requires.held, c.release.ensures.held)

pub returns : goal.returns
returns g c =
    let k : slots_cost (kept_slots c.self.inside.texts c.self.inside.parts) + 0 ≡ 16 * length c.self.inside.parts + length c.self.inside.texts = kept_cost c.self.inside.texts 0 c.self.inside.parts (length c.self.inside.texts) c.self.invariant.0 (omega arith) in
    let v : slots_cost c.args.self ≡ slots_cost (kept_slots c.self.inside.texts c.self.inside.parts) = ap slots_cost (sym c.self.view_is) in
    record { cost = record { held = omega (arith, k, v, c.requires.held, c.release.ensures.held, c.release-2.ensures.held); peak = c.release-2.ensures.peak ∙ c.release.ensures.peak; refused = c.release-2.ensures.refused ∙ c.release.ensures.refused } }
