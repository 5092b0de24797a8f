use Rattle.std.proofs.Common.{◌≡◌, ◌+◌, ◌-◌, ◌*◌, ◌++◌, length, map, ap, subst, ◌∙◌, arith, length-append}
use Rattle.std.proofs.lemmas.Grind.{common_steps}
use Rattle.ion_meter.specs.Counts.{Shrinks}
use Rattle.ion_symbols.specs.Table.{slots_cost}
use Rattle.ion_symbols.specs.Kept.{kept_slots, moved}
use Rattle.ion_symbols.proofs.Moving.{appended_tiles, appended_kept, appended_marked, full_cost, grown, given_back}
use Rattle.ion_symbols.proofs.slots.Slots.append.Goals as goal

pub extend-requires-clause-room : goal.extend-requires-clause-room
extend-requires-clause-room g c =
    let k : slots_cost c.args.more.now ≡ 16 * length c.more.inside.parts + length c.more.inside.texts =
    full_cost c.more.inside.texts c.more.inside.parts c.args.more.now c.more.invariant.0 c.more.view_is in
    omega (arith, k, ap length c.as_slice.ensures, c.requires.can_grow.room)

pub push_moved-requires-clause-can_grow : goal.push_moved-requires-clause-can_grow
push_moved-requires-clause-can_grow g c =
    let k : slots_cost c.args.more.now ≡ 16 * length c.more.inside.parts + length c.more.inside.texts =
    full_cost c.more.inside.texts c.more.inside.parts c.args.more.now c.more.invariant.0 c.more.view_is in
    record {
      room = omega (arith, k, ap length c.as_slice.ensures, ap length c.as_slice-2.ensures, c.requires.can_grow.room, c.in_ok-extend.ensures.cost.held);
      countable = omega (arith, c.requires.can_grow.countable, c.in_ok-extend.ensures.cost.refused);
    }

pub returns-in-Err-clause-undone : goal.returns-in-Err-clause-undone
returns-in-Err-clause-undone g c =
    let k : slots_cost c.args.more.now ≡ 16 * length c.more.inside.parts + length c.more.inside.texts =
    full_cost c.more.inside.texts c.more.inside.parts c.args.more.now c.more.invariant.0 c.more.view_is in
    let t : length c.as_slice.result.now ≡ length c.more.inside.texts = ap length c.as_slice.ensures in
    let n : length c.as_slice-2.result.now ≡ length c.more.inside.parts = ap length c.as_slice-2.ensures in
    let b : length c.as_slice-base.result.now ≡ length c.self.inside.texts = ap length c.as_slice-base.ensures in
    let l : length c.extend.new.self ≡ length c.self.inside.texts + length c.as_slice.result.now =
    ap length c.in_ok-extend.ensures.ok ∙ length-append c.self.inside.texts c.as_slice.result.now in
    let d : length c.extend.new.self - length c.as_slice-base.result.now ≡ length c.as_slice.result.now = omega (arith, b, l) in
    given_back c.args.meter.now c.extend.new.meter c.push_moved.new.meter c.truncate.new.meter (length c.as_slice.result.now)
    (length c.as_slice-2.result.now) (slots_cost c.args.more.now)
    (omega (arith, k, t, n)) c.in_ok-extend.ensures.cost c.in-Err.ensures.undone
    (subst (Shrinks c.push_moved.new.meter c.truncate.new.meter) d c.truncate.ensures.cost)

pub invariant_of-self-in_default : goal.invariant_of-self-in_default
invariant_of-self-in_default g c = (
  appended_tiles c.self.inside.texts c.more.inside.texts c.extend.new.self c.self.inside.parts c.more.inside.parts c.push_moved.new.parts
      (length c.as_slice-base.result.now)
      c.self.invariant.0 c.more.invariant.0 (ap length c.as_slice-base.ensures)
      (c.in_ok-extend.ensures.ok ∙ ap (λ xs. c.self.inside.texts ++ xs) c.as_slice.ensures)
      (c.in_default.ensures.ok ∙ ap (λ qs. c.self.inside.parts ++ map (moved (length c.as_slice-base.result.now)) qs) c.as_slice-2.ensures),
  appended_marked c.self.inside.texts c.more.inside.texts c.extend.new.self c.self.inside.parts c.more.inside.parts c.push_moved.new.parts
      (length c.as_slice-base.result.now)
      c.self.invariant.0 c.self.invariant.1 c.more.invariant.1 (ap length c.as_slice-base.ensures)
      (c.in_ok-extend.ensures.ok ∙ ap (λ xs. c.self.inside.texts ++ xs) c.as_slice.ensures)
      (c.in_default.ensures.ok ∙ ap (λ qs. c.self.inside.parts ++ map (moved (length c.as_slice-base.result.now)) qs) c.as_slice-2.ensures),
)

pub returns-clause-ok : goal.returns-clause-ok
returns-clause-ok g c =
    appended_kept c.self.inside.texts c.more.inside.texts c.extend.new.self c.self.inside.parts c.more.inside.parts c.push_moved.new.parts
    (length c.as_slice-base.result.now)
    c.self.invariant.0 (ap length c.as_slice-base.ensures)
    (c.in_ok-extend.ensures.ok ∙ ap (λ xs. c.self.inside.texts ++ xs) c.as_slice.ensures)
    (c.in_default.ensures.ok ∙ ap (λ qs. c.self.inside.parts ++ map (moved (length c.as_slice-base.result.now)) qs) c.as_slice-2.ensures)
    ∙ (ap (λ ss. ss ++ kept_slots c.more.inside.texts c.more.inside.parts) c.self.view_is ∙ ap (λ ss. c.args.self.now ++ ss) c.more.view_is)

pub returns-clause-cost : goal.returns-clause-cost
returns-clause-cost g c =
    let k : slots_cost c.args.more.now ≡ 16 * length c.more.inside.parts + length c.more.inside.texts =
    full_cost c.more.inside.texts c.more.inside.parts c.args.more.now c.more.invariant.0 c.more.view_is in
    let t : length c.as_slice.result.now ≡ length c.more.inside.texts = ap length c.as_slice.ensures in
    let n : length c.as_slice-2.result.now ≡ length c.more.inside.parts = ap length c.as_slice-2.ensures in
    grown c.args.meter.now c.extend.new.meter c.push_moved.new.meter (length c.as_slice.result.now) (length c.as_slice-2.result.now)
    (slots_cost c.args.more.now)
    (omega (arith, k, t, n)) c.in_ok-extend.ensures.cost c.in_default.ensures.cost

pub truncate-requires : goal.truncate-requires
truncate-requires g c = grind (arith, common_steps)

pub invariant_of-self-in-Err : goal.invariant_of-self-in-Err
invariant_of-self-in-Err g c = grind (arith, common_steps)

pub returns-in-Err-clause-err : goal.returns-in-Err-clause-err
returns-in-Err-clause-err g c = grind (arith, common_steps)

pub push_moved-requires-clause-fits : goal.push_moved-requires-clause-fits
push_moved-requires-clause-fits g c = grind (arith, common_steps)

pub invariant_of-self : goal.invariant_of-self
invariant_of-self g c = grind (arith, common_steps)
