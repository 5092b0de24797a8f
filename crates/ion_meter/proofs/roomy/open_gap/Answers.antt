use Rattle.std.proofs.Common.{◌≡◌, ◌+◌, ◌-◌, ℕ, take, drop, ap, ◌∙◌, arith}
use Rattle.ion_meter.proofs.Gaps.{gap_opened, gap_opened_by}
use Rattle.std.proofs.lemmas.Grind.{common_steps}
use Rattle.ion_meter.proofs.roomy.open_gap.Goals as goal

pub returns-then-all-after-ge-BLOCK-clause-moved : goal.returns-then-all-after-ge-BLOCK-clause-moved
returns-then-all-after-ge-BLOCK-clause-moved c =
    let put = c.copy_from_slice-then-all-after-ge-BLOCK in
    let part : take (c.args.place + 16 - c.args.place) (drop c.args.place c.args.all.now) ≡ take 16 (drop c.args.place c.args.all.now) =
    let e : c.args.place + 16 - c.args.place ≡ 16 = omega arith in ap (λ (n : ℕ). take n (drop c.args.place c.args.all.now)) e in
    let block : put.new.self ≡ take 16 (drop c.args.place c.args.all.now) = put.ensures.after ∙ (c.copy_from_slice.ensures.after ∙ part) in
    gap_opened_by c.args.all.now put.new.self c.args.place c.args.end c.args.after _ 16 c.requires.order c.requires.upward c.if-end-place-le-BLOCK.true c.requires.room
    (let r = c.if-all-after-ge-BLOCK.true in omega (arith, r, c.requires.upward)) block

pub returns-clause-moved : goal.returns-clause-moved
returns-clause-moved c =
    gap_opened c.args.all.now c.copy_within.new.self c.args.place c.args.end c.args.after c.requires.order c.requires.upward c.requires.room c.copy_within.ensures.after

pub returns-then-all-after-ge-BLOCK-clause-len : goal.returns-then-all-after-ge-BLOCK-clause-len
returns-then-all-after-ge-BLOCK-clause-len c = grind (arith, common_steps)

pub shape_of-all-then-all-after-ge-BLOCK : goal.shape_of-all-then-all-after-ge-BLOCK
shape_of-all-then-all-after-ge-BLOCK c = grind (arith, common_steps)
