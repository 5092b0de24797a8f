use Rattle.std.proofs.Common.{◌≡◌, ◌+◌, ◌-◌, ◌++◌, ℕ, length, take, drop, subst, arith}
use Rattle.ion_meter.proofs.Gaps.{gap_filled}
use Rattle.ion_meter.proofs.roomy.put_between.Goals as goal

pub returns : goal.returns
returns c =
    let xs = c.args.all.now in
    let p = c.args.place in
    let n = length c.args.bytes.now in
    let same : (p + n) - p ≡ n = omega arith in
    let opened : take (c.args.end + n) c.open_gap.new.all ≡ take (p + n) xs ++ take (c.args.end - p) (drop p xs) =
    subst (λ (k : ℕ). take (c.args.end + k) c.open_gap.new.all ≡ take (p + n) xs ++ take (c.args.end - p) (drop p xs)) same c.open_gap.ensures.moved in
    gap_filled xs c.open_gap.new.all c.args.bytes.now c.copy.new.to p c.args.end _ c.requires.within c.requires.room opened c.copy.ensures (omega arith)
