use Rattle.std.proofs.Common.{◌≡◌, ◌++◌, List, ℕ, take, length, ap, ◌∙◌, arith}
use Rattle.ion_meter.proofs.Gaps.{block_put}
use Rattle.ion_meter.proofs.roomy.write_first.Goals as goal

pub returns : goal.returns
returns c =
    let put = c.copy_from_slice.new.self in
    let long : length put ≡ 8 = let l = c.copy_from_slice.ensures.len in omega (arith, l, c.requires.room) in
    block_put c.args.all.now put c.args.at _ c.args.count (let r = c.requires.room in omega (arith, r)) (let w = c.requires.within in omega (arith, w, long))
    ∙ ap (λ (b : List ℕ). take c.args.at c.args.all.now ++ take c.args.count b) c.copy_from_slice.ensures.after
