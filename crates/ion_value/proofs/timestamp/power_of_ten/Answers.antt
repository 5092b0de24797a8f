use Rattle.std.proofs.Common.{◌≤◌, ◌^◌, arith}
use Rattle.std.proofs.Math.Nat.{pow-le-pow_right}
use Rattle.ion_value.proofs.timestamp.power_of_ten.Goals as goal

pub pow-requires-2 : goal.pow-requires-2
pow-requires-2 c =
    let powers : 10 ^ c.args.digits ≤ 10 ^ 38 = pow-le-pow_right {n = 10} (omega arith) c.requires in
    omega arith
