use Rattle.ion_binary.proofs.Below.{◌+◌, ◌*◌, ◌^◌, ◌<◌, ◌≤◌, arith, get_or, pow-le-pow_right, append-lt, uint-take_more}
use Rattle.ion_binary.proofs.body.few_value.Goals as goal

-- at most seven octets came before this one
pub overflow_add-value : goal.overflow_add-value
overflow_add-value c =
    let i = c.loop-octet.octet-index in
    let octet = get_or c.args.octets.now i 0 in
    let small : octet < 256 = omega (arith, c.type_inv.octets i) in
    let step : c.loop-octet.value * 256 + octet < 256 ^ (i + 1) = append-lt 256 c.loop-octet.value i octet c.loop-octet.invariant.small small in
    let last : i + 1 ≤ 8 = omega arith in
    let powers : 256 ^ (i + 1) ≤ 256 ^ 8 = pow-le-pow_right {n = 256} (omega arith) last in
    omega (arith, step, powers)

pub overflow_mul-value : goal.overflow_mul-value
overflow_mul-value c =
    let i = c.loop-octet.octet-index in
    let step : c.loop-octet.value * 256 + 0 < 256 ^ (i + 1) = append-lt 256 c.loop-octet.value i 0 c.loop-octet.invariant.small (omega arith) in
    let last : i + 1 ≤ 8 = omega arith in
    let powers : 256 ^ (i + 1) ≤ 256 ^ 8 = pow-le-pow_right {n = 256} (omega arith) last in
    omega (arith, step, powers)

pub loop-octet-preserved : goal.loop-octet-preserved
loop-octet-preserved c =
    let octet = get_or c.args.octets.now c.loop-octet.octet-index 0 in
    let small : octet < 256 = omega (arith, c.type_inv.octets c.loop-octet.octet-index) in
    record {
      so_far = omega (arith, uint-take_more c.args.octets.now c.loop-octet.octet-index c.loop-octet-test.true);
      small = append-lt 256 c.loop-octet.value c.loop-octet.octet-index octet c.loop-octet.invariant.small small;
    }
