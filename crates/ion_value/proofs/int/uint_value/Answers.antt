use Rattle.std.proofs.Common.{arith, ◌<◌, get_or}
use Rattle.ion_value.proofs.Numbers.{uint-take_more, append-lt, octet-fits}
use Rattle.ion_value.proofs.int.uint_value.Goals as goal

-- at most fifteen octets came before this one
pub overflow_add-value : goal.overflow_add-value
overflow_add-value c =
    let byte = get_or c.args.bytes.now c.loop-byte.byte-index 0 in
    let octet : byte < 256 = omega (arith, c.type_inv.bytes c.loop-byte.byte-index) in
    omega (arith, octet-fits c.loop-byte.value c.loop-byte.byte-index byte c.loop-byte.invariant.small (omega arith) octet)

pub overflow_mul-value : goal.overflow_mul-value
overflow_mul-value c =
    omega (arith, octet-fits c.loop-byte.value c.loop-byte.byte-index 0 c.loop-byte.invariant.small (omega arith) (omega arith))

pub loop-byte-preserved : goal.loop-byte-preserved
loop-byte-preserved c =
    let byte = get_or c.args.bytes.now c.loop-byte.byte-index 0 in
    let octet : byte < 256 = omega (arith, c.type_inv.bytes c.loop-byte.byte-index) in
    record {
      so_far = omega (arith, uint-take_more c.args.bytes.now c.loop-byte.byte-index c.loop-byte-test.true);
      small = append-lt 256 c.loop-byte.value c.loop-byte.byte-index byte c.loop-byte.invariant.small octet;
    }
