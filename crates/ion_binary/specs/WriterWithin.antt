-- The writer of binary holds no more than it may.
use Rattle.std.proofs.Common.{arith}
use Rattle.ion_value.specs.Standing.{WritesWithin}
use Rattle.ion_binary.specs.declared.writer.BinWriter.{BinWriter}
use Rattle.ion_binary.specs.Writer.{IsSound, most_of, own_of}

-- between calls it holds no more than its limits allow, which is 2^59 at most
pub binary-within : {A : Type 0} (w : BinWriter A) → IsSound w → WritesWithin (own_of w) (most_of w.limits)
binary-within w s =
    let octets = s.within.octets in
    let headers = s.within.headers in
    let most = s.within.costed.most in
    let share = s.share in
    let depth = s.checked.depth in
    let value = s.checked.value in
    let symbols = s.checked.symbols in
    record { share = omega (arith, octets, headers, most, share); small = omega (arith, depth, value, symbols) }
