use Rattle.std.proofs.Common.{◌≡◌, ◌⊎◌, length, get_or, arith, refl}
use Rattle.ion_value.proofs.TextDigits.{read-hex, read-binary}
use Rattle.ion_value.proofs.int_text.int_digits.Goals as goal

pub returns-in-48 : goal.returns-in-48
returns-in-48 c =
    let bytes = c.args.bytes.now in
    let first : get_or bytes 0 0 ≡ 48 = omega arith in
    let mark : (get_or bytes 1 0 ≡ 120) ⊎ (get_or bytes 1 0 ≡ 88) = grind arith in
    rw (read-hex bytes (length bytes) c.in-48.len_at_least (omega arith) first mark) at (c.digits_after.ensures 0 refl)

pub returns-in-48-2 : goal.returns-in-48-2
returns-in-48-2 c =
    let bytes = c.args.bytes.now in
    let first : get_or bytes 0 0 ≡ 48 = omega arith in
    let mark : (get_or bytes 1 0 ≡ 98) ⊎ (get_or bytes 1 0 ≡ 66) = grind arith in
    rw (read-binary bytes (length bytes) c.in-48-2.len_at_least (omega arith) first mark) at (c.digits_after-in-48-2.ensures 0 refl)
