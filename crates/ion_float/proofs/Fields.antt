-- The value of a double by its fields.
use Rattle.std.proofs.Common.{◌≡◌, ℕ, zero, suc, ◌+◌, ◌-◌, ◌*◌, ◌^◌, ◌<◌, false, subst, arith}
use Rattle.std.specs.Prelude.{from_bits}
use lib.Ieee.{binary64}
use lib.Ieee.Exact.{HasValue}
use Rattle.fast_float.proofs.Patterns.{of_bits_value, field_units}

pub value_by_fields : (bits x t : ℕ) → x < 2047 → t < 2 ^ 52 → x * 2 ^ 52 + t ≡ bits → HasValue (from_bits binary64 bits) false (field_units binary64 x t) (2 ^ 1074)
value_by_fields bits x t X H e = subst (λ b. HasValue (from_bits binary64 b) false (field_units binary64 x t) (2 ^ 1074)) e (of_bits_value binary64 x t X H)

-- with the hidden bit
pub normal_value : (bits x t : ℕ) → 0 < x → x < 2047 → t < 2 ^ 52 → x * 2 ^ 52 + t ≡ bits → HasValue (from_bits binary64 bits) false ((t + 2 ^ 52) * 2 ^ (x - 1)) (2 ^ 1074)
normal_value bits zero t P X H e = absurd (omega arith)
normal_value bits (suc j) t P X H e =
    let one : j ≡ suc j - 1 = omega arith in
    let sum : 2 ^ 52 + t ≡ t + 2 ^ 52 = omega arith in
    subst (λ k. HasValue (from_bits binary64 bits) false ((t + 2 ^ 52) * 2 ^ k) (2 ^ 1074)) one
    (subst (λ s. HasValue (from_bits binary64 bits) false (s * 2 ^ j) (2 ^ 1074)) sum (value_by_fields bits (suc j) t X H e))
