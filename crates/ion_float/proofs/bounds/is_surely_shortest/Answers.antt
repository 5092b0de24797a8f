use Rattle.std.proofs.Common.{◌≡◌, ◌≢◌, ℕ, zero, suc, ◌+◌, ◌-◌, ◌*◌, ◌/◌, ◌%◌, ◌^◌, ◌<◌, ◌≤◌, false, refl, sym, ap, ◌∙◌, subst, arith, pow-add, pow_pos, mul-le-mul_left, bit_and}
use native.Mathlib.Nat.{pow-suc}
use Rattle.std.specs.Prelude.{from_bits}
use lib.Bits.{and_mask}
use lib.Ieee.{binary64}
use lib.Ieee.Exact.{HasValue}
use lib.Pow.{pow_mono}
use Rattle.fast_float.specs.Powers.{power_scale}
use Rattle.fast_float.specs.Rounding.{scaled_bits}
use Rattle.ion_value.specs.Shortest.{IsAboveZero}
use Rattle.ion_float.proofs.Fields.{normal_value}
use Rattle.ion_float.proofs.Gap.{reads_within, none_within}
use Rattle.ion_float.proofs.PowerBounds.{nearest_by_bounds}
use Rattle.ion_float.proofs.bounds.is_surely_shortest.Goals as goal

-- what the shift is
record IsShift (shift row field : ℕ) : Type 0 where
  pub some : 1 ≤ shift
  pub most : shift ≤ 61
  pub sum : shift + power_scale row ≡ field + 120

is_shift : (shift row field : ℕ) → row < 651 → field < 2047 → shift ≡ (field + 120 + (2 ^ 32 - power_scale row)) % 2 ^ 32 → (shift + (2 ^ 32 - 1)) % 2 ^ 32 < 61 → IsShift shift row field
is_shift shift row field R F e h = record { some = omega arith; most = omega arith; sum = omega arith }

-- twice the gap, which is even, and nothing of it is shifted out
gap_is : (shift : ℕ) → 1 ≤ shift → shift ≤ 61 → (1 * 2 ^ shift % 2 ^ 64 ≡ 2 ^ shift) × (2 ^ shift ≡ 2 * 2 ^ (shift - 1)) × (2 ^ (shift - 1) ≤ 2 ^ 60) × (0 < 2 ^ (shift - 1))
gap_is shift some most =
    let least : 2 ^ (shift - 1) ≤ 2 ^ 60 = pow_mono {i = shift - 1} {j = 60} (omega arith) in
    let one : suc (shift - 1) ≡ shift = omega arith in
    let twice : 2 ^ shift ≡ 2 * 2 ^ (shift - 1) = ap (λ k. 2 ^ k) (sym one) ∙ pow-suc 2 (shift - 1) ∙ omega arith in
    (omega (arith, twice, least), twice, least, pow_pos (shift - 1))

product_is : (m gap : ℕ) → m < 2 ^ 53 → gap ≤ 2 ^ 61 → m * gap < 2 ^ 127
product_is m gap M G = omega (arith, M, mul-le-mul_left m G)

-- `decimal` and `unit` are cut off, with the units 2 ^ 72
module _ (digits t decimal unit double half m g : ℕ) (D : digits < 10 ^ 17) (cut : decimal ≡ 2 * digits * t / 2 ^ 64 / 256) (unit_is : unit ≡ t / 2 ^ 72) (twice : 2 * (m * g) ≡ double * 2 ^ 72) (gap : g ≡ half * 2 ^ 72) where
  less : 0 < m → (2 * m - 1) * g + g ≡ double * 2 ^ 72
  less M =
      let one : 2 * m - 1 + 1 ≡ 2 * m = omega arith in
      omega (arith, ap (λ z. z * g) one, twice)

  read_from : 0 < m → double < decimal + half → (2 * m - 1) * g < 2 * digits * t
  read_from M h = omega (arith, h, less M)

  read_to : decimal + 2 ≤ double + half → 2 * digits * (t + 1) < (2 * m + 1) * g
  read_to h = omega (arith, h)

  near_from : 1 ≤ digits → decimal + 2 ≤ double + unit → (2 * digits - 1) * (t + 1) < 2 * (m * g)
  near_from one h =
      let next : 2 * digits - 1 + 1 ≡ 2 * digits = omega arith in
      omega (arith, h, ap (λ z. z * (t + 1)) next)

  near_to : double < decimal + unit → 2 * (m * g) < (2 * digits + 1) * t
  near_to h = omega (arith, h)

  module _ (front rest : ℕ) (digits_are : front * 10 + rest ≡ digits) (few : rest < 10) where
    front_below : 0 < m → decimal + 2 + half ≤ double + 2 * rest * unit → 2 * (front * 10) * (t + 1) < (2 * m - 1) * g
    front_below M h =
        let units : unit * 2 ^ 72 ≤ t = omega arith in
        omega (arith, h, less M, ap (λ z. z * t) digits_are, mul-le-mul_left rest units)

    next_above : double + half < decimal + (20 - 2 * rest) * unit → (2 * m + 1) * g < 2 * (front * 10 + 10) * t
    next_above h =
        let units : unit * 2 ^ 72 ≤ t = omega arith in
        let left : 20 - 2 * rest + 2 * rest ≡ 20 = omega arith in
        omega (arith, h, ap (λ z. z * t) digits_are, ap (λ z. z * t) left, mul-le-mul_left (20 - 2 * rest) units)

some_digits : (digits t n : ℕ) → n < 2 * digits * t → 1 ≤ digits
some_digits zero t n h = absurd (omega arith)
some_digits (suc d) t n h = omega arith

pub lies_clear-requires-clause-wide : goal.lies_clear-requires-clause-wide
lies_clear-requires-clause-wide c =
    let it = is_shift _ c.args.row (c.args.bits / 2 ^ 52) (omega arith) (omega arith) refl c.if-shift-ge61.false in
    let gap = gap_is _ it.some it.most in
    (omega (arith, c.upper_product.type_inv), product_is _ _ (omega (arith, and_mask c.args.bits 52)) (omega (arith, gap.0, gap.1, gap.2)))

pub lies_clear-requires-clause-gap : goal.lies_clear-requires-clause-gap
lies_clear-requires-clause-gap c =
    let it = is_shift _ c.args.row (c.args.bits / 2 ^ 52) (omega arith) (omega arith) refl c.if-shift-ge61.false in
    let gap = gap_is _ it.some it.most in
    (omega (arith, gap.0, gap.1, gap.3), omega (arith, gap.0, gap.1, gap.2))

pub lies_clear-requires-clause-unit : goal.lies_clear-requires-clause-unit
lies_clear-requires-clause-unit c = let power = c.power_of_ten-power.ensures in (omega (arith, power.top), omega (arith, power.fits), omega arith)

-- the double is m * 2 ^ k of the least one, and the shift puts it and the gap into the units of the row
record InUnits (bits row m shift : ℕ) : Type 0 where
  pub are : scaled_bits binary64 m (bits / 2 ^ 52 - 1) ≡ bits
  pub value : HasValue (from_bits binary64 bits) false (m * 2 ^ (bits / 2 ^ 52 - 1)) (2 ^ 1074)
  pub fits : m < 2 ^ 53
  pub normal : 2 ^ 52 < m
  pub sum : shift + 71 + power_scale row ≡ bits / 2 ^ 52 - 1 + 192
  pub next : shift + 72 + power_scale row ≡ bits / 2 ^ 52 - 1 + 193
  pub twice : 2 * (m * 2 ^ (shift + 71)) ≡ m * (1 * 2 ^ shift % 2 ^ 64) * 2 ^ 72
  pub whole : m * 2 ^ (shift + 72) ≡ 2 * (m * 2 ^ (shift + 71))
  pub gap : 2 ^ (shift + 71) ≡ 1 * 2 ^ shift % 2 ^ 64 / 2 * 2 ^ 72

in_units : (bits row rest shift : ℕ) → IsAboveZero bits → row < 651 → rest ≡ bits % 2 ^ 52 → rest ≢ 0 → bits / 2 ^ 52 ≢ 0 → IsShift shift row (bits / 2 ^ 52) → InUnits bits row (rest + 2 ^ 52) shift
in_units bits row rest shift p R e some field it =
    let gap = gap_is shift it.some it.most in
    let half = 2 ^ (shift - 1) in
    let sum : shift - 1 + 72 ≡ shift + 71 = omega (arith, it.some) in
    let at : 2 ^ (shift + 71) ≡ half * 2 ^ 72 = ap (λ k. 2 ^ k) (sym sum) ∙ pow-add 2 (shift - 1) 72 in
    let next : 2 ^ (shift + 72) ≡ 2 * 2 ^ (shift + 71) = pow-add 2 shift 72 ∙ omega (arith, gap.1, at) in
    record {
      are = omega (arith, e);
      value = subst (λ z. HasValue (from_bits binary64 bits) false ((z + 2 ^ 52) * 2 ^ (bits / 2 ^ 52 - 1)) (2 ^ 1074)) (sym e)
          (normal_value bits (bits / 2 ^ 52) (bits % 2 ^ 52) (omega arith) (omega arith) (omega arith) (omega arith));
      fits = omega (arith, e);
      normal = omega arith;
      sum = omega (arith, it.sum);
      next = omega (arith, it.sum);
      twice = rw gap.0 (omega (arith, ap (λ z. (rest + 2 ^ 52) * z) at, ap (λ z. (rest + 2 ^ 52) * z) gap.1));
      whole = omega (arith, ap (λ z. (rest + 2 ^ 52) * z) next);
      gap = omega (arith, at, gap.0, gap.1);
    }

pub returns-clause-read : goal.returns-clause-read
returns-clause-read c t =
    let it = is_shift _ c.args.row (c.args.bits / 2 ^ 52) (omega arith) (omega arith) refl c.if-shift-ge61.false in
    let u = in_units c.args.bits c.args.row (bit_and c.args.bits 4503599627370495) _ c.requires.above_zero c.requires.sizes.1 (and_mask c.args.bits 52) c.if-fraction-eq0.false c.if-field-eq0.false it in
    let power = c.power_of_ten-power in
    let cut = ap (λ z. z / 256) c.upper_product.ensures in
    let test = c.lies_clear.ensures.read t in
    let from = read_from c.args.digits power.result _ _ _ _ _ _ c.requires.sizes.0 cut refl u.twice u.gap (omega (arith, u.normal)) test.0 in
    let to = read_to c.args.digits power.result _ _ _ _ _ _ c.requires.sizes.0 cut refl u.twice u.gap test.1 in
    reads_within c.args.bits _ _ c.args.row power.result _ c.requires.above_zero u.are u.fits u.normal power.ensures u.sum c.args.digits from to

pub returns-clause-last : goal.returns-clause-last
returns-clause-last c t =
    let it = is_shift _ c.args.row (c.args.bits / 2 ^ 52) (omega arith) (omega arith) refl c.if-shift-ge61.false in
    let u = in_units c.args.bits c.args.row (bit_and c.args.bits 4503599627370495) _ c.requires.above_zero c.requires.sizes.1 (and_mask c.args.bits 52) c.if-fraction-eq0.false c.if-field-eq0.false it in
    let power = c.power_of_ten-power in
    let cut = ap (λ z. z / 256) c.upper_product.ensures in
    let digits = c.args.digits in
    let below = front_below digits power.result _ _ _ _ _ _ c.requires.sizes.0 cut refl u.twice u.gap (digits / 10) (digits % 10) (omega arith) (omega arith) (omega (arith, u.normal)) (c.lies_clear.ensures.below t) in
    let above = next_above digits power.result _ _ _ _ _ _ c.requires.sizes.0 cut refl u.twice u.gap (digits / 10) (digits % 10) (omega arith) (omega arith) (c.lies_clear.ensures.above t) in
    none_within c.args.bits _ _ c.args.row power.result _ c.requires.above_zero u.are u.fits u.normal power.ensures u.sum (digits / 10) below above

pub returns-clause-nearest : goal.returns-clause-nearest
returns-clause-nearest c t =
    let it = is_shift _ c.args.row (c.args.bits / 2 ^ 52) (omega arith) (omega arith) refl c.if-shift-ge61.false in
    let u = in_units c.args.bits c.args.row (bit_and c.args.bits 4503599627370495) _ c.requires.above_zero c.requires.sizes.1 (and_mask c.args.bits 52) c.if-fraction-eq0.false c.if-field-eq0.false it in
    let power = c.power_of_ten-power in
    let cut = ap (λ z. z / 256) c.upper_product.ensures in
    let digits = c.args.digits in
    let some = some_digits digits power.result _ (read_from digits power.result _ _ _ _ _ _ c.requires.sizes.0 cut refl u.twice u.gap (omega (arith, u.normal)) (c.lies_clear.ensures.read t).0) in
    let test = c.lies_clear.ensures.near t in
    let from = near_from digits power.result _ _ _ _ _ _ c.requires.sizes.0 cut refl u.twice u.gap some test.1 in
    let to = near_to digits power.result _ _ _ _ _ _ c.requires.sizes.0 cut refl u.twice u.gap test.0 in
    nearest_by_bounds (from_bits binary64 c.args.bits) _ _ _ c.args.row power.result digits u.value power.ensures u.next (omega (arith, from, u.whole)) (omega (arith, to, u.whole))
