-- Laws of floats in octets.
use Rattle.std.proofs.Common.{◌≡◌, ◌≤◌, ℕ, ◌==◌, if◌then◌else◌, Bool, true, false, T, Some, None, List, [], length, w32, w64, from_bits, inl, inr, refl, sym, ap, ◌∙◌, subst, arith}
use Rattle.std.specs.Int.{from_be_bytes, to_be_bytes}
use Rattle.std.proofs.lemmas.Bool.{cases_Bool, eqb-true}
use Rattle.std.proofs.lemmas.Nat.{from_be_bytes-to_be_bytes_4, from_be_bytes-to_be_bytes_8}
use lib.Ieee.{Float, binary32, binary64, fits, to_bits, of_bits}
use lib.Ieee.Bits.{of_bits-to_bits, of_bits-fits, to_bits-lt, is_true}
use lib.Ieee.Fits.{fits_widens}
use Rattle.ion_value.specs.Float.{IsFloat}
use Rattle.ion_value.specs.FloatOctets.{positive_zero, is_positive_zero, float_of_octets, float_octets}
use Rattle.ion_float.proofs.Narrow.{same_value, zero_fits, zero_or_not}

zero-is : (x : Float) → IsFloat x → is_positive_zero x ≡ true → positive_zero ≡ x
zero-is x h z = same_value binary64 positive_zero x false 0 1 (zero_fits binary64 false) h (omega arith) (refl, refl) (zero_or_not x z)

pub octets-read : (x : Float) → IsFloat x → float_of_octets (float_octets x) ≡ Some x
octets-read x h = elim (cases_Bool (is_positive_zero x)) [
  | inl z ↦ rw z (ap (λ (y : Float). Some y) (zero-is x h z))
  | inr n ↦ elim (cases_Bool (fits binary32 x)) [
    | inl f ↦
        let fit : T (fits binary32 x) = subst T (sym f) tt in
        rw (n, f) (ap (λ (b : ℕ). Some (from_bits binary32 b)) (from_be_bytes-to_be_bytes_4 (to_bits binary32 x) (to_bits-lt binary32 x fit))
        ∙ ap (λ (y : Float). Some y) (of_bits-to_bits binary32 x fit))
    | inr f ↦
        rw (n, f) (ap (λ (b : ℕ). Some (from_bits binary64 b)) (from_be_bytes-to_be_bytes_8 (to_bits binary64 x) (to_bits-lt binary64 x h))
        ∙ ap (λ (y : Float). Some y) (of_bits-to_bits binary64 x h))
  ]
]

-- ---- how many they are

at-most-eight : (z f : Bool) (a b : ℕ) → length (if z then [] else (if f then to_be_bytes w32 a else to_be_bytes w64 b)) ≤ 8
at-most-eight true f a b = omega arith
at-most-eight false true a b = omega arith
at-most-eight false false a b = omega arith

at-most-four : (x : Float) → T (fits binary32 x) → length (float_octets x) ≤ 4
at-most-four x h = elim (cases_Bool (is_positive_zero x)) [
  | inl z ↦ rw z (omega arith)
  | inr n ↦ rw (n, is_true (fits binary32 x) h) (omega arith)
]

some-same : (x y : Float) → Some x ≡ Some y → x ≡ y
some-same x y h = cc

none-some : (x : Float) → None ≡ Some x → ⊥
none-some x h = cc

eight-more : (x : Float) → length (float_octets x) ≤ 8
eight-more x = at-most-eight (is_positive_zero x) (fits binary32 x) (to_bits binary32 x) (to_bits binary64 x)

pub octets-fewest : (x : Float) (octets : List ℕ) → float_of_octets octets ≡ Some x → length (float_octets x) ≤ length octets
octets-fewest x octets h = elim (cases_Bool (length octets == 0)) [
  | inl e ↦
      let same = some-same positive_zero x (rw e at h) in
      rw (← same) (omega arith)
  | inr a ↦ elim (cases_Bool (length octets == 4)) [
    | inl e ↦
        let four : length octets ≡ 4 = eqb-true (length octets) 4 e in
        let same = some-same (from_bits binary32 (from_be_bytes w32 octets)) x (rw (a, e) at h) in
        let fit : T (fits binary32 x) = subst (λ (y : Float). T (fits binary32 y)) same (of_bits-fits binary32 (from_be_bytes w32 octets)) in
        omega (arith, at-most-four x fit, four)
    | inr b ↦ elim (cases_Bool (length octets == 8)) [
      | inl e ↦
          let eight : length octets ≡ 8 = eqb-true (length octets) 8 e in
          omega (arith, eight-more x, eight)
      | inr d ↦ absurd (none-some x (rw (a, b, d) at h))
    ]
  ]
]

-- ---- what is read

-- what octets spell is a float of Ion
pub octets-IsFloat : (x : Float) (octets : List ℕ) → float_of_octets octets ≡ Some x → IsFloat x
octets-IsFloat x octets h = elim (cases_Bool (length octets == 0)) [
  | inl e ↦ subst IsFloat (some-same positive_zero x (rw e at h)) (zero_fits binary64 false)
  | inr a ↦ elim (cases_Bool (length octets == 4)) [
    | inl e ↦
        let same = some-same (from_bits binary32 (from_be_bytes w32 octets)) x (rw (a, e) at h) in
        subst IsFloat same (fits_widens (from_bits binary32 (from_be_bytes w32 octets)) (of_bits-fits binary32 (from_be_bytes w32 octets)))
    | inr b ↦ elim (cases_Bool (length octets == 8)) [
      | inl e ↦
          let same = some-same (from_bits binary64 (from_be_bytes w64 octets)) x (rw (a, b, e) at h) in
          subst IsFloat same (of_bits-fits binary64 (from_be_bytes w64 octets))
      | inr d ↦ absurd (none-some x (rw (a, b, d) at h))
    ]
  ]
]
