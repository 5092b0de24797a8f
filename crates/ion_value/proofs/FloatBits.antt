-- The bits of a float as they are kept.
use Rattle.std.proofs.Common.{◌≡◌, ℕ, ◌*◌, ◌%◌, ◌^◌, ◌<◌, ◌≤◌, Bool, true, false, T, not, inl, inr, refl, sym, ap, ◌∙◌, subst, from_bits}
use Rattle.std.proofs.lemmas.Bool.{cases_Bool, eqb-true}
use mathlib.Core.Bool.{true≢false}
use lib.Dec.{eqb, lt→ltb}
use lib.Ieee.Fits.{eq→eqb}
use lib.Ieee.{Float, nan, inf, fin, binary64, is_nan, to_bits, of_bits, ones, hid, top}
use lib.Ieee.Bits.{to_bits-of_bits, nan_bits_is, nan_bits_above, is_true}
use Rattle.std.proofs.lemmas.Float.{not_nan_f64_bits}

-- the pattern that is written where there is no number
pub kept-nan : to_bits binary64 (from_bits binary64 0x7ff8_0000_0000_0000) ≡ 0x7ff8_0000_0000_0000
unfolding to_bits of_bits
kept-nan = refl

pub nan_there : from_bits binary64 0x7ff8_0000_0000_0000 ≡ nan
unfolding of_bits
nan_there = refl

-- up to those of infinity, bits are those of a number
pub kept-number : (bits : ℕ) → bits < 2 ^ 64 → bits % 0x8000_0000_0000_0000 ≤ 0x7ff0_0000_0000_0000 → to_bits binary64 (from_bits binary64 bits) ≡ bits
kept-number bits fits h =
    to_bits-of_bits binary64 bits fits (subst (λ (b : Bool). T (not b)) (nan_bits_is binary64 bits) (not_nan_f64_bits bits h))

pub is_nan-nan : (x : Float) → is_nan x ≡ true → x ≡ nan
unfolding is_nan
is_nan-nan nan h = refl
is_nan-nan (inf s) h = cc
is_nan-nan (fin s m e) h = cc

-- above them they are one value
pub nan_above : (bits : ℕ) → 0x7ff0_0000_0000_0000 < bits % 0x8000_0000_0000_0000 → from_bits binary64 0x7ff8_0000_0000_0000 ≡ from_bits binary64 bits
nan_above bits h =
    nan_there ∙ sym (is_nan-nan (of_bits binary64 bits) (sym (nan_bits_is binary64 bits) ∙ nan_bits_above binary64 bits ∙ is_true _ (lt→ltb (ones binary64 * hid binary64) (bits % top binary64) h)))

is_nan_of_nan : (x : Float) → x ≡ nan → is_nan x ≡ false → ⊥
unfolding is_nan
is_nan_of_nan x e n = true≢false (sym (ap is_nan e) ∙ n)

-- and of the others none is `nan`
pub is_nan-test : (bits : ℕ) (x : Float) → from_bits binary64 bits ≡ x → to_bits binary64 (from_bits binary64 bits) ≡ bits → eqb bits 0x7ff8_0000_0000_0000 ≡ is_nan x
is_nan-test bits x e kept =
    elim (cases_Bool (is_nan x)) [
      | inl y ↦ is_true _ (eq→eqb (sym kept ∙ ap (to_bits binary64) (e ∙ is_nan-nan x y) ∙ ap (to_bits binary64) (sym nan_there) ∙ kept-nan)) ∙ sym y
      | inr n ↦ elim (cases_Bool (eqb bits 0x7ff8_0000_0000_0000)) [
        | inl a ↦ absurd (is_nan_of_nan x (sym e ∙ ap (from_bits binary64) (eqb-true bits 0x7ff8_0000_0000_0000 a) ∙ nan_there) n)
        | inr b ↦ b ∙ sym n
      ]
    ]

pub infinite-bits : from_bits binary64 9218868437227405312 ≡ inf false
unfolding of_bits
infinite-bits = refl

pub below-bits : from_bits binary64 18442240474082181120 ≡ inf true
unfolding of_bits
below-bits = refl
