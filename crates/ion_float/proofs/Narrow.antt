-- A float in the narrower format.
use Rattle.std.proofs.Common.{◌≡◌, ℕ, zero, suc, ◌+◌, ◌-◌, ◌*◌, ◌/◌, ◌%◌, ◌^◌, ◌<◌, ◌≤◌, ℤ, pos, negsuc, Bool, true, false, cond, if◌then◌else◌, ◌&&◌, T, not, inl, inr, take, refl, sym, ap, ◌∙◌, subst, arith, pow-add, pow_pos, Some, None, w32, w64, from_bits}
use Rattle.std.specs.Int.{to_be_bytes}
use Rattle.ion_value.proofs.FloatBits.{is_nan-nan}
use Rattle.ion_value.specs.FloatOctets.{positive_zero, is_positive_zero, float_octets}
use mathlib.Core.Bool.{true≢false}
use Rattle.std.proofs.Math.Nat.{eq_of_mul-eq-mul_right}
use Rattle.std.proofs.lemmas.Bool.{cases_Bool, cases_lt, eqb-true}
use Rattle.std.proofs.lemmas.Nat.{div-mul-add}
use lib.Ieee.Digits.{size-le}
use lib.Pow.{pow-lt}
use native.Mathlib.Nat.{mul-lt-mul_of_pos_right}
use lib.Dec.{lt→ltb, eqb, ltb, leb, ltb→lt, leb→le}
use lib.Ieee.{Float, nan, inf, fin, Format, binary32, binary64, of_bits, nan_bits, prec, emax, low, up, down, size, top, hid, ones, odd, units, round, fits, is_nan, to_bits}
use lib.Ieee.Fits.{down_pos, round_is, round-fits, fits_widens, and_i, and_l, and_r}
use lib.Ieee.Bits.{of_bits-to_bits, of_bits-fits, nan_bits_is, nan_bits_above, is_true}
use lib.Ieee.Exact.{HasValue, round_exact}
use lib.Ieee.Nearest.{div_same}
use Rattle.std.specs.Float.{round_to_format}

odd_number : (d : ℕ) (s : Bool) (q k l : ℕ) → is_nan (odd d s q k l) ≡ false
unfolding odd is_nan
odd_number d s zero k l = refl
odd_number d s (suc q) k l = refl

either_number : (b : Bool) (s : Bool) (x : Float) → is_nan x ≡ false → is_nan (cond b x (inf s)) ≡ false
unfolding is_nan
either_number true s x h = h
either_number false s x h = refl

units_number : (f : Format) (s : Bool) (q k : ℕ) → is_nan (units f s q k) ≡ false
unfolding units
units_number f s q k = either_number (ltb (q * 2 ^ k) (2 ^ (low f + suc (emax f)))) s _ (odd_number (suc (prec f)) s q k (low f))

-- what is rounded is a number
pub round_number : (f : Format) (s : Bool) (num den : ℕ) → is_nan (round f s num den) ≡ false
round_number f s num den = ap is_nan (round_is f s num den) ∙ units_number f s _ _

pub narrow_number : (f : Format) (x : Float) → is_nan x ≡ false → is_nan (round_to_format f x) ≡ false
unfolding round_to_format
narrow_number f nan h = h
narrow_number f (inf s) h = h
narrow_number f (fin s m e) h = round_number f s (m * up e) (down e)

-- values that are equal have the same bits
same_bits : (f : Format) (x y : Float) (s : Bool) (a c : ℕ) → 0 < c → HasValue x s a c → HasValue y s a c → to_bits f x ≡ to_bits f y
unfolding to_bits
same_bits f nan y s a c C h k = absurd h
same_bits f (inf t) y s a c C h k = absurd h
same_bits f (fin t m e) nan s a c C h k = absurd k
same_bits f (fin t m e) (inf u) s a c C h k = absurd k
same_bits f (fin t m e) (fin u n d) s a c C h k =
    let same : t ≡ u = h.0 ∙ sym k.0 in
    let cross : m * up e * 2 ^ low f * down d ≡ n * up d * 2 ^ low f * down e = joined (m * up e) (n * up d) (down e) (down d) a c (2 ^ low f) C h.1 k.1 in
    ap (λ (t : Bool). cond t (top f) 0 + (size (m * up e * 2 ^ low f / down e) - prec f) * hid f + m * up e * 2 ^ low f / down e / 2 ^ (size (m * up e * 2 ^ low f / down e) - prec f)) same
    ∙ ap (λ (w : ℕ). cond u (top f) 0 + (size w - prec f) * hid f + w / 2 ^ (size w - prec f)) (div_same (m * up e * 2 ^ low f) (down e) (n * up d * 2 ^ low f) (down d) (down_pos e) (down_pos d) cross)
  where
    joined : (x y d g a c l : ℕ) → 0 < c → x * c ≡ a * d → y * c ≡ a * g → x * l * g ≡ y * l * d
    joined x y d g a c l C p q = eq_of_mul-eq-mul_right c C (x * l * g) (y * l * d) (omega (arith, ap (λ (z : ℕ). z * (l * g)) p, ap (λ (z : ℕ). z * (l * d)) q))

-- and are one, where the format holds both
pub same_value : (f : Format) (x y : Float) (s : Bool) (a c : ℕ) → T (fits f x) → T (fits f y) → 0 < c → HasValue x s a c → HasValue y s a c → x ≡ y
same_value f x y s a c p q C h k =
    sym (of_bits-to_bits f x p) ∙ ap (of_bits f) (same_bits f x y s a c C h k) ∙ of_bits-to_bits f y q

less_than : (i p : ℕ) → 2 ^ i ≤ 2 ^ p → i ≤ p
less_than i p h = elim (cases_lt p i) [ inl l ↦ absurd (omega (arith, pow-lt l)) | inr g ↦ g ]

-- a number of the format's steps, with no more digits than it keeps, is itself when it is rounded
kept : (f : Format) (s : Bool) (m : ℕ) (e : ℤ) (j : ℕ) → T (fits f (fin s m e)) → m < 2 ^ prec f → m * 2 ^ j < 2 ^ (low f + suc (emax f))
    → m * up e * 2 ^ low f ≡ m * 2 ^ j * down e → round f s (m * up e) (down e) ≡ fin s m e
kept f s m e j fit few under same =
    same_value f (round f s (m * up e) (down e)) (fin s m e) s (m * up e) (down e) (round-fits f s (m * up e) (down e)) fit (down_pos e)
    (round_exact f s (m * up e) (down e) m j (down_pos e) few under same) (refl, refl)

shifted : (f : Format) (m k : ℕ) → m * 2 ^ k < 2 ^ suc (emax f) * 1 → m * 2 ^ (low f + k) < 2 ^ (low f + suc (emax f))
shifted f m k h =
    let l = 2 ^ low f in
    let big = mul-lt-mul_of_pos_right h (pow_pos (low f)) in
    omega (arith, big, pow-add 2 (low f) k, ap (λ (z : ℕ). m * z) (pow-add 2 (low f) k), pow-add 2 (low f) (suc (emax f)))

lowered : (f : Format) (m k : ℕ) → suc k ≤ low f → m * 1 < 2 ^ suc (emax f) * 2 ^ suc k → m * 2 ^ (low f - suc k) < 2 ^ (low f + suc (emax f))
lowered f m k under h =
    let j = low f - suc k in
    let sum : suc k + j ≡ low f = omega arith in
    let whole : 2 ^ suc k * 2 ^ j ≡ 2 ^ low f = sym (pow-add 2 (suc k) j) ∙ ap (λ (z : ℕ). 2 ^ z) sum in
    let big = mul-lt-mul_of_pos_right h (pow_pos j) in
    omega (arith, big, ap (λ (z : ℕ). 2 ^ suc (emax f) * z) whole, pow-add 2 (low f) (suc (emax f)))

-- what it takes to fit
record Holds (f : Format) (m : ℕ) (e : ℤ) : Type 0 where
  few : m < 2 ^ prec f
  fine : down e ≤ 2 ^ low f
  under : m * up e < 2 ^ suc (emax f) * down e

holds : (f : Format) (s : Bool) (m : ℕ) (e : ℤ) → T (fits f (fin s (suc m) e)) → Holds f (suc m) e
unfolding fits
holds f s m e h =
    let A = eqb (suc m % 2) 1 in
    let B = ltb (suc m) (2 ^ prec f) in
    let C = leb (down e) (2 ^ low f) in
    let D = ltb (suc m * up e) (2 ^ suc (emax f) * down e) in
    record {
      few = ltb→lt (suc m) (2 ^ prec f) (and_r A B (and_l (A && B) C (and_l (A && B && C) D h)));
      fine = leb→le (down e) (2 ^ low f) (and_r (A && B) C (and_l (A && B && C) D h));
      under = ltb→lt (suc m * up e) (2 ^ suc (emax f) * down e) (and_r (A && B && C) D h);
    }

-- a float that the format holds is its own nearest
pub narrow_same : (f : Format) (x : Float) → T (fits f x) → round_to_format f x ≡ x
unfolding round_to_format
narrow_same f nan h = refl
narrow_same f (inf s) h = refl
narrow_same f (fin s zero e) h = kept f s zero e zero h (pow_pos (prec f)) (pow_pos (low f + suc (emax f))) (omega arith)
narrow_same f (fin s (suc m) (pos k)) h =
    let z = holds f s m (pos k) h in
    kept f s (suc m) (pos k) (low f + k) h z.few (shifted f (suc m) k z.under) (omega (arith, ap (λ (z : ℕ). suc m * z) (pow-add 2 (low f) k)))
narrow_same f (fin s (suc m) (negsuc k)) h =
    let z = holds f s m (negsuc k) h in
    let fine = less_than (suc k) (low f) z.fine in
    let j = low f - suc k in
    let sum : j + suc k ≡ low f = omega arith in
    kept f s (suc m) (negsuc k) j h z.few (lowered f (suc m) k fine z.under)
    (omega (arith, ap (λ (z : ℕ). suc m * z) (sym (pow-add 2 j (suc k)) ∙ ap (λ (z : ℕ). 2 ^ z) sum)))

-- ---- what the code tests

pub nan_fits : (x : Float) → is_nan x ≡ true → Some 2143289344 ≡ (if fits binary32 x then Some (to_bits binary32 x) else None)
unfolding fits to_bits is_nan
nan_fits nan h = refl
nan_fits (inf s) h = absurd (true≢false (sym h))
nan_fits (fin s m e) h = absurd (true≢false (sym h))

pub number_bits : (f : Format) (bits : ℕ) (x : Float) → from_bits f bits ≡ x → is_nan x ≡ false → T (not (nan_bits f bits))
number_bits f bits x e h = subst (λ (b : Bool). T (not b)) (sym (nan_bits_is f bits ∙ ap is_nan e ∙ h)) tt

pub narrowed_number : (x y : Float) → is_nan x ≡ false → y ≡ round_to_format binary32 x → T (not (is_nan y))
narrowed_number x y h e = subst (λ (b : Bool). T (not b)) (sym (ap is_nan e ∙ narrow_number binary32 x h)) tt

pub widens : (y : Float) → T (fits binary32 y) → T (not (is_nan y)) → T (fits binary64 y && not (is_nan y))
widens y h n = and_i (fits binary64 y) (not (is_nan y)) (fits_widens y h) n

pub narrowed_some : (x y : Float) (bits : ℕ) → from_bits binary64 bits ≡ x → T (fits binary32 y) → to_bits binary64 y ≡ bits
    → Some (to_bits binary32 y) ≡ (if fits binary32 x then Some (to_bits binary32 x) else None)
narrowed_some x y bits e h same =
    let one : y ≡ x = sym (of_bits-to_bits binary64 y (fits_widens y h)) ∙ ap (of_bits binary64) same ∙ e in
    subst (λ (z : Float). Some (to_bits binary32 y) ≡ (if fits binary32 z then Some (to_bits binary32 z) else None)) one (rw (is_true (fits binary32 y) h) refl)

pub narrowed_none : (x y : Float) (bits : ℕ) → bits ≡ to_bits binary64 x → y ≡ round_to_format binary32 x → ¬ (to_bits binary64 y ≡ bits)
    → None ≡ (if fits binary32 x then Some (to_bits binary32 x) else None)
narrowed_none x y bits e same other =
    elim (cases_Bool (fits binary32 x)) [
      | inl h ↦ absurd (other (ap (to_bits binary64) (same ∙ narrow_same binary32 x (subst T (sym h) tt)) ∙ sym e))
      | inr h ↦ rw h refl
    ]

last_bits : (s : Bool) (m j w : ℕ) → m < 2 ^ 24 → 925 ≤ j → w ≡ m * 2 ^ j → (cond s (2 ^ 63) 0 + (size w - 53) * 2 ^ 52 + w / 2 ^ (size w - 53)) % 2 ^ 29 ≡ 0
last_bits s m j w few least e =
    let d = size w - 53 in
    let under : w < 2 ^ (24 + j) = omega (arith, e, mul-lt-mul_of_pos_right few (pow_pos j), pow-add 2 24 j) in
    let most : size w ≤ 24 + j = size-le w (24 + j) under in
    let i = j - d - 29 in
    let sum : 29 + i + d ≡ j = omega (arith, most, least) in
    let powers : 2 ^ j ≡ 2 ^ 29 * 2 ^ i * 2 ^ d = ap (λ (z : ℕ). 2 ^ z) (sym sum) ∙ pow-add 2 (29 + i) d ∙ ap (λ (z : ℕ). z * 2 ^ d) (pow-add 2 29 i) in
    let whole : w ≡ m * 2 ^ i * 2 ^ 29 * 2 ^ d + 0 = omega (arith, e, ap (λ (z : ℕ). m * z) powers) in
    let cut : w / 2 ^ d ≡ m * 2 ^ i * 2 ^ 29 = ap (λ (z : ℕ). z / 2 ^ d) whole ∙ div-mul-add (m * 2 ^ i * 2 ^ 29) (2 ^ d) 0 (pow_pos d) in
    elim s as (λ (b : Bool). (cond b (2 ^ 63) 0 + d * 2 ^ 52 + w / 2 ^ d) % 2 ^ 29 ≡ 0) [ true ↦ omega (arith, cut) | false ↦ omega (arith, cut) ]

last_bits_fin : (s : Bool) (m : ℕ) (e : ℤ) (j : ℕ) → m < 2 ^ 24 → 925 ≤ j → m * up e * 2 ^ 1074 ≡ m * 2 ^ j * down e + 0 → to_bits binary64 (fin s m e) % 2 ^ 29 ≡ 0
unfolding to_bits
last_bits_fin s m e j few least same =
    last_bits s m j (m * up e * 2 ^ 1074 / down e) few least
    (ap (λ (z : ℕ). z / down e) same ∙ div-mul-add (m * 2 ^ j) (down e) 0 (down_pos e))

-- what the narrower format holds ends in zeros in the wider one
narrow_last : (x : Float) → T (fits binary32 x) → to_bits binary64 x % 2 ^ 29 ≡ 0
unfolding to_bits
narrow_last nan h = refl
narrow_last (inf true) h = refl
narrow_last (inf false) h = refl
narrow_last (fin s zero e) h = last_bits_fin s zero e 925 (omega arith) (omega arith) (omega arith)
narrow_last (fin s (suc m) (pos k)) h =
    let z = holds binary32 s m (pos k) h in
    last_bits_fin s (suc m) (pos k) (1074 + k) z.few (omega arith) (omega (arith, ap (λ (z : ℕ). suc m * z) (pow-add 2 1074 k)))
narrow_last (fin s (suc m) (negsuc k)) h =
    let z = holds binary32 s m (negsuc k) h in
    let fine : suc k ≤ 149 = less_than (suc k) 149 z.fine in
    let j = 1074 - suc k in
    let sum : j + suc k ≡ 1074 = omega (arith, fine) in
    last_bits_fin s (suc m) (negsuc k) j z.few (omega (arith, fine))
    (omega (arith, ap (λ (z : ℕ). suc m * z) (sym (pow-add 2 j (suc k)) ∙ ap (λ (z : ℕ). 2 ^ z) sum)))

pub narrowed_by_last : (x : Float) (bits : ℕ) → bits ≡ to_bits binary64 x → ¬ (bits % 2 ^ 29 ≡ 0)
    → None ≡ (if fits binary32 x then Some (to_bits binary32 x) else None)
narrowed_by_last x bits e other =
    elim (cases_Bool (fits binary32 x)) [
      | inl h ↦ absurd (other (ap (λ (n : ℕ). n % 2 ^ 29) e ∙ narrow_last x (subst T (sym h) tt)))
      | inr h ↦ rw h refl
    ]

-- above the bits of infinity there is no number
pub narrow_above : (bits : ℕ) → 2139095040 < bits % 2147483648 → nan ≡ from_bits binary32 bits
narrow_above bits h =
    sym (is_nan-nan (of_bits binary32 bits)
    (sym (nan_bits_is binary32 bits) ∙ nan_bits_above binary32 bits ∙ is_true _ (lt→ltb (ones binary32 * hid binary32) (bits % top binary32) h)))

-- ---- octets

pub zero_or_not : (x : Float) → is_positive_zero x ≡ true → HasValue x false 0 1
zero_or_not nan h = absurd (true≢false (sym h))
zero_or_not (inf s) h = absurd (true≢false (sym h))
zero_or_not (fin true m e) h = absurd (true≢false (sym h))
zero_or_not (fin false m e) h = (refl, omega (arith, ap (λ (z : ℕ). z * up e) (eqb-true m 0 h)))

pub zero_fits : (f : Format) (s : Bool) → T (fits f (fin s zero (pos 0)))
unfolding fits
zero_fits f s = tt

zero_bits : to_bits binary64 positive_zero ≡ 0
unfolding to_bits
zero_bits = refl

zero_value : from_bits binary64 0 ≡ positive_zero
unfolding of_bits
zero_value = refl

above_zero : (x : Float) (bits : ℕ) → bits ≡ to_bits binary64 x → from_bits binary64 bits ≡ x → ¬ (bits ≡ 0) → is_positive_zero x ≡ false
above_zero x bits b e z =
    elim (cases_Bool (is_positive_zero x)) [
      | inl y ↦
          let fit = subst (λ (v : Float). T (fits binary64 v)) e (of_bits-fits binary64 bits) in
          absurd (z (b ∙ ap (to_bits binary64) (same_value binary64 x positive_zero false 0 1 fit (zero_fits binary64 false) (omega arith) (zero_or_not x y) (refl, refl)) ∙ zero_bits))
      | inr n ↦ n
    ]

pub four_octets : (x : Float) (bits n : ℕ) → bits ≡ to_bits binary64 x → from_bits binary64 bits ≡ x → ¬ (bits ≡ 0)
    → Some n ≡ (if fits binary32 x then Some (to_bits binary32 x) else None) → to_be_bytes w32 n ≡ float_octets x
four_octets x bits n b e z h =
    elim (cases_Bool (fits binary32 x)) [
      | inl y ↦ rw (above_zero x bits b e z, y) (ap (to_be_bytes w32) (some_inj (rw y at h)))
      | inr y ↦ absurd (some_none (rw y at h))
    ]
  where
    some_inj : {a b : ℕ} → Some a ≡ Some b → a ≡ b
    some_inj h = cc

    some_none : {a : ℕ} → Some a ≡ None → ⊥
    some_none h = cc

-- four octets at the front of eight
pub four_first : (n : ℕ) → take 4 (to_be_bytes w64 (n * 2 ^ 32 % 2 ^ 64)) ≡ to_be_bytes w32 n
four_first n =
    let m : ℕ = n * 2 ^ 32 % 2 ^ 64 in
    let a : m / 256 ^ 7 % 256 ≡ n / 256 ^ 3 % 256 = omega arith in
    let b : m / 256 ^ 6 % 256 ≡ n / 256 ^ 2 % 256 = omega arith in
    let c : m / 256 ^ 5 % 256 ≡ n / 256 ^ 1 % 256 = omega arith in
    let d : m / 256 ^ 4 % 256 ≡ n % 256 = omega arith in
    rw (a, b, c, d) refl

pub eight_octets : (x : Float) (bits n : ℕ) → bits ≡ to_bits binary64 x → from_bits binary64 bits ≡ x → ¬ (bits ≡ 0)
    → None ≡ (if fits binary32 x then Some (to_bits binary32 x) else None) → n ≡ to_bits binary64 x → to_be_bytes w64 n ≡ float_octets x
eight_octets x bits n b e z h same =
    elim (cases_Bool (fits binary32 x)) [
      | inl y ↦ absurd (none_some (rw y at h))
      | inr y ↦ rw (above_zero x bits b e z, y) (ap (to_be_bytes w64) same)
    ]
  where
    none_some : {a : ℕ} → None ≡ Some a → ⊥
    none_some h = cc
