-- Hex digits one after the other.
use Rattle.std.proofs.Common.{◌≡◌, ℕ, zero, suc, ◌+◌, ◌-◌, ◌*◌, ◌^◌, ◌<◌, ◌≤◌, Bool, true, false, List, [], ◌∷◌, length, drop, slice_index, refl, ap, ◌∙◌, arith}
use Rattle.std.proofs.Math.ListN.{drop_of_length-le}
use Rattle.std.proofs.Math.Pow.{pow_mono}
use Rattle.std.proofs.Math.Seq.{drop-cons}
use Rattle.std.proofs.lemmas.Nat.{pow-add}
use Rattle.ion_value.specs.Digits.{is_hex_digit, digit_value}
use Rattle.ion_text_in.specs.Quoted.{number, no_digit, cut_digits, hex_after}

hex-end : (k n : ℕ) → hex_after (suc k) n [] ≡ cut_digits
unfolding hex_after
hex-end k n = refl

hex-by : (k n b : ℕ) (bytes : List ℕ) (is : Bool) → is_hex_digit b ≡ is
    → hex_after (suc k) n (b ∷ bytes) ≡ elim is [ true ↦ hex_after k (16 * n + digit_value b) bytes | false ↦ no_digit ]
unfolding hex_after
hex-by k n b bytes is e = ap (λ (d : Bool). elim d [ true ↦ hex_after k (16 * n + digit_value b) bytes | false ↦ no_digit ]) e

pub hex-cut : (count i n : ℕ) (bytes : List ℕ) → i < count → length bytes ≤ i → hex_after (count - i) n (drop i bytes) ≡ cut_digits
hex-cut count i n bytes less le =
    let e : count - i ≡ suc (count - (i + 1)) = omega (arith, less) in
    let none : drop i bytes ≡ [] = drop_of_length-le bytes le in
    rw (e, none) (hex-end (count - (i + 1)) n)

pub hex-next : (count i n : ℕ) (bytes : List ℕ) (is : Bool) → i < count → i < length bytes → is_hex_digit (slice_index bytes i) ≡ is
    → hex_after (count - i) n (drop i bytes) ≡ elim is [ true ↦ hex_after (count - (i + 1)) (n * 16 + digit_value (slice_index bytes i)) (drop (i + 1) bytes) | false ↦ no_digit ]
hex-next count i n bytes is less there d =
    let e : count - i ≡ suc (count - (i + 1)) = omega (arith, less) in
    let first : drop i bytes ≡ slice_index bytes i ∷ drop (suc i) bytes = drop-cons bytes i 0 there in
    let one : suc i ≡ i + 1 = omega arith in
    let next : drop (suc i) bytes ≡ drop (i + 1) bytes = ap (λ (k : ℕ). drop k bytes) one in
    let times : 16 * n + digit_value (slice_index bytes i) ≡ n * 16 + digit_value (slice_index bytes i) = omega arith in
    rw (e, first, next) (hex-by (count - (i + 1)) n (slice_index bytes i) (drop (i + 1) bytes) is d
    ∙ ap (λ (m : ℕ). elim is [ true ↦ hex_after (count - (i + 1)) m (drop (i + 1) bytes) | false ↦ no_digit ]) times)

-- sixteen times as much, and a digit
pub sixteen-times : (i n v : ℕ) → n < 2 ^ (4 * i) → v < 16 → n * 16 + v < 2 ^ (4 * (i + 1))
sixteen-times i n v less digit =
    let four : 4 * (i + 1) ≡ 4 * i + 4 = omega arith in
    let e : 2 ^ (4 * i + 4) ≡ 2 ^ (4 * i) * 16 = pow-add 2 (4 * i) 4 in
    rw (four, e) (omega (arith, less, digit))

-- eight digits at most
pub in-32 : (i n v : ℕ) → i < 8 → n < 2 ^ (4 * i) → v < 16 → n * 16 + v < 2 ^ 32
in-32 i n v few less digit =
    let one = sixteen-times i n v less digit in
    let le : 2 ^ (4 * (i + 1)) ≤ 2 ^ 32 = pow_mono {i = 4 * (i + 1)} {j = 32} (omega (arith, few)) in
    omega (arith, one, le)

pub hex-all : (count i n : ℕ) (bytes : List ℕ) → i ≡ count → hex_after (count - i) n (drop i bytes) ≡ number n (drop count bytes)
unfolding hex_after
hex-all count i n bytes e =
    let none : count - i ≡ zero = omega (arith, e) in rw (none, e) refl
