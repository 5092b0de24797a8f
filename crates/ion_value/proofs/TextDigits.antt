-- Laws of digits in text: what they spell, and where they end.
use Rattle.std.proofs.Common.{◌≡◌, ◌⊎◌, ℕ, suc, ◌+◌, ◌-◌, ◌*◌, ◌%◌, ◌^◌, ◌<◌, ◌≤◌, ◌≢◌, inl, inr, Bool, true, false, not, ◌&&◌, ◌||◌, ◌==◌, nat_lt, if◌then◌else◌, Option, Some, None, Result, Err, List, [], ◌∷◌, ◌++◌, length, take, drop, get_or, map, filter, refl, sym, ap, ◌∙◌, arith}
use Rattle.std.proofs.lemmas.Bool.{cases_Bool, lt-ltb, ne_eqb, eq-eqb, eqb-true, not-false, both_ways, or_parts, not_from_true, and_left, and_right, and_cases, agree_below, agree_below_at}
use Rattle.std.proofs.lemmas.Bool.Decides.{nat_tests}
use Rattle.std.proofs.lemmas.List.{take_all, length-drop, length-map, append-nil, nil_from_length}
use Rattle.std.proofs.Math.Nat.{pow-zero, pow-suc}
use Rattle.ion_meter.specs.declared.fault.Reason.{Reason}
use Rattle.ion_meter.specs.declared.fault.Reason.TheVariants.{BadToken}
use Rattle.ion_value.specs.declared.int.Int.{Int}
use Rattle.ion_value.specs.Number.{number}
use Rattle.ion_value.specs.Digits.{is_digit, is_hex_digit, is_binary_digit, digit_value, digits_from, are_digits, digits_value, first_is, is_whole, has_minus, without_minus}
use Rattle.ion_value.specs.Int.{int_in_range, int_of_digits, int_of_text}
use Rattle.ion_value.specs.DigitReading.{is_digit_of, in_128, Read, read_end, read_digits, read_whole, read_int}

-- ---- one byte more

-- all after the first
pub tail-all : (xs : List ℕ) (m : ℕ) → length xs ≤ m → take (m - 1) (drop 1 xs) ≡ drop 1 xs
tail-all [] m h = take_all (m - 1) (drop 1 []) (omega arith)
tail-all (x ∷ xs) m h = take_all (m - 1) xs (omega arith)

tail-length : (xs : List ℕ) (m : ℕ) → 0 < length xs → length xs ≤ m → length (take (m - 1) (drop 1 xs)) + 1 ≡ length xs
tail-length xs m some all = rw (tail-all xs m all, length-drop) (omega arith)

-- digits and what is left are no more than there were
pub room-digit : (xs : List ℕ) (m k total : ℕ) → 0 < length xs → length xs ≤ m → k + length xs ≤ total → k + 1 + length (take (m - 1) (drop 1 xs)) ≤ total
room-digit xs m k total some all room = omega (arith, tail-length xs m some all)

pub room-underscore : (xs : List ℕ) (m k total : ℕ) → 0 < length xs → length xs ≤ m → k + length xs ≤ total → k + length (take (m - 1) (drop 1 xs)) ≤ total
room-underscore xs m k total some all room = omega (arith, tail-length xs m some all)

-- a digit
pub read-digit : (base n k m : ℕ) (after : Bool) (rest : List ℕ) → 0 < length rest → length rest ≤ m → is_digit_of base (get_or rest 0 0) ≡ true
    → read_digits base (n * base + digit_value (get_or rest 0 0)) true (k + 1) (take (m - 1) (drop 1 rest)) ≡ read_digits base n after k rest
unfolding read_digits
read-digit base n k m after [] some _ _ = absurd (omega arith)
read-digit base n k m after (b ∷ rest) some all e = rw (tail-all (b ∷ rest) m all, e) refl

-- an underscore after a digit
pub read-underscore : (base n k m : ℕ) (after : Bool) (rest : List ℕ) → 0 < length rest → length rest ≤ m → is_digit_of base (get_or rest 0 0) ≡ false → get_or rest 0 0 ≡ 95 → after ≡ true
    → read_digits base n false k (take (m - 1) (drop 1 rest)) ≡ read_digits base n after k rest
unfolding read_digits
read-underscore base n k m after [] some _ _ _ _ = absurd (omega arith)
read-underscore base n k m after (b ∷ rest) some all e is before = rw (tail-all (b ∷ rest) m all, e, is, before) refl

-- the end, another byte, and an underscore that stands after no digit
pub read-nothing : (base n k : ℕ) (after : Bool) (rest : List ℕ) → length rest < 1 → read_digits base n after k rest ≡ read_end n after k rest
unfolding read_digits
read-nothing base n k after [] none = refl
read-nothing base n k after (b ∷ rest) none = absurd (omega arith)

pub read-other : (base n k : ℕ) (after : Bool) (rest : List ℕ) → 0 < length rest → is_digit_of base (get_or rest 0 0) ≡ false → get_or rest 0 0 ≢ 95
    → read_digits base n after k rest ≡ read_end n after k rest
unfolding read_digits
read-other base n k after [] some _ _ = absurd (omega arith)
read-other base n k after (b ∷ rest) some e other = rw (e, ne_eqb b 95 other) refl

pub read-bad : (base n k : ℕ) (after : Bool) (rest : List ℕ) → 0 < length rest → is_digit_of base (get_or rest 0 0) ≡ false → after ≡ false
    → read_digits base n after k rest ≡ read_end n after k rest
unfolding read_digits
read-bad base n k after [] some _ _ = absurd (omega arith)
read-bad base n k after (b ∷ rest) some e before = rw (e, and_right (b == 95) after before) refl

-- a number that 128 bits hold
pub in_128-small : (n : ℕ) → n < 2 ^ 128 → Some n ≡ in_128 n
in_128-small n small = rw (lt-ltb n (2 ^ 128) small) refl

-- ---- the table of what the bytes from `0` to `f` count

place-byte : (b : ℕ) → b < 2 ^ 8 → (b + 208) % 256 < 55 → b ≡ (b + 208) % 256 + 48
place-byte b byte place = omega arith

pub hex-digit : (values : List ℕ) (b : ℕ) → agree_below (λ p. is_hex_digit (p + 48)) (λ p. nat_lt (get_or values p 0) 16) 55 ≡ true → b < 2 ^ 8 → (b + 208) % 256 < 55
    → is_hex_digit b ≡ nat_lt (get_or values ((b + 208) % 256) 0) 16
hex-digit values b all byte place =
    let same = agree_below_at (λ p. is_hex_digit (p + 48)) (λ p. nat_lt (get_or values p 0) 16) 55 ((b + 208) % 256) all place in
    ap is_hex_digit (place-byte b byte place) ∙ same

abbrev differs : List ℕ → ℕ → Bool
differs values p = nat_lt (get_or values p 0) 16 && not (get_or values p 0 == digit_value (p + 48))

pub hex-value : (values : List ℕ) (b : ℕ) → agree_below (differs values) (λ _. false) 55 ≡ true → b < 2 ^ 8 → (b + 208) % 256 < 55
    → get_or values ((b + 208) % 256) 0 < 16 → get_or values ((b + 208) % 256) 0 ≡ digit_value b
hex-value values b all byte place small =
    let p : ℕ = (b + 208) % 256 in
    let same = agree_below_at (differs values) (λ _. false) 55 p all place in
    elim (and_cases (nat_lt (get_or values p 0) 16) (not (get_or values p 0 == digit_value (p + 48))) same) [
      | inl no_digit ↦ absurd (both_ways _ no_digit (lt-ltb _ _ small))
      | inr e ↦ eqb-true _ _ (not-false _ e) ∙ ap digit_value (sym (place-byte b byte place))
    ]

-- ---- what is read, in terms of the digits at the front

-- the digits and underscores at the front of bytes, and the bytes after them
unfoldable pub prefix : (ℕ → Bool) → List ℕ → List ℕ
prefix digit [] = []
prefix digit (b ∷ bytes) = if digit b || b == 95 then b ∷ prefix digit bytes else []

unfoldable pub after_prefix : (ℕ → Bool) → List ℕ → List ℕ
after_prefix digit [] = []
after_prefix digit (b ∷ bytes) = if digit b || b == 95 then after_prefix digit bytes else b ∷ bytes

pub prefix-whole : (digit : ℕ → Bool) (bytes : List ℕ) → bytes ≡ prefix digit bytes ++ after_prefix digit bytes
unfolding prefix after_prefix
prefix-whole digit [] = refl
prefix-whole digit (b ∷ bytes) = elim (cases_Bool (digit b || b == 95)) [
  | inl e ↦ rw e (ap (λ xs. b ∷ xs) (prefix-whole digit bytes))
  | inr e ↦ rw e refl
]

pub suc-eqb : (n : ℕ) → (suc n == 0) ≡ false
suc-eqb n = ne_eqb (suc n) 0 (λ e. absurd (omega arith))

-- digits of a sort with single underscores are those at the front, where nothing stands after them
pub digits-prefix : (digit : ℕ → Bool) (after : Bool) (bytes : List ℕ)
    → digits_from after digit bytes ≡ (digits_from after digit (prefix digit bytes) && length (after_prefix digit bytes) == 0)
unfolding prefix after_prefix
digits-prefix digit true [] = refl
digits-prefix digit false [] = refl
digits-prefix digit after (b ∷ bytes) = elim (cases_Bool (digit b)) [
  | inl e ↦ simp e (digits-prefix digit true bytes)
  | inr e ↦ elim (cases_Bool (b == 95)) [
    | inl f ↦ simp (e, f) (
        elim after as (λ v. (v && digits_from false digit bytes) ≡ ((v && digits_from false digit (prefix digit bytes)) && length (after_prefix digit bytes) == 0)) [
          | true ↦ digits-prefix digit false bytes
          | false ↦ refl
        ]
        )
    | inr f ↦ simp (e, f) (sym (and_right after (suc (length bytes) == 0) (suc-eqb (length bytes))))
  ]
]

-- what is read where the digits at the front have no other underscores
abbrev pub reading : ℕ → ℕ → ℕ → (ℕ → Bool) → List ℕ → Read
reading base n k digit bytes =
    let ds = filter digit (prefix digit bytes) in
    record { number = n * base ^ length ds + number base (map digit_value ds); count = k + length ds; rest = after_prefix digit bytes }

abbrev make_read : ℕ → ℕ → List ℕ → Read
make_read n k rest = record { number = n; count = k; rest = rest }

same_read : (n m j k : ℕ) (rest : List ℕ) → n ≡ m → j ≡ k → make_read n j rest ≡ make_read m k rest
same_read n m j k rest e f = ap (λ (i : ℕ). make_read i j rest) e ∙ ap (λ (i : ℕ). make_read m i rest) f

number-step : (base n v rest l m : ℕ) → m ≡ l → (n * base + v) * base ^ l + rest ≡ n * base ^ suc l + (v * base ^ m + rest)
number-step base n v rest l m e = rw (e, pow-suc) (omega arith)

reading-digit : (base n k : ℕ) (digit : ℕ → Bool) (b : ℕ) (bytes : List ℕ) → let ds : List ℕ = filter digit (prefix digit bytes) in
    reading base (n * base + digit_value b) (k + 1) digit bytes
    ≡ make_read (n * base ^ suc (length ds) + (digit_value b * base ^ length (map digit_value ds) + number base (map digit_value ds))) (k + suc (length ds)) (after_prefix digit bytes)
reading-digit base n k digit b bytes =
    let ds : List ℕ = filter digit (prefix digit bytes) in
    let long : length (map digit_value ds) ≡ length ds = simp length-map in
    let value = number-step base n (digit_value b) (number base (map digit_value ds)) (length ds) (length (map digit_value ds)) long in
    same_read _ _ _ _ (after_prefix digit bytes) value (omega arith)

reading-nothing : (base n k : ℕ) (bytes : List ℕ) → make_read n k bytes ≡ make_read (n * base ^ 0 + 0) (k + 0) bytes
reading-nothing base n k bytes =
    let whole : n ≡ n * base ^ 0 + 0 = rw pow-zero (omega arith) in
    same_read n (n * base ^ 0 + 0) k (k + 0) bytes whole (omega arith)

-- what is read
pub read-is : (base n k : ℕ) (after : Bool) (digit : ℕ → Bool) (bytes : List ℕ) → ((b : ℕ) → is_digit_of base b ≡ digit b)
    → read_digits base n after k bytes ≡ (if digits_from after digit (prefix digit bytes) then Some (reading base n k digit bytes) else None)
unfolding read_digits prefix after_prefix
read-is base n k after digit [] same = ap (λ (r : Read). if after then Some r else None) (reading-nothing base n k [])
read-is base n k after digit (b ∷ bytes) same = elim (cases_Bool (digit b)) [
  | inl e ↦ simp (same b, e) (
      read-is base (n * base + digit_value b) (k + 1) true digit bytes same
      ∙ ap (λ (r : Read). if digits_from true digit (prefix digit bytes) then Some r else None) (reading-digit base n k digit b bytes)
      )
  | inr e ↦ elim (cases_Bool (b == 95)) [
    | inl f ↦ simp (same b, e, f) (
        elim after as (λ v. (if v then read_digits base n false k bytes else read_end n v k (b ∷ bytes))
        ≡ (if v && digits_from false digit (prefix digit bytes) then Some (reading base n k digit bytes) else None)) [
          | true ↦ read-is base n k false digit bytes same
          | false ↦ refl
        ]
        )
    | inr f ↦ simp (same b, e, f) (ap (λ (r : Read). if after then Some r else None) (reading-nothing base n k (b ∷ bytes)))
  ]
]

-- ---- the digits of the bases

pub ten : (b : ℕ) → is_digit_of 10 b ≡ is_digit b
ten b = grind (arith, nat_tests)

pub sixteen : (b : ℕ) → is_digit_of 16 b ≡ is_hex_digit b
sixteen b = grind (arith, nat_tests)

pub two : (b : ℕ) → is_digit_of 2 b ≡ is_binary_digit b
two b = grind (arith, nat_tests)

-- a digit is no underscore
abbrev pub NoUnderscore : (ℕ → Bool) → Type 0
NoUnderscore digit = (b : ℕ) → digit b ≡ true → (b == 95) ≡ false

pub ten-no_underscore : NoUnderscore is_digit
ten-no_underscore b e = grind (arith, nat_tests)

pub sixteen-no_underscore : NoUnderscore is_hex_digit
sixteen-no_underscore b e = grind (arith, nat_tests)

pub two-no_underscore : NoUnderscore is_binary_digit
two-no_underscore b e = grind (arith, nat_tests)

-- ---- what digits spell

filter-prefix : (digit : ℕ → Bool) (bytes : List ℕ) → NoUnderscore digit → filter (λ b. not (b == 95)) (prefix digit bytes) ≡ filter digit (prefix digit bytes)
unfolding prefix
filter-prefix digit [] no_underscore = refl
filter-prefix digit (b ∷ bytes) no_underscore = elim (cases_Bool (digit b)) [
  | inl e ↦ simp (e, no_underscore b e) (ap (λ xs. b ∷ xs) (filter-prefix digit bytes no_underscore))
  | inr e ↦ elim (cases_Bool (b == 95)) [
    | inl f ↦ simp (e, f) (filter-prefix digit bytes no_underscore)
    | inr f ↦ simp (e, f) refl
  ]
]

pub value-prefix : (base : ℕ) (digit : ℕ → Bool) (bytes : List ℕ) → NoUnderscore digit
    → digits_value base (prefix digit bytes) ≡ number base (map digit_value (filter digit (prefix digit bytes)))
value-prefix base digit bytes no_underscore = ap (λ xs. number base (map digit_value xs)) (filter-prefix digit bytes no_underscore)

-- nothing after the prefix
prefix-all : (digit : ℕ → Bool) (bytes : List ℕ) → (length (after_prefix digit bytes) == 0) ≡ true → prefix digit bytes ≡ bytes
prefix-all digit bytes e =
    let none : after_prefix digit bytes ≡ [] = nil_from_length (after_prefix digit bytes) (eqb-true _ 0 e) in
    sym (prefix-whole digit bytes ∙ rw (none, append-nil) refl)

-- ---- ints

-- the int whose digits were read, which are all bytes
abbrev pub int_of_read : Bool → Option Read → Result Int Reason
int_of_read negative None = Err BadToken
int_of_read negative (Some r) = if length r.rest == 0 then int_in_range negative r.number else Err BadToken

-- digits of a base
int-based : (base : ℕ) (digit : ℕ → Bool) (negative : Bool) (bytes : List ℕ) → ((b : ℕ) → is_digit_of base b ≡ digit b) → NoUnderscore digit
    → (if are_digits digit bytes then int_in_range negative (digits_value base bytes) else Err BadToken) ≡ int_of_read negative (read_digits base 0 false 0 bytes)
int-based base digit negative bytes same no_underscore =
    elim (cases_Bool (digits_from false digit (prefix digit bytes))) [
      | inl e ↦ elim (cases_Bool (length (after_prefix digit bytes) == 0)) [
        | inl f ↦
            let value : digits_value base bytes ≡ 0 * base ^ length (filter digit (prefix digit bytes)) + number base (map digit_value (filter digit (prefix digit bytes)))
            = ap (λ xs. digits_value base xs) (sym (prefix-all digit bytes f)) ∙ value-prefix base digit bytes no_underscore ∙ omega arith in
            rw (read-is base 0 0 false digit bytes same, digits-prefix digit false bytes, e, f) (ap (int_in_range negative) value)
        | inr f ↦ rw (read-is base 0 0 false digit bytes same, digits-prefix digit false bytes, e, f) refl
      ]
      | inr e ↦ rw (read-is base 0 0 false digit bytes same, digits-prefix digit false bytes, e) refl
    ]

pub and-true : (x : Bool) → (x && true) ≡ x
and-true true = refl
and-true false = refl

int-read-ten : (negative : Bool) (bytes : List ℕ)
    → (if are_digits is_digit bytes then int_in_range negative (digits_value 10 bytes) else Err BadToken) ≡ int_of_read negative (read_digits 10 0 false 0 bytes)
int-read-ten negative bytes = int-based 10 is_digit negative bytes ten ten-no_underscore

-- what the letter of a base is not
letter-hex : (c : ℕ) → (c == 120 || c == 88) ≡ true → (c == 98 || c == 66) ≡ false
letter-hex c e = grind (arith, nat_tests)

-- a zero and another byte
int-read-zero : (negative : Bool) (c : ℕ) (bytes : List ℕ) → int_of_digits negative (48 ∷ c ∷ bytes) ≡ int_of_read negative (read_int (48 ∷ c ∷ bytes))
int-read-zero negative c bytes =
    let long : (suc (suc (length bytes)) == 1) ≡ false = ne_eqb (suc (suc (length bytes))) 1 (λ e. absurd (omega arith)) in
    let no_whole : is_whole (48 ∷ c ∷ bytes) ≡ false = and_right (are_digits is_digit (48 ∷ c ∷ bytes)) (suc (suc (length bytes)) == 1) long in
    elim (cases_Bool (c == 120 || c == 88)) [
      | inl e ↦ simp (no_whole, e, letter-hex c e) (int-based 16 is_hex_digit negative bytes sixteen sixteen-no_underscore)
      | inr e ↦ elim (cases_Bool (c == 98 || c == 66)) [
        | inl f ↦ simp (no_whole, e, f) (int-based 2 is_binary_digit negative bytes two two-no_underscore)
        | inr f ↦ elim (cases_Bool (is_digit c || c == 95)) [
          | inl g ↦ simp (no_whole, e, f, g) refl
          | inr g ↦
              let parts = or_parts (is_digit c) (c == 95) g in
              let no_digits : are_digits is_digit (48 ∷ c ∷ bytes) ≡ false = simp (parts.0, parts.1) refl in
              simp (no_whole, e, f, g) (rw no_digits at (int-read-ten negative (48 ∷ c ∷ bytes)))
        ]
      ]
    ]

-- an int after its sign
pub int-read : (negative : Bool) (bytes : List ℕ) → int_of_digits negative bytes ≡ int_of_read negative (read_int bytes)
int-read negative [] = int-read-ten negative []
int-read negative (b ∷ []) = elim (cases_Bool (b == 48)) [
  | inl e ↦ simp (e, and-true) (int-read-ten negative (b ∷ []))
  | inr e ↦ simp (e, and-true) (int-read-ten negative (b ∷ []))
]
int-read negative (b ∷ c ∷ bytes) = elim (cases_Bool (b == 48)) [
  | inl e ↦ rw (eqb-true b 48 e) (int-read-zero negative c bytes)
  | inr e ↦ simp (e, and-true) (int-read-ten negative (b ∷ c ∷ bytes))
]

-- all after the first two
two-all : (xs : List ℕ) (m : ℕ) → length xs ≤ m → take (m - 2) (drop 2 xs) ≡ drop 2 xs
two-all xs m all = take_all (m - 2) (drop 2 xs) (rw length-drop (omega arith))

-- where a letter names the base
pub read-hex : (bytes : List ℕ) (m : ℕ) → 2 ≤ length bytes → length bytes ≤ m → get_or bytes 0 0 ≡ 48 → (get_or bytes 1 0 ≡ 120) ⊎ (get_or bytes 1 0 ≡ 88)
    → read_digits 16 0 false 0 (take (m - 2) (drop 2 bytes)) ≡ read_int bytes
read-hex [] m long all first mark = absurd (omega arith)
read-hex (b ∷ []) m long all first mark = absurd (omega arith)
read-hex (b ∷ c ∷ bytes) m long all first mark =
    let e : (c == 120 || c == 88) ≡ true = grind (arith, nat_tests) in
    let f : (b == 48) ≡ true = eq-eqb b 48 first in
    rw (two-all (b ∷ c ∷ bytes) m all) (simp (e, f) refl)

pub read-binary : (bytes : List ℕ) (m : ℕ) → 2 ≤ length bytes → length bytes ≤ m → get_or bytes 0 0 ≡ 48 → (get_or bytes 1 0 ≡ 98) ⊎ (get_or bytes 1 0 ≡ 66)
    → read_digits 2 0 false 0 (take (m - 2) (drop 2 bytes)) ≡ read_int bytes
read-binary [] m long all first mark = absurd (omega arith)
read-binary (b ∷ []) m long all first mark = absurd (omega arith)
read-binary (b ∷ c ∷ bytes) m long all first mark =
    let e : (c == 98 || c == 66) ≡ true = grind (arith, nat_tests) in
    let g : (c == 120 || c == 88) ≡ false = grind (arith, nat_tests) in
    let f : (b == 48) ≡ true = eq-eqb b 48 first in
    rw (two-all (b ∷ c ∷ bytes) m all) (simp (e, f, g) refl)

-- what an int in text is by what was read
pub int-text : (run bytes : List ℕ) (negative : Bool) → negative ≡ has_minus run → bytes ≡ without_minus run → int_of_text run ≡ int_of_read negative (read_int bytes)
unfolding int_of_text
int-text run bytes negative e f = rw (e, f) (int-read (has_minus run) (without_minus run))

pub int-whole : (negative : Bool) (read : Option Read) (n k : ℕ) (rest : List ℕ) → read ≡ Some (record { number = n; count = k; rest = rest }) → true ≡ (length rest == 0)
    → int_of_read negative read ≡ int_in_range negative n
int-whole negative read n k rest e none = rw (e, sym none) refl

pub int-more : (negative : Bool) (read : Option Read) (n k : ℕ) (rest : List ℕ) → read ≡ Some (record { number = n; count = k; rest = rest }) → false ≡ (length rest == 0)
    → Err BadToken ≡ int_of_read negative read
int-more negative read n k rest e some = rw (e, sym some) refl

pub int-none : (negative : Bool) (read : Option Read) → read ≡ None → Err BadToken ≡ int_of_read negative read
int-none negative read e = rw e refl

-- ---- the digits before a point

-- a zero and another digit, or an underscore
abbrev pub zero_first : List ℕ → Bool
zero_first bytes = first_is (λ b. b == 48) bytes && first_is (λ b. is_digit b || b == 95) (drop 1 bytes)

zero-no_digits : (c : ℕ) (bytes : List ℕ) → (is_digit c || c == 95) ≡ false → are_digits is_digit (48 ∷ c ∷ bytes) ≡ false
zero-no_digits c bytes e =
    let parts = or_parts (is_digit c) (c == 95) e in
    simp (parts.0, parts.1) refl

pub whole-is : (bytes : List ℕ) → is_whole bytes ≡ (are_digits is_digit bytes && not (zero_first bytes))
whole-is [] = refl
whole-is (b ∷ []) = elim (cases_Bool (b == 48)) [
  | inl e ↦ simp e refl
  | inr e ↦ simp e refl
]
whole-is (b ∷ c ∷ bytes) = elim (cases_Bool (b == 48)) [
  | inl e ↦
      let long : (suc (suc (length bytes)) == 1) ≡ false = ne_eqb (suc (suc (length bytes))) 1 (λ h. absurd (omega arith)) in
      let no_whole : is_whole (48 ∷ c ∷ bytes) ≡ false = and_right (are_digits is_digit (48 ∷ c ∷ bytes)) (suc (suc (length bytes)) == 1) long in
      rw (eqb-true b 48 e, no_whole) (
      elim (cases_Bool (is_digit c || c == 95)) [
        | inl f ↦ sym (and_right (are_digits is_digit (48 ∷ c ∷ bytes)) (not (is_digit c || c == 95)) (not_from_true (is_digit c || c == 95) f))
        | inr f ↦ sym (and_left (are_digits is_digit (48 ∷ c ∷ bytes)) (not (is_digit c || c == 95)) (zero-no_digits c bytes f))
      ]
      )
  | inr e ↦ simp e refl
]

first-prefix : (bytes : List ℕ) → first_is (λ b. is_digit b || b == 95) (prefix is_digit bytes) ≡ first_is (λ b. is_digit b || b == 95) bytes
unfolding prefix
first-prefix [] = refl
first-prefix (b ∷ bytes) = elim (cases_Bool (is_digit b || b == 95)) [
  | inl e ↦ rw e e
  | inr e ↦ rw e refl
]

zero_first-prefix : (bytes : List ℕ) → zero_first (prefix is_digit bytes) ≡ zero_first bytes
unfolding prefix
zero_first-prefix [] = refl
zero_first-prefix (b ∷ bytes) = elim (cases_Bool (b == 48)) [
  | inl e ↦ rw (eqb-true b 48 e) (first-prefix bytes)
  | inr e ↦ elim (cases_Bool (is_digit b || b == 95)) [
    | inl f ↦ rw f (and_left (b == 48) _ e ∙ sym (and_left (b == 48) _ e))
    | inr f ↦ rw f (sym (and_left (b == 48) _ e))
  ]
]

pub read-whole-is : (bytes : List ℕ) → read_whole bytes ≡ (if is_whole (prefix is_digit bytes) then Some (reading 10 0 0 is_digit bytes) else None)
read-whole-is bytes = elim (cases_Bool (zero_first bytes)) [
  | inl e ↦ rw (whole-is (prefix is_digit bytes), zero_first-prefix bytes, e, and_right (are_digits is_digit (prefix is_digit bytes)) false refl) refl
  | inr e ↦ rw (whole-is (prefix is_digit bytes), zero_first-prefix bytes, e, and-true (are_digits is_digit (prefix is_digit bytes))) (read-is 10 0 0 false is_digit bytes ten)
]
