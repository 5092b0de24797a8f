-- Digits in text, and how numbers are cut into their parts.
use Rattle.std.specs.Prelude.{ℕ, zero, suc, ◌+◌, ◌-◌, ◌/◌, ◌%◌, Bool, true, false, not, ◌&&◌, ◌||◌, ◌==◌, nat_le, if◌then◌else◌, List, [], ◌∷◌, ◌++◌, length, drop, map, filter}
use Rattle.ion_value.specs.Number.{number}

-- whether the third number is one of those from the first to the second, both included
abbrev pub is_between : ℕ → ℕ → ℕ → Bool
is_between low high b = nat_le low b && nat_le b high

-- a byte that is one of `0` to `9`
abbrev pub is_digit : ℕ → Bool
is_digit b = is_between 48 57 b

-- a byte that is one of `0` to `9`, `A` to `F` and `a` to `f`
abbrev pub is_hex_digit : ℕ → Bool
is_hex_digit b = is_digit b || is_between 65 70 b || is_between 97 102 b

-- a byte that is `0` or `1`
abbrev pub is_binary_digit : ℕ → Bool
is_binary_digit b = is_between 48 49 b

-- what a digit counts: `0` to `9`, and `A` to `F` or `a` to `f` for ten to fifteen
abbrev pub digit_value : ℕ → ℕ
digit_value b = if nat_le 97 b then b - 87 else (if nat_le 65 b then b - 55 else b - 48)

-- digits of a sort, of which each two may have one underscore between them; the first argument says whether a digit stands just before
abbrev pub digits_from : Bool → (ℕ → Bool) → List ℕ → Bool
digits_from after digit [] = after
digits_from after digit (b ∷ bytes) = (digit b || (b == 95 && after)) && digits_from (digit b) digit bytes

-- one digit or more, with such underscores (Ion specification, "Integers")
abbrev pub are_digits : (ℕ → Bool) → List ℕ → Bool
are_digits digit bytes = digits_from false digit bytes

-- the number that digits spell in a base, underscores apart
abbrev pub digits_value : ℕ → List ℕ → ℕ
digits_value base bytes = number base (map digit_value (filter (λ b. not (b == 95)) bytes))

-- a test of the first byte, false where there is none
abbrev pub first_is : (ℕ → Bool) → List ℕ → Bool
first_is test [] = false
first_is test (b ∷ bytes) = test b

-- a test of all bytes
abbrev pub all_are : (ℕ → Bool) → List ℕ → Bool
all_are test [] = true
all_are test (b ∷ bytes) = test b && all_are test bytes

-- `0`, or digits that do not begin with it
abbrev pub is_whole : List ℕ → Bool
is_whole bytes = are_digits is_digit bytes && (not (first_is (λ b. b == 48) bytes) || length bytes == 1)

-- whether a number's text begins with a minus
abbrev pub has_minus : List ℕ → Bool
has_minus run = first_is (λ b. b == 45) run

-- a number's text without its minus, where it has one
abbrev pub without_minus : List ℕ → List ℕ
without_minus run = if has_minus run then drop 1 run else run

-- the bytes before the first at which a test holds, and those from it on
unfoldable pub cut_at : (ℕ → Bool) → List ℕ → List ℕ × List ℕ
cut_at test [] = ([], [])
cut_at test (b ∷ bytes) = if test b then ([], b ∷ bytes) else (b ∷ (cut_at test bytes).0, (cut_at test bytes).1)

-- the last so many decimal digits of a number, with zeros at their front
unfoldable pub fixed_digits : ℕ → ℕ → List ℕ
fixed_digits zero n = []
fixed_digits (suc count) n = fixed_digits count (n / 10) ++ (48 + n % 10) ∷ []
