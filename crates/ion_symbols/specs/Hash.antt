-- The hash of a text.
use Rattle.std.specs.Prelude.{ℕ, ◌+◌, ◌-◌, ◌*◌, ◌/◌, ◌%◌, ◌^◌, ◌==◌, nat_le, nat_lt, if◌then◌else◌, List, [], ◌∷◌, length, slice_index}
use Rattle.std.specs.Int.{w32, w64, from_le_bytes}

-- eight bytes from a place on, as a number
unfoldable pub eight_at : List ℕ → ℕ → ℕ
eight_at t at =
    from_le_bytes w64
    (slice_index t at ∷ slice_index t (at + 1) ∷ slice_index t (at + 2) ∷ slice_index t (at + 3)
    ∷ slice_index t (at + 4) ∷ slice_index t (at + 5) ∷ slice_index t (at + 6) ∷ slice_index t (at + 7) ∷ [])

-- four bytes from a place on, as a number
unfoldable pub four_at : List ℕ → ℕ → ℕ
four_at t at = from_le_bytes w32 (slice_index t at ∷ slice_index t (at + 1) ∷ slice_index t (at + 2) ∷ slice_index t (at + 3) ∷ [])

-- the first byte, the one in the middle and the last
unfoldable pub few_of : List ℕ → ℕ
few_of t = if length t == 0 then 0 else slice_index t 0 + slice_index t (length t / 2) * 256 + slice_index t (length t - 1) * 65536

-- the first bytes of a text
unfoldable pub front_of : List ℕ → ℕ
front_of t = if nat_le 8 (length t) then eight_at t 0 else (if nat_le 4 (length t) then four_at t 0 else few_of t)

-- the last bytes of a text
unfoldable pub back_of : List ℕ → ℕ
back_of t = if nat_le 8 (length t) then eight_at t (length t - 8) else (if nat_le 4 (length t) then four_at t (length t - 4) else 0)

-- of more than 16 bytes those between them
unfoldable pub middle_of : List ℕ → ℕ
middle_of t = (eight_at t 8 * 11400714819323198485 % 2 ^ 64 + eight_at t (length t - 16)) % 2 ^ 64

-- the first bytes and the sum of the last and the length, each times an odd number
unfoldable pub ends_of : List ℕ → ℕ
ends_of t = (front_of t * 11400714819323198485 % 2 ^ 64 + (back_of t + length t) % 2 ^ 64 * 15485907386658061715 % 2 ^ 64) % 2 ^ 64

-- the sum of all parts
unfoldable pub sum_of : List ℕ → ℕ
sum_of t = if nat_lt 16 (length t) then (ends_of t + middle_of t * 11562461410679940143 % 2 ^ 64) % 2 ^ 64 else ends_of t

-- the hash of a text
unfoldable pub hash_of : List ℕ → ℕ
hash_of t = (sum_of t + sum_of t / 2 ^ 32) % 2 ^ 64 * 11400714819323198485 % 2 ^ 64

-- the bucket of a hash
unfoldable pub bucket_in : ℕ → ℕ
bucket_in hash = hash / 2 ^ 55

-- its binary digits by which the texts of a bucket are told apart, the last first
unfoldable pub digits_in : ℕ → ℕ
digits_in hash = hash / 2 ^ 23
