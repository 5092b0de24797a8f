-- Bytes between quotes (Ion text, "Strings", "Symbols" and "Clobs"), as this project writes them.
use Rattle.std.specs.Prelude.{ℕ, ◌+◌, ◌/◌, ◌%◌, Bool, not, ◌&&◌, ◌==◌, nat_le, nat_lt, if◌then◌else◌, List, [], ◌∷◌, ◌++◌, Option, Some, None}
use Rattle.std.specs.List.{flat_map}

-- the hex digit of a number below 16, in lower case
abbrev pub hex_digit : ℕ → ℕ
hex_digit n = if nat_lt n 10 then 48 + n else 87 + n

-- `\x` and two digits in lower case
abbrev pub hex_escape : ℕ → List ℕ
hex_escape b = 92 ∷ 120 ∷ hex_digit (b / 16) ∷ hex_digit (b % 16) ∷ []

-- the letter of an escape: `\a \b \t \n \f \r \v \\`
abbrev pub letter : ℕ → Option ℕ
letter b =
    if b == 7 then Some 97
    else (if b == 8 then Some 98
    else (if b == 9 then Some 116
    else (if b == 10 then Some 110
    else (if b == 12 then Some 102
    else (if b == 13 then Some 114
    else (if b == 11 then Some 118
    else (if b == 92 then Some 92
    else None)))))))

-- a byte that stands for itself between these quotes: none below the space, no DEL, no quote and no backslash, and none from the top on
abbrev pub is_shown : ℕ → ℕ → ℕ → Bool
is_shown quote top b = nat_le 32 b && (nat_lt b top && (not (b == 127) && (not (b == quote) && not (b == 92))))

-- the escape of a byte: by its letter, where it has one, and else by its code
abbrev pub escape_by : ℕ → Option ℕ → List ℕ
escape_by b (Some c) = 92 ∷ c ∷ []
escape_by b None = hex_escape b

-- the escape of a byte between these quotes, which is a backslash before the quote itself
abbrev pub escaped : ℕ → ℕ → List ℕ
escaped quote b = if b == quote then 92 ∷ b ∷ [] else escape_by b (letter b)

-- a byte between these quotes: itself where it may stand for itself, and else its escape; bytes from `top` on have escapes
abbrev pub byte_text : ℕ → ℕ → ℕ → List ℕ
byte_text quote top b = if is_shown quote top b then b ∷ [] else escaped quote b

-- bytes between two of these quotes, those from `top` on by escapes
abbrev pub between_quotes : ℕ → ℕ → List ℕ → List ℕ
between_quotes quote top bytes = quote ∷ (flat_map (byte_text quote top) bytes ++ quote ∷ [])
