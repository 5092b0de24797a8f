-- Quotes and pieces as the code has them.
use Rattle.std.specs.Prelude.{◌≡◌, ℕ, ◌<◌, ◌≤◌, Bool, true, false, not, ◌&&◌, ◌||◌, ◌==◌, nat_le, nat_lt, List, take, drop}
use Rattle.ion_value.specs.Digits.{first_is, all_are}
use Rattle.ion_text_in.specs.declared.quoted.Quote.{Quote as CodeQuote}
use Rattle.ion_text_in.specs.declared.quoted.Quote.TheVariants as code
use Rattle.ion_text_in.specs.declared.scanned.Scanned.{Scanned}
use Rattle.ion_text_in.specs.declared.scanned.Scanned.TheVariants.{Whole, Fault, Cut}
use Rattle.ion_text_in.specs.Quoted.{Quote, symbol_quote, short_quote, long_quote}
use Rattle.ion_text_in.specs.Scanning.{is_plain_byte}

-- ---- quotes

-- quotes, from the code's `Quote`
abbrev pub quote_of : CodeQuote → Quote
quote_of code.Symbol = symbol_quote
quote_of code.Short = short_quote false
quote_of code.ShortClob = short_quote true
quote_of code.Long = long_quote false
quote_of code.LongClob = long_quote true

-- the byte that they are made of
abbrev pub mark_of : CodeQuote → ℕ
mark_of code.Symbol = 39
mark_of code.Short = 34
mark_of code.ShortClob = 34
mark_of code.Long = 39
mark_of code.LongClob = 39

-- a byte that stands for itself between them, as few comparisons tell: none below the space is one, though a few stand for themselves
abbrev pub is_sure : ℕ → Bool → ℕ → Bool
is_sure mark in_clob b = not (mark == b) && not (b == 92) && (nat_le 32 b && (not in_clob || nat_lt b 128))

-- so many bytes of a text are within a limit, and the quote stands after them
abbrev pub IsWithin : ℕ → Scanned ℕ → Type 0
IsWithin limit (Whole plain taken) = (plain ≤ limit) × (plain < taken)
IsWithin limit (Fault reason) = Unit {0}
IsWithin limit Cut = Unit {0}

-- plain bytes end in a slice, or at a byte in it, before the quote stands there
pub record StopsBefore (quote : CodeQuote) (bytes : List ℕ) : Type 0 where
  pub count : ℕ
  pub plain : all_are (is_plain_byte (quote_of quote)) (take count bytes) ≡ true
  pub ends : first_is (is_plain_byte (quote_of quote)) (drop count bytes) ≡ false
  pub unclosed : first_is (λ b. b == mark_of quote) (drop count bytes) ≡ false
