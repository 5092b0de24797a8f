-- Quotes as the code has them, and runs of plain bytes.
use Rattle.std.proofs.Common.{◌≡◌, ℕ, ◌+◌, Bool, true, not, ◌&&◌, ◌||◌, ◌==◌, nat_le, nat_lt, List, [], ◌∷◌, ◌++◌, take, drop, refl, inl, inr, arith}
use Rattle.std.proofs.lemmas.Bool.{cases_Bool}
use Rattle.std.proofs.Math.Seq.{take-add}
use Rattle.ion_value.specs.Digits.{all_are}
use Rattle.ion_value.specs.Name.{is_one_of}
use Rattle.ion_text_in.specs.declared.quoted.Quote.{Quote as CodeQuote}
use Rattle.ion_text_in.specs.declared.quoted.Quote.TheVariants as code
use Rattle.ion_text_in.specs.Scanning.{IsQuote, is_plain_byte}
use Rattle.ion_text_in.specs.Quotes.{quote_of, mark_of}

pub quote_of-is : (q : CodeQuote) → IsQuote (quote_of q)
quote_of-is code.Symbol = (omega arith, omega arith)
quote_of-is code.Short = (omega arith, omega arith)
quote_of-is code.ShortClob = (omega arith, omega arith)
quote_of-is code.Long = (omega arith, omega arith)
quote_of-is code.LongClob = (omega arith, omega arith)

-- which bytes are plain the first mark says
pub plain_mark : (q : CodeQuote) (b : ℕ)
    → is_plain_byte (quote_of q) b
    ≡ (not (mark_of q == b) && not (b == 92)
    && (((nat_le 32 b || is_one_of (9 ∷ 11 ∷ 12 ∷ []) b) && (not (quote_of q).in_clob || nat_lt b 128)) || ((quote_of q).is_long && b == 10)))
plain_mark code.Symbol b = refl
plain_mark code.Short b = refl
plain_mark code.ShortClob b = refl
plain_mark code.Long b = refl
plain_mark code.LongClob b = refl

all-joined : (test : ℕ → Bool) (xs ys : List ℕ) → all_are test (xs ++ ys) ≡ (all_are test xs && all_are test ys)
all-joined test [] ys = refl
all-joined test (x ∷ xs) ys = elim (cases_Bool (test x)) [ inl e ↦ rw e (all-joined test xs ys) | inr e ↦ rw e refl ]

-- so many bytes, and so many after them
pub all-after : (test : ℕ → Bool) (bytes : List ℕ) (n m : ℕ) → all_are test (take n bytes) ≡ true → all_are test (take m (drop n bytes)) ≡ true → all_are test (take (n + m) bytes) ≡ true
all-after test bytes n m first second = rw (take-add n m bytes, all-joined test (take n bytes) (take m (drop n bytes)), first, second) refl
