-- Runs of bytes at the front of a slice, and runs after them.
use Rattle.std.proofs.Common.{◌≡◌, ℕ, zero, suc, ◌<◌, eqb, eq-eqb, arith, sym, subst, length, ◌+◌, Bool, true, false, ◌&&◌, List, [], ◌∷◌, ◌++◌, take, drop, Option, Some, None, slice_get, get_or, refl, ap, ◌∙◌, inl, inr}
use Rattle.std.proofs.lemmas.Bool.{cases_Bool, true≢false}
use Rattle.std.specs.Option.{option_eq}
use Rattle.std.proofs.Math.Seq.{take-add}
use Rattle.ion_value.specs.Digits.{all_are, first_is}

all-joined : (test : ℕ → Bool) (xs ys : List ℕ) → all_are test (xs ++ ys) ≡ (all_are test xs && all_are test ys)
all-joined test [] ys = refl
all-joined test (x ∷ xs) ys = elim (cases_Bool (test x)) [ inl e ↦ rw e (all-joined test xs ys) | inr e ↦ rw e refl ]

-- so many bytes, and so many after them
pub all-after : (test : ℕ → Bool) (bytes : List ℕ) (n m : ℕ) → all_are test (take n bytes) ≡ true → all_are test (take m (drop n bytes)) ≡ true → all_are test (take (n + m) bytes) ≡ true
all-after test bytes n m first second = rw (take-add n m bytes, all-joined test (take n bytes) (take m (drop n bytes)), first, second) refl

-- the first byte, and the second
pub first-byte : (bytes : List ℕ) (b : ℕ) → slice_get bytes 0 ≡ Some b → bytes ≡ b ∷ drop 1 bytes
first-byte [] b e = absurd (cc e)
first-byte (c ∷ bytes) b e = let same : c ≡ b = cc e in ap (λ (x : ℕ). x ∷ bytes) same

pub second-byte : (bytes : List ℕ) (b c : ℕ) → slice_get bytes 0 ≡ Some b → slice_get bytes 1 ≡ Some c → bytes ≡ b ∷ c ∷ drop 2 bytes
second-byte [] b c e f = absurd (cc e)
second-byte (x ∷ bytes) b c e f = let same : x ≡ b = cc e in ap (λ (x : ℕ). x ∷ bytes) same ∙ ap (λ (l : List ℕ). b ∷ l) (first-byte bytes c f)

pub first-off : (test : ℕ → Bool) (bytes : List ℕ) (b : ℕ) → slice_get bytes 0 ≡ Some b → first_is test bytes ≡ false → test b ≡ false
first-off test [] b e off = absurd (cc e)
first-off test (c ∷ bytes) b e off = let same : c ≡ b = cc e in rw same at off

pub no-byte : (bytes : List ℕ) → slice_get bytes 0 ≡ None → bytes ≡ []
no-byte [] e = refl
no-byte (b ∷ bytes) e = absurd (cc e)

-- what stands after a run that ends within a slice, whatever follows the slice
pub ends-shown : (test : ℕ → Bool) (bytes more : List ℕ) (n : ℕ) → n < length bytes → first_is test (drop n bytes) ≡ false → first_is test (drop n bytes ++ more) ≡ false
ends-shown test [] more n less ends = absurd (omega (arith, less))
ends-shown test (b ∷ bytes) more zero less ends = ends
ends-shown test (b ∷ bytes) more (suc n) less ends = ends-shown test bytes more n (omega (arith, less)) ends

-- another byte than one that was found
pub found-not : (o : Option ℕ) (n : ℕ) → option_eq eqb o (Some n) ≡ false → o ≡ Some n → ⊥
found-not o n e is = true≢false (sym (eq-eqb n n refl) ∙ subst (λ (o : Option ℕ). option_eq eqb o (Some n) ≡ false) is e)

-- the first byte, whatever follows
pub first-shown : (bytes more : List ℕ) (b : ℕ) → slice_get bytes 0 ≡ Some b → slice_get (bytes ++ more) 0 ≡ Some b
first-shown [] more b e = absurd (cc e)
first-shown (c ∷ bytes) more b e = e

-- the byte at a place is the first from there on
pub at-front : (bytes : List ℕ) (n : ℕ) → n < length bytes → slice_get (drop n bytes) 0 ≡ Some (get_or bytes n 0)
at-front [] n less = absurd (omega (arith, less))
at-front (b ∷ bytes) zero less = refl
at-front (b ∷ bytes) (suc n) less = at-front bytes n (omega (arith, less))
