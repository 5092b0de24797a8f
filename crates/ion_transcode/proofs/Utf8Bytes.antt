-- Text that is UTF-8 consists of bytes; what holds of all elements of two lists holds of both together, and of each.
use Rattle.std.proofs.Common.{◌≡◌, ℕ, ◌+◌, ◌/◌, ◌%◌, ◌<◌, inl, inr, Bool, true, false, cond, nat_lt, List, [], ◌∷◌, ◌++◌, IsUtf8, refl, subst, arith}
use Rattle.std.specs.List.{AllByRecursion}
use Rattle.std.proofs.lemmas.Bool.{and_parts, ltb-true}
use lib.Utf8.{scalar, scalars, encode, encodes, scalar_cases}
use Rattle.ion_value.specs.Writable.{AreBytes}

pub all-append : {A : Type 0} (P : A → Type 0) (xs ys : List A) → AllByRecursion P xs → AllByRecursion P ys
    → AllByRecursion P (xs ++ ys)
all-append P [] ys h k = k
all-append P (x ∷ xs) ys h k = (h.0, all-append P xs ys h.1 k)

pub all-left : {A : Type 0} (P : A → Type 0) (xs ys : List A) → AllByRecursion P (xs ++ ys) → AllByRecursion P xs
all-left P [] ys h = tt
all-left P (x ∷ xs) ys h = (h.0, all-left P xs ys h.1)

pub all-right : {A : Type 0} (P : A → Type 0) (xs ys : List A) → AllByRecursion P (xs ++ ys) → AllByRecursion P ys
all-right P [] ys h = h
all-right P (x ∷ xs) ys h = all-right P xs ys h.1

fits : (c : ℕ) → scalar c ≡ true → c < 1114112
fits c s = elim (scalar_cases c s) [ inl low ↦ omega (arith, low) | inr high ↦ high.1 ]

-- the bytes of one character, by how many it has
abbrev bytes_by : ℕ → Bool → Bool → Bool → List ℕ
bytes_by c one two three =
    let last : List ℕ = (128 + c % 64) ∷ [] in
    let later : List ℕ = (128 + c / 64 % 64) ∷ last in
    let most : List ℕ = (240 + c / 262144) ∷ (128 + c / 4096 % 64) ∷ later in
    cond one (c ∷ []) (cond two ((192 + c / 64) ∷ last) (cond three ((224 + c / 4096) ∷ later) most))

encode-bytes : (c : ℕ) → c < 1114112 → AreBytes (encode c)
unfolding encode
encode-bytes c few = by (nat_lt c 128) (nat_lt c 2048) (nat_lt c 65536) refl refl refl
  where
    by : (one two three : Bool) → nat_lt c 128 ≡ one → nat_lt c 2048 ≡ two → nat_lt c 65536 ≡ three
        → AreBytes (bytes_by c one two three)
    by true b d e f g = let l = ltb-true c 128 e in (omega (arith, l), tt)
    by false true d e f g = let l = ltb-true c 2048 f in (omega (arith, l), (omega arith, tt))
    by false false true e f g = let l = ltb-true c 65536 g in (omega (arith, l), (omega arith, (omega arith, tt)))
    by false false false e f g = (omega (arith, few), (omega arith, (omega arith, (omega arith, tt))))

encodes-bytes : (cs : List ℕ) → scalars cs ≡ true → AreBytes (encodes cs)
encodes-bytes [] s = tt
encodes-bytes (c ∷ cs) s =
    let parts = and_parts (scalar c) (scalars cs) s in
    all-append (λ b. b < 256) (encode c) (encodes cs) (encode-bytes c (fits c parts.0)) (encodes-bytes cs parts.1)

pub utf8-bytes : (bytes : List ℕ) → IsUtf8 bytes → AreBytes bytes
utf8-bytes bytes u = subst AreBytes u.1.1 (encodes-bytes u.0 u.1.0)
